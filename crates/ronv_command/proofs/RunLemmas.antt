-- What a run is asked for, and what it makes of its input.
use Rattle.std.proofs.Common.{◌≡◌, ℕ, Bool, true, false, List, Option, Some, None, IfSome, Result, Ok, Err, IfOk, IfErr, OnOk, chars, string_bytes, String}
use Rattle.std.proofs.Common.{Global, inl, inr, refl, sym, ap, subst, ◌∙◌}
use Rattle.std.specs.Result.{MatchResult, IsErrAnd}
use Rattle.std.specs.Str.{is_utf8}
use Rattle.std.proofs.lemmas.Str.{IsUtf8-from_is_utf8, is_utf8-from_IsUtf8}
use Rattle.std.proofs.lemmas.Bool.{true≢false}
use Rattle.ron.specs.Rule.{Extensions}
use Rattle.ron.specs.PlainData as plain
use Rattle.ron.specs.Data.{Data}
use Rattle.ron.specs.Datum.{data_view}
use Rattle.ron.specs.Table.{Table}
use Rattle.ron.specs.Whole.{DocumentWithin, EndsDocs, SpellsNormalForm}
use Rattle.ron.specs.Bytes.{ReadsGiven, ReadsReader}
use Rattle.ron.specs.Error.{Error}
use Rattle.ron.specs.Error.TheVariants.{OutOfMemory}
use Rattle.ron.specs.SpannedError.{SpannedError}
use Rattle.ron.specs.Name.{first_refused}
use Rattle.ron.specs.WritingRefusals.{RefusesText, HoldsName}
use Rattle.ron.specs.Extensions.{no_extensions}
use Rattle.ron.specs.Config.{Config, no_docs}
use Rattle.ron.specs.Encodable.{is_encodable}
use Rattle.ron.specs.Layout.{extensions_under, full_layout}
use Rattle.ronv_command.specs.Faults.{RefusesInput, RefusesData, IsFaultBy}
use Rattle.ronv_command.specs.Run.{HasNoRewriting, RewritesBy}
use Rattle.ronv_command.specs.Words.{AsksFor}
use Rattle.ronv_command.specs.declared.command.Command.{Command}
use Rattle.ronv_command.specs.declared.run.CommandFault.{CommandFault}
use Rattle.ronv_command.specs.declared.run.CommandFault.TheVariants as fault

-- the same words ask for one thing
pub same_command : (c d : Command) (words : List (String Global)) → AsksFor c words → AsksFor d words → c ≡ d
same_command c d words h k = let both = sym h ∙ k in cc

pub no_rewriting : (c d : Command) (words : List (String Global)) (left : Option (List ℕ)) → AsksFor c words → AsksFor d words → HasNoRewriting c left
    → HasNoRewriting d left
no_rewriting c d words left h k none = subst (λ e. HasNoRewriting e left) (same_command c d words h k) none

-- ---- what the input becomes

-- an equation with what is known, the other way round
turned : (known : Option (List ℕ)) (given : List ℕ) → IfSome known (λ bytes. given ≡ bytes) → IfSome known (λ bytes. bytes ≡ given)
turned None given is = tt
turned (Some bytes) given is = sym is

-- what was read of a stream is a text, which all that was known of the stream is
pub read_of : (x : Extensions) (limit : Option ℕ) (table : Table) (known left : Option (List ℕ)) (d : Data) → ReadsReader x limit table known left (Ok d)
    → (given : List ℕ) × IfSome known (λ bytes. bytes ≡ given) × DocumentWithin x limit table (chars given) (data_view d)
read_of x limit table known left d h = elim h [
  | inl all ↦ (all.0.given, turned known all.0.given all.0.whole, document all.0.given all.0.read (is_utf8 all.0.given) refl)
  | inr none ↦ absurd none
]
  where
    document : (given : List ℕ) → ReadsGiven x limit table given (Ok d) → (valid : Bool) → is_utf8 given ≡ valid
        → DocumentWithin x limit table (chars given) (data_view d)
    document given read true is = (read.text (IsUtf8-from_is_utf8 given is)).ok
    document given read false is = absurd (read.invalid (λ utf8. true≢false (sym (is_utf8-from_IsUtf8 given utf8) ∙ is)))

-- its data is written anew, and that is read back
pub rewritten : (x : Extensions) (limit : Option ℕ) (table : Table) (layout : Config) (known left : Option (List ℕ)) (d : Data) (e : plain.Data)
    (written : Result (String Global) Error)
    → x ≡ no_extensions → limit ≡ Some 128 → ReadsReader x limit table known left (Ok d) → e ≡ data_view d
    → (extensions_under no_extensions layout).implicit_some ≡ false → layout.docs ≡ no_docs
    → IfOk written (λ s. chars (string_bytes s) ≡ full_layout x layout e) → IfOk written
    (λ s. is_encodable (extensions_under x layout).implicit_some e ≡ true → EndsDocs layout e → SpellsNormalForm x layout e (chars (string_bytes s)))
    → OnOk written (is_encodable false e ≡ true) → IfOk written (λ s. RewritesBy table layout known (chars (string_bytes s)))
rewritten x limit table layout known left d e (Ok s) is_x is_limit h is tells docs text back encodable =
    let read = read_of x limit table known left d h in (
      read.0,
      read.1,
      (
        e,
        subst (λ a. DocumentWithin no_extensions (Some 128) table (chars read.0) a) (sym is)
            (subst (λ l. DocumentWithin no_extensions l table (chars read.0) (data_view d)) is_limit
            (subst (λ y. DocumentWithin y limit table (chars read.0) (data_view d)) is_x read.2)),
        text ∙ ap (λ y. full_layout y layout e) is_x,
        subst (λ y. SpellsNormalForm y layout e (chars (string_bytes s))) is_x
            (back (ap (λ y. is_encodable (extensions_under y layout).implicit_some e) is_x ∙ ap (λ b. is_encodable b e) tells ∙ encodable) (inl docs)),
      ),
    )
rewritten x limit table layout known left d e (Err error) is_x is_limit h is tells docs text back encodable = tt

-- ---- why nothing is written

-- reading that is refused
pub refused_of : (x : Extensions) (limit : Option ℕ) (table : Table) (known left : Option (List ℕ)) (refused : SpannedError) → x ≡ no_extensions
    → limit ≡ Some 128 → ReadsReader x limit table known left (Err refused) → RefusesInput table known refused
refused_of x limit table known left refused is_x is_limit h = elim h [
  | inl all ↦ inr (
    all.0.given,
    turned known all.0.given all.0.whole,
    subst (λ l. ReadsGiven no_extensions l table all.0.given (Err refused)) is_limit
        (subst (λ y. ReadsGiven y limit table all.0.given (Err refused)) is_x all.0.read),
  )
  | inr none ↦ inl none
]

-- data that was read, and isn't written
pub unwritten : (x : Extensions) (limit : Option ℕ) (table : Table) (layout : Config) (known left : Option (List ℕ)) (d : Data) (error : Error)
    → x ≡ no_extensions → limit ≡ Some 128 → ReadsReader x limit table known left (Ok d) → RefusesText layout limit (data_view d) error
    → HoldsName (first_refused (data_view d)) error → RefusesData table layout known error
unwritten x limit table layout known left d error is_x is_limit h refuses name =
    let read = read_of x limit table known left d h in inr (
      read.0,
      read.1,
      data_view d,
      subst (λ l. DocumentWithin no_extensions l table (chars read.0) (data_view d)) is_limit
          (subst (λ y. DocumentWithin y limit table (chars read.0) (data_view d)) is_x read.2),
      subst (λ l. RefusesText layout l (data_view d) error) is_limit refuses,
      name,
    )

-- ---- results whose errors were mapped

pub mapped_ok : {T E F : Type 0} (P : T → Type 0) (Q : E → F → Type 0) (r : Result T E) (m : Result T F) → MatchResult r (λ v. m ≡ Ok v) (λ e. IsErrAnd m (Q e))
    → IfOk r P → IfOk m P
mapped_ok P Q (Ok v) m is h = subst (λ m. IfOk m P) (sym is) h
mapped_ok P Q (Err e) (Ok v) is h = absurd is
mapped_ok P Q (Err e) (Err f) is h = tt

pub mapped_from : {T E F : Type 0} (r : Result T E) (m : Result T F) (v : T) → m ≡ Ok v → MatchResult r (λ w. m ≡ Ok w) (λ _. ⊥) → r ≡ Ok v
mapped_from (Ok w) m v ok is = ap Ok (cc (sym is ∙ ok))
mapped_from (Err e) m v ok is = absurd is

pub mapped_err : {T E F : Type 0} (P : F → Type 0) (Q : E → F → Type 0) (r : Result T E) (m : Result T F)
    → MatchResult r (λ v. m ≡ Ok v) (λ e. IsErrAnd m (Q e)) → ((e : E) (f : F) → r ≡ Err e → Q e f → P f) → IfErr m P
mapped_err P Q (Ok v) m is h = subst (λ m. IfErr m P) (sym is) tt
mapped_err P Q (Err e) (Ok v) is h = absurd is
mapped_err P Q (Err e) (Err f) is h = h e f refl is

-- a schema for which no memory was found
pub unmade : {S : Type 0} (P : S → Type 0) (table : Table) (layout : Config) (known : Option (List ℕ)) (r : Result S Error) (m : Result S CommandFault)
    → MatchResult r P (λ e. e ≡ OutOfMemory)
    → MatchResult r (λ v. m ≡ Ok v) (λ e. IsErrAnd m (λ f. f ≡ fault.Data e)) → IfErr m (IsFaultBy table layout known)
unmade P table layout known (Ok s) m h is = rw is tt
unmade P table layout known (Err e) (Ok s) h is = absurd is
unmade P table layout known (Err e) (Err f) h is = rw is (inl h)
