-- Plain identifiers, fixed words and integers without a sign are one token: so each word is a walk over tokens.
use Rattle.std.proofs.Common.{◌≡◌, ℕ, ◌==◌, Bool, true, false, not, ◌&&◌, [], ◌∷◌, ◌++◌, codes, Option, Some, None, inl, inr, refl, sym, ap, subst, ◌∙◌}
use Rattle.std.proofs.lemmas.Bool.{and_parts, or_parts, not-true}
use Rattle.std.proofs.Math.Bool.{or-true, and-false}
use Rattle.std.specs.Char.{is_ascii_hexdigit}
use Rattle.std.specs.List.{list_all}
use Rattle.unicode_ident.proofs.Computing.{unicode_ident}
use Rattle.ron_spec_words.specs.Characters.{Text, starts_name, continues_name}
use Rattle.ron_spec_words.specs.Runs.{begins, is_at, Every, begins_with, after_run}
use Rattle.ron_spec_words.specs.Gap.{ends_value}
use Rattle.ron_spec_words.specs.Lang.{BeginsAndGoesOn, Behind}
use Rattle.ron_spec_words.specs.Exact.{FollowsValue}
use Rattle.ron_spec_words.specs.Directly.{FixedWord}
use Rattle.ron_spec_words.specs.Name.{opens_literal, PlainName, Name, PlainIdentifier, UntypedName}
use Rattle.ron_spec_words.specs.Number.{Suffix, i8, i16, i32, i64, i128, u8, u16, u32, u64, u128, suffix_word, OptSuffix, in_number, InBase, Magnitude, Numeral}
use Rattle.ron_spec_words.specs.Number.{Unsigned}
use Rattle.ron_spec_words.specs.Scan.{is_hash, opens_raw, opens_string, opens_byte_string, opens_raw_name, starts_run, token}
use Rattle.ron_spec_words.proofs.Words.{First}
use Rattle.ron_spec_words.proofs.Classes.{apart, Clear, solid_class}
use Rattle.ron_spec_words.proofs.NumbersWritten.{number_continues}
use Rattle.ron_spec_words.proofs.AnyIntegers.{digits_no_b, begins_one}
use Rattle.ron_spec_words.proofs.Tokens.{starts_quotes, token_raw_name, token_run, token_plain_run}

-- ---- where a plain identifier may begin, no literal does

-- behind `r` stands neither a quote nor a hash
no_raw : (s : Text) → begins_with (codes "r\"") s ≡ false → begins_with (codes "r#") s ≡ false → opens_raw s ≡ false
no_raw [] e f = refl
no_raw (c ∷ []) e f = and-false (c == 114)
no_raw (c ∷ d ∷ s) e f = go (c == 114) e f
  where
    go : (b : Bool) → (b && begins_with (34 ∷ []) (d ∷ s)) ≡ false → (b && begins_with (35 ∷ []) (d ∷ s)) ≡ false
        → (b && is_at 34 (after_run is_hash (d ∷ s))) ≡ false
    go false h k = refl
    go true h k = let no_hash : (d == 35) ≡ false = begins_one 35 (d ∷ s) k in rw no_hash (begins_one 34 (d ∷ s) h)

no_string : (s : Text) → is_at 34 s ≡ false → begins_with (codes "r\"") s ≡ false → begins_with (codes "r#") s ≡ false → opens_string s ≡ false
no_string s q e f = rw (q, no_raw s e f) refl

no_byte_string : (s : Text) → begins_with (codes "b\"") s ≡ false → begins_with (codes "br\"") s ≡ false → begins_with (codes "br#") s ≡ false
    → opens_byte_string s ≡ false
no_byte_string [] e f g = refl
no_byte_string (c ∷ s) e f g = go (c == 98) e f g
  where
    go : (b : Bool) → (b && begins_with (34 ∷ []) s) ≡ false → (b && begins_with (codes "r\"") s) ≡ false → (b && begins_with (codes "r#") s) ≡ false
        → (b && opens_string s) ≡ false
    go false h k l = refl
    go true h k l = no_string s (begins_one 34 s h) k l

pub no_raw_name : (s : Text) → begins_with (codes "r#") s ≡ false → opens_raw_name s ≡ false
no_raw_name s e = rw e refl

-- none of the six begins here
record NoOpening (s : Text) : Type 0 where
  quote : begins_with (codes "b\"") s ≡ false
  byte : begins_with (codes "b'") s ≡ false
  raw_hash : begins_with (codes "br#") s ≡ false
  raw_quote : begins_with (codes "br\"") s ≡ false
  string : begins_with (codes "r\"") s ≡ false
  name : begins_with (codes "r#") s ≡ false

no_opening : (s : Text) → opens_literal s ≡ false → NoOpening s
no_opening s e =
    let x = or_parts _ _ e in
    let y = or_parts _ _ x.0 in
    let u = or_parts _ _ y.0 in
    let v = or_parts _ _ u.0 in
    let w = or_parts _ _ x.1 in
    record { quote = v.0; byte = v.1; raw_hash = u.1; raw_quote = y.1; string = w.0; name = w.1 }

-- where a plain identifier stands, no string does
pub identifier_no_string : First (λ s. (opens_string s ≡ false) × (opens_byte_string s ≡ false)) PlainIdentifier
identifier_no_string = record { holds = at }
  where
    at : (t next n : Text) → PlainIdentifier t next n → (opens_string (t ++ next) ≡ false) × (opens_byte_string (t ++ next) ≡ false)
    at [] next n z = absurd z.1.every
    at (c ∷ t) next n z =
        let s : Text = c ∷ (t ++ next) in
        let k = no_opening s (not-true (opens_literal s) z.0) in
        (no_string s (apart starts_run 34 c starts_quotes.0 (rw z.1.every.0 refl)) k.string k.name, no_byte_string s k.quote k.raw_quote k.raw_hash)

pub token_identifier : (t next n : Text) → PlainIdentifier t next n → token (t ++ next) ≡ Some next
token_identifier [] next n z = absurd z.1.every
token_identifier (c ∷ t) next n z =
    let s : Text = c ∷ (t ++ next) in
    let h : starts_run c ≡ true = rw z.1.every.0 refl in
    let k = no_opening s (not-true (opens_literal s) z.0) in
    token_run c t next h z.1.every.1 z.1.longest
    (no_string s (apart starts_run 34 c starts_quotes.0 h) k.string k.name) (no_byte_string s k.quote k.raw_quote k.raw_hash) k.byte (no_raw_name s k.name)

pub token_plain_name : (t next n : Text) → PlainName t next n → token (t ++ next) ≡ Some next
token_plain_name t next n z = token_identifier t next n (z.0, z.1.spelled)

pub token_name : (t next n : Text) → Name t next n → token (t ++ next) ≡ Some next
token_name t next n (inl z) = token_raw_name t next n z
token_name t next n (inr z) = token_plain_name t next n z

pub token_untyped_name : (t next n : Text) → UntypedName t next n → token (t ++ next) ≡ Some next
token_untyped_name t next n (inl z) = token_raw_name t next n z
token_untyped_name t next n (inr z) = token_identifier t next z.value z.spelled

-- ---- fixed words

pub every_of : (p : ℕ → Bool) (t : Text) → list_all p t ≡ true → Every p t
every_of p [] e = tt
every_of p (c ∷ t) e = let k = and_parts (p c) (list_all p t) e in (k.0, every_of p t k.1)

-- a run that begins neither a literal nor a raw identifier, whatever follows
abbrev pub is_plain_run : Text → Bool
is_plain_run [] = false
is_plain_run (c ∷ t) = starts_run c && (not (c == 98) && (not (c == 114) && list_all continues_name t))

pub run_of_word : (w next : Text) → is_plain_run w ≡ true → begins continues_name next ≡ false → token (w ++ next) ≡ Some next
run_of_word [] next e f = absurd (cc)
run_of_word (c ∷ t) next e f =
    let h = and_parts (starts_run c) (not (c == 98) && (not (c == 114) && list_all continues_name t)) e in
    let k = and_parts (not (c == 98)) (not (c == 114) && list_all continues_name t) h.1 in
    let l = and_parts (not (c == 114)) (list_all continues_name t) k.1 in
    token_plain_run c t next h.0 (not-true (c == 98) k.0) (not-true (c == 114) l.0) (every_of continues_name t l.1) f

pub token_fixed : {A : Type 0} (w : Text) (a : A) → is_plain_run w ≡ true → (t next : Text) (b : A) → FixedWord w a t next b → token (t ++ next) ≡ Some next
token_fixed w a e t next b z = ap (λ u. token (u ++ next)) z.same ∙ run_of_word w next e z.ends

-- ---- integers

pub every_append : (p : ℕ → Bool) (t u : Text) → Every p t → Every p u → Every p (t ++ u)
every_append p [] u h k = k
every_append p (c ∷ t) u h k = (h.0, every_append p t u h.1 k)

every_number : (t : Text) → Every in_number t → Every continues_name t
every_number [] h = tt
every_number (c ∷ t) h = (number_continues c h.0, every_number t h.1)

digit_continues : (c : ℕ) → is_ascii_hexdigit c ≡ true → continues_name c ≡ true
digit_continues c e = number_continues c (rw e refl)

digits_continue : (t : Text) → BeginsAndGoesOn is_ascii_hexdigit in_number t → Every continues_name t
digits_continue [] h = absurd h
digits_continue (c ∷ t) h = (digit_continues c h.0, every_number t h.1)

-- a digit other than `b`, and XID_Continue characters
record Digits (t : Text) : Type 0 where
  first : ℕ
  more : Text
  split : t ≡ first ∷ more
  digit : is_ascii_hexdigit first ≡ true
  no_b : (first == 98) ≡ false
  every : Every continues_name more

based_digits : (d base : ℕ) (t next : Text) (n : ℕ) → continues_name d ≡ true → Behind 48 (Behind d (InBase base)) t next n → Digits t
based_digits d base t next n h z = record {
  first = 48;
  more = d ∷ z.spelled.rest;
  split = z.split ∙ ap (λ u. 48 ∷ u) z.spelled.split;
  digit = refl;
  no_b = refl;
  every = (h, digits_continue z.spelled.rest z.spelled.spelled.spelled.every);
}

decimal_digits : (t next : Text) (n : ℕ) → InBase 10 t next n → Digits t
decimal_digits [] next n z = absurd z.spelled.every
decimal_digits (c ∷ t) next n z = record {
  first = c;
  more = t;
  split = refl;
  digit = z.spelled.every.0;
  no_b = digits_no_b c t next z.value n z.spelled z.meant;
  every = every_number t z.spelled.every.1;
}

magnitude_digits : (t next : Text) (n : ℕ) → Magnitude t next n → Digits t
unfolding unicode_ident
magnitude_digits t next n (inl z) = based_digits 98 2 t next n refl z
magnitude_digits t next n (inr (inl z)) = based_digits 111 8 t next n refl z
magnitude_digits t next n (inr (inr (inl z))) = based_digits 120 16 t next n refl z
magnitude_digits t next n (inr (inr (inr z))) = decimal_digits t next n z.1

suffix_continues : (x : Suffix) → list_all continues_name (suffix_word x) ≡ true
unfolding unicode_ident
suffix_continues i8 = refl
suffix_continues i16 = refl
suffix_continues i32 = refl
suffix_continues i64 = refl
suffix_continues i128 = refl
suffix_continues u8 = refl
suffix_continues u16 = refl
suffix_continues u32 = refl
suffix_continues u64 = refl
suffix_continues u128 = refl

every_suffix : (t next : Text) (o : Option Suffix) → OptSuffix t next o → Every continues_name t
every_suffix t next (Some x) z = subst (Every continues_name) (sym z.same) (every_of continues_name (suffix_word x) (suffix_continues x))
every_suffix t next None z = subst (Every continues_name) (sym z.0) tt

unsigned_digits : (minus : Bool) (t next : Text) (n : Numeral) → Unsigned minus t next n → Digits t
unsigned_digits minus t next n z =
    let k = magnitude_digits z.left (z.right ++ next) z.value z.first in
    let l = every_suffix z.right next z.second.value z.second.spelled in
    record {
      first = k.first;
      more = k.more ++ z.right;
      split = z.split ∙ ap (λ u. u ++ z.right) k.split;
      digit = k.digit;
      no_b = k.no_b;
      every = every_append continues_name k.more z.right k.every l;
    }

-- what may follow a value does not go on with a run
continues_clear : Clear continues_name
unfolding unicode_ident
continues_clear = record {
  stop = (refl, refl, refl, refl, refl);
  range = (refl, (refl, (refl, (refl, (refl, tt)))));
  blank = (refl, refl, refl, refl, refl, refl);
  slash = refl;
  hash = refl;
}

pub value_ends : (next : Text) → FollowsValue next → begins continues_name next ≡ false
value_ends [] f = refl
value_ends (c ∷ s) f = go (continues_name c) refl
  where
    go : (b : Bool) → continues_name c ≡ b → b ≡ false
    go false e = refl
    go true e = let k = solid_class continues_name continues_clear c s e in absurd (let x : true ≡ false = sym f ∙ ap ends_value k.1 ∙ k.0 in cc)

token_digits : (t next : Text) → Digits t → begins continues_name next ≡ false → token (t ++ next) ≡ Some next
token_digits t next k e =
    let c : ℕ = k.first in
    ap (λ u. token (u ++ next)) k.split
    ∙ token_plain_run c k.more next (rw (digit_continues c k.digit) (or-true (starts_name c))) k.no_b (apart is_ascii_hexdigit 114 c refl k.digit) k.every e

pub token_unsigned : (minus : Bool) (t next : Text) (n : Numeral) → Unsigned minus t next n → begins continues_name next ≡ false → token (t ++ next) ≡ Some next
token_unsigned minus t next n z e = token_digits t next (unsigned_digits minus t next n z) e
