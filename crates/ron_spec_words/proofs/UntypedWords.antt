-- What tells words apart where no type is given: how integers begin, where no name begins, and where no word of a value stands.
-- For values without a schema.
use Rattle.std.proofs.Common.{◌≡◌, ℕ, zero, suc, ◌==◌, ◌<◌, Bool, true, false, not, cond, drop, length, [], ◌∷◌, ◌++◌, append_assoc, codes, Some, None, refl}
use Rattle.std.proofs.Common.{sym, ap, ◌∙◌, le-leb, ltb-true}
use Rattle.std.proofs.lemmas.Bool.{or_parts, not-true}
use Rattle.std.proofs.lemmas.Str.Parse.{digit_from_value}
use Rattle.std.specs.Char.{is_ascii_digit, is_ascii_hexdigit, digit_value}
use Rattle.unicode_ident.proofs.Computing.{unicode_ident}
use Rattle.ron_spec_words.specs.Characters.{Text, starts_name, continues_name}
use Rattle.ron_spec_words.specs.Runs.{begins, begins_with}
use Rattle.ron_spec_words.specs.Lang.{Lang, BeginsAndGoesOn, Run, Behind, Means, When}
use Rattle.ron_spec_words.specs.Reader.{Got, got, failed, bad, Reader, fail, run, unless_before, not_before, meant, means, pick}
use Rattle.ron_spec_words.specs.Directly.{stands}
use Rattle.ron_spec_words.specs.Name.{opens_literal, is_name_mark, name, if_no_value_word, PlainIdentifier, plain_identifier, UntypedName, untyped_name}
use Rattle.ron_spec_words.specs.Number.{in_number, number_in, InBase, opens_base, Magnitude}
use Rattle.ron_spec_words.specs.AnyInteger.{AnyInteger, UntypedInteger, is_float, opens_integer}
use Rattle.ron_spec_words.specs.Quoted.{hashes, Raw, Char, String, ByteString}
use Rattle.ron_spec_words.specs.Scan.{raw_name}
use Rattle.ron_spec_words.specs.Lookahead.{leads_to, opens_field}
use Rattle.ron_spec_words.proofs.Words.{First, first_behind, first_or, first_when, first_means}
use Rattle.ron_spec_words.proofs.Classes.{apart}
use Rattle.ron_spec_words.proofs.Direct.{first_directly, stands-splits}
use Rattle.ron_spec_words.proofs.Names.{word_identifier}
use Rattle.ron_spec_words.proofs.NumbersWritten.{in_range_all}
use Rattle.ron_spec_words.proofs.AnyIntegers.{digit_below}
use Rattle.ron_spec_words.proofs.LiteralStarts.{first_char, first_byte}

-- ---- how integers begin

decimal : (c : ℕ) → digit_value c < 10 → is_ascii_digit c ≡ true
decimal c h = let r = digit_from_value c h in rw (le-leb 48 c r.0, le-leb c 57 r.1) refl

first_decimal : (P : Text → Type 0) → ((c : ℕ) (s : Text) → is_ascii_digit c ≡ true → P (c ∷ s)) → First P (When (λ s. not (opens_base s)) (InBase 10))
first_decimal P k = record { holds = λ t next n z. at t next z.1.value n z.1.spelled z.1.meant }
  where
    at : (t next run : Text) (n : ℕ) → Run is_ascii_hexdigit in_number t next run → number_in 10 run ≡ Some n → P (t ++ next)
    at [] next run n z e = absurd z.every
    at (c ∷ t) next run n z e = k c (t ++ next) (decimal c (ltb-true (digit_value c) 10 (digit_below c t next run n z e)))

-- an integer begins with a sign or a decimal digit, a byte literal with `b'`
pub first_any_integer : (P : Text → Type 0) → ((s : Text) → P (98 ∷ 39 ∷ s)) → ((s : Text) → P (43 ∷ s)) → ((s : Text) → P (45 ∷ s))
    → ((c : ℕ) (s : Text) → is_ascii_digit c ≡ true → P (c ∷ s)) → First P AnyInteger
first_any_integer P byte plus minus digit =
    first_or (first_means (first_byte P byte)) (first_or (first_behind P 43 _ plus) (first_or (first_behind P 45 _ minus) (first_directly magnitude)))
  where
    magnitude : First P Magnitude
    magnitude = first_or (first_behind P 48 _ (λ s. digit 48 s refl))
        (first_or (first_behind P 48 _ (λ s. digit 48 s refl)) (first_or (first_behind P 48 _ (λ s. digit 48 s refl)) (first_decimal P digit)))

pub first_untyped_integer : (P : Text → Type 0) → ((s : Text) → P (98 ∷ 39 ∷ s)) → ((s : Text) → P (43 ∷ s)) → ((s : Text) → P (45 ∷ s))
    → ((c : ℕ) (s : Text) → is_ascii_digit c ≡ true → P (c ∷ s)) → First P UntypedInteger
first_untyped_integer P byte plus minus digit = first_when (λ s. not (is_float s)) (first_any_integer P byte plus minus digit)

abbrev pub OpensNoInteger : Text → Type 0
OpensNoInteger s = opens_integer s ≡ false

digit_no_name : (c : ℕ) → is_ascii_digit c ≡ true → starts_name c ≡ false
unfolding unicode_ident
digit_no_name c e =
    in_range_all (λ k. starts_name k ≡ false) 10 48 57 c refl (refl, (refl, (refl, (refl, (refl, (refl, (refl, (refl, (refl, (refl, tt)))))))))) e

name_no_digit : (c : ℕ) → starts_name c ≡ true → is_ascii_digit c ≡ false
name_no_digit c e = go (is_ascii_digit c) refl
  where
    go : (b : Bool) → is_ascii_digit c ≡ b → b ≡ false
    go true k = absurd (let x : true ≡ false = sym e ∙ digit_no_name c k in cc)
    go false k = refl

no_signs : (starts_name 43 ≡ false) × (starts_name 45 ≡ false)
unfolding unicode_ident
no_signs = (refl, refl)

no_byte : (s : Text) → opens_literal s ≡ false → begins_with (codes "b'") s ≡ false
no_byte s e =
    let x = or_parts _ _ e in
    let y = or_parts _ _ x.0 in
    let u = or_parts _ _ y.0 in
    (or_parts _ _ u.0).1

pub identifier_no_integer : First OpensNoInteger PlainIdentifier
identifier_no_integer = record { holds = λ t next n z. at t next n z.1 (no_byte (t ++ next) (not-true _ z.0)) }
  where
    at : (t next n : Text) → Run starts_name continues_name t next n → begins_with (codes "b'") (t ++ next) ≡ false → OpensNoInteger (t ++ next)
    at [] next n z e = absurd z.every
    at (c ∷ t) next n z e = rw (e, name_no_digit c z.every.0, apart starts_name 43 c no_signs.0 z.every.0, apart starts_name 45 c no_signs.1 z.every.0) refl

-- ---- where no name begins

-- neither reader function of names reads one
pub record Unnamed (s : Text) : Type 0 where
  pub no_name : name s ≡ failed bad
  pub no_untyped_name : untyped_name s ≡ failed bad

-- so no field begins
pub no_field : {A : Type 0} {L : Lang A} → First Unnamed L → First (λ s. opens_field s ≡ false) L
unfolding opens_field
no_field h = record { holds = λ t next a z. ap (leads_to 58) (h.holds t next a z).no_name }

past_test : {A : Type 0} (p : Text → Bool) (r q : Reader A) (s : Text) → p s ≡ false → pick p r q s ≡ q s
past_test p r q s e = ap (λ b. cond b (r s) (q s)) e

-- where no literal begins
abbrev if_plain : Reader Text → Reader Text
if_plain r = pick (λ s. not (opens_literal s)) r (fail bad)

abbrev plain_name : Reader Text
plain_name = if_plain (not_before is_name_mark (run starts_name continues_name))

-- where no raw identifier begins, nothing is read that plain identifiers are not read by
unnamed : (s : Text) → begins_with (codes "r#") s ≡ false → plain_name s ≡ failed bad → plain_identifier s ≡ failed bad → Unnamed s
unfolding name untyped_name
unnamed s e f g = record {
  no_name = past_test (begins_with (codes "r#")) raw_name plain_name s e ∙ f;
  no_untyped_name = past_test (begins_with (codes "r#")) raw_name (means plain_identifier if_no_value_word) s e ∙ ap (λ o. meant o if_no_value_word) g;
}

no_plain : (r : Reader Text) (s : Text) → opens_literal s ≡ true → if_plain r s ≡ failed bad
no_plain r s f = past_test (λ s. not (opens_literal s)) r (fail bad) s (ap not f)

-- where a literal begins
unnamed_literal : (s : Text) → begins_with (codes "r#") s ≡ false → opens_literal s ≡ true → Unnamed s
unnamed_literal s e f = unnamed s e (no_plain (not_before is_name_mark (run starts_name continues_name)) s f) (no_plain (run starts_name continues_name) s f)

fails_either : {A : Type 0} (b : Bool) (o : Got A) → o ≡ failed bad → cond b o (failed bad) ≡ failed bad
fails_either true o e = e
fails_either false o e = refl

no_run : (s : Text) → begins starts_name s ≡ false → run starts_name continues_name s ≡ failed bad
no_run [] e = refl
no_run (c ∷ s) e = rw e refl

-- where what no plain identifier begins with stands
unnamed_start : (s : Text) → begins_with (codes "r#") s ≡ false → begins starts_name s ≡ false → Unnamed s
unnamed_start s e f = unnamed s e
    (fails_either (not (opens_literal s)) (unless_before is_name_mark (run starts_name continues_name s)) (ap (unless_before is_name_mark) (no_run s f)))
    (fails_either (not (opens_literal s)) (run starts_name continues_name s) (no_run s f))

pub unnamed_mark : (c : ℕ) (s : Text) → starts_name c ≡ false → (c == 114) ≡ false → Unnamed (c ∷ s)
unnamed_mark c s e f = unnamed_start (c ∷ s) (rw f refl) e

-- behind `r#` stands no character of a raw identifier
unnamed_raw : (n : ℕ) (s : Text) → Unnamed (114 ∷ (hashes n ++ 34 ∷ s))
unfolding name untyped_name unicode_ident
unnamed_raw zero s = record { no_name = refl; no_untyped_name = refl }
unnamed_raw (suc zero) s = record { no_name = refl; no_untyped_name = refl }
unnamed_raw (suc (suc n)) s = record { no_name = refl; no_untyped_name = refl }

unnamed_raw_bytes : (n : ℕ) (s : Text) → Unnamed (98 ∷ 114 ∷ (hashes n ++ 34 ∷ s))
unnamed_raw_bytes zero s = unnamed_literal (98 ∷ 114 ∷ 34 ∷ s) refl refl
unnamed_raw_bytes (suc n) s = unnamed_literal (98 ∷ 114 ∷ 35 ∷ (hashes n ++ 34 ∷ s)) refl refl

-- hashes and a quote begin what is raw
first_raw : (P : Text → Type 0) → ((n : ℕ) (s : Text) → P (hashes n ++ 34 ∷ s)) → First P Raw
first_raw P k = record {
  holds = λ t next a z. rw (z.same, append_assoc (hashes z.count) (34 ∷ (a ++ 34 ∷ hashes z.count)) next) (k z.count ((a ++ 34 ∷ hashes z.count) ++ next));
}

first_then_behind : {A : Type 0} (P : Text → Type 0) (c : ℕ) {L : Lang A} → First (λ s. P (c ∷ s)) L → First P (Behind c L)
first_then_behind P c h = record { holds = λ t next a z. rw z.split (h.holds z.rest next a z.spelled) }

quotes_start : (starts_name 34 ≡ false) × (starts_name 39 ≡ false)
unfolding unicode_ident
quotes_start = (refl, refl)

pub unnamed_string : First Unnamed String
unnamed_string = first_or (first_behind Unnamed 34 _ (λ s. unnamed_mark 34 s quotes_start.0 refl))
    (first_then_behind Unnamed 114 (first_raw (λ s. Unnamed (114 ∷ s)) unnamed_raw))

pub unnamed_byte_string : First Unnamed ByteString
unnamed_byte_string = first_then_behind Unnamed 98 (first_or (first_behind (λ s. Unnamed (98 ∷ s)) 34 _ (λ s. unnamed_literal (98 ∷ 34 ∷ s) refl refl))
    (first_then_behind (λ s. Unnamed (98 ∷ s)) 114 (first_means (first_raw (λ s. Unnamed (98 ∷ 114 ∷ s)) unnamed_raw_bytes))))

pub unnamed_char : First Unnamed Char
unnamed_char = first_char Unnamed (λ s. unnamed_mark 39 s quotes_start.1 refl)

pub unnamed_any_integer : First Unnamed AnyInteger
unnamed_any_integer = first_any_integer Unnamed (λ s. unnamed_literal (98 ∷ 39 ∷ s) refl refl) (λ s. unnamed_mark 43 s no_signs.0 refl)
    (λ s. unnamed_mark 45 s no_signs.1 refl) (λ c s e. unnamed_mark c s (digit_no_name c e) (apart is_ascii_digit 114 c refl e))

pub unnamed_integer : First Unnamed UntypedInteger
unnamed_integer = first_untyped_integer Unnamed (λ s. unnamed_literal (98 ∷ 39 ∷ s) refl refl) (λ s. unnamed_mark 43 s no_signs.0 refl)
    (λ s. unnamed_mark 45 s no_signs.1 refl) (λ c s e. unnamed_mark c s (digit_no_name c e) (apart is_ascii_digit 114 c refl e))

-- ---- words of values

-- where a name stands, such a word does not
pub name_no_word : (c : ℕ) (w : Text) → (114 == c) ≡ false → BeginsAndGoesOn starts_name continues_name (c ∷ w) → if_no_value_word (c ∷ w) ≡ None
    → First (λ s. stands (c ∷ w) s ≡ false) UntypedName
name_no_word c w r every none =
    first_or (first_behind _ 114 _ (λ s. rw r refl)) (record { holds = λ t next n z. go t next n z (stands (c ∷ w) (t ++ next)) refl })
  where
    go : (t next n : Text) → Means PlainIdentifier if_no_value_word t next n → (b : Bool) → stands (c ∷ w) (t ++ next) ≡ b → b ≡ false
    go t next n z false e = refl
    go t next n z true e =
        let k = stands-splits (c ∷ w) (t ++ next) e in
        let rest : Text = drop (length (c ∷ w)) (t ++ next) in
        let word : plain_identifier ((c ∷ w) ++ rest) ≡ got (c ∷ w) rest =
        (word_identifier.complete (c ∷ w) rest (c ∷ w)
        (ap (λ s. not (opens_literal s)) (sym k.0) ∙ z.spelled.0, record { same = refl; every = every; longest = k.1 })).answer in
        let both : got (c ∷ w) rest ≡ got z.value next =
        sym word ∙ ap plain_identifier (sym k.0) ∙ (word_identifier.complete t next z.value z.spelled).answer in
        let same : c ∷ w ≡ z.value = cc in
        absurd (let x : None ≡ Some n = sym none ∙ ap if_no_value_word same ∙ z.meant in cc)

pub true_no_name : First (λ s. stands (codes "true") s ≡ false) UntypedName
unfolding unicode_ident
true_no_name = name_no_word 116 (codes "rue") refl (refl, (refl, (refl, (refl, tt)))) refl

pub false_no_name : First (λ s. stands (codes "false") s ≡ false) UntypedName
unfolding unicode_ident
false_no_name = name_no_word 102 (codes "alse") refl (refl, (refl, (refl, (refl, (refl, tt))))) refl

pub none_no_name : First (λ s. stands (codes "None") s ≡ false) UntypedName
unfolding unicode_ident
none_no_name = name_no_word 78 (codes "one") refl (refl, (refl, (refl, (refl, tt)))) refl

pub some_no_name : First (λ s. stands (codes "Some") s ≡ false) UntypedName
unfolding unicode_ident
some_no_name = name_no_word 83 (codes "ome") refl (refl, (refl, (refl, (refl, tt)))) refl
