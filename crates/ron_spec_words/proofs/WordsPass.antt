-- Each word is a walk over whole tokens: for the rules of shapes, by way of `Passing`.
use Rattle.std.proofs.Common.{◌≡◌, ℕ, Bool, true, false, not, ◌&&◌, [], ◌∷◌, ◌++◌, codes, Some, refl}
use Rattle.std.specs.Char.{is_ascii_hexdigit}
use Rattle.unicode_ident.proofs.Computing.{unicode_ident}
use Rattle.ron_spec_words.specs.Characters.{Text, continues_name}
use Rattle.ron_spec_words.specs.Runs.{begins}
use Rattle.ron_spec_words.specs.Gap.{skip}
use Rattle.ron_spec_words.specs.Lang.{Mark}
use Rattle.ron_spec_words.specs.Exact.{FollowsValue}
use Rattle.ron_spec_words.specs.Directly.{FixedWord}
use Rattle.ron_spec_words.specs.Name.{opens_literal, Name, Named, UntypedName}
use Rattle.ron_spec_words.specs.Number.{Unsigned, Number}
use Rattle.ron_spec_words.specs.AnyInteger.{AnyInteger, is_float, UntypedInteger}
use Rattle.ron_spec_words.specs.Quoted.{Char, Byte, String, ByteString}
use Rattle.ron_spec_words.specs.Scan.{starts_run, token, Passes}
use Rattle.ron_spec_words.proofs.Words.{First, first_run, first_behind, first_not_before, first_when}
use Rattle.ron_spec_words.proofs.Direct.{first_directly}
use Rattle.ron_spec_words.proofs.Classes.{solid_hexdigit}
use Rattle.ron_spec_words.proofs.Numbers.{first_magnitude}
use Rattle.ron_spec_words.proofs.LiteralStarts.{first_char, first_byte, first_string, first_byte_string}
use Rattle.ron_spec_words.proofs.Tokens.{token_string, token_byte_string, token_char, token_byte, token_raw_name}
use Rattle.ron_spec_words.proofs.TokenRuns.{token_plain_name, token_identifier, is_plain_run, token_fixed, token_unsigned, value_ends}
use Rattle.ron_spec_words.proofs.Walks.{is_other, other_class, run_other}
use Rattle.ron_spec_words.proofs.Passing.{passes_token, passes_mark, passes_behind, passes_means, passes_when, passes_or, passes_before}

abbrev Other : Text → Type 0
Other s = begins is_other s ≡ true

-- ---- names and fixed words

pub passes_name : {b : Bool} {F : Text → Type 0} → Passes b Name F
passes_name = passes_or
    (passes_token (first_behind Other 114 _ (λ s. refl)) (λ t next a z _. token_raw_name t next a z))
    (passes_token (first_when (λ s. not (opens_literal s)) (first_not_before (first_run Other _ _ (λ c s e. run_other c (rw e refl)))))
    (λ t next a z _. token_plain_name t next a z))

pub passes_named : {b : Bool} {F : Text → Type 0} (n : Text) → Passes b (Named n) F
passes_named n = passes_means passes_name

pub passes_untyped_name : {b : Bool} {F : Text → Type 0} → Passes b UntypedName F
passes_untyped_name = passes_or
    (passes_token (first_behind Other 114 _ (λ s. refl)) (λ t next a z _. token_raw_name t next a z))
    (passes_means (passes_token (first_when (λ s. not (opens_literal s)) (first_run Other _ _ (λ c s e. run_other c (rw e refl))))
    (λ t next a z _. token_identifier t next a z)))

plain_other : (w next : Text) → is_plain_run w ≡ true → Other (w ++ next)
plain_other [] next e = absurd (cc)
plain_other (c ∷ w) next e = run_other c (and_left (starts_run c) _ e)
  where
    and_left : (a b : Bool) → (a && b) ≡ true → a ≡ true
    and_left true b e = refl
    and_left false b e = absurd (cc)

pub passes_fixed : {A : Type 0} {b : Bool} {F : Text → Type 0} (w : Text) (a : A) → is_plain_run w ≡ true → Passes b (FixedWord w a) F
passes_fixed w a e = passes_token (record { holds = λ t next x z. rw z.same (plain_other w next e) }) (λ t next x z _. token_fixed w a e t next x z)

-- the fixed words of the format
pub plain_words : (is_plain_run (codes "true") ≡ true) × (is_plain_run (codes "false") ≡ true) × (is_plain_run (codes "None") ≡ true)
    × (is_plain_run (codes "Some") ≡ true) × (is_plain_run (codes "enable") ≡ true) × (is_plain_run (codes "type") ≡ true)
    × (is_plain_run (codes "schema") ≡ true)
unfolding unicode_ident
plain_words = (refl, refl, refl, refl, refl, refl, refl)

-- ---- literals

pub passes_string : {b : Bool} {F : Text → Type 0} → Passes b String F
passes_string = passes_token (first_string Other (λ s. refl) (λ s. refl)) (λ t next a z _. token_string t next a z)

pub passes_byte_string : {b : Bool} {F : Text → Type 0} → Passes b ByteString F
passes_byte_string = passes_token (first_byte_string Other (λ s. refl) (λ s. refl)) (λ t next a z _. token_byte_string t next a z)

pub passes_char : {b : Bool} {F : Text → Type 0} → Passes b Char F
passes_char = passes_token (first_char Other (λ s. refl)) (λ t next a z _. token_char t next a z)

pub passes_byte : {b : Bool} {F : Text → Type 0} → Passes b Byte F
passes_byte = passes_token (first_byte Other (λ s. refl)) (λ t next a z _. token_byte t next a z)

-- ---- integers

digit_other : (c : ℕ) (s : Text) → is_ascii_hexdigit c ≡ true → Other (c ∷ s)
digit_other c s e = other_class is_ascii_hexdigit (refl, refl, refl) (refl, refl, refl) refl c e

-- no character follows that a run goes on with
abbrev pub EndsRun : Text → Type 0
EndsRun next = begins continues_name next ≡ false

passes_unsigned : {b : Bool} (minus : Bool) → Passes b (Unsigned minus) EndsRun
passes_unsigned minus = passes_token (first_directly (first_magnitude Other digit_other)) (λ t next n z f. token_unsigned minus t next n z f)

unsigned_no_gap : (minus : Bool) → First (λ s. skip s ≡ s) (Unsigned minus)
unsigned_no_gap minus = first_directly (first_magnitude (λ s. skip s ≡ s) (λ c s e. (solid_hexdigit c s e).1))

signs_alone : ((s : Text) → token (43 ∷ s) ≡ Some s) × ((s : Text) → token (45 ∷ s) ≡ Some s)
unfolding token unicode_ident
signs_alone = (λ s. refl, λ s. refl)

-- a sign and what follows it are two tokens
pub passes_number : {b : Bool} → Passes b Number EndsRun
passes_number = passes_or (passes_behind 43 refl signs_alone.0 (unsigned_no_gap false) (passes_unsigned false))
    (passes_or (passes_behind 45 refl signs_alone.1 (unsigned_no_gap true) (passes_unsigned true)) (passes_unsigned false))

passes_integer_before : {b : Bool} → Passes b AnyInteger EndsRun
passes_integer_before = passes_or (passes_means passes_byte) passes_number

pub passes_any_integer : {b : Bool} → Passes b AnyInteger FollowsValue
passes_any_integer = passes_before EndsRun FollowsValue value_ends passes_integer_before

pub passes_untyped_before : {b : Bool} → Passes b UntypedInteger EndsRun
passes_untyped_before = passes_when (λ s. not (is_float s)) passes_integer_before

pub passes_untyped_integer : {b : Bool} → Passes b UntypedInteger FollowsValue
passes_untyped_integer = passes_when (λ s. not (is_float s)) passes_any_integer

-- ---- marks

marks_alone : ((s : Text) → token (58 ∷ s) ≡ Some s) × ((s : Text) → token (61 ∷ s) ≡ Some s) × ((s : Text) → token (35 ∷ s) ≡ Some s)
    × ((s : Text) → token (33 ∷ s) ≡ Some s)
unfolding token unicode_ident
marks_alone = (λ s. refl, λ s. refl, λ s. refl, λ s. refl)

pub passes_colon : {A : Type 0} {b : Bool} {F : Text → Type 0} (a : A) → Passes b (Mark 58 a) F
passes_colon a = passes_mark 58 a refl marks_alone.0

pub passes_equals_sign : {A : Type 0} {b : Bool} {F : Text → Type 0} (a : A) → Passes b (Mark 61 a) F
passes_equals_sign a = passes_mark 61 a refl marks_alone.1

pub passes_hash : {A : Type 0} {b : Bool} {F : Text → Type 0} (a : A) → Passes b (Mark 35 a) F
passes_hash a = passes_mark 35 a refl marks_alone.2

pub passes_exclamation_mark : {A : Type 0} {b : Bool} {F : Text → Type 0} (a : A) → Passes b (Mark 33 a) F
passes_exclamation_mark a = passes_mark 33 a refl marks_alone.3
