-- What is left beyond the words falls where a call of the cursor moves: over gaps, marks, fixed words, names, literals, integers and ranges, whatever follows
-- them.
use Rattle.std.specs.Char.{is_ascii_hexdigit}
use Rattle.std.proofs.Common.{◌≡◌, ℕ, ◌==◌, ◌≤◌, arith, Bool, true, false, not, [], ◌∷◌, ◌++◌, Some, None, Option, inl, inr, eqb-true, append_assoc, refl, sym}
use Rattle.std.proofs.Common.{ap, ◌∙◌}
use Rattle.ron_spec_words.specs.Characters.{Text}
use Rattle.ron_spec_words.specs.Runs.{Every, is_at}
use Rattle.ron_spec_words.specs.Gap.{skip}
use Rattle.ron_spec_words.specs.Lang.{Lang, Empty, Run, Behind, Means, Or, When}
use Rattle.ron_spec_words.specs.Reader.{Reader, got}
use Rattle.ron_spec_words.specs.Directly.{Directly}
use Rattle.ron_spec_words.specs.Exact.{Sound}
use Rattle.ron_spec_words.specs.Tokens.{IsOneToken}
use Rattle.ron_spec_words.specs.Name.{name, untyped_name}
use Rattle.ron_spec_words.specs.Quoted.{Byte, string, byte_string, char}
use Rattle.ron_spec_words.specs.Number.{opens_base, Suffix, OptSuffix, suffix_word, i8, i16, i32, i64, i128, u8, u16, u32, u64, u128, in_number, InBase}
use Rattle.ron_spec_words.specs.Number.{Magnitude, Numeral, Unsigned, Number}
use Rattle.ron_spec_words.specs.AnyInteger.{is_float, AnyInteger, UntypedInteger, any_integer}
use Rattle.ron_spec_words.specs.Range.{is_open, opens_points, Interval, Points, NumberOrRange, number_or_range}
use Rattle.ron_spec_words.specs.Scan.{starts_gap, opens_raw_name}
use Rattle.ron_spec_words.specs.Beyond.{bytes_in, past_look, beyond}
use Rattle.std.proofs.lemmas.Bool.{not-true}
use Rattle.ron_spec_words.proofs.Classes.{apart}
use Rattle.ron_spec_words.proofs.LiteralStarts.{first_number, first_byte}
use Rattle.ron_spec_words.proofs.Words.{First, first_means, first_or, first_when}
use Rattle.ron_spec_words.proofs.Names.{word_name, word_untyped_name}
use Rattle.ron_spec_words.proofs.Quotes.{word_char}
use Rattle.ron_spec_words.proofs.RawStrings.{word_string, word_byte_string}
use Rattle.ron_spec_words.proofs.Tokens.{token_string, token_byte_string, token_char}
use Rattle.ron_spec_words.proofs.TokenRuns.{token_name, token_untyped_name}
use Rattle.ron_spec_words.proofs.AnyIntegers.{word_any_integer}
use Rattle.ron_spec_words.proofs.Ranges.{word_number_or_range, first_interval}
use Rattle.ron_spec_words.proofs.NumbersWritten.{number_continues, hex_goes_on}
use Rattle.ron_spec_words.proofs.Gaps.{skip-end}
use Rattle.ron_spec_words.proofs.KindSteps.{stays}
use Rattle.ron_spec_words.proofs.Sizes.{beyond_plain, run_step, run_no_more}
use Rattle.ron_spec_words.proofs.Looks.{letters}
use Rattle.ron_spec_words.proofs.BeyondWalks.{beyond_token, beyond_less, over_skip, step_less, mark_behind, quotes}
use Rattle.ron_spec_words.proofs.Far.{continues_no_gap}

-- ---- tokens

of_token : {A : Type 0} (r : Reader A) (L : Lang A) → Sound r L → IsOneToken L → (s : Text) (a : A) (u : Text) → r s ≡ got a u
    → bytes_in (beyond u) ≤ bytes_in (beyond s)
of_token r L sound one s a u e =
    let y = sound s a u e in
    omega (arith, ap (λ x. bytes_in (beyond x)) y.split, beyond_token (y.stretch ++ u) u (one y.stretch u a y.spelled))

pub name_eases : (s n u : Text) → name s ≡ got n u → bytes_in (beyond u) ≤ bytes_in (beyond s)
name_eases = of_token name _ word_name.sound token_name

pub untyped_name_eases : (s n u : Text) → untyped_name s ≡ got n u → bytes_in (beyond u) ≤ bytes_in (beyond s)
untyped_name_eases = of_token untyped_name _ word_untyped_name.sound token_untyped_name

pub string_eases : (s a u : Text) → string s ≡ got a u → bytes_in (beyond u) ≤ bytes_in (beyond s)
string_eases = of_token string _ word_string.sound token_string

pub byte_string_eases : (s a u : Text) → byte_string s ≡ got a u → bytes_in (beyond u) ≤ bytes_in (beyond s)
byte_string_eases = of_token byte_string _ word_byte_string.sound token_byte_string

pub char_eases : (s : Text) (a : ℕ) (u : Text) → char s ≡ got a u → bytes_in (beyond u) ≤ bytes_in (beyond s)
char_eases = of_token char _ word_char.sound token_char

-- ---- characters that begin no raw identifier

pub plain_first : (c : ℕ) (s : Text) → (c == 114) ≡ false → opens_raw_name (c ∷ s) ≡ false
plain_first c s e = rw e refl

plain_at : (s : Text) → is_at 114 s ≡ false → opens_raw_name s ≡ false
plain_at [] e = refl
plain_at (c ∷ s) e = plain_first c s e

no_r : (c : ℕ) → starts_gap c ≡ true → (c == 114) ≡ false
no_r c g = go (c == 114) refl
  where
    go : (b : Bool) → (c == 114) ≡ b → b ≡ false
    go false e = refl
    go true e = absurd (let z : true ≡ false = sym g ∙ ap starts_gap (eqb-true c 114 e) in cc)

-- the longest gap, also an empty one
pub gap_eases : (s : Text) → bytes_in (beyond (skip s)) ≤ bytes_in (beyond s)
gap_eases [] = omega (arith, ap (λ x. bytes_in (beyond x)) skip-end)
gap_eases (c ∷ s) = go (starts_gap c) refl
  where
    go : (b : Bool) → starts_gap c ≡ b → bytes_in (beyond (skip (c ∷ s))) ≤ bytes_in (beyond (c ∷ s))
    go true g = omega (arith, beyond_less (skip (c ∷ s)), over_skip c s g, ap bytes_in (beyond_plain (c ∷ s) (plain_first c s (no_r c g))))
    go false g = omega (arith, ap (λ x. bytes_in (beyond x)) (stays c s g))

-- a mark, such as a bracket
pub mark_eases : (c : ℕ) (s : Text) → starts_gap c ≡ false → (c == 114) ≡ false → bytes_in (beyond s) ≤ bytes_in (beyond (c ∷ s))
mark_eases c s g e = omega (arith, beyond_less s, step_less c s g, ap bytes_in (beyond_plain (c ∷ s) (plain_first c s e)))

-- ---- whatever follows

-- behind what the language spells a look leaves no more
abbrev Eases : {A : Type 0} → Lang A → Type 0
Eases {A} L = (t u : Text) (a : A) → L t u a → bytes_in (past_look u) ≤ bytes_in (past_look (t ++ u))

-- characters that begin no gap
abbrev Clear : Text → Type 0
Clear t = Every (λ c. not (starts_gap c)) t

clear_eases : (t u : Text) → Clear t → bytes_in (past_look u) ≤ bytes_in (past_look (t ++ u))
clear_eases [] u k = omega arith
clear_eases (c ∷ t) u k = let h = clear_eases t u k.1 in omega (arith, h, step_less c (t ++ u) (not-true (starts_gap c) k.0))

-- a fixed word of such characters
pub front_eases : (t s u : Text) → Clear t → is_at 114 s ≡ false → s ≡ t ++ u → bytes_in (beyond u) ≤ bytes_in (beyond s)
front_eases t s u k e f = omega (arith, beyond_less u, clear_eases t u k, ap (λ x. bytes_in (past_look x)) f, ap bytes_in (beyond_plain s (plain_at s e)))

eases_behind : {A : Type 0} (c : ℕ) (L : Lang A) → starts_gap c ≡ false → Eases L → Eases (Behind c L)
eases_behind c L g h t u a z = rw z.split (omega (arith, h z.rest u a z.spelled, step_less c (z.rest ++ u) g))

eases_or : {A : Type 0} (L M : Lang A) → Eases L → Eases M → Eases (Or L M)
eases_or L M h k t u a (inl z) = h t u a z
eases_or L M h k t u a (inr z) = k t u a z

eases_means : {A B : Type 0} (L : Lang A) (f : A → Option B) → Eases L → Eases (Means L f)
eases_means L f h t u b z = h t u z.value z.spelled

eases_when : {A : Type 0} (p : Text → Bool) (L : Lang A) → Eases L → Eases (When p L)
eases_when p L h t u a z = h t u a z.1

eases_empty : {A : Type 0} (a : A) → Eases (Empty a)
eases_empty a t u b z = omega (arith, ap (λ x. bytes_in (past_look (x ++ u))) z.0)

eases_directly : {A B : Type 0} (L : Lang A) (M : A → Lang B) → Eases L → ((a : A) → Eases (M a)) → Eases (Directly L M)
eases_directly L M h k t u b z =
    let e : t ++ u ≡ z.left ++ (z.right ++ u) = ap (λ x. x ++ u) z.split ∙ append_assoc z.left z.right u in
    omega (arith, ap (λ x. bytes_in (past_look x)) e, h z.left (z.right ++ u) z.value z.first, k z.value z.right u b z.second)

-- ---- numbers

digits_clear : (t : Text) → Every in_number t → Clear t
digits_clear [] k = tt
digits_clear (c ∷ t) k = (rw (continues_no_gap c (number_continues c k.0)) refl, digits_clear t k.1)

eases_digits : (base : ℕ) → Eases (InBase base)
eases_digits base = eases_means _ _ run
  where
    run : Eases (Run is_ascii_hexdigit in_number)
    run [] u a z = absurd z.every
    run (c ∷ t) u a z = clear_eases (c ∷ t) u (digits_clear (c ∷ t) (hex_goes_on c z.every.0, z.every.1))

eases_magnitude : Eases Magnitude
eases_magnitude =
    eases_or _ _ (eases_behind 48 _ refl (eases_behind 98 _ refl (eases_digits 2)))
    (eases_or _ _ (eases_behind 48 _ refl (eases_behind 111 _ refl (eases_digits 8)))
    (eases_or _ _ (eases_behind 48 _ refl (eases_behind 120 _ refl (eases_digits 16))) (eases_when (λ s. not (opens_base s)) _ (eases_digits 10))))

suffix_clear : (x : Suffix) → Clear (suffix_word x)
suffix_clear i8 = (refl, (refl, tt))
suffix_clear i16 = (refl, (refl, (refl, tt)))
suffix_clear i32 = (refl, (refl, (refl, tt)))
suffix_clear i64 = (refl, (refl, (refl, tt)))
suffix_clear i128 = (refl, (refl, (refl, (refl, tt))))
suffix_clear u8 = (refl, (refl, tt))
suffix_clear u16 = (refl, (refl, (refl, tt)))
suffix_clear u32 = (refl, (refl, (refl, tt)))
suffix_clear u64 = (refl, (refl, (refl, tt)))
suffix_clear u128 = (refl, (refl, (refl, (refl, tt))))

eases_suffix : Eases OptSuffix
eases_suffix t u (Some x) z = rw z.same (clear_eases (suffix_word x) u (suffix_clear x))
eases_suffix t u None z = omega (arith, ap (λ x. bytes_in (past_look (x ++ u))) z.0)

eases_unsigned : (minus : Bool) → Eases (Unsigned minus)
eases_unsigned minus = eases_directly _ _ eases_magnitude (λ n. eases_means _ _ eases_suffix)

eases_number : Eases Number
eases_number = eases_or _ _ (eases_behind 43 _ refl (eases_unsigned false)) (eases_or _ _ (eases_behind 45 _ refl (eases_unsigned true)) (eases_unsigned false))

-- behind `b'` a quote stands first
eases_byte : Eases Byte
eases_byte t u a z = rw z.split (omega (arith, ap bytes_in (run_step 98 (z.rest ++ u) letters.1), quoted z.rest z.spelled.split))
  where
    quoted : (t : Text) → t ≡ 39 ∷ z.spelled.rest → bytes_in (past_look u) ≤ bytes_in (past_look (t ++ u))
    quoted t e = rw e (omega (arith, run_no_more u, mark_behind 39 z.spelled.rest u quotes.1 refl))

eases_any_integer : Eases AnyInteger
eases_any_integer = eases_or _ _ (eases_means _ _ eases_byte) eases_number

eases_untyped_integer : Eases UntypedInteger
eases_untyped_integer = eases_when (λ s. not (is_float s)) _ eases_any_integer

eases_points : (start : Option Numeral) → Eases (Points start)
eases_points start = eases_behind 46 _ refl (eases_behind 46 _ refl (eases_or _ _ (eases_behind 61 _ refl (eases_means _ _ eases_untyped_integer))
    (eases_or _ _ (eases_means _ _ eases_untyped_integer) (eases_when is_open _ (eases_empty _)))))

eases_number_or_range : Eases NumberOrRange
eases_number_or_range = eases_or _ _ (eases_points None)
    (eases_directly _ _ eases_untyped_integer (λ n. eases_or _ _ (eases_points (Some n)) (eases_when (λ s. not (opens_points s)) _ (eases_empty _))))

-- ---- as they are read

of_word : {A : Type 0} (r : Reader A) (L : Lang A) → Sound r L → Eases L → First (λ s. is_at 114 s ≡ false) L → (s : Text) (a : A) (u : Text) → r s ≡ got a u
    → bytes_in (beyond u) ≤ bytes_in (beyond s)
of_word r L sound eases plain s a u e =
    let y = sound s a u e in
    let first = plain_at (y.stretch ++ u) (plain.holds y.stretch u a y.spelled) in
    omega (arith, beyond_less u, eases y.stretch u a y.spelled, ap bytes_in (beyond_plain (y.stretch ++ u) first), ap (λ x. bytes_in (beyond x)) y.split)

hex_no_r : (c : ℕ) → is_ascii_hexdigit c ≡ true → (c == 114) ≡ false
hex_no_r c e = apart is_ascii_hexdigit 114 c refl e

any_first : First (λ s. is_at 114 s ≡ false) AnyInteger
any_first = first_or (first_means (first_byte _ (λ s. refl))) (first_number _ (λ s. refl) (λ s. refl) (λ c s e. hex_no_r c e))

untyped_first : First (λ s. is_at 114 s ≡ false) UntypedInteger
untyped_first = first_when (λ s. not (is_float s)) any_first

pub any_integer_eases : (s : Text) (a : Numeral) (u : Text) → any_integer s ≡ got a u → bytes_in (beyond u) ≤ bytes_in (beyond s)
any_integer_eases = of_word any_integer _ word_any_integer.sound eases_any_integer any_first

pub number_or_range_eases : (s : Text) (a : Interval) (u : Text) → number_or_range s ≡ got a u → bytes_in (beyond u) ≤ bytes_in (beyond s)
number_or_range_eases = of_word number_or_range _ word_number_or_range.sound eases_number_or_range (first_interval _ (λ s. refl) untyped_first)
