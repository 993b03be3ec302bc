-- The bytes of characters, and what a look leaves at most.
use Rattle.std.proofs.Common.{◌≡◌, ℕ, ◌==◌, ◌≤◌, ◌<◌, ◌+◌, ◌||◌, length, length-append, arith, Bool, true, false, cond, drop, [], ◌∷◌, ◌++◌, codes, List}
use Rattle.std.proofs.Common.{IsUtf8, encode_utf8, encode_utf8_all, eqb-true, refl, sym, ap, ◌∙◌}
use Rattle.std.specs.Str.{chars}
use Rattle.std.proofs.lemmas.Str.{encodes-chars, encodes-append, length-encode, len_utf8_bounds}
use Rattle.std.proofs.lemmas.Bool.{and_parts, or_parts}
use Rattle.ron_spec_words.specs.Characters.{Text, is_blank, in_raw_name}
use Rattle.ron_spec_words.specs.Runs.{begins, is_at, begins_with, after_run}
use Rattle.ron_spec_words.specs.Gap.{skip, gap_of}
use Rattle.ron_spec_words.specs.Scan.{starts_gap, opens_raw_name, starts_run}
use Rattle.ron_spec_words.specs.Beyond.{bytes_in, in_look, past_words, past_look, beyond}
use Rattle.ron_spec_words.proofs.Gaps.{cut}
use Rattle.ron_spec_words.proofs.Direct.{begins-drop}
use Rattle.ron_spec_words.proofs.KindSteps.{run_no_gap, stays}

-- ---- bytes

-- those of a text are its own
pub size_chars : (bytes : List ℕ) → IsUtf8 bytes → bytes_in (chars bytes) ≡ length bytes
unfolding bytes_in
size_chars bytes u = ap length (encodes-chars bytes u)

pub size_append : (s t : Text) → bytes_in (s ++ t) ≡ bytes_in s + bytes_in t
unfolding bytes_in
size_append s t = ap length (encodes-append s t) ∙ length-append (encode_utf8_all s) (encode_utf8_all t)

pub size_one : (c : ℕ) (s : Text) → bytes_in s < bytes_in (c ∷ s)
unfolding bytes_in
size_one c s = omega (arith, length-append (encode_utf8 c) (encode_utf8_all s), length-encode c, len_utf8_bounds c)

pub size_end : (front rest text : Text) → text ≡ front ++ rest → bytes_in rest ≤ bytes_in text
size_end front rest text e = omega (arith, ap bytes_in e, size_append front rest)

pub size_run : (p : ℕ → Bool) (s : Text) → bytes_in (after_run p s) ≤ bytes_in s
size_run p [] = omega arith
size_run p (c ∷ s) = let k = size_run p s in
    let one = size_one c s in
    elim (p c) as (λ b. bytes_in (cond b (after_run p s) (c ∷ s)) ≤ bytes_in (c ∷ s)) [ true ↦ omega (arith, k, one) | false ↦ omega arith ]

pub size_skip : (s : Text) → bytes_in (skip s) ≤ bytes_in s
size_skip s = size_end (gap_of s) (skip s) s (cut s).split

pub size_nothing : bytes_in [] ≡ 0
unfolding bytes_in
size_nothing = refl

-- ---- what a look leaves

pub words_most : (s : Text) → bytes_in (past_words s) ≤ bytes_in (skip s)
unfolding past_words
words_most s = elim (is_at 47 (skip s)) as (λ b. bytes_in (cond b [] (skip s)) ≤ bytes_in (skip s)) [ true ↦ omega (arith, size_nothing) | false ↦ omega arith ]

pub words_no_more : (s : Text) → bytes_in (past_words s) ≤ bytes_in s
words_no_more s = omega (arith, words_most s, size_skip s)

pub run_no_more : (s : Text) → bytes_in (past_look s) ≤ bytes_in s
unfolding past_look
run_no_more s = omega (arith, words_no_more (after_run in_look s), size_run in_look s)

-- over a character of the run
pub run_step : (c : ℕ) (s : Text) → in_look c ≡ true → past_look (c ∷ s) ≡ past_look s
unfolding past_look
run_step c s e = ap (λ b. past_words (cond b (after_run in_look s) (c ∷ s))) e

-- over any run of its characters
pub run_behind : (p : ℕ → Bool) → ((c : ℕ) → p c ≡ true → in_look c ≡ true) → (s : Text) → past_look (after_run p s) ≡ past_look s
run_behind p inside [] = refl
run_behind p inside (c ∷ s) = go (p c) refl (run_behind p inside s)
  where
    go : (b : Bool) → p c ≡ b → past_look (after_run p s) ≡ past_look s → past_look (cond b (after_run p s) (c ∷ s)) ≡ past_look (c ∷ s)
    go true e h = h ∙ sym (run_step c s (inside c e))
    go false e h = refl

-- what may stand in the run begins no gap
pub look_no_gap : (c : ℕ) → in_look c ≡ true → starts_gap c ≡ false
look_no_gap c e = go (starts_run c) refl e
  where
    go : (b : Bool) → starts_run c ≡ b → (b || (c == 35)) ≡ true → starts_gap c ≡ false
    go true h k = run_no_gap c h
    go false h k = rw (eqb-true c 35 k) refl

-- where no gap stands, all is left
pub word_stays : (c : ℕ) (s : Text) → starts_gap c ≡ false → past_words (c ∷ s) ≡ c ∷ s
unfolding past_words
word_stays c s g = let k = stays c s g in rw (k, (or_parts (is_blank c) (c == 47) g).1) refl

-- a further run leaves no more than the gap alone
pub run_words : (s : Text) → bytes_in (past_look s) ≤ bytes_in (past_words s)
unfolding past_look
run_words [] = omega arith
run_words (c ∷ s) = go (in_look c) refl
  where
    go : (b : Bool) → in_look c ≡ b → bytes_in (past_words (cond b (after_run in_look s) (c ∷ s))) ≤ bytes_in (past_words (c ∷ s))
    go true e = omega (arith, ap bytes_in (word_stays c s (look_no_gap c e)), words_no_more (after_run in_look s), size_run in_look s, size_one c s)
    go false e = omega arith

-- ---- at a place where no raw identifier begins

pub beyond_plain : (s : Text) → opens_raw_name s ≡ false → beyond s ≡ past_look s
unfolding beyond
beyond_plain s e = rw e refl

pub beyond_raw : (s : Text) → opens_raw_name s ≡ true → beyond s ≡ past_look (after_run in_raw_name (drop 2 s))
unfolding beyond
beyond_raw s e = rw e refl

pub beyond_no_more : (s : Text) → bytes_in (beyond s) ≤ bytes_in s
beyond_no_more s = go (opens_raw_name s) refl
  where
    go : (b : Bool) → opens_raw_name s ≡ b → bytes_in (beyond s) ≤ bytes_in s
    go false e = omega (arith, ap bytes_in (beyond_plain s e), run_no_more s)
    go true e =
        let k = begins-drop (codes "r#") s (and_parts (begins_with (codes "r#") s) (begins in_raw_name (drop 2 s)) e).0 in
        omega (
          arith,
          ap bytes_in (beyond_raw s e),
          run_no_more (after_run in_raw_name (drop 2 s)),
          size_run in_raw_name (drop 2 s),
          size_end (codes "r#") (drop 2 s) s k,
        )
