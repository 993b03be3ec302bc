-- Quotes, backslashes and runs of hashes in a text: for `unescaped.rt`.
use Rattle.std.proofs.Common.{◌≡◌, ℕ, suc, ◌+◌, ◌≤◌, ◌==◌, max, true, false, not, ◌||◌, cond, List, [], ◌∷◌, ◌++◌, codes, length, chars, encode_utf8_all}
use Rattle.std.proofs.Common.{IsUtf8, refl, sym, ap, ap₂, ◌∙◌, arith}
use Rattle.std.proofs.lemmas.Str.{encodes-chars}
use Rattle.std.specs.Ordering.{ord_max, nat_cmp}
use Rattle.std.proofs.lemmas.Bool.Decides.{nat_tests}
use Rattle.ron_spec_words.specs.Characters.{Text}
use Rattle.ron_spec_words.specs.Runs.{run_of, after_run}
use Rattle.ron_spec_words.specs.Quoted.{hashes}
use Rattle.ron_lex_text.specs.Stretch.{is_ended, in_class}
use Rattle.ron_lex_text.specs.declared.text.Class.TheVariants.{Plain}
use Rattle.ron_spec_layout.specs.Unescaped.{longest_hashes, needs_raw, between_hashes, unescaped}
use Rattle.ron_spec_layout.proofs.Bytes.{bytes-plain, bytes-raw}

-- What stands behind the characters that may stand between quotes is nothing, exactly where none of the two does.
pub needs_raw_is : (t : Text) → not (is_ended (after_run (in_class Plain) t)) ≡ needs_raw t
needs_raw_is [] = refl
needs_raw_is (c ∷ t) = elim ((c == 34) || (c == 92))
    as (λ b. not (is_ended (cond (not b) (after_run (in_class Plain) t) (c ∷ t))) ≡ (b || needs_raw t)) [ true ↦ refl | false ↦ needs_raw_is t ]

-- ---- the longest run of hashes

first_run : (t : Text) → length (run_of (λ d. d == 35) t) ≤ longest_hashes t
first_run [] = omega arith
first_run (c ∷ t) = omega arith

-- nothing is counted yet
pub longest_first : (t : Text) → longest_hashes t ≡ max 0 (max (0 + length (run_of (λ d. d == 35) t)) (longest_hashes t))
longest_first t = let n = first_run t in omega (arith, n)

greater : (a b : ℕ) → ord_max nat_cmp a b ≡ max a b
greater a b = grind (arith, nat_tests)

-- So far the longest run and the one that goes on here are so long. This is what is known of the whole text's longest.
abbrev pub LongestIs : ℕ → ℕ → ℕ → Text → Type 0
LongestIs n longest run t = (run ≤ longest) × (n ≡ max longest (max (run + length (run_of (λ d. d == 35) t)) (longest_hashes t)))

-- behind a hash
pub longest_more : (n longest run more at : ℕ) (c : ℕ) (text t : Text) → LongestIs n longest run text → text ≡ c ∷ t → c ≡ 35 → more ≡ run + 1
    → at ≡ ord_max nat_cmp longest more → LongestIs n at more t
longest_more n longest run more at c text t k e h m q =
    let f = first_run t in
    let big : at ≡ max longest more = q ∙ greater longest more in
    let is : n ≡ max longest (max (run + suc (length (run_of (λ d. d == 35) t))) (max (suc (length (run_of (λ d. d == 35) t))) (longest_hashes t))) =
    k.1 ∙ rw (e, h) refl in
    (omega (arith, big), omega (arith, big, is, f, m))

other : (c : ℕ) → (c ≡ 35 → ⊥) → (c == 35) ≡ false
other c h = grind (arith, nat_tests)

-- behind another character
pub longest_other : (n longest run more at : ℕ) (c : ℕ) (text t : Text) → LongestIs n longest run text → text ≡ c ∷ t → (c ≡ 35 → ⊥) → more ≡ 0
    → at ≡ ord_max nat_cmp longest more → LongestIs n at more t
longest_other n longest run more at c text t k e h m q =
    let f = first_run t in
    let big : at ≡ max longest more = q ∙ greater longest more in
    let is : n ≡ max longest (max (run + 0) (max 0 (longest_hashes t))) = k.1 ∙ rw (e, other c h) refl in
    (omega (arith, big), omega (arith, big, is, f, m, k.0))

-- ---- the text between its quotes

pub raw_text : (text : List ℕ) (n : ℕ) → IsUtf8 text → needs_raw (chars text) ≡ true → n ≡ longest_hashes (chars text)
    → encode_utf8_all (unescaped (chars text)) ≡ codes "r#" ++ (hashes n ++ (codes "\"" ++ (text ++ (codes "\"#" ++ hashes n))))
raw_text text n u h e = bytes-raw (chars text) h ∙ ap₂ (λ k b. codes "r" ++ between_hashes (suc k) b) (sym e) (encodes-chars text u)

pub plain_text : (text : List ℕ) → IsUtf8 text → needs_raw (chars text) ≡ false → encode_utf8_all (unescaped (chars text)) ≡ codes "\"" ++ (text ++ codes "\"")
plain_text text u h = bytes-plain (chars text) h ∙ ap (λ b. codes "\"" ++ (b ++ codes "\"")) (encodes-chars text u)
