-- ASCII words as characters, and words that are longer than a text or begin otherwise: for `is_value_word`.
use Rattle.std.proofs.Common.{◌≡◌, ℕ, zero, suc, ◌<◌, ◌≤◌, ◌==◌, nat_lt, arith, true, false, List, [], ◌∷◌, length, chars, IsUtf8, refl, subst}
use Rattle.std.specs.List.{list_all, list_any}
use Rattle.std.specs.Str.{IsAscii}
use Rattle.std.proofs.lemmas.Str.{chars-IsAscii, encodes-chars, length-le-encodes}
use Rattle.std.proofs.lemmas.Bool.Decides.{nat_tests}
use Rattle.std.proofs.lemmas.Bool.{and_parts, or_parts}
use Rattle.std.proofs.Math.Bool.{and-false}
use Rattle.ron_spec_words.specs.Characters.{Text}
use Rattle.ron_spec_words.specs.Runs.{begins, same_text}

-- ASCII is its own characters
pub ascii_chars : (w : List ℕ) → list_all (λ c. nat_lt c 128) w ≡ true → chars w ≡ w
ascii_chars w h = chars-IsAscii w (each w h)
  where
    below : (c : ℕ) → nat_lt c 128 ≡ true → c < 128
    below c e = grind (arith, nat_tests)

    each : (w : List ℕ) → list_all (λ c. nat_lt c 128) w ≡ true → IsAscii w
    each [] h i = omega arith
    each (c ∷ w) h zero = below c (and_parts (nat_lt c 128) (list_all (λ c. nat_lt c 128) w) h).0
    each (c ∷ w) h (suc i) = each w (and_parts (nat_lt c 128) (list_all (λ c. nat_lt c 128) w) h).1 i

-- a text is none of the words where none of them begins as it does
pub begins_none : (c : ℕ) (s : Text) (words : List Text) → list_any (begins (λ d. c == d)) words ≡ false → list_any (same_text (c ∷ s)) words ≡ false
begins_none c s [] h = refl
begins_none c s ([] ∷ words) h = begins_none c s words h
begins_none c s ((d ∷ w) ∷ words) h =
    let p = or_parts (c == d) (list_any (begins (λ d. c == d)) words) h in
    rw p.0 (begins_none c s words p.1)

-- texts of fewer characters than a word has are another
differs : (s w : Text) → length s < length w → same_text s w ≡ false
differs s [] h = absurd (omega (arith, h))
differs [] (d ∷ w) h = refl
differs (c ∷ s) (d ∷ w) h = rw (differs s w (omega (arith, h))) (and-false (c == d))

-- a text of fewer than three bytes is none of the words where each has three characters and more
pub short_none : (name : List ℕ) (words : List Text) → IsUtf8 name → length name < 3 → list_all (λ w. nat_lt 2 (length w)) words ≡ true
    → list_any (same_text (chars name)) words ≡ false
short_none name [] u few long = refl
short_none name (w ∷ words) u few long =
    let p = and_parts (nat_lt 2 (length w)) (list_all (λ w. nat_lt 2 (length w)) words) long in
    rw (differs (chars name) w (fewer w p.0)) (short_none name words u few p.1)
  where
    at_most : length (chars name) ≤ length name
    at_most = subst (λ bs. length (chars name) ≤ length bs) (encodes-chars name u) (length-le-encodes (chars name))

    fewer : (w : Text) → nat_lt 2 (length w) ≡ true → length (chars name) < length w
    fewer w h = grind (arith, nat_tests, at_most, few)
