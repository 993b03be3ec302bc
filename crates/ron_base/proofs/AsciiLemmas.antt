-- Texts of ASCII letters, digits and `_` are what may stand in a name: for the checks of names in `name.rt`.
use Rattle.std.proofs.Common.{◌≡◌, ℕ, zero, suc, ◌<◌, ◌||◌, ◌==◌, true, Bool, List, [], ◌∷◌, chars, refl, ◌∙◌, arith}
use Rattle.std.specs.List.{list_all}
use Rattle.std.specs.Char.{is_ascii_alphanumeric}
use Rattle.std.specs.Str.{IsAscii}
use Rattle.std.proofs.lemmas.Str.{chars-IsAscii}
use Rattle.std.proofs.lemmas.Bool.Decides.{nat_tests}
use Rattle.std.proofs.lemmas.Bool.{and_parts, or_right}
use Rattle.unicode_ident.proofs.IdentLemmas.{is_xid_continue-ascii}
use Rattle.ron_spec_words.specs.Characters.{continues_name, in_raw_name}

-- a letter, a digit or `_`
abbrev pub in_word : ℕ → Bool
in_word b = is_ascii_alphanumeric b || (b == 95)

below : (b : ℕ) → in_word b ≡ true → b < 128
below b h = grind (arith, nat_tests)

-- such a text is its own characters
pub word_chars : (w : List ℕ) → list_all in_word w ≡ true → chars w ≡ w
word_chars w h = chars-IsAscii w (each w h)
  where
    each : (w : List ℕ) → list_all in_word w ≡ true → IsAscii w
    each [] h i = omega arith
    each (b ∷ w) h zero = below b (and_parts (in_word b) (list_all in_word w) h).0
    each (b ∷ w) h (suc i) = each w (and_parts (in_word b) (list_all in_word w) h).1 i

-- a plain identifier goes on with it
pub word_continues : (w : List ℕ) → list_all in_word w ≡ true → list_all continues_name w ≡ true
word_continues [] h = refl
word_continues (b ∷ w) h =
    let p = and_parts (in_word b) (list_all in_word w) h in
    rw (is_xid_continue-ascii b (below b p.0), p.0) (word_continues w p.1)

-- and it stands in raw names
pub word_in_raw_name : (w : List ℕ) → list_all in_word w ≡ true → list_all in_raw_name w ≡ true
word_in_raw_name [] h = refl
word_in_raw_name (b ∷ w) h =
    let p = and_parts (in_word b) (list_all in_word w) h in
    let in_class : in_raw_name b ≡ true = or_right ((b == 46) || (b == 43) || (b == 45)) _ (is_xid_continue-ascii b (below b p.0) ∙ p.0) in
    rw in_class (word_in_raw_name w p.1)
