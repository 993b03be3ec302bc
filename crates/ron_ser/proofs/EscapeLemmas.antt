-- Escapes as they are put: by a letter, or by digits in base 16.
use Rattle.std.proofs.Common.{◌≡◌, ℕ, zero, suc, ◌<◌, ◌≤◌, ◌/◌, ◌%◌, ◌^◌, ◌==◌, Bool, true, false, not, ◌&&◌, cond, is_none, Some, None, List, [], ◌∷◌, ◌++◌}
use Rattle.std.proofs.Common.{codes, encode_utf8_all, refl, sym, ap, subst, ◌∙◌, append_assoc, arith}
use Rattle.std.specs.Fmt.{WritesInCalls, digits, digits_onto, digit_glyph}
use Rattle.std.proofs.lemmas.Bool.{false≢true, eqb-true}
use Rattle.std.proofs.lemmas.Str.{encode_ascii}
use Rattle.ron_base.specs.Escape.{short_escape, is_hidden, stands_as_it_is, escaped_char, short_byte, is_printed, byte_stands_as_it_is, escaped_byte}
use Rattle.ron_base.specs.declared.escape.Quotes.TheVariants.{Both}
use Rattle.ron_base.proofs.EscapeLemmas.{shown_short, shown_hidden}
use Rattle.ron_base.proofs.ByteLemmas.{byte_numbered}
use Rattle.ron_ser.proofs.Pieces.{both}

-- ---- by a letter

pub by_letter : (c letter : ℕ) → letter < 128 → short_escape Both c ≡ Some letter → 92 ∷ letter ∷ [] ≡ encode_utf8_all (escaped_char Both c)
by_letter c letter small e = ap (λ t. 92 ∷ t) (sym (encode_ascii letter small)) ∙ shown_short Both c letter e

-- ---- by its number

-- what is no letter's, and does not stand as it is, is hidden
hidden_of : (a b : Bool) → (a && not b) ≡ false → a ≡ true → b ≡ true
hidden_of a true h e = refl
hidden_of a false h e = absurd (cc (h, e))

pub by_number : (c : ℕ) → c < 2 ^ 32 → stands_as_it_is Both c ≡ false → short_escape Both c ≡ None
    → codes "\\u{" ++ (digits 16 false c ++ codes "}") ≡ encode_utf8_all (escaped_char Both c)
unfolding stands_as_it_is
by_number c small h e = shown_hidden Both c small e (hidden_of (is_none (short_escape Both c)) (is_hidden c) h (ap is_none e))

printed_of : (a b : Bool) → (a && b) ≡ false → a ≡ true → b ≡ false
printed_of a true h e = absurd (cc (h, e))
printed_of a false h e = refl

pub byte_by_number : (b : ℕ) → byte_stands_as_it_is b ≡ false → short_byte b ≡ None
    → codes "\\x" ++ (digit_glyph false (b / 16) ∷ digit_glyph false (b % 16) ∷ []) ≡ escaped_byte b
unfolding byte_stands_as_it_is
byte_by_number b h e = sym (byte_numbered b e (printed_of (is_none (short_byte b)) (is_printed b) h (ap is_none e)))

-- ---- digits in base 16

abbrev glyph : ℕ → ℕ
glyph n = digit_glyph false (n % 16)

-- what stands behind the digits stays there
behind : (k n : ℕ) (acc : List ℕ) → digits_onto k 16 false n acc ≡ digits_onto k 16 false n [] ++ acc
behind zero n acc = refl
behind (suc k) n acc =
    elim (n / 16 == 0) as (λ b. cond b (glyph n ∷ acc) (digits_onto k 16 false (n / 16) (glyph n ∷ acc))
    ≡ cond b (glyph n ∷ []) (digits_onto k 16 false (n / 16) (glyph n ∷ [])) ++ acc) [
      | true ↦ refl
      | false ↦ behind k (n / 16) (glyph n ∷ acc) ∙ sym (append_assoc (digits_onto k 16 false (n / 16) []) (glyph n ∷ []) acc)
          ∙ ap (λ t. t ++ acc) (sym (behind k (n / 16) (glyph n ∷ [])))
    ]

pub last_digit : (k n : ℕ) → n < 16 → digits_onto (suc k) 16 false n [] ≡ glyph n ∷ []
last_digit k n h =
    elim (n / 16 == 0) as (λ b. n / 16 == 0 ≡ b → cond b (glyph n ∷ []) (digits_onto k 16 false (n / 16) (glyph n ∷ [])) ≡ glyph n ∷ []) [
      | true ↦ λ e. refl
      | false ↦ λ e. absurd (false≢true (sym e ∙ ap (λ m. m == 0) {x = n / 16} {y = 0} (omega arith)))
    ] refl

pub more_digits : (k n : ℕ) → 16 ≤ n → digits_onto (suc k) 16 false n [] ≡ digits_onto k 16 false (n / 16) [] ++ (glyph n ∷ [])
more_digits k n h =
    elim (n / 16 == 0)
    as (λ b. n / 16 == 0 ≡ b → cond b (glyph n ∷ []) (digits_onto k 16 false (n / 16) (glyph n ∷ [])) ≡ digits_onto k 16 false (n / 16) [] ++ (glyph n ∷ [])) [
      | true ↦ λ e. absurd (let zero = eqb-true (n / 16) 0 e in omega (arith, zero))
      | false ↦ λ e. behind k (n / 16) (glyph n ∷ [])
    ] refl

module _ {W : Type 0} (took : W → List ℕ → W → Type 0) (n : ℕ) (w v u : W) (large : 16 ≤ n) (others : (k : ℕ) → n / 16 < 16 ^ suc k
    → WritesInCalls took w (digits_onto (suc k) 16 false (n / 16) []) v) (digit : WritesInCalls took v (glyph n ∷ []) u) where
  pub digits_put : (k : ℕ) → n < 16 ^ suc k → WritesInCalls took w (digits_onto (suc k) 16 false n []) u
  digits_put zero h = absurd (omega (arith, h, large))
  digits_put (suc k) h = subst (λ t. WritesInCalls took w t u) (sym (more_digits (suc k) n large)) (both took w _ v _ u (others k (omega (arith, h))) digit)
