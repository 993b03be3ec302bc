-- Bytes as they are escaped, one at a time: for the byte strings that `ron_ser` writes.
use Rattle.std.proofs.Common.{◌≡◌, ℕ, ◌<◌, ◌/◌, ◌%◌, Bool, true, false, if◌then◌else◌, ◌&&◌, ◌||◌, ◌==◌, nat_lt, nat_le, ◌≤◌, List, [], ◌∷◌, ◌++◌, Option, Some}
use Rattle.std.proofs.Common.{None, codes, encode_utf8_all, ◌+◌, is_none, IfSome, subst, refl, sym, ap, ◌∙◌, arith}
use Rattle.std.specs.List.{list_all}
use Rattle.std.specs.Fmt.{digit_glyph}
use Rattle.std.specs.Str.{IsAscii}
use Rattle.std.proofs.lemmas.Bool.{false≢true, and_parts, eqb-true, ltb-true, leb-true}
use Rattle.std.proofs.lemmas.Str.{encodes-IsAscii, IsAscii-append}
use Rattle.std.proofs.lemmas.Str.Ascii.{IsAscii-nil, IsAscii-cons}
use Rattle.ron_spec_words.specs.Characters.{Text}
use Rattle.ron_base.specs.Escape.{short_byte, is_printed, escaped_byte, escaped_bytes, byte_stands_as_it_is}

-- `\xhh`
abbrev pub by_number : ℕ → Text
by_number b = codes "\\x" ++ (digit_glyph false (b / 16) ∷ digit_glyph false (b % 16) ∷ [])

-- a byte by its short escape where it has one
abbrev pub byte_as : ℕ → Option ℕ → Text
byte_as b (Some letter) = 92 ∷ letter ∷ []
byte_as b None = if is_printed b then b ∷ [] else by_number b

byte_is : (b : ℕ) → escaped_byte b ≡ byte_as b (short_byte b)
unfolding escaped_byte short_byte
byte_is b = go (b == 9) (b == 13) (b == 10) (b == 39) (b == 34) (b == 92) (eqb-true b 39) (eqb-true b 34) (eqb-true b 92)
  where
    go : (t r n u v w : Bool) → (u ≡ true → b ≡ 39) → (v ≡ true → b ≡ 34) → (w ≡ true → b ≡ 92)
        → (if t then codes "\\t" else if r then codes "\\r" else if n then codes "\\n" else if u || (v || w) then 92 ∷ b ∷ [] else byte_as b None)
        ≡ byte_as b
        (if t then Some 116 else if r then Some 114 else if n then Some 110 else if u then Some 39 else if v then Some 34 else if w then Some 92 else None)
    go true r n u v w f g h = refl
    go false true n u v w f g h = refl
    go false false true u v w f g h = refl
    go false false false true v w f g h = ap (λ c. 92 ∷ c ∷ []) (f refl)
    go false false false false true w f g h = ap (λ c. 92 ∷ c ∷ []) (g refl)
    go false false false false false true f g h = ap (λ c. 92 ∷ c ∷ []) (h refl)
    go false false false false false false f g h = refl

pub byte_short : (b letter : ℕ) → short_byte b ≡ Some letter → escaped_byte b ≡ 92 ∷ letter ∷ []
byte_short b letter e = byte_is b ∙ ap (byte_as b) e

pub byte_numbered : (b : ℕ) → short_byte b ≡ None → is_printed b ≡ false → escaped_byte b ≡ by_number b
byte_numbered b e p = byte_is b ∙ ap (byte_as b) e ∙ ap (λ t. if t then b ∷ [] else by_number b) p

-- a byte that stands as it is is shown as itself
pub byte_as_it_is : (b : ℕ) → byte_stands_as_it_is b ≡ true → escaped_byte b ≡ b ∷ []
unfolding byte_stands_as_it_is
byte_as_it_is b h = byte_is b ∙ go (short_byte b) h
  where
    go : (o : Option ℕ) → (is_none o && is_printed b) ≡ true → byte_as b o ≡ b ∷ []
    go None k = ap (λ t. if t then b ∷ [] else by_number b) k
    go (Some letter) k = absurd (false≢true k)

-- ---- they are ASCII

glyph : (d : ℕ) → d < 16 → digit_glyph false d < 128
glyph d h = elim (nat_lt d 10)
    as (λ t. nat_lt d 10 ≡ t → (if t then 48 + d else 87 + d) < 128) [ true ↦ λ k. let l = ltb-true d 10 k in omega arith | false ↦ λ k. omega arith ] refl

number_ascii : (b : ℕ) → b < 256 → IsAscii (by_number b)
number_ascii b small =
    let high = digit_glyph false (b / 16) in
    let low = digit_glyph false (b % 16) in
    IsAscii-cons 92 (120 ∷ high ∷ low ∷ []) (omega arith) (IsAscii-cons 120 (high ∷ low ∷ []) (omega arith)
    (IsAscii-cons high (low ∷ []) (glyph (b / 16) (omega arith)) (IsAscii-cons low [] (glyph (b % 16) (omega arith)) IsAscii-nil)))

short_small : (b : ℕ) → IfSome (short_byte b) (λ letter. letter < 128)
unfolding short_byte
short_small b = go (b == 9) (b == 13) (b == 10) (b == 39) (b == 34) (b == 92)
  where
    go : (t r n u v w : Bool) → IfSome (if t then Some 116 else if r then Some 114 else if n then Some 110 else if u then Some 39 else if v then Some 34
        else if w then Some 92 else None) (λ letter. letter < 128)
    go true r n u v w = omega arith
    go false true n u v w = omega arith
    go false false true u v w = omega arith
    go false false false true v w = omega arith
    go false false false false true w = omega arith
    go false false false false false true = omega arith
    go false false false false false false = tt

letter_small : (b letter : ℕ) → short_byte b ≡ Some letter → letter < 128
letter_small b letter e = subst (λ o. IfSome o (λ k. k < 128)) e (short_small b)

printed_small : (b : ℕ) → is_printed b ≡ true → b < 128
printed_small b p = let k : b ≤ 126 = leb-true b 126 (and_parts (nat_le 32 b) (nat_le b 126) p).1 in omega arith

as_ascii : (b : ℕ) (o : Option ℕ) → b < 256 → short_byte b ≡ o → IsAscii (byte_as b o)
as_ascii b None small e = elim (is_printed b) as (λ t. is_printed b ≡ t
    → IsAscii (if t then b ∷ [] else by_number b)) [ true ↦ λ p. IsAscii-cons b [] (printed_small b p) IsAscii-nil | false ↦ λ p. number_ascii b small ] refl
as_ascii b (Some letter) small e = IsAscii-cons 92 (letter ∷ []) (omega arith) (IsAscii-cons letter [] (letter_small b letter e) IsAscii-nil)

pub byte_ascii : (b : ℕ) → b < 256 → IsAscii (escaped_byte b)
byte_ascii b small = subst IsAscii (sym (byte_is b)) (as_ascii b (short_byte b) small refl)

bytes_ascii : (bs : List ℕ) → list_all (λ b. nat_lt b 256) bs ≡ true → IsAscii (escaped_bytes bs)
bytes_ascii [] h = IsAscii-nil
bytes_ascii (b ∷ bs) h = let p = and_parts (nat_lt b 256) (list_all (λ b. nat_lt b 256) bs) h in
    IsAscii-append (escaped_byte b) (escaped_bytes bs) (byte_ascii b (ltb-true b 256 p.0)) (bytes_ascii bs p.1)

-- escaped bytes are their own UTF-8
pub ascii_bytes : (bs : List ℕ) → list_all (λ b. nat_lt b 256) bs ≡ true → encode_utf8_all (escaped_bytes bs) ≡ escaped_bytes bs
ascii_bytes bs h = encodes-IsAscii (escaped_bytes bs) (bytes_ascii bs h)

-- so are bytes that stand as they are
pub standing_ascii : (bs : List ℕ) → list_all byte_stands_as_it_is bs ≡ true → IsAscii bs
unfolding byte_stands_as_it_is
standing_ascii [] h = IsAscii-nil
standing_ascii (b ∷ bs) h =
    let p = and_parts (byte_stands_as_it_is b) (list_all byte_stands_as_it_is bs) h in
    IsAscii-cons b bs (printed_small b (and_parts (is_none (short_byte b)) (is_printed b) p.0).1) (standing_ascii bs p.1)
