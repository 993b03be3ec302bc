-- What operations on bits do to a set's four booleans: for the calls of `Extensions`.
use Rattle.std.proofs.Common.{◌≡◌, ℕ, ◌+◌, ◌*◌, ◌-◌, ◌^◌, ◌<◌, ◌==◌, Bool, not, ◌&&◌, ◌||◌, if◌then◌else◌, List, [], ◌∷◌, length, codes, chars, encode_utf8_all}
use Rattle.std.proofs.Common.{IsUtf8, Decides, bytes_eq, Option, Some, None, option_map, min, max, bit_and, bit_or, w8, nat_cmp, refl, sym, ap, ◌∙◌, arith}
use Rattle.std.specs.Int.{bit_at}
use Rattle.std.specs.declared.cmp.Ordering.{Ordering}
use Rattle.std.proofs.Math.Dec.{eqb-suc-zero}
use Rattle.std.proofs.lemmas.Bool.Decides.{nat_tests, same_from_decides}
use Rattle.std.proofs.lemmas.Slice.Eq.{bytes_eq-Decides}
use Rattle.std.proofs.lemmas.Str.{chars-encodes, encodes-chars}
use lib.Utf8.{encode}
use Rattle.std.proofs.lemmas.Nat.Bits.{bit_at_and, bit_at_or, bit_at_not, bit_at-lt}
use Rattle.bitflags.specs.Sets.{Row, find_name, find_row}
use Rattle.ron_base.specs.Extensions.{ExtensionSet, union, intersection, difference, is_empty, bit, bits_of, set_of_bits, extension_of_name}

-- ---- one bit of a number, as a test

max-test : (x y : ℕ) → x < 2 → y < 2 → (max x y == 1) ≡ ((x == 1) || (y == 1))
max-test x y p q = grind (arith, nat_tests)

min-test : (x y : ℕ) → x < 2 → y < 2 → (min x y == 1) ≡ ((x == 1) && (y == 1))
min-test x y p q = grind (arith, nat_tests)

without-test : (x y : ℕ) → x < 2 → y < 2 → (min x (1 - y) == 1) ≡ ((x == 1) && not (y == 1))
without-test x y p q = grind (arith, nat_tests)

bit-test : (x : ℕ) → x < 2 → bit (x == 1) ≡ x
bit-test x p = grind (arith, nat_tests)

or_at : (a b i : ℕ) → (bit_at (bit_or a b) i == 1) ≡ ((bit_at a i == 1) || (bit_at b i == 1))
or_at a b i = ap (λ n. n == 1) (bit_at_or a b i) ∙ max-test _ _ (bit_at-lt a i) (bit_at-lt b i)

and_at : (a b i : ℕ) → (bit_at (bit_and a b) i == 1) ≡ ((bit_at a i == 1) && (bit_at b i == 1))
and_at a b i = ap (λ n. n == 1) (bit_at_and a b i) ∙ min-test _ _ (bit_at-lt a i) (bit_at-lt b i)

without_at : (a b i : ℕ) → b < 16 → i < 8 → (bit_at (bit_and a (2 ^ 8 - 1 - b)) i == 1) ≡ ((bit_at a i == 1) && not (bit_at b i == 1))
without_at a b i p q =
    ap (λ n. n == 1) (bit_at_and a (2 ^ 8 - 1 - b) i ∙ ap (λ n. min (bit_at a i) n) (bit_at_not w8 b i (omega arith) q))
    ∙ without-test _ _ (bit_at-lt a i) (bit_at-lt b i)

-- ---- the four bits together

set_of_bits-or : (a b : ℕ) → set_of_bits (bit_or a b) ≡ union (set_of_bits a) (set_of_bits b)
set_of_bits-or a b = rw (or_at a b 0, or_at a b 1, or_at a b 2, or_at a b 3) refl

set_of_bits-and : (a b : ℕ) → set_of_bits (bit_and a b) ≡ intersection (set_of_bits a) (set_of_bits b)
set_of_bits-and a b = rw (and_at a b 0, and_at a b 1, and_at a b 2, and_at a b 3) refl

set_of_bits-without : (a b : ℕ) → b < 16 → set_of_bits (bit_and a (2 ^ 8 - 1 - b)) ≡ difference (set_of_bits a) (set_of_bits b)
set_of_bits-without a b p =
    let at = λ (i : ℕ) (q : i < 8). without_at a b i p q in
    rw (at 0 (omega arith), at 1 (omega arith), at 2 (omega arith), at 3 (omega arith)) refl

bits_of-set_of_bits : (n : ℕ) → n < 16 → bits_of (set_of_bits n) ≡ n
bits_of-set_of_bits n p =
    let at = λ (i : ℕ). bit-test (bit_at n i) (bit_at-lt n i) in
    rw (at 0, at 1, at 2, at 3) (omega arith)

no_bits : (p q r s : Bool) → (bit p + 2 * bit q + 4 * bit r + 8 * bit s == 0) ≡ not (p || (q || (r || s)))
no_bits p q r s = grind (arith, nat_tests)

pub is_empty-set_of_bits : (n : ℕ) → n < 16 → is_empty (set_of_bits n) ≡ (n == 0)
is_empty-set_of_bits n p = sym (no_bits _ _ _ _) ∙ ap (λ m. m == 0) (bits_of-set_of_bits n p)

-- ---- operations: r is what the code's bits come to

pub union-bits : (r m n : ℕ) (a b : ExtensionSet) → r ≡ bit_or m n → set_of_bits m ≡ a → set_of_bits n ≡ b → set_of_bits r ≡ union a b
union-bits r m n a b h e f = rw (h, ← e, ← f) (set_of_bits-or m n)

pub intersection-bits : (r m n : ℕ) (a b : ExtensionSet) → r ≡ bit_and m n → set_of_bits m ≡ a → set_of_bits n ≡ b → set_of_bits r ≡ intersection a b
intersection-bits r m n a b h e f = rw (h, ← e, ← f) (set_of_bits-and m n)

pub difference-bits : (r m n : ℕ) (a b : ExtensionSet) → r ≡ bit_and m (2 ^ 8 - 1 - n) → set_of_bits m ≡ a → set_of_bits n ≡ b → n < 16
    → set_of_bits r ≡ difference a b
difference-bits r m n a b h e f p = rw (h, ← e, ← f) (set_of_bits-without m n p)

-- ---- order

pub nat_cmp-bits_of : (r : Ordering) (m n : ℕ) (a b : ExtensionSet) → r ≡ nat_cmp m n → set_of_bits m ≡ a → m < 16 → set_of_bits n ≡ b → n < 16
    → r ≡ nat_cmp (bits_of a) (bits_of b)
nat_cmp-bits_of r m n a b h e p f q = rw (← e, ← f, bits_of-set_of_bits m p, bits_of-set_of_bits n q) h

pub some_nat_cmp-bits_of : (r : Option Ordering) (m n : ℕ) (a b : ExtensionSet) → r ≡ Some (nat_cmp m n) → set_of_bits m ≡ a → m < 16 → set_of_bits n ≡ b
    → n < 16 → r ≡ Some (nat_cmp (bits_of a) (bits_of b))
some_nat_cmp-bits_of r m n a b h e p f q = rw (← e, ← f, bits_of-set_of_bits m p, bits_of-set_of_bits n q) h

-- ---- names

-- the rows of the code's table
abbrev pub table : List Row
table = (codes "unwrap_newtypes", 1) ∷ (codes "implicit_some", 2) ∷ (codes "unwrap_variant_newtypes", 4) ∷ (codes "explicit_struct_names", 8) ∷ []

-- the first of four values whose test holds
abbrev first_of : {A : Type 0} → (Bool × Bool × Bool × Bool) → (A × A × A × A) → Option A
first_of t v = if t.0 then Some v.0 else if t.1 then Some v.1 else if t.2 then Some v.2 else if t.3 then Some v.3 else None

-- which of the four names a text is
abbrev names_met : List ℕ → Bool × Bool × Bool × Bool
names_met name = (
  bytes_eq (codes "unwrap_newtypes") name,
  bytes_eq (codes "implicit_some") name,
  bytes_eq (codes "unwrap_variant_newtypes") name,
  bytes_eq (codes "explicit_struct_names") name,
)

find_name-cons : (x : ℕ) (xs : List ℕ) → find_name table (x ∷ xs) ≡ first_of (names_met (x ∷ xs)) (1, 2, 4, 8)
unfolding find_row
find_name-cons x xs = rw (eqb-suc-zero (length xs)) refl

option_map-first_of : (p q r s : Bool)
    → option_map set_of_bits (first_of (p, q, r, s) (1, 2, 4, 8)) ≡ first_of (p, q, r, s) (set_of_bits 1, set_of_bits 2, set_of_bits 4, set_of_bits 8)
option_map-first_of p q r s = grind arith

pub option_map-find_name : (name : List ℕ) → option_map set_of_bits (find_name table name) ≡ extension_of_name name
option_map-find_name [] = refl
option_map-find_name (x ∷ xs) =
    let t = names_met (x ∷ xs) in
    ap (option_map set_of_bits) (find_name-cons x xs) ∙ option_map-first_of t.0 t.1 t.2 t.3

first_of-lt : (p q r s : Bool) (n : ℕ) → Some n ≡ first_of (p, q, r, s) (1, 2, 4, 8) → n < 16
first_of-lt p q r s n h = grind arith

pub find_name-lt : (name : List ℕ) (n : ℕ) → Some n ≡ find_name table name → n < 16
find_name-lt [] n h = absurd (cc)
find_name-lt (x ∷ xs) n h = let t = names_met (x ∷ xs) in first_of-lt t.0 t.1 t.2 t.3 n (h ∙ find_name-cons x xs)

-- ASCII bytes are met by the same bytes and by the same characters
met : (w bs : List ℕ) → chars w ≡ w → encode_utf8_all w ≡ w → IsUtf8 bs → bytes_eq w bs ≡ bytes_eq w (chars bs)
met w bs c e u =
    let by_chars : Decides (bytes_eq w bs) (w ≡ chars bs) =
    (λ t. sym c ∙ ap chars ((bytes_eq-Decides w bs).0 t), λ k. (bytes_eq-Decides w bs).1 (sym e ∙ ap encode_utf8_all k ∙ encodes-chars bs u)) in
    same_from_decides (bytes_eq w bs) (bytes_eq w (chars bs)) by_chars (bytes_eq-Decides w (chars bs))

pub by_characters : (bs : List ℕ) → IsUtf8 bs → extension_of_name bs ≡ extension_of_name (chars bs)
unfolding encode
by_characters bs u =
    let first = met (codes "unwrap_newtypes") bs (chars-encodes (codes "unwrap_newtypes") refl) refl u in
    let second = met (codes "implicit_some") bs (chars-encodes (codes "implicit_some") refl) refl u in
    let third = met (codes "unwrap_variant_newtypes") bs (chars-encodes (codes "unwrap_variant_newtypes") refl) refl u in
    let fourth = met (codes "explicit_struct_names") bs (chars-encodes (codes "explicit_struct_names") refl) refl u in
    rw (first, second, third, fourth) refl
