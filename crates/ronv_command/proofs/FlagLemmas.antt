-- Numbers of digits, flags word by word, and a level's spaces.
use Rattle.std.proofs.Common.{◌≡◌, ℕ, zero, suc, ◌-◌, ◌^◌, ◌<◌, ◌≤◌, nat_le, Bool, true, false, ◌&&◌, cond, List, [], ◌∷◌, length, take, codes, chars, map}
use Rattle.std.proofs.Common.{string_bytes, String, Global, IsCharBoundary, Option, Some, None, Result, Ok, Err, slice_range, refl, sym, ap, ap₂, ◌∙◌, arith}
use Rattle.std.specs.List.{list_all}
use Rattle.std.specs.Str.{IsAscii}
use Rattle.std.proofs.lemmas.Str.{chars-IsAscii, IsCharBoundary-from_ascii}
use Rattle.std.proofs.lemmas.Str.Ascii.{IsAscii-nil, IsAscii-cons}
use Rattle.std.specs.Char.{is_ascii_digit}
use Rattle.std.specs.Str.Parse.{digits_value, ParsesUnsigned}
use Rattle.std.specs.Result.{OkIff}
use Rattle.std.proofs.lemmas.Bool.{and_parts, leb-true, le-leb}
use Rattle.std.proofs.lemmas.Str.Parse.{IsDigitsTest, numerals_by_value, parse_digits}
use Rattle.ron.specs.Config.{times}
use Rattle.ronv_command.specs.declared.flags.Flags.{Flags}
use Rattle.ronv_command.specs.Flags.{Word, number_up_to, takes_number, with_switch, with_number, flags_behind}

-- ---- numbers

tells : IsDigitsTest (λ w. list_all is_ascii_digit w ≡ true)
tells = record {
  empty = refl;
  parts = λ c w e. let k = and_parts (is_ascii_digit c) (list_all is_ascii_digit w) e in
      let m = and_parts (nat_le 48 c) (nat_le c 57) k.0 in
      ((leb-true 48 c m.0, leb-true c 57 m.1), k.1);
  more = λ c w k e. rw (le-leb 48 c k.0, le-leb c 57 k.1, e) refl;
}

-- a number that is read, where it is at most so much
abbrev pub within : {E : Type 0} → ℕ → Result ℕ E → Option ℕ
within most (Ok n) = cond (nat_le n most) (Some n) None
within most (Err e) = None

over : (most v : ℕ) (P : Type 0) → most < 2 ^ 64 → P → (P × (v < 2 ^ 64) → ⊥) → cond (nat_le v most) (Some v) None ≡ None
over most v P small p h = go (nat_le v most) refl
  where
    go : (b : Bool) → nat_le v most ≡ b → cond b (Some v) None ≡ None
    go true e = absurd (h (p, omega (arith, leb-true v most e, small)))
    go false e = refl

pub number_is : {E : Type 0} (most : ℕ) (w : Word) (r : Result ℕ E) → most < 2 ^ 64 → list_all is_ascii_digit w ≡ true → ParsesUnsigned 64 10 w r
    → number_up_to most w ≡ within most r
number_is most w r small digits parses = go w r digits (parse_digits (numerals_by_value _ tells) 64 w r parses digits)
  where
    go : {E : Type 0} (w : Word) (r : Result ℕ E) → list_all is_ascii_digit w ≡ true
        → OkIff r ((0 < length w) × (digits_value 10 w < 2 ^ 64)) (digits_value 10 w) → number_up_to most w ≡ within most r
    go [] (Ok n) digits h = absurd (omega (arith, h.0.0))
    go [] (Err e) digits h = refl
    go (c ∷ w) (Ok n) digits h = ap (λ b. cond (b && nat_le (digits_value 10 (c ∷ w)) most) (Some (digits_value 10 (c ∷ w))) None) digits
        ∙ ap (λ m. cond (nat_le m most) (Some m) None) (sym h.1)
    go (c ∷ w) (Err e) digits h = ap (λ b. cond (b && nat_le (digits_value 10 (c ∷ w)) most) (Some (digits_value 10 (c ∷ w))) None) digits
        ∙ over most (digits_value 10 (c ∷ w)) (0 < length (c ∷ w)) small (omega arith) h

-- ---- flags

switch_first : (f : Flags) (w : Word) (words : List Word) → takes_number w ≡ false → flags_behind (Some f) (w ∷ words) ≡ flags_behind (with_switch f w) words
switch_first f w [] e = rw e (alone (with_switch f w))
  where
    alone : (o : Option Flags) → o ≡ flags_behind o []
    alone None = refl
    alone (Some g) = refl
switch_first f w (v ∷ words) e = rw e refl

number_first : (f : Flags) (w v : Word) (words : List Word) → takes_number w ≡ true
    → flags_behind (Some f) (w ∷ v ∷ words) ≡ flags_behind (with_number f w v) words
number_first f w v words e = rw e refl

-- ---- spaces

abbrev space : List ℕ
space = codes " "

front : (m k : ℕ) → m ≤ k → take m (times k space) ≡ times m space
front zero k h = refl
front (suc m) zero h = absurd (omega (arith, h))
front (suc m) (suc k) h = ap (λ t. 32 ∷ t) (front m k (omega (arith, h)))

spaces_ascii : (n : ℕ) → IsAscii (times n space)
spaces_ascii zero = IsAscii-nil
spaces_ascii (suc n) = IsAscii-cons 32 (times n space) (omega arith) (spaces_ascii n)

pub spaces_are : (n : ℕ) (text : List ℕ) → n ≤ 16 → text ≡ slice_range (times 16 space) 0 n → chars text ≡ times n space
spaces_are n text h e =
    ap chars (e ∙ ap (λ k. take k (times 16 space)) (let k : n - 0 ≡ n = omega arith in k) ∙ front n 16 h) ∙ chars-IsAscii (times n space) (spaces_ascii n)

pub spaces_boundary : (n : ℕ) → n ≤ 16 → IsCharBoundary (times 16 space) n
spaces_boundary n h = IsCharBoundary-from_ascii (times 16 space) n (spaces_ascii 16) (omega (arith, h))

-- ---- the words that are left

module _ (f : Flags) (rest behind : List (String Global)) (w : String Global) (word : Word) (is : rest ≡ w ∷ behind) (spelled : word ≡ string_bytes w) where
  pub switch_next : takes_number word ≡ false → flags_behind (Some f) (map string_bytes rest) ≡ flags_behind (with_switch f word) (map string_bytes behind)
  switch_next alone = ap (λ r. flags_behind (Some f) (map string_bytes r)) is ∙ ap (λ v. flags_behind (Some f) (v ∷ map string_bytes behind)) (sym spelled)
      ∙ switch_first f word (map string_bytes behind) alone

  pub number_next : (words : List (String Global)) (v : String Global) (number : Word) → behind ≡ v ∷ words → number ≡ string_bytes v → takes_number word ≡ true
      → flags_behind (Some f) (map string_bytes rest) ≡ flags_behind (with_number f word number) (map string_bytes words)
  number_next words v number more digits takes = ap (λ r. flags_behind (Some f) (map string_bytes r)) (is ∙ ap (λ b. w ∷ b) more) ∙ ap₂
      (λ u n. flags_behind (Some f) (u ∷ n ∷ map string_bytes words)) (sym spelled) (sym digits) ∙ number_first f word number (map string_bytes words) takes
