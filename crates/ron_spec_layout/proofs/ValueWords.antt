-- Numbers and texts of values as they are written without a schema: for the layouts of values and for `ron_ser`.
use Rattle.std.proofs.Common.{◌≡◌, ℕ, suc, ◌≤◌, Bool, true, false, ◌&&◌, cond, ℤ, pos, negsuc, int_le, int_lt, List, [], ◌∷◌, ◌++◌, Option, Some, option_map}
use Rattle.std.proofs.Common.{find, chars, IsUtf8, refl, sym, ap, ◌∙◌, arith}
use Rattle.std.specs.List.{list_all}
use Rattle.std.specs.Option.{unwrap_or}
use lib.Utf8.{scalar, scalars}
use Rattle.std.proofs.lemmas.Bool.{and_parts, and_from, le-leb, leb-true}
use Rattle.std.proofs.lemmas.Str.{encodes-chars, scalars-chars}
use Rattle.ron_value_number.specs.declared.width.Width.{Width}
use Rattle.ron_value_number.specs.declared.width.Width.TheVariants.{I8, I16, I32, I64, I128, U8, U16, U32, U64, U128}
use Rattle.ron_value_number.specs.Width.{least, greatest, fits}
use Rattle.ron_value_number.specs.Smallest.{smallest_width}
use Rattle.ron_value.specs.Tree as tree
use Rattle.ron_spec_grammar.specs.Values.Trees.{in_smallest_width}
use Rattle.ron_spec_grammar.specs.Values.Grammar.{number_tree, text_value}
use Rattle.ron_spec_layout.proofs.Integers.{plain_numeral}

-- ---- texts

pub text_is : (bs : List ℕ) → IsUtf8 bs → text_value (chars bs) ≡ Some (tree.text bs)
text_is bs u = ap (λ b. Some (tree.text b)) (encodes-chars bs u)

-- a text's characters are scalar values
pub text_scalars : (bs : List ℕ) → IsUtf8 bs → list_all scalar (chars bs) ≡ true
text_scalars bs u = each (chars bs) ∙ scalars-chars bs u
  where
    each : (cs : List ℕ) → list_all scalar cs ≡ scalars cs
    each [] = refl
    each (c ∷ cs) = ap (λ b. scalar c && b) (each cs)

-- ---- numbers

-- where the last passes the test, one is found
found : {A : Type 0} (p : A → Bool) (l : List A) (e : A) → p e ≡ true → (a : A) × (find p (l ++ (e ∷ [])) ≡ Some a)
found p [] e h = (e, rw h refl)
found {A = A} p (a ∷ l) e h = go (p a) (found p l e h)
  where
    go : (b : Bool) → (z : A) × (find p (l ++ (e ∷ [])) ≡ Some z) → (z : A) × (cond b (Some a) (find p (l ++ (e ∷ []))) ≡ Some z)
    go true z = (a, refl)
    go false z = z

-- the greatest widths hold what any width of the sign holds
fits_unsigned : (w : Width) (n : ℕ) → fits w (pos n) ≡ true → fits U128 (pos n) ≡ true
fits_unsigned w n h = and_from (int_le (least U128) (pos n)) (int_le (pos n) (greatest U128)) (le-leb 0 n (omega arith))
    (le-leb n 340282366920938463463374607431768211455 (at_most w (and_parts (int_le (least w) (pos n)) (int_le (pos n) (greatest w)) h).1))
  where
    at_most : (w : Width) → int_le (pos n) (greatest w) ≡ true → n ≤ 340282366920938463463374607431768211455
    at_most I8 h = omega (arith, leb-true n _ h)
    at_most _ h = omega (arith, leb-true n _ h)

fits_signed : (w : Width) (n : ℕ) → fits w (negsuc n) ≡ true → fits I128 (negsuc n) ≡ true
fits_signed w n h = and_from (int_le (least I128) (negsuc n)) (int_le (negsuc n) (greatest I128))
    (le-leb n 170141183460469231731687303715884105727 (at_least w (and_parts (int_le (least w) (negsuc n)) (int_le (negsuc n) (greatest w)) h).0)) refl
  where
    at_least : (w : Width) → int_le (least w) (negsuc n) ≡ true → n ≤ 170141183460469231731687303715884105727
    at_least I8 h = omega (arith, leb-true n _ h)
    at_least I16 h = omega (arith, leb-true n _ h)
    at_least I32 h = omega (arith, leb-true n _ h)
    at_least I64 h = omega (arith, leb-true n _ h)
    at_least I128 h = omega (arith, leb-true n _ h)
    at_least _ h = absurd (cc)

not_negative : (n : ℕ) → int_lt (pos n) (pos 0) ≡ false
not_negative n = go (int_lt (pos n) (pos 0)) refl
  where
    go : (b : Bool) → int_lt (pos n) (pos 0) ≡ b → b ≡ false
    go true h = absurd (let lt = leb-true (suc n) 0 h in omega (arith, lt))
    go false h = refl

smallest_unsigned : (w : Width) (n : ℕ) → fits w (pos n) ≡ true → (v : Width) × (smallest_width false (pos n) ≡ Some v)
unfolding smallest_width
smallest_unsigned w n h = found (λ v. fits v (pos n)) (U8 ∷ U16 ∷ U32 ∷ U64 ∷ []) U128 (fits_unsigned w n h)

smallest_signed : (w : Width) (n : ℕ) → fits w (negsuc n) ≡ true → (v : Width) × (smallest_width true (negsuc n) ≡ Some v)
unfolding smallest_width
smallest_signed w n h = found (λ v. fits v (negsuc n)) (I8 ∷ I16 ∷ I32 ∷ I64 ∷ []) I128 (fits_signed w n h)

-- a width that is found is the one that is taken
taken : (o : Option Width) (w v : Width) (n : ℤ) → o ≡ Some v → option_map (λ u. tree.number u n) o ≡ Some (tree.number (unwrap_or o w) n)
taken o w v n e = rw e refl

-- an integer without a suffix has the smallest width
pub number_is : (w : Width) (n : ℤ) → fits w n ≡ true → number_tree (plain_numeral n) ≡ Some (in_smallest_width w n)
number_is w (pos n) h =
    let found = smallest_unsigned w n h in
    taken (smallest_width false (pos n)) w found.0 (pos n) found.1
    ∙ ap (λ b. Some (tree.number (unwrap_or (smallest_width b (pos n)) w) (pos n))) (sym (not_negative n))
number_is w (negsuc n) h =
    let found = smallest_signed w n h in
    taken (smallest_width true (negsuc n)) w found.0 (negsuc n) found.1
