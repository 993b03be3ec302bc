-- Elements of lists that stand behind one another: for tables that are put together.
use Rattle.std.proofs.Common.{◌≡◌, ℕ, zero, suc, ◌+◌, Bool, true, false, cond, List, [], ◌∷◌, ◌++◌, map, length, take, get_or, Some, option_map, find}
use Rattle.std.proofs.Common.{slice_get, refl, sym, ap, subst, ◌∙◌, arith, add-zero, add-one, zero-add, ◌<◌}
use Rattle.ron_types.specs.Lists.{Each}

-- what stands in the first list, stands there still
pub get_front : {A : Type 0} (xs ys : List A) (i : ℕ) (a : A) → slice_get xs i ≡ Some a → slice_get (xs ++ ys) i ≡ Some a
get_front [] ys i a e = absurd (cc)
get_front (x ∷ xs) ys zero a e = e
get_front (x ∷ xs) ys (suc i) a e = get_front xs ys i a e

-- what stands in the second, stands behind the first
pub get_back : {A : Type 0} (xs ys : List A) (i : ℕ) → slice_get (xs ++ ys) (length xs + i) ≡ slice_get ys i
get_back [] ys i = ap (slice_get ys) (zero-add i)
get_back (x ∷ xs) ys i =
    let next : suc (length xs) + i ≡ suc (length xs + i) = omega arith in
    ap (slice_get (x ∷ (xs ++ ys))) next ∙ get_back xs ys i

-- the last element
pub get_last : {A : Type 0} (xs : List A) (a : A) → slice_get (xs ++ a ∷ []) (length xs) ≡ Some a
get_last xs a = ap (slice_get (xs ++ a ∷ [])) (sym (add-zero (length xs))) ∙ get_back xs (a ∷ []) 0

-- a change of what passes a test, and passes it as before, comes behind the search
pub find-map : {A B : Type 0} (p : B → Bool) (q : A → Bool) (f : A → B) → ((a : A) → p (f a) ≡ q a) → (xs : List A)
    → find p (map f xs) ≡ option_map f (find q xs)
find-map p q f same [] = refl
find-map {A} {B} p q f same (x ∷ xs) = ap (λ b. cond b (Some (f x)) (find p (map f xs))) (same x) ∙ go (q x) (find-map p q f same xs)
  where
    go : (b : Bool) → find p (map f xs) ≡ option_map f (find q xs) → cond b (Some (f x)) (find p (map f xs)) ≡ option_map f (cond b (Some x) (find q xs))
    go true h = refl
    go false h = h

pub map-same : {A : Type 0} (f : A → A) → ((a : A) → f a ≡ a) → (xs : List A) → map f xs ≡ xs
map-same f same [] = refl
map-same f same (x ∷ xs) = λ i. same x i ∷ map-same f same xs i

-- one more has been passed
pub passed_more : {A : Type 0} (P : A → Type 0) (xs : List A) (i : ℕ) (x : A) → i < length xs → x ≡ get_or xs i x → P x → Each P (take i xs)
    → Each P (take (i + 1) xs)
passed_more {A} P xs i x less at p h = subst (λ n. Each P (take n xs)) (sym (add-one i)) (go xs i less at h)
  where
    go : (xs : List A) (i : ℕ) → i < length xs → x ≡ get_or xs i x → Each P (take i xs) → Each P (take (suc i) xs)
    go [] i less at h = absurd (omega arith)
    go (y ∷ ys) zero less at h = (subst P at p, tt)
    go (y ∷ ys) (suc i) less at h = (h.0, go ys i (omega arith) at h.1)
