-- Copies that are made one after another: for the lists that `Schema::import` moves.
use Rattle.std.proofs.Common.{◌≡◌, ◌≤◌, ◌++◌, ℕ, List, [], ◌∷◌, map, drop, length, refl, sym, ap, ◌∙◌}
use Rattle.std.proofs.lemmas.List.{append-nil, drop_all}

map-twice : {X Y : Type 0} (view : X → Y) (g : Y → Y) (xs : List X) → map (λ x. g (view x)) xs ≡ map g (map view xs)
map-twice view g [] = refl
map-twice view g (x ∷ xs) = ap (λ ys. g (view x) ∷ ys) (map-twice view g xs)

-- behind the last, all are made, and stand behind what stood in front
pub all_behind : {X Y : Type 0} (view : X → Y) (g : Y → Y) (made front : List Y) (xs : List X) (n : ℕ) → length xs ≤ n
    → made ++ map (λ x. g (view x)) (drop n xs) ≡ front ++ map (λ x. g (view x)) xs → made ≡ front ++ map g (map view xs)
all_behind view g made front xs n le e =
    sym (append-nil made) ∙ ap (λ rest. made ++ map (λ x. g (view x)) rest) (sym (drop_all n xs le)) ∙ e ∙ ap (λ ys. front ++ ys) (map-twice view g xs)

pub all_made : {X Y : Type 0} (view : X → Y) (g : Y → Y) (made xs : List X) (n : ℕ) → length xs ≤ n
    → map view made ++ map (λ x. g (view x)) (drop n xs) ≡ map (λ x. g (view x)) xs → map view made ≡ map g (map view xs)
all_made view g made xs n le e = all_behind view g (map view made) [] xs n le e
