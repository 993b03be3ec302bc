-- A piece of bytes that is taken in steps.
use Rattle.std.proofs.Common.{◌≡◌, ℕ, ◌≤◌, ◌-◌, List, ◌++◌, length, take, drop, sym, ap, ◌∙◌, append_assoc, length-drop, arith}
use Rattle.std.proofs.lemmas.List.{take_all, take-append-drop}

-- what is left behind the first n bytes
pub rest_behind : (piece front rest : List ℕ) (n : ℕ) → piece ≡ front ++ rest → n ≤ length rest
    → piece ≡ (front ++ take n rest) ++ take (length rest - n) (drop n rest)
rest_behind piece front rest n whole within =
    let all : take (length rest - n) (drop n rest) ≡ drop n rest = take_all (length rest - n) (drop n rest) (omega (arith, length-drop n rest)) in
    whole ∙ ap (λ t. front ++ t) (sym (take-append-drop n rest)) ∙ sym (append_assoc front (take n rest) (drop n rest))
    ∙ ap (λ t. (front ++ take n rest) ++ t) (sym all)
