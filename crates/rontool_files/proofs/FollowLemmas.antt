-- A path that leads through a link.
use Rattle.std.proofs.Common.{◌≡◌, ◌-◌, ◌∙◌, ℕ, zero, suc, List, Some, Result, Ok, Err, IfOk, refl, ap, sym, arith}
use Rattle.rontool_files.specs.Thing.{Paths, end_of, end_behind}
use Rattle.rontool_files.specs.Thing.Thing.{link}

-- A path with a link ends where the link's target ends.
pub end_step : (paths : Paths) (turns : ℕ) (path to : List ℕ) → (turns ≡ 0 → ⊥) → paths path ≡ Some (link to)
    → end_of paths turns path ≡ end_of paths (turns - 1) to
end_step paths zero path to some at = absurd (some refl)
end_step paths (suc turns) path to some at = let one : suc turns - 1 ≡ turns = omega arith in
    ap (end_behind (end_of paths turns) path) at ∙ ap (λ n. end_of paths n to) (sym one)

-- What is found behind a link is found before it.
pub end_through : {A E : Type 0} (bytes : A → List ℕ) (r : Result A E) (before after : Paths) (turns : ℕ) (path to : List ℕ) → (turns ≡ 0 → ⊥) → after ≡ before
    → before path ≡ Some (link to) → IfOk r (λ e. end_of after (turns - 1) to ≡ Some (bytes e)) → IfOk r (λ e. end_of before turns path ≡ Some (bytes e))
end_through bytes (Ok e) before after turns path to some same at found =
    end_step before turns path to some at ∙ ap (λ paths. end_of paths (turns - 1) to) (sym same) ∙ found
end_through bytes (Err x) before after turns path to some same at found = found
