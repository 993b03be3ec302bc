-- Marks under characters, one after another.
use Rattle.std.proofs.Common.{◌≡◌, ◌+◌, ◌∙◌, ◌++◌, ℕ, zero, suc, List, [], ◌∷◌, length, drop, refl, ap, sym, arith, length-append}
use Rattle.std.proofs.lemmas.Grind.{common_steps}
use Rattle.rontool_faults.specs.Shown.{or_caret}

-- What follows a character follows one more than what it is the first of.
pub drop_next : (i c : ℕ) (rest cs front : List ℕ) → front ≡ drop i cs → front ≡ c ∷ rest → rest ≡ drop (i + 1) cs
drop_next zero c rest cs front at first = sym (ap (drop 1) (sym at ∙ first))
drop_next (suc i) c rest [] front at first = absurd (cc)
drop_next (suc i) c rest (x ∷ cs) front at first =
    let next : suc i + 1 ≡ suc (i + 1) = omega arith in drop_next i c rest cs front at first ∙ sym (ap (λ n. drop n (x ∷ cs)) next)

-- What makes nothing longer is nothing.
pub no_marks : (old marks : List ℕ) → length (old ++ marks) ≡ length old → marks ≡ []
no_marks old [] e = refl
no_marks old (mark ∷ marks) e = let l = length-append old (mark ∷ marks) in absurd (omega (arith, l, e))

-- Where nothing was written there is one caret.
pub or_caret_none : (marks : List ℕ) → marks ≡ [] → or_caret marks ≡ 94 ∷ []
or_caret_none marks e = ap or_caret e

pub or_caret_some : (marks : List ℕ) → (length marks ≡ 0 → ⊥) → or_caret marks ≡ marks
or_caret_some [] e = absurd (e refl)
or_caret_some (mark ∷ marks) e = refl

-- One caret at least.
pub ruleset one_caret = (or_caret_none, or_caret_some, no_marks, common_steps)
