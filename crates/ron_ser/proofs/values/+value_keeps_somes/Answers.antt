use Rattle.std.proofs.Common.{inl, inr, refl, sym, ◌∙◌}
use Rattle.ron_ser.proofs.TreeLemmas.{tree-boolean, tree-character, tree-mapping, tree-number, tree-text, tree-bytes, tree-sequence, tree-unit}
use Rattle.ron_ser.proofs.KeepLemmas.{value_none_kept, value_some_kept, value_never_kept}
use Rattle.ron_ser.proofs.values.+value_keeps_somes.Goals as goal

pub returns-in-None : goal.returns-in-None
returns-in-None t c = value_none_kept c.in-Option.is c.in-None.is

pub returns-in-Some : goal.returns-in-Some
returns-in-Some t c = (rw c.deref.ensures at c.value_keeps_somes.ensures) ∙ sym (value_some_kept c.in-Option.is c.in-Some.is)

pub returns-in-Bool : goal.returns-in-Bool
returns-in-Bool t c =
    elim c.in-Bool.is [
      | inl e ↦ value_never_kept _ e.1 (tree-boolean e.0) refl
      | inr (inl e) ↦ value_never_kept _ e.1 (tree-character e.0) refl
      | inr (inr (inl e)) ↦ value_never_kept _ e.1 (tree-mapping e.0) refl
      | inr (inr (inr (inl e))) ↦ value_never_kept _ e.1 (tree-number e.0) refl
      | inr (inr (inr (inr (inl e)))) ↦ value_never_kept _ e.1 (tree-text e.0) refl
      | inr (inr (inr (inr (inr (inl e))))) ↦ value_never_kept _ e.1 (tree-bytes e.0) refl
      | inr (inr (inr (inr (inr (inr (inl e)))))) ↦ value_never_kept _ e.1 (tree-sequence e.0) refl
      | inr (inr (inr (inr (inr (inr (inr e)))))) ↦ value_never_kept _ e tree-unit refl
    ]
