use Rattle.std.proofs.Common.{arith}
use Rattle.std.proofs.lemmas.Grind.{common_steps}
use Rattle.std.proofs.lemmas.Result.{err_from_is_err_and}
use Rattle.ron_example_tree.specs.declared.tree.Tree.{out-Tree}
use Rattle.ron_example_tree.proofs.TreeLemmas.{each_tree, are_three, each_part, of_next}
use Rattle.ron_example_tree.proofs.tree.+from_data.Goals as goal

pub tree_of-returns-in_err-value-clause-accepted : goal.tree_of-returns-in_err-value-clause-accepted
tree_of-returns-in_err-value-clause-accepted t c =
    let p = err_from_is_err_and c.from_residual.result c.from_residual.ensures.1 in
    rw (p.1, p.2) (λ h. absurd (are_three c.args.from c.in-Struct.name c.in-Struct.fields c.in-Struct.is h.0 h.1
    (λ x y z a. c.in_err-value.ensures.err x y z (rw c.into_iter.ensures.rest a))))

pub tree_of-returns-in_err-value-2-clause-accepted : goal.tree_of-returns-in_err-value-2-clause-accepted
tree_of-returns-in_err-value-2-clause-accepted t c =
    let p = err_from_is_err_and c.from_residual-in_err-value-2.result c.from_residual-in_err-value-2.ensures.1 in
    let fields = rw c.into_iter.ensures.rest at c.in_ok-value.ensures.ok in
    rw (p.1, p.2) (λ h. c.in_err-value-2.ensures.accepted (out-Tree h.0).value
    (each_part c.args.from c.in-Struct.name c.in-Struct.fields c.in-Struct.is h.0 h.1 c.in_ok-value.value c.in_ok-value.children c.in_ok-value.next fields).0)

pub tree_of-returns-in_err-children-clause-accepted : goal.tree_of-returns-in_err-children-clause-accepted
tree_of-returns-in_err-children-clause-accepted t c =
    let p = err_from_is_err_and c.from_residual-in_err-children.result c.from_residual-in_err-children.ensures.1 in
    let fields = rw c.into_iter.ensures.rest at c.in_ok-value.ensures.ok in
    rw (p.1, p.2) (λ h. c.in_err-children.ensures.accepted (out-Tree h.0).children
    (each_part c.args.from c.in-Struct.name c.in-Struct.fields c.in-Struct.is h.0 h.1 c.in_ok-value.value c.in_ok-value.children c.in_ok-value.next fields).1)

pub tree_of-returns-in_err-next-clause-accepted : goal.tree_of-returns-in_err-next-clause-accepted
tree_of-returns-in_err-next-clause-accepted t c =
    let p = err_from_is_err_and c.from_residual-in_err-next.result c.from_residual-in_err-next.ensures.1 in
    let fields = rw c.into_iter.ensures.rest at c.in_ok-value.ensures.ok in
    rw (p.1, p.2) (λ h. of_next (out-Tree h.0).next c.in_ok-value.next (each_part c.args.from c.in-Struct.name c.in-Struct.fields c.in-Struct.is h.0 h.1
    c.in_ok-value.value c.in_ok-value.children c.in_ok-value.next fields).2 c.in_err-next.ensures.none c.in_err-next.ensures.some)

pub children_of-loop-item-init : goal.children_of-loop-item-init
children_of-loop-item-init t c = record {
  values = grind (arith, common_steps);
  accepted = λ ts e. rw c.into_iter-item-iterator.ensures.into_iter_gives.0 (each_tree c.args.from c.in-Seq.items c.in-Seq.is ts.items e);
}

pub children_of-loop-item-preserved : goal.children_of-loop-item-preserved
children_of-loop-item-preserved t c = record {
  values = grind (arith, common_steps);
  accepted = grind (arith, common_steps);
}
