use Rattle.std.proofs.Common.{refl}
use Rattle.std.proofs.lemmas.Result.{IfOk-weaker}
use Rattle.ron_bench.proofs.TreeLemmas.{entity_is}
use Rattle.ron_bench.proofs.tree.entity_shape.Goals as goal

pub returns : goal.returns
returns c = IfOk-weaker c.structure.result _ _ (λ s is. entity_is _ _ is (rw (
  c.in_ok-push-5.ensures.items,
  c.in_ok-push-4.ensures.items,
  c.in_ok-push-3.ensures.items,
  c.in_ok-push-2.ensures.items,
  c.in_ok-push.ensures.items,
  c.in_ok-fields.ensures.items,
  c.in_ok-field_shape.ensures,
  c.in_ok-field_shape-2.ensures,
  c.in_ok-field_shape-3.ensures,
  c.in_ok-field_shape-4.ensures,
  c.in_ok-field_shape-5.ensures,
) refl)) c.structure.ensures
