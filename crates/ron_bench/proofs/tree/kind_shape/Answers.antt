use Rattle.std.proofs.Common.{refl}
use Rattle.std.proofs.lemmas.Result.{IfOk-weaker}
use Rattle.ron_bench.proofs.TreeLemmas.{kind_is}
use Rattle.ron_bench.proofs.tree.kind_shape.Goals as goal

pub returns : goal.returns
returns c = IfOk-weaker c.enumeration.result _ _ (λ s is. kind_is _ _ is (rw (
  c.in_ok-push-5.ensures.items,
  c.in_ok-push-4.ensures.items,
  c.in_ok-push-3.ensures.items,
  c.in_ok-variants.ensures.items,
  c.in_ok-variant.ensures,
  c.in_ok-variant-2.ensures,
  c.in_ok-variant-3.ensures,
  c.in_ok-push-2.ensures.items,
  c.in_ok-push.ensures.items,
  c.in_ok-fields.ensures.items,
  c.in_ok-field_shape.ensures,
  c.in_ok-field_shape-2.ensures,
) refl)) c.enumeration.ensures
