use Rattle.std.proofs.Common.{arith}
use Rattle.std.proofs.lemmas.Grind.{common_steps}
use Rattle.ron_example_tree.proofs.tree_fields.three.Goals as goal

pub returns-clause-ok : goal.returns-clause-ok
returns-clause-ok g c = record {
  first = c.in-Some.field-0-0;
  second = c.in-Some-take.field-0-0;
  third = c.in-Some-take-2.field-0-0;
  is = grind (arith, common_steps);
  value_named = c.in-Some.ensures.named;
  children_named = c.in-Some-take.ensures.named;
  next_named = c.in-Some-take-2.ensures.named;
}
