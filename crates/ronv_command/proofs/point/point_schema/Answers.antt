use Rattle.std.proofs.Common.{◌≡◌, ◌∙◌, refl, sym, subst}
use Rattle.std.proofs.lemmas.Result.{MatchResult-weaker}
use Rattle.ron.specs.Shapes.{table_view}
use Rattle.ron.specs.Refusals.{RefusesTable}
use Rattle.ron.specs.Table.{shapes_of, root_of}
use Rattle.ronv_command.specs.Point.{point_shapes}
use Rattle.ronv_command.proofs.PointLemmas.{point_is, same_table, only_memory}
use Rattle.ronv_command.proofs.point.point_schema.Goals as goal

pub returns : goal.returns
returns c =
    let table : table_view c.push-4.new.self.items ≡ point_shapes = rw (
      c.in_ok-push-4.ensures.items,
      c.in_ok-push-3.ensures.items,
      c.in_ok-shapes.ensures.items,
      c.in_ok-name.ensures.ok,
      c.in_ok-push-2.ensures.items,
      c.in_ok-push.ensures.items,
      c.in_ok-fields.ensures.items,
      c.in_ok-field_shape.ensures,
      c.in_ok-field_shape-2.ensures,
      point_is,
    ) refl in
    MatchResult-weaker _ {P = λ s. (shapes_of s ≡ table_view c.push-4.new.self.items) × (root_of s ≡ 0)} c.new.ensures
    (λ s p. sym (same_table (shapes_of s) (root_of s) (p.0 ∙ table) p.1)) (λ e q. only_memory e (subst (λ shapes. RefusesTable shapes 0 e) table q))
