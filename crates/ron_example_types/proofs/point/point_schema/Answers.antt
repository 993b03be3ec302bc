use Rattle.std.proofs.Common.{◌≡◌, ◌∙◌, refl, sym, subst}
use Rattle.std.proofs.lemmas.Result.{MatchResult-weaker}
use Rattle.ron.specs.Shapes.{table_view}
use Rattle.ron.specs.Refusals.{RefusesTable}
use Rattle.ron.specs.Table.{shapes_of, root_of}
use Rattle.ron_example_types.specs.Point.{point_shapes}
use Rattle.ron_example_types.proofs.PointLemmas.{point_is, same_table, only_memory}
use Rattle.ron_example_types.proofs.point.point_schema.Goals as goal

pub returns : goal.returns
returns c =
    let table : table_view c.in_ok-shapes.shapes.items ≡ point_shapes = rw (
      c.in_ok-shapes.ensures.items,
      c.in_ok-from_str.ensures.ok,
      c.in_ok-fields.ensures.items,
      c.in_ok-field_shape.ensures,
      c.in_ok-field_shape-2.ensures,
      point_is,
    ) refl in
    MatchResult-weaker _ {P = λ s. (shapes_of s ≡ table_view c.in_ok-shapes.shapes.items) × (root_of s ≡ 0)} c.new.ensures
    (λ s p. sym (same_table (shapes_of s) (root_of s) (p.0 ∙ table) p.1)) (λ e q. only_memory e (subst (λ shapes. RefusesTable shapes 0 e) table q))
