use Rattle.std.proofs.Common.{◌≡◌, ◌++◌, map, drop}
use Rattle.ron_data_schema.specs.Shapes.{field_view, moved_field}
use Rattle.ron_data_schema.proofs.schema.import.moved_list.Given as goal

abbrev pub invariant-loop-field : goal.invariant-loop-field
invariant-loop-field l = map field_view l.fields.items ++ map (λ f. moved_field l.by (field_view f)) (drop l.field-index l.field-items)
    ≡ map (λ f. moved_field l.by (field_view f)) l.field-items
