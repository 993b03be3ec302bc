use Rattle.std.proofs.Common.{◌≡◌, ◌++◌, map, drop}
use Rattle.ron_data_schema.specs.Shapes.{text_view}
use Rattle.ron_data_schema.proofs.schema.import.copied.Given as goal

abbrev pub invariant-loop-text : goal.invariant-loop-text
invariant-loop-text l = map text_view l.copies.items ++ map text_view (drop l.text-index l.text-items) ≡ map text_view l.text-items
