use Rattle.std.proofs.Common.{◌≡◌, ◌++◌, map, drop}
use Rattle.ron_data_schema.specs.Shapes.{variant_view, moved_variant}
use Rattle.ron_data_schema.proofs.schema.import.moved_variants.Given as goal

abbrev pub invariant-loop-name : goal.invariant-loop-name
invariant-loop-name l = map variant_view l.copies.items ++ map (λ v. moved_variant l.by (variant_view v)) (drop l.name-index l.name-items)
    ≡ map (λ v. moved_variant l.by (variant_view v)) l.name-items
