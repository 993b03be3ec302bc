use Rattle.std.proofs.Common.{◌≡◌, ◌+◌, ◌++◌, map, drop}
use Rattle.ron_data_schema.proofs.schema.import.moved_indices.Given as goal

abbrev pub invariant-loop-index : goal.invariant-loop-index
invariant-loop-index l = l.copies.items ++ map (λ j. l.by + j) (drop l.index-index l.index-items) ≡ map (λ j. l.by + j) l.index-items
