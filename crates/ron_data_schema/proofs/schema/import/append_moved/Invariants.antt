use Rattle.std.proofs.Common.{◌≡◌, ◌≤◌, ◌+◌, ◌++◌, map, take, drop, length, vec_len, vec_capacity}
use Rattle.ron_data_schema.specs.Shapes.{table_view, shape_view, moved}
use Rattle.ron_data_schema.proofs.schema.import.append_moved.Given as goal

-- what stood there stands in front, then come the copies so far, and there is room for the rest
abbrev pub invariant-loop-shape : goal.invariant-loop-shape
invariant-loop-shape l = record {
  front : take l.by l.shapes.items ≡ l.fn.shapes.items;
  copies : table_view l.shapes.items ++ map (λ s. moved l.by (shape_view s)) (drop l.shape-index l.others)
      ≡ table_view l.fn.shapes.items ++ map (λ s. moved l.by (shape_view s)) l.others;
  room : vec_len l.shapes + length l.others ≤ vec_capacity l.shapes + l.shape-index;
}
