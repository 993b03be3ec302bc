use Rattle.std.proofs.Common.{◌≤◌, nat_lt, length, arith}
use Rattle.std.proofs.lemmas.Bool.{and_parts}
use Rattle.std.proofs.lemmas.List.{length-map}
use Rattle.ron_spec_grammar.specs.Schema.{is_in_range}
use Rattle.ron_data_schema.specs.Shapes.{table_view, shape_view, indices_from}
use Rattle.ron_data_schema.proofs.MoveLemmas.{table_more}
use Rattle.ron_data_schema.proofs.schema.Schema.import.Goals as goal

pub append_moved-requires : goal.append_moved-requires
append_moved-requires c =
    let table = table_view c.args.other.now.shapes.items in
    let one = c.args.shapes.now in
    let other = c.args.other.now.shapes in
    let in_range = (and_parts (is_in_range table c.args.other.now.root) _ c.args.other.now.well_formed).0 in
    let below = (and_parts (nat_lt c.args.other.now.root (length table)) _ in_range).1 in
    let le : length table ≤ indices_from (length one.items) =
    omega (arith, length-map other.items shape_view, one.ok.0, one.ok.1, one.small, other.ok.0, other.ok.1, other.small) in
    rw c.deref.ensures.value (table_more (length table) (indices_from (length one.items)) le table below)
