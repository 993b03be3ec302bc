use Rattle.std.proofs.Common.{◌≡◌, ◌++◌, map, length, sym, ap, ◌∙◌, arith}
use Rattle.std.specs.List.{list_all}
use Rattle.ron_spec_grammar.specs.Schema.{holds_below}
use Rattle.ron_data_schema.specs.Shapes.{table_view, shape_view, moved, indices_from, takes_no_memory}
use Rattle.ron_data_schema.proofs.CopyLemmas.{all_behind}
use Rattle.ron_data_schema.proofs.MoveLemmas.{passes_at}
use Rattle.ron_data_schema.proofs.schema.import.append_moved.Goals as goal

pub moved_shape-requires : goal.moved_shape-requires
moved_shape-requires c =
    let by : length c.args.shapes.now.items ≡ c.len-by.result = sym c.args.shapes.now.ok.0 ∙ sym c.len-by.ensures in
    let all = sym (ap (λ n. list_all (holds_below (indices_from n)) (table_view c.args.others.now)) by) ∙ c.requires in
    passes_at shape_view (holds_below (indices_from c.len-by.result)) c.args.others.now c.loop-shape.shape-index c.shape-item.result all
    (omega (arith, c.loop-shape-test.true)) c.shape-item.is

pub returns-in-Err-clause-in_place : goal.returns-in-Err-clause-in_place
returns-in-Err-clause-in_place c room flat =
    c.in-Err.ensures.in_place (passes_at shape_view takes_no_memory c.args.others.now c.loop-shape.shape-index c.shape-item.result flat
    (omega (arith, c.loop-shape-test.true)) c.shape-item.is)

pub returns-clause-value : goal.returns-clause-value
returns-clause-value c =
    let by : length c.args.shapes.now.items ≡ c.len-by.result = sym c.args.shapes.now.ok.0 ∙ sym c.len-by.ensures in
    all_behind shape_view (moved c.len-by.result) (table_view c.loop-shape.shapes.items) (table_view c.args.shapes.now.items) c.args.others.now
    c.loop-shape.shape-index c.loop-shape-test.false c.loop-shape.invariant.copies
    ∙ ap (λ n. table_view c.args.shapes.now.items ++ map (moved n) (table_view c.args.others.now)) (sym by)
