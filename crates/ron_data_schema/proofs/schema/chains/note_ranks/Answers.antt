use Rattle.std.proofs.Common.{◌≡◌, ◌<◌, Some, length, sym, ◌∙◌, arith}
use Rattle.ron_spec_grammar.specs.Schema.{content_at}
use Rattle.ron_data_schema.specs.Shapes.{table_view}
use Rattle.ron_data_schema.proofs.ChainLemmas.{exact_behind, noted}
use Rattle.ron_data_schema.proofs.TableLemmas.{content_here, next_below}
use Rattle.ron_data_schema.proofs.schema.chains.note_ranks.Goals as goal

pub loop-content-preserved : goal.loop-content-preserved
loop-content-preserved c =
    let e : content_at (table_view c.args.shapes.now) c.loop-content.at ≡ Some c.in-Some.content =
    content_here _ _ _ c.loop-content.invariant.here c.index-shapes-at.is ∙ sym c.in-Some.ensures in
    let less : c.loop-content.at < length c.loop-content.ranks = omega arith in
    record {
      here = next_below _ _ _ _ c.requires.holds c.loop-content.invariant.here c.index-shapes-at.is (sym c.in-Some.ensures);
      exact = exact_behind _ _ _ _ e c.loop-content.invariant.exact;
      ranks = noted _ _ _ _ less c.loop-content.invariant.exact c.loop-content.invariant.ranks;
    }
