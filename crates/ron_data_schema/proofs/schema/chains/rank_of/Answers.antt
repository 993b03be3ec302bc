use Rattle.std.proofs.Common.{◌≡◌, ◌<◌, ◌+◌, Some, None, length, slice_index, ap, sym, ◌∙◌, arith}
use Rattle.ron_spec_grammar.specs.Schema.{content_at, ends_within}
use Rattle.ron_data_schema.specs.Shapes.{table_view}
use Rattle.ron_data_schema.proofs.ChainLemmas.{goes_on, ends_here, ends_later, ends_known, exact_is_long}
use Rattle.ron_data_schema.proofs.TableLemmas.{content_here, next_below}
use Rattle.ron_data_schema.proofs.schema.chains.rank_of.Goals as goal
use Rattle.ron_data_schema.proofs.schema.chains.rank_of.Goals.{then-left-eq0-via-then-left-eq0, then-left-eq0-via-else-left-eq0+then-left-known}

pub loop-content-preserved : goal.loop-content-preserved
loop-content-preserved c =
    let e : content_at (table_view c.args.shapes.now) c.loop-content.at ≡ Some c.in-Some.content =
    content_here _ _ _ c.loop-content.invariant.here c.index-shapes-at.is ∙ sym c.in-Some.ensures in
    record {
      here = next_below _ _ _ _ c.requires.holds c.loop-content.invariant.here c.index-shapes-at.is (sym c.in-Some.ensures);
      within = omega arith;
      goes_on = goes_on _ _ _ _ _ e c.loop-content.invariant.goes_on;
    }

pub returns-then-left-eq0 : goal.returns-then-left-eq0
returns-then-left-eq0 c =
    let table = table_view c.args.shapes.now in
    let e : content_at (table_view c.args.shapes.now) c.loop-content.at ≡ Some c.in-Some.content =
    content_here _ _ _ c.loop-content.invariant.here c.index-shapes-at.is ∙ sym c.in-Some.ensures in
    let known = slice_index c.args.ranks.now c.loop-content.at in
    elim c.then-left-eq0.branch [
      | then-left-eq0-via-then-left-eq0 w ↦
          ap (λ n. ends_within table n (content_at table c.args.index)) (omega arith) ∙ ends_later _ _ _ _ _ e c.loop-content.invariant.goes_on
      | then-left-eq0-via-else-left-eq0+then-left-known w ↦
          let more : length c.args.shapes.now < c.loop-content.members + known = omega arith in
          exact_is_long _ _ _ _ (ends_known _ _ _ _ known (c.requires.ranks c.loop-content.at (omega arith)) c.loop-content.invariant.goes_on) more
    ]

pub returns : goal.returns
returns c =
    let e : content_at (table_view c.args.shapes.now) c.loop-content.at ≡ None =
    content_here _ _ _ c.loop-content.invariant.here c.index-shapes-at.is ∙ sym c.in_default.ensures in
    (c.loop-content.invariant.within, ends_here _ _ _ _ e c.loop-content.invariant.goes_on)
