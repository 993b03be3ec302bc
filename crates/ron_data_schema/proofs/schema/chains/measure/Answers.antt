use Rattle.std.proofs.Common.{◌≡◌, below_more, length, ◌∙◌, arith}
use Rattle.ron_data_schema.proofs.ChainLemmas.{exact_ends, longest_rises, longest_stays}
use Rattle.ron_data_schema.proofs.TableLemmas.{cycle_at, each_ends, rank_at, longest_of_all}
use Rattle.ron_data_schema.proofs.schema.chains.measure.Goals as goal
use Rattle.ron_data_schema.proofs.schema.chains.measure.Goals.{then-longest-rank, else-longest-rank}

pub returns-in_err-rank : goal.returns-in_err-rank
returns-in_err-rank c = rw c.from_residual.ensures (cycle_at c.args.shapes.now c.loop-index.index (rw c.in_err-rank.was at c.rank_of.ensures))

pub loop-index-preserved : goal.loop-index-preserved
loop-index-preserved c =
    let found = rw c.in_ok-rank.was at c.rank_of.ensures in
    let rank = rank_at _ _ _ found.1 found.0 in
    record {
      ranks = c.note_ranks.ensures;
      ends = below_more _ _ c.loop-index.invariant.ends (exact_ends _ _ _ _ found.1 found.0).0;
      longest = elim c.if-longest-rank.branch [
        | then-longest-rank w ↦ w.longest-is ∙ longest_rises _ _ _ _ rank c.loop-index.invariant.longest w.if-longest-rank.true
        | else-longest-rank w ↦ w.longest-is ∙ longest_stays _ _ _ _ rank c.loop-index.invariant.longest w.if-longest-rank.false
      ];
    }

pub returns : goal.returns
returns c =
    let all : length c.args.shapes.now ≡ c.loop-index.index = omega arith in
    (each_ends _ (λ i less. c.loop-index.invariant.ends i (omega arith)), longest_of_all _ _ _ (omega arith) (omega arith) c.loop-index.invariant.longest)
