use Rattle.ron_ser.specs.Piece.{plain}
use Rattle.ron_ser.proofs.Pieces.{one}
use Rattle.ron_ser.proofs.PieceLemmas.{deeper_written, level_stopped, plain_written}
use Rattle.ron_ser.proofs.leaves.write_raw.Goals as goal

pub returns-in_default : goal.returns-in_default
returns-in_default g c = level_stopped g.O.Output.puts _ _ (plain c.args.raw.now) c.in_default.ensures.level

pub returns : goal.returns
returns g c =
    let took = g.O.Output.puts in
    deeper_written took _ c.in-Some.ensures.level (plain_written took _ (one took _ _ _ (c.put.ensures)))
