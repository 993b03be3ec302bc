use Rattle.std.proofs.Common.{chars}
use Rattle.ron_spec_layout.specs.Config.{times}
use Rattle.ron_ser.proofs.Pieces.{one, piece}
use Rattle.ron_ser.proofs.LineLemmas.{line_bytes}
use Rattle.ron_ser.proofs.lines.write_line.Goals as goal

pub returns : goal.returns
returns g c =
    let took = g.O.Output.puts in
    (piece took _ _ _ _ _ _ (line_bytes c.args.new_line.now (times c.args.level (chars c.args.indentor.now)) c.utf8.new_line) (one took _ _ _ (c.put.ensures)))
    c.write_times.ensures
