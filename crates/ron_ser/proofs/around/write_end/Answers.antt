use Rattle.ron_ser.proofs.Pieces.{one, piece}
use Rattle.ron_ser.proofs.AroundLemmas.{behind_comma}
use Rattle.ron_ser.proofs.around.write_end.Goals as goal

pub returns : goal.returns
returns g c =
    let took = g.O.Output.puts in
    (piece took _ _ _ _ _ _ (behind_comma 1 _) (one took _ _ _ (c.put.ensures))) c.begin_line.ensures
