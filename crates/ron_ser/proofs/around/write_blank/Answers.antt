use Rattle.ron_ser.specs.Place.{spacing_in}
use Rattle.ron_ser.specs.Stand.{place_of}
use Rattle.ron_ser.proofs.Pieces.{piece}
use Rattle.ron_ser.proofs.AroundLemmas.{bytes_on_lines, bytes_in_row}
use Rattle.ron_ser.proofs.around.write_blank.Goals as goal

pub returns-in-Some : goal.returns-in-Some
returns-in-Some g c =
    let p = place_of c.args.writing.now in
    let is = bytes_on_lines (spacing_in p c.args.container) p.config _ _ c.args.i c.in-Some.ensures.0 c.in-Some.ensures.1 in
    (piece g.O.Output.puts _ _ _ _ _ _ is c.write_comma.ensures) c.begin_line.ensures

pub returns-in-None : goal.returns-in-None
returns-in-None g c =
    let p = place_of c.args.writing.now in
    let is = bytes_in_row (spacing_in p c.args.container) p.config c.args.i c.in-None.ensures in
    (piece g.O.Output.puts _ _ _ _ _ _ is c.write_comma.ensures) c.write_separator.ensures
