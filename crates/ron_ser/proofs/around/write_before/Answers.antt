use Rattle.std.proofs.Common.{sym, ◌∙◌}
use Rattle.ron_ser.specs.Stand.{place_of}
use Rattle.ron_ser.proofs.Pieces.{piece}
use Rattle.ron_ser.proofs.AroundLemmas.{before_numbered}
use Rattle.ron_ser.proofs.around.write_before.Goals as goal

pub returns-then-numbers : goal.returns-then-numbers
returns-then-numbers g c =
    let is = before_numbered (place_of c.args.writing.now) c.args.container c.args.i (sym c.numbers.ensures ∙ c.if-numbers.true) in
    (piece g.O.Output.puts _ _ _ _ _ _ is c.write_blank.ensures) c.write_item_comment.ensures
