use Rattle.std.proofs.Common.{drop}
use Rattle.ron_lex.proofs.TurnLemmas.{counted_past}
use Rattle.ron_lex.proofs.cursor.Cursor.opens_some.Goals as goal

pub returns-clause-least : goal.returns-clause-least
returns-clause-least c here =
    let some = rw (← c.self.view_is) at here in
    counted_past (drop 4 c.args.self.now.rest) _ c.args.self.now c.look_to.new.self c.look_to.ensures.all
    (rw (← c.self.view_is) (c.opens_some-answer.ensures.end some))
