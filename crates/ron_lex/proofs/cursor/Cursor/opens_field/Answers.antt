use Rattle.ron_spec_words.specs.Name.{name}
use Rattle.ron_lex.proofs.TurnLemmas.{looked_past}
use Rattle.ron_lex.proofs.cursor.Cursor.opens_field.Goals as goal

pub returns-clause-least : goal.returns-clause-least
returns-clause-least c =
    looked_past (name c.args.self.now.rest) c.args.self.now c.look_to.new.self _ c.look_to.ensures.all (rw (← c.self.view_is) c.opens_field-answer.ensures.end)
