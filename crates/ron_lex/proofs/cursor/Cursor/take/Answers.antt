use Rattle.ron_lex_text.proofs.StretchLemmas.{end_behind_char, end_of_end}
use Rattle.ron_lex.proofs.cursor.Cursor.take.Goals as goal

pub pass_to-requires : goal.pass_to-requires
pass_to-requires c = rw (← c.self.view_is) (end_behind_char _ _ _ c.in-Some.ensures)

pub returns-in-Some-clause-end : goal.returns-in-Some-clause-end
returns-in-Some-clause-end c = rw (← c.self.view_is) (end_of_end _ _ _ c.self.invariant.1 c.self.invariant.0)

pub returns-in-None-clause-end : goal.returns-in-None-clause-end
returns-in-None-clause-end c = rw (← c.self.view_is) (end_of_end _ _ _ c.self.invariant.1 c.self.invariant.0)
