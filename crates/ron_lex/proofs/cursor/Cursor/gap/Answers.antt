use Rattle.ron_lex.proofs.cursor.Cursor.gap.Goals as goal

pub returns-clause-end : goal.returns-clause-end
returns-clause-end c = rw (← c.self.view_is) c.self.invariant.2
