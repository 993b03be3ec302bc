use Rattle.ron_lex.proofs.cursor.Cursor.take_text.Goals as goal

pub pass_to-requires : goal.pass_to-requires
pass_to-requires c = rw (← c.self.view_is) (record { front = _; is = c.in-Some.ensures })
