use Rattle.ron_lex_text.proofs.StretchLemmas.{end_of_end, end_alone}
use Rattle.ron_lex.proofs.cursor.Cursor.forget_gap.Goals as goal

pub invariant_of-self : goal.invariant_of-self
invariant_of-self c =
    (c.self.invariant.0, c.self.invariant.1, end_alone (end_of_end _ _ _ c.self.invariant.1 c.self.invariant.0), c.self.invariant.3, c.self.invariant.4)
