use Rattle.ron_lex.proofs.GapLemmas.{gap_end, gap_is_front}
use Rattle.ron_lex.proofs.cursor.Cursor.pass_opened_gap.Goals as goal

pub before-gap-requires : goal.before-gap-requires
before-gap-requires c = gap_end _ _ c.skip_gap-behind.ensures.value

pub returns-then-is_none-clause-gap : goal.returns-then-is_none-clause-gap
returns-then-is_none-clause-gap c = rw (← c.self.view_is) (gap_is_front _ _ _ c.skip_gap-behind.ensures.value c.before-gap.ensures)
