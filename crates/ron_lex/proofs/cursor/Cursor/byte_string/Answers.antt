use Rattle.ron_lex_text.proofs.StretchLemmas.{past_is_end, end_of_end}
use Rattle.ron_lex.proofs.cursor.Cursor.byte_string.Goals as goal

pub bytes_before-over-requires : goal.bytes_before-over-requires
bytes_before-over-requires c = past_is_end _ _ c.in-Ok.ensures.past

pub pass_to-requires : goal.pass_to-requires
pass_to-requires c = rw (← c.self.view_is) (past_is_end _ _ c.in-Ok.ensures.past)

pub returns-in-Err-OutOfMemory-clause-memory : goal.returns-in-Err-OutOfMemory-clause-memory
returns-in-Err-OutOfMemory-clause-memory c m = rw (← c.self.view_is) (c.in-Err-OutOfMemory.ensures.memory c.in-Err-OutOfMemory.field-0-is)

pub returns-in-Err-OutOfMemory-clause-escaped : goal.returns-in-Err-OutOfMemory-clause-escaped
returns-in-Err-OutOfMemory-clause-escaped c m = rw (← c.self.view_is) (c.in-Err-OutOfMemory.ensures.escaped c.in-Err-OutOfMemory.field-0-is)

pub returns-in-Ok-clause-end : goal.returns-in-Ok-clause-end
returns-in-Ok-clause-end c = rw (← c.self.view_is) (end_of_end _ _ _ c.self.invariant.1 c.self.invariant.0)

pub returns-in-Err-OutOfMemory-clause-end : goal.returns-in-Err-OutOfMemory-clause-end
returns-in-Err-OutOfMemory-clause-end c = rw (← c.self.view_is) (end_of_end _ _ _ c.self.invariant.1 c.self.invariant.0)

pub returns-in-Err-Refused-clause-end : goal.returns-in-Err-Refused-clause-end
returns-in-Err-Refused-clause-end c = rw (← c.self.view_is) (end_of_end _ _ _ c.self.invariant.1 c.self.invariant.0)
