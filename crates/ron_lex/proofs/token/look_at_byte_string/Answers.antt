use Rattle.ron_lex.proofs.TurnLemmas.{byte_hashes_look, look_here}
use Rattle.ron_lex.proofs.token.look_at_byte_string.Goals as goal

pub returns-in-Some-clause-seen : goal.returns-in-Some-clause-seen
returns-in-Some-clause-seen c = byte_hashes_look _ _ _ c.in-Some.ensures c.look_at_string.ensures.end

pub returns-in-None-clause-seen : goal.returns-in-None-clause-seen
returns-in-None-clause-seen c = look_here _
