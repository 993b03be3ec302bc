use Rattle.ron_lex.proofs.PieceLemmas.{none_pushed}
use Rattle.ron_lex.proofs.string.StringContent.with_room.Goals as goal

pub returns : goal.returns
returns c = none_pushed c.with_capacity.result c.with_capacity.ensures.bytes
