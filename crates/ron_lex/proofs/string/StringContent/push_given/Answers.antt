use Rattle.std.proofs.Common.{rules}
use Rattle.ron_lex.proofs.PieceLemmas.{character_pushed}
use Rattle.ron_lex.proofs.string.StringContent.push_given.Goals as goal

pub returns-in-Some : goal.returns-in-Some
returns-in-Some c = rw c.in-Some.is (character_pushed c.push.result c.args.self.now c.push.new.self c.in-Some.character (search rules) c.push.ensures.bytes)
