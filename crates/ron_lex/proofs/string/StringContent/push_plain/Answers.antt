use Rattle.ron_lex.proofs.PieceLemmas.{plain_pushed}
use Rattle.ron_lex.proofs.string.StringContent.push_plain.Goals as goal

pub returns : goal.returns
returns c = plain_pushed c.push_str.result c.args.self.now c.push_str.new.self c.args.plain.now c.push_str.ensures.bytes
