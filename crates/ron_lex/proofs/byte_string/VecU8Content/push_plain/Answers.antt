use Rattle.std.proofs.Common.{rules, arith}
use Rattle.std.proofs.lemmas.Grind.{common_steps}
use Rattle.ron_lex.proofs.StringLemmas.{utf8_given}
use Rattle.ron_lex.proofs.byte_string.VecU8Content.push_plain.Goals as goal

pub returns-then-is_empty : goal.returns-then-is_empty
returns-then-is_empty c = rw (← utf8_given c.args.plain.now c.utf8.plain) (grind (arith, common_steps))

pub returns : goal.returns
returns c = rw (← utf8_given c.args.plain.now c.utf8.plain) (search rules)
