use Rattle.std.proofs.Common.{[]}
use Rattle.ron_lex.proofs.plain.split_decimal.Goals as goal

pub returns-clause-past : goal.returns-clause-past
returns-clause-past c = record { first = _; front = []; is = c.in_ok-first.ensures.chars }
