use Rattle.std.proofs.Common.{rules, arith}
use Rattle.std.proofs.lemmas.Nat.{and_le_l}
use Rattle.ron_base.proofs.ExtensionLemmas.{difference-bits}
use Rattle.ron_base.proofs.extensions.Extensions.difference.Goals as goal

pub invariant_of-result : goal.invariant_of-result
invariant_of-result c = omega (arith, and_le_l, c.difference.ensures tt)

pub returns : goal.returns
returns c = search (rules, difference-bits)
