use Rattle.std.proofs.Common.{rules}
use Rattle.std.proofs.lemmas.Nat.{or_lt}
use Rattle.ron_base.proofs.ExtensionLemmas.{union-bits}
use Rattle.ron_base.proofs.extensions.Extensions.union.Goals as goal

pub invariant_of-result : goal.invariant_of-result
invariant_of-result c = search (rules, or_lt 4)

pub returns : goal.returns
returns c = search (rules, union-bits)
