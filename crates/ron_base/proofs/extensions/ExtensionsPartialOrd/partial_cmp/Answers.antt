use Rattle.std.proofs.Common.{rules}
use Rattle.ron_base.proofs.ExtensionLemmas.{some_nat_cmp-bits_of}
use Rattle.ron_base.proofs.extensions.ExtensionsPartialOrd.partial_cmp.Goals as goal

pub returns : goal.returns
returns c = search (rules, some_nat_cmp-bits_of)
