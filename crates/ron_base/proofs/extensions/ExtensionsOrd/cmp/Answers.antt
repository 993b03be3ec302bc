use Rattle.std.proofs.Common.{rules}
use Rattle.ron_base.proofs.ExtensionLemmas.{nat_cmp-bits_of}
use Rattle.ron_base.proofs.extensions.ExtensionsOrd.cmp.Goals as goal

pub returns : goal.returns
returns c = search (rules, nat_cmp-bits_of)
