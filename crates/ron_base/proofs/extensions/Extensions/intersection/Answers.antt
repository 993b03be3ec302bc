use Rattle.std.proofs.Common.{rules}
use Rattle.ron_base.proofs.ExtensionLemmas.{intersection-bits}
use Rattle.ron_base.proofs.extensions.Extensions.intersection.Goals as goal

pub returns : goal.returns
returns c = search (rules, intersection-bits)
