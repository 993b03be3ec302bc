use Rattle.std.proofs.Common.{sym}
use Rattle.ron_base.proofs.ExtensionLemmas.{is_empty-set_of_bits}
use Rattle.ron_base.proofs.extensions.Extensions.is_empty.Goals as goal

pub returns : goal.returns
returns c = rw (← c.self.view_is, c.is_empty.ensures tt) (sym (is_empty-set_of_bits c.self.inside.flags.0 c.self.invariant))
