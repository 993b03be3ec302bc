use Rattle.std.proofs.Common.{refl, arith}
use Rattle.bitflags.specs.Sets.{known_from}
use Rattle.ron_base.proofs.extensions.Extensions.all.Goals as goal

pub invariant_of-result : goal.invariant_of-result
unfolding known_from
invariant_of-result c = rw (c.all.ensures tt) (omega arith)

pub returns : goal.returns
unfolding known_from
returns c = rw (c.all.ensures tt) refl
