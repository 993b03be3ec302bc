-- Bytes with equal data are equal.
use Rattle.std.specs.Prelude.{ℕ, nat_eq, List, []}
use Rattle.std.proofs.Common.{ap}
use Rattle.std.specs.Cmp.Lexicographic.{pointwise, bytes_decides}
use Rattle.ron_spec_grammar.specs.Data.{Data, bytes_of}
use Rattle.ron_types.specs.Recovery.{Recovers}

abbrev held_bytes : Data → List ℕ
held_bytes (bytes_of bs) = bs
held_bytes _ = []

pub bytes_recover : Recovers bytes_of (pointwise nat_eq)
bytes_recover x y e = (bytes_decides x y).1 (ap held_bytes e)
