use Rattle.std.proofs.Common.{zero, suc, [], ◌∷◌, arith}
use Rattle.std.specs.Prelude.{All}
use Rattle.ron_value.specs.View.{entries}
use Rattle.ron_value.specs.Entries.{Entries, ArePartsOrdered}
use Rattle.ron_value.specs.Statement.{IsOrderedEntry}
use Rattle.ron_value.proofs.AscendingPairs.{trees_ascend}
use Rattle.ron_value.proofs.laws.ordered_maps_ascend.Goals as goal

to_all : (es : Entries) → ArePartsOrdered es → All IsOrderedEntry es
to_all [] parts k d inside = absurd (omega arith)
to_all (e ∷ es) parts zero d inside = (parts.0, parts.1)
to_all (e ∷ es) parts (suc k) d inside = to_all es parts.2 k d (omega arith)

from_all : (es : Entries) → All IsOrderedEntry es → ArePartsOrdered es
from_all [] all = tt
from_all (e ∷ es) all =
    let first : IsOrderedEntry e = all 0 e (omega arith) in
    (first.0, first.1, from_all es (λ k d inside. all (suc k) d (omega arith)))

pub returns : goal.returns
returns c m =
    let es : Entries = entries m in
    let keys = trees_ascend es in
    (λ ordered. (keys.0 ordered.0, to_all es ordered.1), λ ascending. (keys.1 ascending.0, from_all es ascending.1))
