-- What becomes of a map when the borrow of one of its values ends.
use Rattle.std.specs.Prelude.{◌≡◌, ℕ, suc, [], ◌∷◌, Option, OnSome, slice_index_or}
use Rattle.std.specs.Vec.{with_item}
use Rattle.std.specs.Borrow.{Lends, LendsSo, MutBor, Fml}
use Rattle.std.specs.Ordering.{match_ordering}
use Rattle.ron_value.specs.declared.value.Value.{Value}
use Rattle.ron_value.specs.declared.map.Map.{Map, roll-Map}
use Rattle.ron_value.specs.contracts.map.Map.{the_row as map_row}
use Rattle.ron_value.specs.contracts.value.Value.{the_row as value_row}
use Rattle.ron_value.specs.Ordered.{IsOrdered}
use Rattle.ron_value.specs.View.{tree_of, value_cmp, entries, map_tree}
use Rattle.ron_value.specs.Entries.{Entries, with_value}

-- an ordered map ends with v at the key k and its other entries as they were, and ordered where v is
abbrev pub Writes : Map → Value → Map → Value → Type 0
Writes old k new v =
    IsOrdered (map_tree old) →
    (entries new ≡ with_value k v (entries old)) × (IsOrdered (tree_of v) → IsOrdered (map_tree new))

-- m ends with the last value behind r at the key k, and with its entries as they were where there is no r
abbrev pub LendsValue : MutBor Map → Value → Option (MutBor Value) → Fml
LendsValue m k r = LendsSo map_row value_row m r (λ n v. OnSome r (Writes m.now k n v)) (λ n. entries n ≡ entries m.now)

-- how many keys stand before k
abbrev pub key_place : Value → Entries → ℕ
key_place k [] = 0
key_place k (e ∷ es) = match_ordering (value_cmp k e.0) 0 0 (suc (key_place k es))

-- m with v at the place of the key k
abbrev pub map_with : Map → Value → Value → Map
map_with m k v =
    let i = key_place k (entries m) in
    roll-Map (record { pairs = with_item m.pairs i ((slice_index_or (entries m) i (k, v)).0, v) })

-- m ends with the last value behind r at the key k
abbrev pub LendsValueOf : MutBor Map → Value → MutBor Value → Fml
LendsValueOf m k r = Lends map_row value_row m r (map_with m.now k)
