-- What a walk over a map has left, and what its items show.
use Rattle.std.specs.Prelude.{List}
use Rattle.std.specs.Borrow.{Bor}
use Rattle.std.specs.Map.{keys_of, values_of}
use Rattle.std.specs.Vec.Iter.{into_iter_items}
use Rattle.ron_value.specs.declared.value.Value.{Value}
use Rattle.ron_value.specs.declared.map.walk.Iter.{Iter}
use Rattle.ron_value.specs.declared.map.walk.Keys.{Keys}
use Rattle.ron_value.specs.declared.map.walk.Values.{Values}
use Rattle.ron_value.specs.declared.map.walk.IntoIter.{IntoIter}
use Rattle.ron_value.specs.Entries.{Entries}

-- what a borrowed value is
abbrev pub shown : Bor Value → Value
shown v = v.now

abbrev pub shown_pair : Bor Value × Bor Value → Value × Value
shown_pair p = (p.0.now, p.1.now)

-- the entries, the keys and the values that are left
abbrev pub entries_left : Iter → Entries
entries_left s = s.rest.now

abbrev pub keys_left : Keys → List Value
keys_left s = keys_of s.rest.now

abbrev pub values_left : Values → List Value
values_left s = values_of s.rest.now

abbrev pub owned_left : IntoIter → Entries
owned_left s = into_iter_items s.rest
