-- What the calls of a map make of its entries.
use Rattle.std.specs.Prelude.{◌≡◌, Bool, List, [], ◌∷◌, filter, Option, IsSome, map}
use Rattle.std.specs.Borrow.{Bor}
use Rattle.std.specs.BTreeMap.{insert_entry, is_at}
use Rattle.std.specs.List.{AllZip, items_where_true}
use Rattle.std.specs.Map.{lookup, remove_entry, set_value}
use Rattle.ron_value.specs.declared.value.Value.{Value}
use Rattle.ron_value.specs.declared.map.Map.{Map}
use Rattle.ron_value.specs.Tree.{pairs_from}
use Rattle.ron_value.specs.Ordered.{IsOrdered, ArePairsOrdered}
use Rattle.ron_value.specs.View.{pair_tree, value_cmp, entries, map_tree}

-- keys with their values, in the order in which they are walked
abbrev pub Entries : Type 0
Entries = List (Value × Value)

-- the value at the key that is equal to k, if there is one
abbrev pub value_at : Value → Entries → Option Value
value_at k = lookup (is_at (value_cmp k))

-- the entries with v at the key k, which is put in its place where it is not there
abbrev pub with_entry : Value → Value → Entries → Entries
with_entry k v es = insert_entry value_cmp es k v

-- the entries without the key k
abbrev pub without_key : Value → Entries → Entries
without_key k = remove_entry (is_at (value_cmp k))

-- the entries with v in place of the value at the key k, if it is there
abbrev pub with_value : Value → Value → Entries → Entries
with_value k v es = set_value (is_at (value_cmp k)) es v

-- the entries with each of the pairs put in, one after another
abbrev pub with_entries : Entries → Entries → Entries
with_entries [] es = es
with_entries (p ∷ ps) es = with_entries ps (with_entry p.0 p.1 es)

-- the map is ordered, and the key is there
abbrev pub ContainsKey : Map → Value → Type 0
ContainsKey m k = IsOrdered (map_tree m) × IsSome (value_at k (entries m))

-- every map inside the pairs is ordered
abbrev pub ArePartsOrdered : Entries → Type 0
ArePartsOrdered ps = ArePairsOrdered (pairs_from (map pair_tree ps))

-- where the answers to the pairs are those of a test, the new entries are the old ones that pass it
abbrev pub Retains : (Bor Value → Bor Value → Bool → Type 0) → Entries → Entries → Type 0
Retains Answers old new =
    (test : Value → Value → Bool) → ((k v : Bor Value) (b : Bool) → Answers k v b → b ≡ test k.now v.now) →
    new ≡ filter (λ e. test e.0 e.1) old

-- the answer may be given at this key and value
pub record MayAnswer (Answers : Bor Value → Bor Value → Bool → Type 0) (b : Bool) (k v : Value) : Type 0 where
  pub key : Bor Value
  pub value : Bor Value
  pub at_key : key.now ≡ k
  pub at_value : value.now ≡ v
  pub given : Answers key value b

-- whatever the answers are, there was one for each pair in turn, and the new entries are the old ones at which it was true
abbrev pub Chooses : (Bor Value → Bor Value → Bool → Type 0) → Entries → Entries → Type 0
Chooses Answers old new =
    (answers : List Bool) × AllZip (λ b e. MayAnswer Answers b e.0 e.1) answers old × (new ≡ items_where_true answers old)
