-- What is kept of data that a value is made of.
use Rattle.std.specs.Prelude.{List, [], ◌∷◌, map, Option, Some, None}
use Rattle.std.specs.declared.cmp.Ordering.{Ordering}
use Rattle.std.specs.BTreeMap.{insert_entry}
use Rattle.ron_spec_grammar.specs.Data.{Data, the_none, some_of, list_of, tuple_of, map_of, Datas, no_datas, data_and, datas, Pairs, no_pairs, pair_and}
use Rattle.ron_data.specs.Datum.{pairs_of}

-- all of it
abbrev pub unchanged : Data → Data
unchanged d = d

-- what is kept of what an option holds
abbrev pub option_normal : (Data → Data) → Data → Data
option_normal f (some_of d) = some_of (f d)
option_normal f d = d

-- of each item of a list
abbrev pub items_normal : (Data → Data) → Datas → Datas
items_normal f no_datas = no_datas
items_normal f (data_and d ds) = data_and (f d) (items_normal f ds)

abbrev pub list_normal : (Data → Data) → Data → Data
list_normal f (list_of ds) = list_of (items_normal f ds)
list_normal f d = d

-- of each item of a tuple, by its own type
abbrev pub each_normal : List (Data → Data) → Datas → Datas
each_normal [] ds = ds
each_normal (f ∷ fs) no_datas = no_datas
each_normal (f ∷ fs) (data_and d ds) = data_and (f d) (each_normal fs ds)

abbrev pub tuple_normal : List (Data → Data) → Data → Data
tuple_normal fs (tuple_of ds) = tuple_of (each_normal fs ds)
tuple_normal fs d = d

-- the pairs as entries that are put into a map one by one, under an order of keys
module _ (key_cmp : Data → Data → Ordering) (f g : Data → Data) where
  abbrev pub entries_normal : List (Data × Data) → Pairs → List (Data × Data)
  entries_normal es no_pairs = es
  entries_normal es (pair_and k d ps) = entries_normal (insert_entry key_cmp es (f k) (g d)) ps

  -- of a map: its keys in their order, and of equal keys the last one's value
  abbrev pub map_normal : Data → Data
  map_normal (map_of ps) = map_of (pairs_of (entries_normal [] ps))
  map_normal d = d

-- ---- what values of std's types stand for

abbrev pub option_data : {T : Type 0} → (T → Data) → Option T → Data
option_data f None = the_none
option_data f (Some x) = some_of (f x)

abbrev pub list_data : {T : Type 0} → (T → Data) → List T → Data
list_data f xs = list_of (datas (map f xs))

-- the data of keys and values
abbrev pub entries_data : {K V : Type 0} → (K → Data) → (V → Data) → List (K × V) → List (Data × Data)
entries_data f g es = map (λ e. (f e.0, g e.1)) es

abbrev pub map_data : {K V : Type 0} → (K → Data) → (V → Data) → List (K × V) → Data
map_data f g es = map_of (pairs_of (entries_data f g es))
