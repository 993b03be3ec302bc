-- Entries that are put in one by one, under keys of one order.
use Rattle.std.specs.Prelude.{ℕ, suc, List, [], ◌∷◌, if◌then◌else◌}
use Rattle.std.specs.declared.cmp.Ordering.{Ordering}
use Rattle.std.specs.Ordering.{on, is_eq}
use Rattle.ron_spec_grammar.specs.Data as plain
use Rattle.ron_data.specs.declared.data.Data.{Data}
use Rattle.ron_data.specs.declared.order.Key.{Key}
use Rattle.ron_data.specs.Datum.{data_view}
use Rattle.ron_data.specs.Order.{data_cmp}

module _ {K V : Type 0} (R : K → K → Ordering) where
  -- the index of the entry with this key, or how many entries there are
  abbrev pub place_in : K → List (K × V) → ℕ
  place_in k [] = 0
  place_in k (e ∷ es) = if is_eq (R k e.0) then 0 else suc (place_in k es)

  -- one more entry: a key that is there already takes the value in its place
  abbrev pub with_entry : List (K × V) → K × V → List (K × V)
  with_entry [] p = p ∷ []
  with_entry (e ∷ es) p = if is_eq (R p.0 e.0) then (e.0, p.1) ∷ es else e ∷ with_entry es p

  -- more entries, one by one
  abbrev pub with_entries : List (K × V) → List (K × V) → List (K × V)
  with_entries es [] = es
  with_entries es (p ∷ ps) = with_entries (with_entry es p) ps

  -- the place of each of them, as they are put in
  abbrev pub places_in : List (K × V) → List (K × V) → List ℕ
  places_in es [] = []
  places_in es (p ∷ ps) = place_in p.0 es ∷ places_in (with_entry es p) ps

-- the data of a key
abbrev pub key_of : Key → plain.Data
key_of k = data_view k.held

-- keys compare as their data do
abbrev pub key_cmp : Key → Key → Ordering
key_cmp = on key_of data_cmp

-- a pair whose key is ordered, and back
abbrev pub with_key : Data × Data → Key × Data
with_key p = (record { held = p.0 }, p.1)

abbrev pub without_key : Key × Data → Data × Data
without_key p = (p.0.held, p.1)
