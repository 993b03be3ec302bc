-- A value that becomes no data by a schema: why it doesn't, told of the first of its parts that doesn't fit.
use Rattle.std.specs.Prelude.{ℕ, Bool, true, false, cond, List, [], ◌∷◌, Option, Some, None, chars, slice_get}
use Rattle.std.specs.Option.{option_and_then}
use Rattle.std.specs.List.{list_any}
use Rattle.ron_value.specs.Tree.{Tree}
use Rattle.ron_value.specs.Tree as tree
use Rattle.ron_spec_grammar.specs.Schema.{FieldList, Shape, optional, seq, tuple, tuple_struct, map, newtype, struct, any_raw, is_called}
use Rattle.ron_spec_grammar.specs.Shapes.Struct.{Item, Target, known}
use Rattle.ron_spec_grammar.specs.Values.Conversion.{into, field_named, item_as}

pub data Misfit : Type 0 where
  -- a value of another kind than the shape's, a number that doesn't fit, or a key of a struct that is no text
  kind_differs : Misfit
  -- another number of items than a tuple or a newtype has
  length_differs : Misfit
  -- a text that is no raw text by itself
  not_raw : Misfit
  -- a key that calls no field, one that calls a field that came, and a field that didn't come
  names_no_field : Misfit
  names_field_again : Misfit
  lacks_field : Misfit

-- ---- by the shape, from what is told of the parts by the shapes at indices

abbrev pub text_misfit : Option Shape → Misfit
text_misfit (Some any_raw) = not_raw
text_misfit _ = kind_differs

abbrev pub some_misfit : (ℕ → Misfit) → Option Shape → Misfit
some_misfit content (Some (optional j)) = content j
some_misfit content _ = kind_differs

-- of all items by one shape, of its items by a shape each, and of its only item
abbrev pub sequence_misfit : (ℕ → Misfit) → (List ℕ → Misfit) → (ℕ → Misfit) → Option Shape → Misfit
sequence_misfit all in_turn only (Some (seq j)) = all j
sequence_misfit all in_turn only (Some (tuple js)) = in_turn js
sequence_misfit all in_turn only (Some (tuple_struct name js)) = in_turn js
sequence_misfit all in_turn only (Some (newtype name j)) = only j
sequence_misfit all in_turn only _ = kind_differs

-- of its pairs by two shapes, and of its fields
abbrev pub mapping_misfit : (ℕ → ℕ → Misfit) → (FieldList → Misfit) → Option Shape → Misfit
mapping_misfit pairs fields_of (Some (map k v)) = pairs k v
mapping_misfit pairs fields_of (Some (struct name list)) = fields_of list
mapping_misfit pairs fields_of _ = kind_differs

-- ---- of several parts the first that becomes nothing

-- of this part, where it becomes nothing, and else of those behind it
abbrev pub first_misfit : {A : Type 0} → Option A → Misfit → Misfit → Misfit
first_misfit None here behind = here
first_misfit (Some a) here behind = behind

-- as many items as shapes
abbrev pub as_many : List ℕ → tree.Items → Bool
as_many [] tree.no_items = true
as_many (j ∷ js) (tree.item_and t ts) = as_many js ts
as_many _ _ = false

-- of a key that may not stand behind others
abbrev pub key_misfit : FieldList → Tree → Misfit
key_misfit list (tree.text bs) = cond (list_any (is_called (chars bs)) list.fields) names_field_again names_no_field
key_misfit list _ = kind_differs

-- of a key with its value: of the key, unless it names a field, and then of the value by that field's shape
abbrev pub field_misfit : Misfit → (ℕ → Misfit) → Option Target → Misfit
field_misfit of_key value (Some (known f)) = value f.shape
field_misfit of_key value _ = of_key

-- of this field, where there is no item of it, and else of those behind that
abbrev pub followed_misfit : (Item → Misfit) → Misfit → Option Item → Misfit
followed_misfit behind here None = here
followed_misfit behind here (Some item) = behind item

-- ---- of a value

-- The first misfit of a value by the shape at an index, in the order of its items; of a tuple its length comes before them, of a struct what is missing behind
-- them. It speaks of values that become nothing, and of others says nothing.
abbrev mutual
  pub misfit : List Shape → ℕ → Tree → Misfit
  misfit schema i (tree.mapping ps) = mapping_misfit (λ k v. pairs_misfit schema k v ps) (λ list. fields_misfit schema list [] ps) (slice_get schema i)
  misfit schema i (tree.some t) = some_misfit (λ j. misfit schema j t) (slice_get schema i)
  misfit schema i (tree.text bs) = text_misfit (slice_get schema i)
  misfit schema i (tree.sequence ts) = sequence_misfit (λ j. all_misfit schema j ts) (λ js. cond (as_many js ts) (in_turn_misfit schema js ts) length_differs)
      (λ j. only_misfit schema j ts) (slice_get schema i)
  misfit schema i _ = kind_differs

  -- of items by one shape
  pub all_misfit : List Shape → ℕ → tree.Items → Misfit
  all_misfit schema j tree.no_items = kind_differs
  all_misfit schema j (tree.item_and t ts) = first_misfit (into schema j t) (misfit schema j t) (all_misfit schema j ts)

  -- of items by as many shapes, each by its own
  pub in_turn_misfit : List Shape → List ℕ → tree.Items → Misfit
  in_turn_misfit schema (j ∷ js) (tree.item_and t ts) = first_misfit (into schema j t) (misfit schema j t) (in_turn_misfit schema js ts)
  in_turn_misfit schema _ _ = length_differs

  -- of the one item
  pub only_misfit : List Shape → ℕ → tree.Items → Misfit
  only_misfit schema j (tree.item_and t tree.no_items) = misfit schema j t
  only_misfit schema j _ = length_differs

  -- of each key and its value
  pub pairs_misfit : List Shape → ℕ → ℕ → tree.Pairs → Misfit
  pairs_misfit schema k v tree.no_pairs = kind_differs
  pairs_misfit schema k v (tree.pair_and key t ps) =
      first_misfit (into schema k key) (misfit schema k key) (first_misfit (into schema v t) (misfit schema v t) (pairs_misfit schema k v ps))

  -- of fields, behind these items
  pub fields_misfit : List Shape → FieldList → List Item → tree.Pairs → Misfit
  fields_misfit schema list seen tree.no_pairs = lacks_field
  fields_misfit schema list seen (tree.pair_and key t ps) =
      followed_misfit (λ item. fields_misfit schema list (item ∷ seen) ps) (field_misfit (key_misfit list key) (λ j. misfit schema j t)
      (field_named list seen key)) (option_and_then (item_as (λ j. into schema j t)) (field_named list seen key))

-- of items by shapes, which may be more or fewer
abbrev pub each_misfit : List Shape → List ℕ → tree.Items → Misfit
each_misfit schema js ts = cond (as_many js ts) (in_turn_misfit schema js ts) length_differs
