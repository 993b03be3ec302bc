-- A value by a schema: the data of a shape that it becomes, if there is one.
--
-- Typed beside untyped reading. Not every text of a schema is one of values: `true(a: 1)` spells a struct named
-- `true`. So the law compares the two grammars where both spell a front of one text, for the shapes whose conversion
-- can't tell more than the text does. Maps, newtypes, enums, values and raw texts are left out of it.
--
-- Each value becomes its like alone. A character becomes no text and no bytes, a text no character and no bytes,
-- bytes no text, and the unit no `None`. The Rust crate's `into_rust` allows these, a list's items as a struct's
-- fields, and in place of a field's name a character, bytes, or the number of the field. No value becomes an enum,
-- there or here.
use Rattle.std.specs.Prelude.{ℕ, ℤ, Bool, if◌then◌else◌, List, [], ◌∷◌, Option, Some, None, option_map, chars, slice_get}
use Rattle.std.specs.Option.{option_and_then}
use Rattle.ron_spec_words.specs.Characters.{Text}
use Rattle.ron_value_number.specs.declared.width.Width.TheVariants.{U8}
use Rattle.ron_value_number.specs.Width.{fits}
use Rattle.ron_value.specs.Tree.{Tree}
use Rattle.ron_value.specs.Tree as tree
use Rattle.ron_spec_grammar.specs.Data.{Data, bool_of, int_of, char_of, str_of, bytes_of, the_unit, the_none, some_of, unit_struct_of, list_of, tuple_of}
use Rattle.ron_spec_grammar.specs.Data.{tuple_struct_of, newtype_of, value_of, raw_of, Datas, no_datas, data_and}
use Rattle.ron_spec_grammar.specs.Schema.{FieldList, Shape, bool, int, char, str, bytes, unit, optional, unit_struct, seq, tuple, tuple_struct, map, newtype}
use Rattle.ron_spec_grammar.specs.Schema.{struct, any_value, any_raw}
use Rattle.ron_spec_grammar.specs.Raw.{raw_valid}
use Rattle.ron_spec_grammar.specs.Shapes.Bytes.{natural}
use Rattle.ron_spec_grammar.specs.Shapes.Map.{map_data}
use Rattle.ron_spec_grammar.specs.Shapes.Struct.{Item, Target, known, unknown, target, struct_from}

-- ---- values that hold no others

-- as data itself, where the shape is that of values, and else by the shape
abbrev pub or_itself : Tree → Option Shape → Option Data → Option Data
or_itself t (Some any_value) o = Some (value_of t)
or_itself t _ o = o

abbrev pub boolean_as : Bool → Option Shape → Option Data
boolean_as b (Some bool) = Some (bool_of b)
boolean_as b _ = None

abbrev pub character_as : ℕ → Option Shape → Option Data
character_as c (Some char) = Some (char_of c)
character_as c _ = None

abbrev pub text_as : Text → Option Shape → Option Data
text_as t (Some str) = Some (str_of t)
text_as t (Some any_raw) = if raw_valid t then Some (raw_of t) else None
text_as t _ = None

abbrev pub bytes_as : List ℕ → Option Shape → Option Data
bytes_as bs (Some bytes) = Some (bytes_of bs)
bytes_as bs _ = None

-- a number, whatever its width is, where its value lies in the shape's
abbrev pub number_as : ℤ → Option Shape → Option Data
number_as n (Some (int w)) = if fits w n then Some (int_of w n) else None
number_as n _ = None

abbrev pub unit_as : Option Shape → Option Data
unit_as (Some unit) = Some the_unit
unit_as (Some (unit_struct name)) = Some (unit_struct_of name)
unit_as _ = None

abbrev pub none_as : Option Shape → Option Data
none_as (Some (optional j)) = Some the_none
none_as _ = None

-- ---- values that hold others, from what these become by the shapes at indices

-- a Some
abbrev pub some_as : (ℕ → Option Data) → Option Shape → Option Data
some_as content (Some (optional j)) = option_map some_of (content j)
some_as content _ = None

-- a list, from all its items by one shape, from its items by a shape each, from its only item, and from its bytes
abbrev pub sequence_as : (ℕ → Option Datas) → (List ℕ → Option Datas) → (ℕ → Option Data) → Option (List ℕ) → Option Shape → Option Data
sequence_as all in_turn only bs (Some (seq j)) = option_map list_of (all j)
sequence_as all in_turn only bs (Some (tuple js)) = option_map tuple_of (in_turn js)
sequence_as all in_turn only bs (Some (tuple_struct name js)) = option_map (tuple_struct_of name) (in_turn js)
sequence_as all in_turn only bs (Some (newtype name j)) = option_map (newtype_of name) (only j)
sequence_as all in_turn only bs (Some bytes) = option_map bytes_of bs
sequence_as all in_turn only bs _ = None

-- a map, from its pairs by two shapes, and from its fields
abbrev pub mapping_as : (ℕ → ℕ → Option (List (Data × Data))) → (FieldList → Option (List Item)) → Option Shape → Option Data
mapping_as pairs fields_of (Some (map k v)) = option_and_then map_data (pairs k v)
mapping_as pairs fields_of (Some (struct name list)) = option_and_then (struct_from name list.fields) (fields_of list)
mapping_as pairs fields_of _ = None

-- the first and what follows it, where both are there
abbrev pub with_both : {A B C : Type 0} → (A → B → C) → Option A → Option B → Option C
with_both f a b = option_and_then (λ x. option_map (f x) b) a

-- the byte that a value is
abbrev pub byte_of : Tree → Option ℕ
byte_of (tree.number w n) = if fits U8 n then natural n else None
byte_of _ = None

-- the bytes of a list
abbrev pub bytes_among : tree.Items → Option (List ℕ)
bytes_among tree.no_items = Some []
bytes_among (tree.item_and t ts) = with_both (λ b bs. b ∷ bs) (byte_of t) (bytes_among ts)

-- what a key names behind these items: a field that none of them is of, or one that is skipped
abbrev pub field_named : FieldList → List Item → Tree → Option Target
field_named list seen (tree.text bs) = target list seen (chars bs)
field_named list seen _ = None

-- a field's item, from what its value becomes; an unknown one's value is dropped
abbrev pub item_as : (ℕ → Option Data) → Target → Option Item
item_as value (known f) = option_map (λ d. (f.name, d)) (value f.shape)
item_as value (unknown name) = Some (name, the_unit)

-- the item, and those behind it, which follow from it, where all are there
abbrev pub followed : (Item → Option (List Item)) → Option Item → Option (List Item)
followed more item = option_and_then (λ x. option_map (λ xs. x ∷ xs) (more x)) item

-- ---- the conversion

-- The data of the shape at an index that a value becomes. Numbers need only fit; a list becomes bytes, a tuple of its length, or a newtype where it has one
-- item; a map whose keys are names or aliases of fields, and of each field one at most, becomes a struct. In a map a key that comes again behind the conversion
-- keeps its first place and takes the last value. Where the shape is that of values, a value stays as it is. Nothing becomes an enum.
abbrev mutual
  pub into : List Shape → ℕ → Tree → Option Data
  into schema i (tree.boolean b) = or_itself (tree.boolean b) (slice_get schema i) (boolean_as b (slice_get schema i))
  into schema i (tree.character c) = or_itself (tree.character c) (slice_get schema i) (character_as c (slice_get schema i))
  into schema i (tree.mapping ps) = or_itself (tree.mapping ps) (slice_get schema i)
      (mapping_as (λ k v. pairs_into schema k v ps) (λ list. fields_into schema list [] ps) (slice_get schema i))
  into schema i (tree.number w n) = or_itself (tree.number w n) (slice_get schema i) (number_as n (slice_get schema i))
  into schema i tree.none = or_itself tree.none (slice_get schema i) (none_as (slice_get schema i))
  into schema i (tree.some t) = or_itself (tree.some t) (slice_get schema i) (some_as (λ j. into schema j t) (slice_get schema i))
  into schema i (tree.text bs) = or_itself (tree.text bs) (slice_get schema i) (text_as (chars bs) (slice_get schema i))
  into schema i (tree.bytes bs) = or_itself (tree.bytes bs) (slice_get schema i) (bytes_as bs (slice_get schema i))
  into schema i (tree.sequence ts) = or_itself (tree.sequence ts) (slice_get schema i)
      (sequence_as (λ j. all_into schema j ts) (λ js. each_into schema js ts) (λ j. only_into schema j ts) (bytes_among ts) (slice_get schema i))
  into schema i tree.unit = or_itself tree.unit (slice_get schema i) (unit_as (slice_get schema i))

  -- each item by one shape
  pub all_into : List Shape → ℕ → tree.Items → Option Datas
  all_into schema j tree.no_items = Some no_datas
  all_into schema j (tree.item_and t ts) = with_both data_and (into schema j t) (all_into schema j ts)

  -- as many items as shapes, each by its own
  pub each_into : List Shape → List ℕ → tree.Items → Option Datas
  each_into schema [] tree.no_items = Some no_datas
  each_into schema (j ∷ js) (tree.item_and t ts) = with_both data_and (into schema j t) (each_into schema js ts)
  each_into schema [] (tree.item_and t ts) = None
  each_into schema (j ∷ js) tree.no_items = None

  -- the one item
  pub only_into : List Shape → ℕ → tree.Items → Option Data
  only_into schema j (tree.item_and t tree.no_items) = into schema j t
  only_into schema j _ = None

  -- each key and each value
  pub pairs_into : List Shape → ℕ → ℕ → tree.Pairs → Option (List (Data × Data))
  pairs_into schema k v tree.no_pairs = Some []
  pairs_into schema k v (tree.pair_and key t ps) =
      with_both (λ p rest. p ∷ rest) (with_both (λ a b. (a, b)) (into schema k key) (into schema v t)) (pairs_into schema k v ps)

  -- each key as a name or an alias of a field, no field twice, and each value by that field's shape; behind these items
  pub fields_into : List Shape → FieldList → List Item → tree.Pairs → Option (List Item)
  fields_into schema list seen tree.no_pairs = Some []
  fields_into schema list seen (tree.pair_and key t ps) =
      followed (λ item. fields_into schema list (item ∷ seen) ps) (option_and_then (item_as (λ j. into schema j t)) (field_named list seen key))
