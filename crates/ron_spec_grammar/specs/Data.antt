-- Data, as plain trees.
--
-- A value within data stays a tree. Data has a case of its own for a value without a schema (`value_of`), in place of
-- taking the value apart into lists, maps and numbers. So data tells which shape it is of, a map within a value keeps
-- its keys in order while a map of a schema keeps the order of first keys. A document of a value is a document of the
-- schema whose one shape is that of values. No law of its own is wanted.
use Rattle.std.specs.Prelude.{ℕ, ℤ, Bool, List, [], ◌∷◌}
use Rattle.ron_spec_words.specs.Characters.{Text}
use Rattle.ron_value_number.specs.declared.width.Width.{Width}
use Rattle.ron_value.specs.Tree.{Tree}

-- Data of every shape. Structs and enums have their names, a variant its own too, and a struct's fields stand in the schema's order. What needs no schema is a
-- value.
mutual
  pub data Data : Type 0 where
    bool_of : Bool → Data
    int_of : Width → ℤ → Data
    char_of : ℕ → Data
    str_of : Text → Data
    bytes_of : List ℕ → Data
    the_unit : Data
    the_none : Data
    some_of : Data → Data
    unit_struct_of : Text → Data
    list_of : Datas → Data
    tuple_of : Datas → Data
    tuple_struct_of : Text → Datas → Data
    map_of : Pairs → Data
    newtype_of : Text → Data → Data
    struct_of : Text → Fields → Data
    unit_variant_of : Text → Text → Data
    newtype_variant_of : Text → Text → Data → Data
    tuple_variant_of : Text → Text → Datas → Data
    struct_variant_of : Text → Text → Fields → Data
    value_of : Tree → Data
    raw_of : Text → Data

  -- the items of a list or a tuple
  pub data Datas : Type 0 where
    no_datas : Datas
    data_and : Data → Datas → Datas

  -- the keys of a map, each with its value
  pub data Pairs : Type 0 where
    no_pairs : Pairs
    pair_and : Data → Data → Pairs → Pairs

  -- the fields of a struct, each with its name
  pub data Fields : Type 0 where
    no_fields : Fields
    field_and : Text → Data → Fields → Fields

-- the items of a list of them
abbrev pub datas : List Data → Datas
datas [] = no_datas
datas (d ∷ ds) = data_and d (datas ds)
