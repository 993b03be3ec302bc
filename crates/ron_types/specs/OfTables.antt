-- Data of a type's schema.
use Rattle.std.specs.Prelude.{List, [], ◌∷◌, Option, option_map, find}
use Rattle.ron_spec_words.specs.Characters.{Text}
use Rattle.ron_spec_words.specs.Runs.{same_text}
use Rattle.ron_spec_grammar.specs.Data.{Data, Fields, no_fields, field_and}
use Rattle.ron_spec_grammar.specs.Schema.{OfShape}
use Rattle.ron_data_schema.specs.Table.{Table}
use Rattle.ron_types.specs.Ordered.{HasOrderedValues}
use Rattle.ron_types.specs.Tables.{Named, Holding}

-- data is of the schema, read from its root
abbrev pub IsOf : Table → Data → Type 0
IsOf t d = OfShape t.shapes t.root d

-- it is, where the values without a schema in it have their maps in order
abbrev pub IsOfOrdered : Table → Data → Type 0
IsOfOrdered t d = HasOrderedValues d → IsOf t d

-- data for each of the tables, in order
abbrev pub EachIsOf : List Table → List Data → Type 0
EachIsOf [] [] = Unit {0}
EachIsOf (t ∷ ts) (d ∷ ds) = IsOfOrdered t d × EachIsOf ts ds
EachIsOf [] (d ∷ ds) = ⊥
EachIsOf (t ∷ ts) [] = ⊥

-- data for each of the parts, as fields by their names
abbrev pub fields_with : List Named → List Data → Fields
fields_with [] ds = no_fields
fields_with (p ∷ ps) [] = no_fields
fields_with (p ∷ ps) (d ∷ ds) = field_and p.0 d (fields_with ps ds)

-- what the variant of this name holds, if there is one
abbrev pub holding_of : Text → List (Text × Holding) → Option Holding
holding_of name variants = option_map (λ v. v.1) (find (λ v. same_text v.0 name) variants)
