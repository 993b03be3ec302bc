-- What is claimed of a text by a schema and without one: where the value of the text becomes data of the schema, it becomes the data of the text.
use Rattle.std.specs.Prelude.{◌≡◌, ℕ, Bool, true, false, List, [], ◌∷◌, Some}
use Rattle.std.specs.List.{list_all}
use lib.Utf8.{scalars}
use Rattle.ron_spec_words.specs.Characters.{Text}
use Rattle.ron_base.specs.Extensions.{no_extensions}
use Rattle.ron_value.specs.Tree.{Tree}
use Rattle.ron_spec_grammar.specs.Data.{Data, value_of}
use Rattle.ron_spec_grammar.specs.Schema.{Shape, map, newtype, struct, enum, any_value, any_raw, has_whole_range}
use Rattle.ron_spec_grammar.specs.Rule.{Extensions}
use Rattle.ron_spec_grammar.specs.Attribute.{in_force}
use Rattle.ron_spec_grammar.specs.Document.{BodyAt, Document}
use Rattle.ron_spec_grammar.specs.Values.Conversion.{into}
use Rattle.ron_spec_grammar.specs.Values.Body.{ValueBody}

-- the shape is no map, no newtype, no enum, and neither that of values nor that of raw texts; and no field of a range struct may be missing
abbrev pub agrees : Shape → Bool
agrees (map k v) = false
agrees (newtype name j) = false
agrees (enum name variants) = false
agrees any_value = false
agrees any_raw = false
agrees (struct name list) = has_whole_range (struct name list)
agrees _ = true

-- A body that spells data under no extensions, by a schema of such shapes alone, and a value without a schema: what the value becomes, if it becomes anything,
-- is that data. The text is one of Unicode scalar values.
abbrev pub AgreesWithConversion : Type 0
AgreesWithConversion = (at_start : Bool) (schema : List Shape) (root m n : ℕ) (text : Text) (d e : Data) (t : Tree) → list_all agrees schema ≡ true
    → scalars text ≡ true → BodyAt at_start no_extensions schema root m text d → ValueBody false n text t → into schema root t ≡ Some e → e ≡ d

-- Likewise a document whose head leaves no extension in force.
abbrev pub DocumentsAgree : Type 0
DocumentsAgree = (x : Extensions) (schema : List Shape) (root m n : ℕ) (text : Text) (d e : Data) (t : Tree) → list_all agrees schema ≡ true
    → scalars text ≡ true → (a : Document x schema root m text d) → in_force x a.announced ≡ no_extensions → Document x (any_value ∷ []) 0 n text (value_of t)
    → into schema root t ≡ Some e → e ≡ d
