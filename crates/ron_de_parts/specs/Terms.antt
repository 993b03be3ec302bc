-- What a value is read by.
use Rattle.std.specs.Prelude.{◌≡◌, ℕ, List, Option, Some, None, chars, slice_get}
use denote.Ref.{Bor}
use Rattle.ron_spec_words.specs.Characters.{Text}
use Rattle.ron_spec_grammar.specs.Schema.{Shape, content_of}
use Rattle.ron_spec_grammar.specs.Rule.{Extensions}
use Rattle.ron_base.specs.Limit.{one_deeper}
use Rattle.ron_data_schema.specs.Shapes.{IsOneLonger}
use Rattle.ron_de_steps.specs.Conditions.{Conditions}

-- the extensions in force, the table of shapes, how many levels are left, where that is limited, and the text that slices are taken of, where texts aren't
-- copied
pub record Terms : Type 0 where
  pub extensions : Extensions
  pub schema : List Shape
  pub limit : Option ℕ
  pub source : Option Text

-- the characters of a text that slices are taken of
abbrev pub source_view : Option (Bor (List ℕ)) → Option Text
source_view None = None
source_view (Some text) = Some (chars text.now)

-- the same, one level deeper
abbrev pub IsDeeper : Terms → Terms → Type 0
IsDeeper outer inner =
    (inner.extensions ≡ outer.extensions) × (inner.schema ≡ outer.schema) × (one_deeper outer.limit ≡ Some inner.limit) × (inner.source ≡ outer.source)

-- what every value is read under, without the schema and the source
abbrev pub conditions_of : Terms → Conditions
conditions_of terms = record { extensions = terms.extensions; limit = terms.limit }

-- The shape stands at this index of the table; and of an option or a newtype the chain is one longer than that of what it holds.
abbrev pub StandsAt : Terms → Shape → ℕ → Type 0
StandsAt terms shape i = (slice_get terms.schema i ≡ Some shape) × IsOneLonger terms.schema i (content_of shape)
