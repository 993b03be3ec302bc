-- When code reads an enum's variant as the reader function does.
use Rattle.std.specs.Prelude.{◌≡◌, ℕ, List, length, Some, None, slice_get, Result, MatchResult}
use Rattle.ron_spec_words.specs.Characters.{Text}
use Rattle.ron_spec_grammar.specs.Schema.{Variant, VariantShape}
use Rattle.ron_spec_grammar.specs.Turns.{variant_at, read_variant_content}
use Rattle.ron_base.specs.declared.error.Error.{Error}
use Rattle.ron_lex.specs.Place.{Place}
use Rattle.ron_de_steps.specs.Reads.{Reads}
use Rattle.ron_data.specs.declared.data.VariantData.{VariantData}
use Rattle.ron_data.specs.Datum.{content_view, variant_of}
use Rattle.ron_de_parts.specs.Errors.{IsMemoryOr}
use Rattle.ron_de_parts.specs.Terms.{Terms}
use Rattle.ron_de_parts.specs.Room.{IsRoom, enough_for_group}

-- the variant at this index is named here, and this follows its name
abbrev pub IsVariantAt : List Variant → Text → Text → ℕ → Type 0
IsVariantAt variants s rest index = (variant : Variant) × (slice_get variants index ≡ Some variant) × (variant_at variants s ≡ Some (variant, rest))

-- the index of the variant that is named here, or none is
abbrev pub ReadsVariantName : List Variant → Text → Result ℕ Error → Text → Type 0
ReadsVariantName variants s result rest = MatchResult result (IsVariantAt variants s rest) (IsMemoryOr (variant_at variants s ≡ None))

-- In each room that the limit leaves in the enum, what the variant holds is read as the reader function reads it, whatever the names.
abbrev pub ReadsVariant : Terms → VariantShape → Place → Result VariantData Error → Text → Type 0
ReadsVariant terms content place result rest =
    (name v : Text) (room : ℕ) → IsRoom terms.limit (enough_for_group terms.schema (length place.rest)) room
    → Reads (λ held. variant_of name v (content_view held)) result (read_variant_content terms.extensions terms.schema room name v content place.rest) rest
