-- The kind of what stands behind an opening bracket.
use Rattle.std.specs.Prelude.{◌≡◌, ◌↔◌, zero, true, false, if◌then◌else◌, [], ◌∷◌}
use Rattle.ron_spec_words.specs.Characters.{Text}
use Rattle.ron_spec_words.specs.Gap.{skip}
use Rattle.ron_spec_words.specs.Lookahead.{opens_field, seek, separates, holds_several}

-- fields by their names; several items; one item with or without its last comma, or none; what breaks before that is told
pub data Kind : Type 0 where
  named_fields : Kind
  many_items : Kind
  newtype_item : Kind
  broken : Kind

-- what the first token tells that ends what stands outside inner brackets: a comma that separates items, another comma or a closing bracket, or no such token
abbrev pub kind_at : Text → Kind
kind_at [] = broken
kind_at (c ∷ s) = if separates (c ∷ s) then many_items else newtype_item

-- Named: after a gap a name, a gap and `:`. Else it is told by the first comma outside inner brackets that stands before the group's closing bracket and any
-- broken token, and without such a comma by that closing bracket.
unfoldable pub kind : Text → Kind
kind s = if opens_field (skip s) then named_fields else kind_at (seek zero zero s)

-- ---- what is claimed of it

-- What the lookahead answers behind the gap is what the kind says.
pub record TellsKind (s : Text) : Type 0 where
  pub fields : (opens_field (skip s) ≡ true) ↔ (kind s ≡ named_fields)
  pub several : opens_field (skip s) ≡ false → (holds_several (skip s) ≡ true) ↔ (kind s ≡ many_items)

-- It does so at every text.
abbrev pub TellsKinds : Type 0
TellsKinds = (s : Text) → TellsKind s
