-- What a cursor knows of the kinds behind the opening brackets of its text, and what it tells of a place.
use Rattle.std.specs.Prelude.{◌≡◌, ℕ, ◌*◌, Bool, true, false, List, map, length, slice_get, Contains, Option, Some, None}
use Rattle.std.specs.List.Sorted.{IsNonDecreasing}
use Rattle.ron_spec_words.specs.Characters.{Text}
use Rattle.ron_spec_words.specs.Lookahead.{opens_field, holds_several}
use Rattle.ron_spec_words.specs.Kind as words
use Rattle.ron_spec_words.specs.KindTable as stages
use Rattle.ron_spec_words.specs.Kind.{kind}
use Rattle.ron_spec_words.specs.Openings.{insides, content_place}
use Rattle.ron_spec_words.specs.Beyond.{bytes_in}
use Rattle.ron_lex.specs.declared.kinds.Kind.{Kind}
use Rattle.ron_lex.specs.declared.kinds.Kind.TheVariants.{Named, Many, Newtype, Broken}
use Rattle.ron_lex.specs.declared.kinds.Table.{Table}
use Rattle.ron_lex.specs.declared.kinds.Table.TheVariants.{Unasked, Refused, Filled}
use Rattle.ron_lex.specs.declared.kinds.Stage.{Stage}
use Rattle.ron_lex.specs.declared.kinds.Stage.TheVariants.{BehindOpening, BehindName, Elsewhere}

-- what a kind of the code says
abbrev pub kind_view : Kind → words.Kind
kind_view Named = words.named_fields
kind_view Many = words.many_items
kind_view Newtype = words.newtype_item
kind_view Broken = words.broken

-- where the pass over the tokens stands
abbrev pub stage_view : Stage → stages.Stage
stage_view BehindOpening = stages.behind_opening
stage_view BehindName = stages.behind_name
stage_view Elsewhere = stages.elsewhere

abbrev pub is_named : Kind → Bool
is_named Named = true
is_named Many = false
is_named Newtype = false
is_named Broken = false

abbrev pub is_many : Kind → Bool
is_many Many = true
is_many Named = false
is_many Newtype = false
is_many Broken = false

-- What the kind says of what stands here is what looks from here would tell.
pub record TellsPlace (k : Kind) (s : Text) : Type 0 where
  pub named : opens_field s ≡ is_named k
  pub many : opens_field s ≡ false → holds_several s ≡ is_many k

-- Of each opening bracket in turn, the place where its content begins, and the kind of what stands there.
pub record AreKindsIn (text : Text) (places : List ℕ) (kinds : List words.Kind) : Type 0 where
  pub places_are : places ≡ map (content_place text) (insides text)
  pub kinds_are : kinds ≡ map kind (insides text)

-- Where a place is found. It is found nowhere in places in order only where it is none of them.
abbrev pub FindsPlace : List ℕ → ℕ → Option ℕ → Type 0
FindsPlace places place (Some i) = slice_get places i ≡ Some place
FindsPlace places place None = IsNonDecreasing places → Contains places place → ⊥

-- What is found at a place: the kind that stands beside it. Nothing is found in a table of places in order only where the place is none of them.
abbrev pub FindsKind : List ℕ → List Kind → ℕ → Option Kind → Type 0
FindsKind places kinds place (Some k) = (i : ℕ) × (slice_get places i ≡ Some place) × (slice_get kinds i ≡ Some k)
FindsKind places kinds place None = length kinds ≡ length places → IsNonDecreasing places → Contains places place → ⊥

-- what is known of the kinds in a text is right
abbrev pub AreKindsOf : Table → Text → Type 0
AreKindsOf Unasked text = Unit {0}
AreKindsOf Refused text = Unit {0}
AreKindsOf (Filled k) text = AreKindsIn text k.places.items (map kind_view k.kinds.items)

-- how often each byte is gone over when the kinds are found
abbrev pub fill_rate : ℕ
fill_rate = 5

-- what finding the kinds will add to the count, where they weren't asked for yet
abbrev pub fill_owed : Table → Text → ℕ
fill_owed Unasked text = fill_rate * bytes_in text
fill_owed Refused text = 0
fill_owed (Filled k) text = 0
