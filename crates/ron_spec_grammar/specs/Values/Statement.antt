-- What is claimed of values without a schema.
use Rattle.std.specs.Prelude.{◌≡◌, ◌↔◌, ℕ, ◌+◌, ◌*◌, ◌≤◌, Bool, true, false, if◌then◌else◌, length, List, [], Some, ◌++◌}
use Rattle.ron_spec_words.specs.Characters.{Text, right_parenthesis}
use Rattle.ron_spec_words.specs.Gap.{Gap, skip}
use Rattle.ron_spec_words.specs.Reader.{deep, got, failed}
use Rattle.ron_spec_words.specs.Exact.{Takes, Before, FollowsValue}
use Rattle.ron_spec_words.specs.Scan.{Walk}
use Rattle.ron_value.specs.Tree.{Tree}
use Rattle.ron_spec_grammar.specs.Data.{Data}
use Rattle.ron_spec_grammar.specs.Depth.{least_depth}
use Rattle.ron_spec_grammar.specs.Schema.{Shape, is_well_formed, OfShape}
use Rattle.ron_spec_grammar.specs.Values.Trees.{IsValue, lift, normal}
use Rattle.ron_spec_grammar.specs.Values.Conversion.{into}
use Rattle.ron_spec_grammar.specs.Values.Grammar.{AnySpells, read_any}
use Rattle.ron_spec_grammar.specs.Values.Body.{ValueBody, answer_value}

-- ---- a value at a place: a front of the text

-- levels that are enough for a value, bare or not, on a text of so many characters
abbrev pub enough_for_value : Bool → ℕ → ℕ
enough_for_value bare characters = characters * 6 + (if bare then 2 else 0)

-- Where the reader function answers a value, that front spells it.
abbrev pub IsSoundValue : Type 0
IsSoundValue = (unwrap : Bool) (room : ℕ) (before s rest : Text) (t : Tree) → read_any unwrap room false before s ≡ got t rest
    → Takes (AnySpells unwrap room false before) s t rest

-- It answers the value wherever a front spells it and what follows, after a gap, ends or goes on with `,`, `:` or a closing bracket.
abbrev pub IsCompleteValue : Type 0
IsCompleteValue = (unwrap : Bool) (room : ℕ) (before s next : Text) (t : Tree) → AnySpells unwrap room false before s next t → FollowsValue next
    → read_any unwrap room false before (s ++ next) ≡ got t next

-- At most one front does, and it spells at most one value, in whatever rooms.
abbrev pub IsUniqueValue : Type 0
IsUniqueValue = (unwrap : Bool) (m n : ℕ) (before s next u other : Text) (t v : Tree) → s ++ next ≡ u ++ other → AnySpells unwrap m false before s next t
    → FollowsValue next → AnySpells unwrap n false before u other v → FollowsValue other → (s ≡ u) × (t ≡ v)

-- More room spells no less.
abbrev pub IsMonotoneValue : Type 0
IsMonotoneValue = (unwrap : Bool) (m n : ℕ) (before s next : Text) (t : Tree) → m ≤ n → AnySpells unwrap m false before s next t → FollowsValue next
    → AnySpells unwrap n false before s next t

-- What a front spells in some room, but not in this one, is too deep for this one.
abbrev pub IsDeepValue : Type 0
IsDeepValue = (unwrap : Bool) (room n : ℕ) (before s next : Text) (t : Tree) → AnySpells unwrap n false before s next t → FollowsValue next
    → (AnySpells unwrap room false before s next t → ⊥) → read_any unwrap room false before (s ++ next) ≡ failed deep

-- What is spelled in any room is spelled in the room that the length of the text from there on gives.
abbrev pub IsBoundedValue : Type 0
IsBoundedValue = (unwrap : Bool) (n : ℕ) (before s next : Text) (t : Tree) → AnySpells unwrap n false before s next t → FollowsValue next
    → AnySpells unwrap (enough_for_value false (length (s ++ next))) false before s next t

-- Nothing is too deep with so much room.
abbrev pub IsEnoughForValue : Type 0
IsEnoughForValue = (unwrap bare : Bool) (room : ℕ) (before s : Text) → enough_for_value bare (length s) ≤ room
    → read_any unwrap room bare before s ≡ failed deep → ⊥

-- What is spelled is a value.
abbrev pub SpellsValues : Type 0
SpellsValues = (unwrap bare : Bool) (room : ℕ) (before s next : Text) (t : Tree) → AnySpells unwrap room bare before s next t → IsValue t

-- What is spelled is a walk over whole tokens that leaves as many brackets open as there were.
abbrev pub IsWalkOfValue : Type 0
IsWalkOfValue = (unwrap : Bool) (room k : ℕ) (before s next : Text) (t : Tree) → AnySpells unwrap room false before s next t → FollowsValue next
    → Walk false k (s ++ next) k next

-- What is spelled bare, before the closing parenthesis, is such a walk, in which commas may stand.
abbrev pub IsBareWalkOfValue : Type 0
IsBareWalkOfValue = (unwrap : Bool) (room k : ℕ) (before s next : Text) (t : Tree) → AnySpells unwrap room true before s next t → Before right_parenthesis next
    → skip (s ++ next) ≡ s ++ next → Walk true k (s ++ next) k next

-- Bare content is read exactly too.
abbrev pub IsSoundBareValue : Type 0
IsSoundBareValue = (unwrap : Bool) (room : ℕ) (before s rest : Text) (t : Tree) → read_any unwrap room true before s ≡ got t rest
    → Takes (AnySpells unwrap room true before) s t rest

abbrev pub IsCompleteBareValue : Type 0
IsCompleteBareValue = (unwrap : Bool) (room : ℕ) (before s next : Text) (t : Tree) → AnySpells unwrap room true before s next t → Before right_parenthesis next
    → skip (s ++ next) ≡ s ++ next → read_any unwrap room true before (s ++ next) ≡ got t next

-- ---- values

-- A normal form is its own.
abbrev pub IsNormalValue : Type 0
IsNormalValue = (suffixes : Bool) (t : Tree) → normal suffixes (normal suffixes t) ≡ normal suffixes t

-- The normal form of a value is a value, and as data no deeper than it.
abbrev pub NormalFormsAreValues : Type 0
NormalFormsAreValues = (suffixes : Bool) (t : Tree) → IsValue t → IsValue (normal suffixes t) × (least_depth (lift (normal suffixes t)) ≤ least_depth (lift t))

-- By a well-formed schema, what a value becomes is data of the shape, and by its least depth no deeper than the value as data.
abbrev pub IsConverted : Type 0
IsConverted = (schema : List Shape) (root i : ℕ) (t : Tree) (d : Data) → is_well_formed schema root ≡ true → IsValue t → into schema i t ≡ Some d
    → OfShape schema i d × (least_depth d ≤ least_depth (lift t))

-- ---- bodies: a gap, a value, and a gap as a whole text

abbrev pub IsExactValueBody : Type 0
IsExactValueBody = (unwrap : Bool) (limit : ℕ) (text : Text) (t : Tree) → (answer_value unwrap limit text ≡ got t []) ↔ ValueBody unwrap limit text t

-- Any gaps may stand around the value, since they are the longest ones.
abbrev pub IsValueWithinAnyGaps : Type 0
IsValueWithinAnyGaps = (unwrap : Bool) (limit : ℕ) (before value after : Text) (t : Tree) → Gap before (value ++ after)
    → AnySpells unwrap limit false before value after t → Gap after [] → ValueBody unwrap limit (before ++ (value ++ after)) t

abbrev pub IsUniqueValueBody : Type 0
IsUniqueValueBody = (unwrap : Bool) (m n : ℕ) (text : Text) (t v : Tree) → ValueBody unwrap m text t → ValueBody unwrap n text v → t ≡ v

abbrev pub IsMonotoneValueBody : Type 0
IsMonotoneValueBody = (unwrap : Bool) (m n : ℕ) (text : Text) (t : Tree) → m ≤ n → ValueBody unwrap m text t → ValueBody unwrap n text t

abbrev pub IsDeepValueBody : Type 0
IsDeepValueBody = (unwrap : Bool) (limit n : ℕ) (text : Text) (t : Tree) → ValueBody unwrap n text t → (ValueBody unwrap limit text t → ⊥)
    → answer_value unwrap limit text ≡ failed deep

-- What is read of a whole text is a value.
abbrev pub BodiesAreValues : Type 0
BodiesAreValues = (unwrap : Bool) (limit : ℕ) (text : Text) (t : Tree) → ValueBody unwrap limit text t → IsValue t

-- What is spelled at any depth is spelled at a depth that the text's length gives.
abbrev pub IsBoundedValueBody : Type 0
IsBoundedValueBody = (unwrap : Bool) (n : ℕ) (text : Text) (t : Tree) → ValueBody unwrap n text t
    → ValueBody unwrap (enough_for_value false (length text)) text t
