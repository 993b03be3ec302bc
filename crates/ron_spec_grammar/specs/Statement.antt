-- What is claimed of the grammar and its reader function.
use Rattle.std.specs.Prelude.{◌≡◌, ◌↔◌, ℕ, ◌≤◌, Bool, true, false, length, List, [], ◌++◌}
use Rattle.ron_spec_words.specs.Characters.{Text, right_parenthesis}
use Rattle.ron_spec_words.specs.Gap.{Gap, skip}
use Rattle.ron_spec_words.specs.Reader.{deep, got, failed}
use Rattle.ron_spec_words.specs.Exact.{Takes, Before, FollowsValue}
use Rattle.ron_spec_words.specs.Scan.{Walk}
use Rattle.ron_spec_grammar.specs.Data.{Data}
use Rattle.ron_spec_grammar.specs.Schema.{Shape, is_well_formed, OfShape}
use Rattle.ron_spec_grammar.specs.Rule.{Extensions}
use Rattle.ron_spec_grammar.specs.Attribute.{EndsHead, StartsValue, head, value_start}
use Rattle.ron_spec_grammar.specs.Grammar.{SpellsAt}
use Rattle.ron_spec_grammar.specs.Reading.{read_at}
use Rattle.ron_spec_grammar.specs.Room.{enough}
use Rattle.ron_spec_grammar.specs.Document.{BodyAt, Body, Document, ok, err, answer_at, answer_document, body_depth, document_depth}

-- ---- bodies

-- The reader function answers a data exactly where the grammar relates the body and the data within the limit.
abbrev pub IsExact : Type 0
IsExact = (at_start : Bool) (x : Extensions) (schema : List Shape) (root limit : ℕ) (text : Text) (d : Data)
    → (answer_at at_start x schema root limit text ≡ ok d) ↔ BodyAt at_start x schema root limit text d

-- Any gaps may stand around the value, since they are the longest ones.
abbrev pub IsWithinAnyGaps : Type 0
IsWithinAnyGaps = (at_start : Bool) (x : Extensions) (schema : List Shape) (root limit : ℕ) (before value after : Text) (d : Data) → Gap before (value ++ after)
    → SpellsAt at_start x schema limit false root before value after d → Gap after [] → BodyAt at_start x schema root limit (before ++ (value ++ after)) d

-- A text spells at most one data, at whatever depths.
abbrev pub IsUnique : Type 0
IsUnique = (at_start : Bool) (x : Extensions) (schema : List Shape) (root m n : ℕ) (text : Text) (d e : Data) → BodyAt at_start x schema root m text d
    → BodyAt at_start x schema root n text e → d ≡ e

-- A higher limit spells no less.
abbrev pub IsMonotone : Type 0
IsMonotone = (at_start : Bool) (x : Extensions) (schema : List Shape) (root m n : ℕ) (text : Text) (d : Data) → m ≤ n → BodyAt at_start x schema root m text d
    → BodyAt at_start x schema root n text d

-- What is spelled at some depth, but not within the limit, is refused as too deep.
abbrev pub IsDeep : Type 0
IsDeep = (at_start : Bool) (x : Extensions) (schema : List Shape) (root limit n : ℕ) (text : Text) (d : Data) → BodyAt at_start x schema root n text d
    → (BodyAt at_start x schema root limit text d → ⊥) → answer_at at_start x schema root limit text ≡ err deep

-- By a well-formed schema, what is spelled at any depth is spelled at a depth that the text's length and the schema give.
abbrev pub IsBounded : Type 0
IsBounded = (at_start : Bool) (x : Extensions) (schema : List Shape) (root n : ℕ) (text : Text) (d : Data) → is_well_formed schema root ≡ true
    → BodyAt at_start x schema root n text d → BodyAt at_start x schema root (enough schema false root (length text)) text d

-- By a well-formed schema, a text is a body within a limit exactly where it is one at some depth and its depth is within the limit.
abbrev pub IsDepth : Type 0
IsDepth = (x : Extensions) (schema : List Shape) (root limit : ℕ) (text : Text) (d : Data) → is_well_formed schema root ≡ true
    → Body x schema root limit text d ↔ (((n : ℕ) × Body x schema root n text d) × (body_depth x schema root text ≤ limit))

-- The data that is spelled is of the schema.
abbrev pub IsOfSchema : Type 0
IsOfSchema = (at_start : Bool) (x : Extensions) (schema : List Shape) (root limit : ℕ) (text : Text) (d : Data) → is_well_formed schema root ≡ true
    → BodyAt at_start x schema root limit text d → OfShape schema root d

-- ---- documents: the same behind a head

-- A body is a document that announces nothing.
abbrev pub IsDocumentAlone : Type 0
IsDocumentAlone = (x : Extensions) (schema : List Shape) (root limit : ℕ) (text : Text) (d : Data) → Body x schema root limit text d
    → Document x schema root limit text d

abbrev pub IsExactDocument : Type 0
IsExactDocument = (x : Extensions) (schema : List Shape) (root limit : ℕ) (text : Text) (d : Data)
    → (answer_document x schema root limit text ≡ ok d) ↔ Document x schema root limit text d

abbrev pub IsUniqueDocument : Type 0
IsUniqueDocument = (x : Extensions) (schema : List Shape) (root m n : ℕ) (text : Text) (d e : Data) → Document x schema root m text d
    → Document x schema root n text e → d ≡ e

abbrev pub IsMonotoneDocument : Type 0
IsMonotoneDocument = (x : Extensions) (schema : List Shape) (root m n : ℕ) (text : Text) (d : Data) → m ≤ n → Document x schema root m text d
    → Document x schema root n text d

abbrev pub IsDeepDocument : Type 0
IsDeepDocument = (x : Extensions) (schema : List Shape) (root limit n : ℕ) (text : Text) (d : Data) → Document x schema root n text d
    → (Document x schema root limit text d → ⊥) → answer_document x schema root limit text ≡ err deep

abbrev pub IsBoundedDocument : Type 0
IsBoundedDocument = (x : Extensions) (schema : List Shape) (root n : ℕ) (text : Text) (d : Data) → is_well_formed schema root ≡ true
    → Document x schema root n text d → Document x schema root (enough schema false root (length text)) text d

abbrev pub IsDocumentDepth : Type 0
IsDocumentDepth = (x : Extensions) (schema : List Shape) (root limit : ℕ) (text : Text) (d : Data) → is_well_formed schema root ≡ true
    → Document x schema root limit text d ↔ (((n : ℕ) × Document x schema root n text d) × (document_depth x schema root text ≤ limit))

abbrev pub IsDocumentOfSchema : Type 0
IsDocumentOfSchema = (x : Extensions) (schema : List Shape) (root limit : ℕ) (text : Text) (d : Data) → is_well_formed schema root ≡ true
    → Document x schema root limit text d → OfShape schema root d

-- ---- heads

-- The reader function answers what is in force and what is left exactly behind a head that no attribute follows.
abbrev pub IsExactHead : Type 0
IsExactHead = (x : Extensions) (text : Text) (y : Extensions) (body : Text) → (head x text ≡ got y body) ↔ EndsHead x text y body

-- It answers where a value may begin exactly there.
abbrev pub IsExactStart : Type 0
IsExactStart = (x : Extensions) (text : Text) (y : Extensions) (gap rest : Text) → (value_start x text ≡ got (y, gap) rest) ↔ StartsValue x text y gap rest

-- ---- a value at a place: a front of the text

-- Where the reader function answers a data, that front spells it.
abbrev pub IsSoundAtPlace : Type 0
IsSoundAtPlace = (at_start : Bool) (x : Extensions) (schema : List Shape) (i room : ℕ) (before s rest : Text) (d : Data)
    → read_at at_start x schema room false i before s ≡ got d rest → Takes (SpellsAt at_start x schema room false i before) s d rest

-- It answers the data wherever a front spells it and what follows, after a gap, ends or goes on with `,`, `:` or a closing bracket.
abbrev pub IsCompleteAtPlace : Type 0
IsCompleteAtPlace = (at_start : Bool) (x : Extensions) (schema : List Shape) (i room : ℕ) (before t next : Text) (d : Data)
    → SpellsAt at_start x schema room false i before t next d → FollowsValue next → read_at at_start x schema room false i before (t ++ next) ≡ got d next

-- At most one front does, and it spells at most one data, in whatever rooms.
abbrev pub IsUniqueAtPlace : Type 0
IsUniqueAtPlace = (at_start : Bool) (x : Extensions) (schema : List Shape) (i m n : ℕ) (before t next u other : Text) (d e : Data) → t ++ next ≡ u ++ other
    → SpellsAt at_start x schema m false i before t next d → FollowsValue next → SpellsAt at_start x schema n false i before u other e → FollowsValue other
    → (t ≡ u) × (d ≡ e)

-- What such a front spells in some room, but not in this one, is too deep for this one.
abbrev pub IsDeepAtPlace : Type 0
IsDeepAtPlace = (at_start : Bool) (x : Extensions) (schema : List Shape) (i room n : ℕ) (before t next : Text) (d : Data)
    → SpellsAt at_start x schema n false i before t next d → FollowsValue next → (SpellsAt at_start x schema room false i before t next d → ⊥)
    → read_at at_start x schema room false i before (t ++ next) ≡ failed deep

-- More room spells no less there.
abbrev pub IsMonotoneAtPlace : Type 0
IsMonotoneAtPlace = (at_start : Bool) (x : Extensions) (schema : List Shape) (i m n : ℕ) (before t next : Text) (d : Data) → m ≤ n
    → SpellsAt at_start x schema m false i before t next d → FollowsValue next → SpellsAt at_start x schema n false i before t next d

-- By a well-formed schema, what is spelled there in any room is spelled in the room that the length of the text from there on and the schema give.
abbrev pub IsBoundedAtPlace : Type 0
IsBoundedAtPlace = (at_start : Bool) (x : Extensions) (schema : List Shape) (root i n : ℕ) (before t next : Text) (d : Data) → is_well_formed schema root ≡ true
    → SpellsAt at_start x schema n false i before t next d → FollowsValue next
    → SpellsAt at_start x schema (enough schema false i (length (t ++ next))) false i before t next d

-- The data that a front spells is of the schema.
abbrev pub IsOfSchemaAtPlace : Type 0
IsOfSchemaAtPlace = (at_start : Bool) (x : Extensions) (schema : List Shape) (root i room : ℕ) (before t next : Text) (d : Data)
    → is_well_formed schema root ≡ true → SpellsAt at_start x schema room false i before t next d → OfShape schema i d

-- What is spelled there is a walk over whole tokens that leaves as many brackets open as there were: it closes none of these, and no comma stands in it outside
-- its own.
abbrev pub IsWalkAtPlace : Type 0
IsWalkAtPlace = (at_start : Bool) (x : Extensions) (schema : List Shape) (i room k : ℕ) (before t next : Text) (d : Data)
    → SpellsAt at_start x schema room false i before t next d → FollowsValue next → Walk false k (t ++ next) k next

-- What is spelled bare, before the closing parenthesis, is such a walk, in which commas may stand.
abbrev pub IsBareWalk : Type 0
IsBareWalk = (at_start : Bool) (x : Extensions) (schema : List Shape) (i room k : ℕ) (before t next : Text) (d : Data)
    → SpellsAt at_start x schema room true i before t next d → Before right_parenthesis next → skip (t ++ next) ≡ t ++ next → Walk true k (t ++ next) k next

-- By a well-formed schema, nothing is too deep with so much room.
abbrev pub IsEnough : Type 0
IsEnough = (at_start : Bool) (x : Extensions) (schema : List Shape) (root : ℕ) (bare : Bool) (i room : ℕ) (before s : Text) → is_well_formed schema root ≡ true
    → enough schema bare i (length s) ≤ room → read_at at_start x schema room bare i before s ≡ failed deep → ⊥
