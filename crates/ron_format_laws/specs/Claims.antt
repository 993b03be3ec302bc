-- What is claimed of texts of the same words: what the one spells the other spells, and so they are read as the same data.
use Rattle.std.specs.Prelude.{◌≡◌, ℕ, Bool, List, [], ◌∷◌, Option, Some, None, slice_get}
use Rattle.ron_spec_words.specs.Characters.{Text}
use Rattle.ron_spec_words.specs.Reader.{got}
use Rattle.ron_value.specs.Tree.{Tree}
use Rattle.ron_spec_grammar.specs.Data.{Data, value_of}
use Rattle.ron_spec_grammar.specs.Schema.{Shape, any_raw, any_value}
use Rattle.ron_spec_grammar.specs.Rule.{Extensions}
use Rattle.ron_spec_grammar.specs.Document.{BodyAt, Document, ok, answer_document}
use Rattle.ron_spec_grammar.specs.Values.Body.{ValueBody, answer_value}
use Rattle.ron_format_words.specs.Alike.{anywhere, SameWords}
use Rattle.ron_format_words.specs.Places.{SameText}

-- no shape of the schema is that of raw texts
abbrev pub IsRawless : List Shape → Type 0
IsRawless schema = (i : ℕ) → slice_get schema i ≡ Some any_raw → ⊥

-- ---- bodies: last commas may come and go anywhere

-- a body without a schema, within the same limit
abbrev pub KeepsValues : Type 0
KeepsValues = (unwrap : Bool) (limit : ℕ) (s u : Text) (t : Tree) → SameWords anywhere s u → ValueBody unwrap limit s t → ValueBody unwrap limit u t

-- what is read of it is read of the other
abbrev pub ReadsValues : Type 0
ReadsValues = (unwrap : Bool) (limit : ℕ) (s u : Text) (t : Tree) → SameWords anywhere s u → answer_value unwrap limit s ≡ got t []
    → answer_value unwrap limit u ≡ got t []

-- a body by a schema, within the same limit
abbrev pub KeepsBodies : Type 0
KeepsBodies = (at_start : Bool) (x : Extensions) (schema : List Shape) (root limit : ℕ) (s u : Text) (d : Data) → IsRawless schema → SameWords anywhere s u
    → BodyAt at_start x schema root limit s d → BodyAt at_start x schema root limit u d

-- ---- whole texts: last commas may come and go behind the attributes

-- by a schema, within the same limit
abbrev pub KeepsDocuments : Type 0
KeepsDocuments = (x : Extensions) (schema : List Shape) (root limit : ℕ) (s u : Text) (d : Data) → IsRawless schema → SameText s u
    → Document x schema root limit s d → Document x schema root limit u d

-- as a value without a schema, by a schema of one shape
abbrev pub KeepsValueDocuments : Type 0
KeepsValueDocuments = (x : Extensions) (limit : ℕ) (s u : Text) (t : Tree) → SameText s u
    → Document x (any_value ∷ []) 0 limit s (value_of t) → Document x (any_value ∷ []) 0 limit u (value_of t)

-- within a limit, or at some depth where there is none
abbrev pub DataWithin : Extensions → List Shape → ℕ → Option ℕ → Text → Data → Type 0
DataWithin x schema root (Some limit) text d = Document x schema root limit text d
DataWithin x schema root None text d = (room : ℕ) × Document x schema root room text d

-- By a schema, with a limit or without: the other text is a document of the data too, and of no other data at any depth.
pub record IsStill (x : Extensions) (schema : List Shape) (root : ℕ) (limit : Option ℕ) (text : Text) (d : Data) : Type 0 where
  pub within : DataWithin x schema root limit text d
  pub only : (other : Data) (room : ℕ) → Document x schema root room text other → other ≡ d

abbrev pub KeepsWholeTexts : Type 0
KeepsWholeTexts = (x : Extensions) (schema : List Shape) (root : ℕ) (limit : Option ℕ) (s u : Text) (d : Data) → IsRawless schema → SameText s u
    → DataWithin x schema root limit s d → IsStill x schema root limit u d

-- ---- the grammar's reader function answers the same data

abbrev pub ReadsDocuments : Type 0
ReadsDocuments = (x : Extensions) (schema : List Shape) (root limit : ℕ) (s u : Text) (d : Data) → IsRawless schema → SameText s u
    → answer_document x schema root limit s ≡ ok d → answer_document x schema root limit u ≡ ok d

abbrev pub ReadsValueDocuments : Type 0
ReadsValueDocuments = (x : Extensions) (limit : ℕ) (s u : Text) (t : Tree) → SameText s u
    → answer_document x (any_value ∷ []) 0 limit s ≡ ok (value_of t) → answer_document x (any_value ∷ []) 0 limit u ≡ ok (value_of t)
