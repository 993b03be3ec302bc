-- Reading whole texts, and what is written.
use Rattle.std.specs.Prelude.{◌≡◌, ◌⊎◌, ◌+◌, ◌==◌, ℕ, true, false, [], ◌∷◌, length, ◌++◌, Option, Some, None, IsSome, Result, MatchResult, IfErr}
use Rattle.ron_spec_words.specs.Characters.{Text, hash}
use Rattle.ron_spec_words.specs.Runs.{is_at}
use Rattle.ron_spec_words.specs.Gap.{Gap, skip}
use Rattle.ron_spec_words.specs.Reader.{got, deep, bad}
use Rattle.ron_spec_words.specs.Quoted.{String}
use Rattle.ron_spec_grammar.specs.Data as plain
use Rattle.ron_spec_grammar.specs.Schema.{OfShape, is_well_formed, any_value}
use Rattle.ron_spec_grammar.specs.Room.{enough}
use Rattle.ron_spec_grammar.specs.Reading.{read_at}
use Rattle.ron_spec_grammar.specs.Document.{Document, Answer, ok, err, answer_document, document_depth}
use Rattle.ron_spec_layout.specs.Name.{names_ok}
use Rattle.ron_spec_layout.specs.Encodable.{is_encodable}
use Rattle.ron_spec_layout.specs.Config.{Config, no_docs, blank, ends_lines}
use Rattle.ron_spec_layout.specs.Docs.{is_documented}
use Rattle.ron_spec_layout.specs.Layout.{extensions_under, full_layout}
use Rattle.ron_spec_layout.specs.Same.{IsReadBackWith}
use Rattle.ron_base.specs.declared.error.Error.TheVariants.{OutOfMemory, ExceededRecursionLimit, TrailingCharacters}
use Rattle.ron_base.specs.declared.error.SpannedError.{SpannedError}
use Rattle.ron_base.specs.Class.{ErrorClass, memory, depth, other, class_of}
use Rattle.ron_base.specs.Limit.{IsWithin}
use Rattle.ron_lex.specs.Place.{IsPositionBefore}
use Rattle.ron_lex.specs.Quoted.{HoldsEscape}
use Rattle.ron_data.specs.declared.data.Data.{Data}
use Rattle.ron_data.specs.Datum.{data_view}
use Rattle.ron_data_schema.specs.Table.{Table}
use Rattle.ron_spec_grammar.specs.Rule.{Extensions}
use Rattle.ron_spec_grammar.specs.Attribute.{value_start, EndsHead}
use Rattle.ron_spec_grammar.specs.Agreement.{agrees}
use Rattle.ron_spec_grammar.specs.Values.Conversion.{into}
use Rattle.ron_spec_grammar.specs.Data.{value_of}
use Rattle.ron_value.specs.Tree.{Tree as ValueTree}
use Rattle.ron_base.specs.Extensions.{no_extensions}
use Rattle.std.specs.List.{list_all}
use Rattle.ron_de_parts.specs.Room.{IsRoom}
use Rattle.ron_de_parts.specs.Slices.{IsSliced, StringsAreSliced}
use Rattle.ron.specs.Reading.{SpellsWithin, HasRest, HasSpanIn, IsLeaf, IsString, IsOfDocument}

-- By these default extensions the whole text is a document of the data within the limit, or at some depth where there is no limit.
abbrev pub DocumentWithin : Extensions → Option ℕ → Table → Text → plain.Data → Type 0
DocumentWithin x (Some limit) table text d = Document x table.shapes table.root limit text d
DocumentWithin x None table text d = (room : ℕ) × Document x table.shapes table.root room text d

-- No data is so related to the text.
abbrev pub IsNoDocument : Extensions → Option ℕ → Table → Text → Type 0
IsNoDocument x limit table text = (d : plain.Data) → DocumentWithin x limit table text d → ⊥

-- behind the gap at its start the text begins with an attribute
abbrev pub HasAttribute : Text → Type 0
HasAttribute text = is_at hash (skip text) ≡ true

-- The error is want of memory, or no data is so related to the text.
abbrev pub RefusesDocument : Extensions → Option ℕ → Table → Text → SpannedError → Type 0
RefusesDocument x limit table text refused = (refused.code ≡ OutOfMemory) ⊎ IsNoDocument x limit table text

-- A document at some depth, but not within the limit, is refused by the limit's error.
abbrev pub RefusesDeepDocument : Extensions → Option ℕ → Table → Text → Result Data SpannedError → Type 0
RefusesDeepDocument x limit table text result =
    (d : plain.Data) (room : ℕ) → Document x table.shapes table.root room text d → (DocumentWithin x limit table text d → ⊥)
    → MatchResult result (λ _. ⊥) (λ refused. (refused.code ≡ ExceededRecursionLimit) ⊎ (refused.code ≡ OutOfMemory))

-- No other data is so related to the text, at any depth.
abbrev pub IsOnlyDocument : Extensions → Table → Text → plain.Data → Type 0
IsOnlyDocument x table text d = (other : plain.Data) (room : ℕ) → Document x table.shapes table.root room text other → other ≡ d

-- The limit's error is the fault `deep`, want of memory says nothing, and any other error is the fault `bad`.
abbrev pub IsFaultOfText : ErrorClass → Answer → Type 0
IsFaultOfText memory a = Unit {0}
IsFaultOfText depth a = a ≡ err deep
IsFaultOfText other a = a ≡ err bad

-- The answer is that of the grammar's reader function of whole texts, in each room that the limit leaves.
abbrev pub AnswersAsReader : Extensions → Option ℕ → Table → Text → Result Data SpannedError → Type 0
AnswersAsReader x limit table text result =
    (room : ℕ) → IsRoom limit (enough table.shapes false table.root (length text)) room
    → MatchResult result (λ d. answer_document x table.shapes table.root room text ≡ ok (data_view d))
    (λ refused. IsFaultOfText (class_of refused.code) (answer_document x table.shapes table.root room text))

-- Where a value is read, behind a head and a gap, and behind a gap after it another character than a slash stands, the error is `TrailingCharacters`, or want
-- of memory.
abbrev pub RefusesRest : {A : Type 0} → Extensions → Option ℕ → Table → Text → Result A SpannedError → Type 0
RefusesRest x limit table text result =
    (y : Extensions) (gap body : Text) (room : ℕ) (d : plain.Data) (next : Text) → value_start x text ≡ got (y, gap) body
    → IsRoom limit (enough table.shapes false table.root (length text)) room
    → read_at (length gap + length body == length text) y table.shapes room false table.root gap body ≡ got d next → HasRest next
    → MatchResult result (λ _. ⊥) (λ refused. (refused.code ≡ TrailingCharacters) ⊎ (refused.code ≡ OutOfMemory))

-- A value is spelled behind a head and a gap, and behind the longest gap after it stands another character than a slash: the error's place is before that
-- character.
pub record TrailsAt (x : Extensions) (limit : Option ℕ) (table : Table) (text : Text) (refused : SpannedError) : Type 0 where
  pub in_force : Extensions
  pub gap : Text
  pub value : plain.Data
  pub stretch : Text
  pub next : Text
  pub begins : value_start x text ≡ got (in_force, gap) (stretch ++ next)
  pub spelled : SpellsWithin (length gap + length (stretch ++ next) == length text) in_force limit table gap stretch next value
  pub more : HasRest next
  pub start : IsPositionBefore text (skip next) refused.span.start
  pub end : IsPositionBefore text (skip next) refused.span.end

-- Behind a head and a gap a stretch spells the data within the limit, and a gap goes to the end: of that stretch the data is sliced. Each string that it holds,
-- however deep, is a slice of the text unless it holds an escape or a continuation, at a place to which whole tokens lead from there.
pub record IsSlicedWhole (x : Extensions) (limit : Option ℕ) (table : Table) (text : Text) (d : Data) : Type 0 where
  pub in_force : Extensions
  pub gap : Text
  pub stretch : Text
  pub rest : Text
  pub begins : value_start x text ≡ got (in_force, gap) (stretch ++ rest)
  pub spelled : SpellsWithin (length gap + length (stretch ++ rest) == length text) in_force limit table gap stretch rest (data_view d)
  pub ends : Gap rest []
  pub own : IsSliced (stretch ++ rest) rest d
  pub strings : StringsAreSliced (stretch ++ rest) text d

-- ---- a text by a schema and without one

-- Where nothing is in force behind the head, and the schema has booleans, integers, characters, strings, bytes, units, unit structs, options, lists, tuples,
-- tuple structs and structs alone: what the value of the text without a schema becomes, if it becomes anything, is the data.
abbrev pub AgreesWithValue : Extensions → Table → Text → plain.Data → Type 0
AgreesWithValue x table text d =
    list_all agrees table.shapes ≡ true → (body : Text) → EndsHead x text no_extensions body
    → (t : ValueTree) (limit : ℕ) (e : plain.Data) → Document x (any_value ∷ []) 0 limit text (value_of t) → into table.shapes table.root t ≡ Some e → e ≡ d

-- No other data is a document of the text by the schema, and none is what the text's value without a schema becomes.
pub record IsOnlyData (x : Extensions) (table : Table) (text : Text) (d : plain.Data) : Type 0 where
  pub by_schema : IsOnlyDocument x table text d
  pub by_value : AgreesWithValue x table text d

-- ---- how a text is refused

-- The error is one of reading or a rest behind a value, the limit's only under a limit, and has a span in the text, that of a rest before its first character.
-- Where the root is a boolean, an integer, a character or the unit, no data is related to the text, unless an attribute stands in it; likewise where it is a
-- string, unless that holds an escape or a continuation, for which memory is wanted.
pub record IsTextRefused (x : Extensions) (limit : Option ℕ) (table : Table) (text : Text) (refused : SpannedError) : Type 0 where
  pub fault : IsOfDocument refused.code
  pub only_limited : refused.code ≡ ExceededRecursionLimit → IsSome limit
  pub trailing : refused.code ≡ TrailingCharacters → TrailsAt x limit table text refused
  pub memory : IsLeaf table → HasAttribute text ⊎ IsNoDocument x limit table text
  pub string : IsString table → (HasAttribute text ⊎ HoldsEscape String (skip text)) ⊎ IsNoDocument x limit table text
  pub place : HasSpanIn text refused

-- The answer is the reader function's; a rest behind a value is told as such; and an error tells its kind and its place.
pub record TellsErrors (x : Extensions) (limit : Option ℕ) (table : Table) (text : Text) (result : Result Data SpannedError) : Type 0 where
  pub answer : AnswersAsReader x limit table text result
  pub rest : RefusesRest x limit table text result
  pub refused : IfErr result (IsTextRefused x limit table text)

-- ---- what is written

-- No doc comments are there, or where one is written in the layout of the data a new line ends it.
abbrev pub EndsDocs : Config → plain.Data → Type 0
EndsDocs c d = (c.docs ≡ no_docs) ⊎ (is_documented c c.docs d ≡ true → ends_lines c ≡ true)

-- By each well-formed schema that the data is of, the grammar relates the text, at the text's own depth, to what a layout of the data is read back as.
abbrev pub SpellsNormalForm : Extensions → Config → plain.Data → Text → Type 0
SpellsNormalForm x c d text =
    (table : Table) → is_well_formed table.shapes table.root ≡ true → OfShape table.shapes table.root d
    → (e : plain.Data) × IsReadBackWith c.number_suffixes d e × Document x table.shapes table.root (document_depth x table.shapes table.root text) text e

-- The layout of data of the schema by any configuration whose texts are blank, that code can hold, whose Somes the text tells and whose names can be written,
-- is read back as the data's normal form or the same as it, where doc comments end, the limit covers the text's depth and memory is found.
abbrev pub ReadsBack : Extensions → Option ℕ → Table → Text → Result Data SpannedError → Type 0
ReadsBack x limit table text result =
    (c : Config) (d : plain.Data) → blank c ≡ true → EndsDocs c d → OfShape table.shapes table.root d
    → is_encodable (extensions_under x c).implicit_some d ≡ true → names_ok d ≡ true → text ≡ full_layout x c d
    → IsWithin limit (document_depth x table.shapes table.root text)
    → MatchResult result (λ e. IsReadBackWith c.number_suffixes d (data_view e)) (λ refused. refused.code ≡ OutOfMemory)
