-- Reading one value at a place of a text.
use Rattle.std.specs.Prelude.{◌≡◌, ◌≢◌, ◌⊎◌, ◌+◌, ◌==◌, ◌||◌, ℕ, Bool, true, false, [], length, ◌++◌, Option, Some, None, IsSome, slice_get, Result, Err}
use Rattle.std.specs.Prelude.{MatchResult}
use Rattle.std.specs.Result.{is_err}
use Rattle.ron_spec_words.specs.Characters.{Text, slash, hash}
use Rattle.ron_spec_words.specs.Runs.{is_at}
use Rattle.ron_spec_words.specs.Gap.{skip}
use Rattle.ron_spec_words.specs.Exact.{FollowsValue}
use Rattle.ron_spec_words.specs.Reader.{got, failed, bad}
use Rattle.ron_spec_words.specs.Quoted.{String}
use Rattle.ron_spec_grammar.specs.Data as plain
use Rattle.ron_spec_grammar.specs.Schema.{str, bytes}
use Rattle.ron_spec_grammar.specs.Room.{enough}
use Rattle.ron_spec_grammar.specs.Grammar.{SpellsAt}
use Rattle.ron_spec_grammar.specs.Reading.{read_at}
use Rattle.ron_base.specs.declared.error.Error.{Error}
use Rattle.ron_base.specs.declared.error.Error.TheVariants.{OutOfMemory, ExceededRecursionLimit, TrailingCharacters, Failed, ExpectedByteString}
use Rattle.ron_base.specs.declared.error.SpannedError.{SpannedError}
use Rattle.ron_base.specs.Class.{other, class_of}
use Rattle.ron_base.specs.Place.{IsNotAfter}
use Rattle.ron_lex.specs.Place.{IsPositionIn}
use Rattle.ron_lex.specs.Quoted.{HoldsEscape}
use Rattle.ron_data.specs.declared.data.Data.{Data}
use Rattle.ron_data.specs.Datum.{data_view}
use Rattle.ron_data_schema.specs.Table.{Table}
use Rattle.ron_de_steps.specs.Reads.{Reads}
use Rattle.ron_spec_grammar.specs.Rule.{Extensions}
use Rattle.ron_spec_grammar.specs.Attribute.{value_start, StartsValue}
use Rattle.ron_de_parts.specs.Room.{IsRoom}
use Rattle.ron_de_parts.specs.Bytes.{begins_bytes}
use Rattle.ron_de_parts.specs.Errors.{IsOfReading, IsOfText, IsMemoryOr, HasLeafShape}
use Rattle.ron_de_parts.specs.Slices.{IsSliced, StringsAreSliced}

-- what a `Deserializer` stands for: the text, what is left of it, what was left before the last word or the stretch at fault, the gap directly before the
-- place, the extensions in force, the limit, whether it has refused, how many turns it has taken, and how many when the kinds in the text are known
pub record ReaderState : Type 0 where
  pub text : Text
  pub rest : Text
  pub token_start : Text
  pub gap : Text
  pub extensions : Extensions
  pub limit : Option ℕ
  pub failed : Bool
  pub turns : ℕ
  pub expected : ℕ

-- The error's span lies in the text, and its start is not after its end.
pub record HasSpanIn (text : Text) (refused : SpannedError) : Type 0 where
  pub ordered : IsNotAfter refused.span.start refused.span.end
  pub start : IsPositionIn text refused.span.start
  pub end : IsPositionIn text refused.span.end

-- ---- the making of a reader

-- A reader of this text that has read nothing: its span is the place alone, under this limit, and it has not refused.
pub record IsFresh (input : Text) (allowed : Option ℕ) (d : ReaderState) : Type 0 where
  pub text : d.text ≡ input
  pub token_start : d.token_start ≡ d.rest
  pub limit : d.limit ≡ allowed
  pub fresh : d.failed ≡ false

-- The error is one of reading, with a span in the text; and no want of memory where behind a gap no attribute begins.
pub record IsStartRefused (text : Text) (refused : SpannedError) : Type 0 where
  pub fault : IsOfReading refused.code
  pub memory : is_at hash (skip text) ≡ false → IsOfText refused.code
  pub place : HasSpanIn text refused

-- nothing but the gap directly before the place stands before it in the text: there a raw text takes both gaps around its value
abbrev pub is_first : ReaderState → Bool
is_first state = length state.gap + length state.rest == length state.text

-- The reader is where the text's value begins: behind a head and a gap, before a rest that begins with no blank, `/` or `#`, under what is then in force by
-- these default extensions. Or the text has no such place.
abbrev pub BeginsValue : Extensions → Text → Result ReaderState SpannedError → Type 0
BeginsValue x text result = MatchResult result (λ d. StartsValue x text d.extensions d.gap d.rest)
    (λ e. IsMemoryOr ((y : Extensions) (gap rest : Text) → StartsValue x text y gap rest → ⊥) e.code)

-- likewise by the grammar's reader function
abbrev pub BeginsAsReader : Extensions → Text → Result ReaderState SpannedError → Type 0
BeginsAsReader x text result =
    MatchResult result (λ d. value_start x text ≡ got (d.extensions, d.gap) d.rest) (λ e. IsMemoryOr (value_start x text ≡ failed bad) e.code)

-- Behind the gap, at the start of the text or not, the stretch spells the data of the table's root within the limit, or at some depth where there is no limit.
abbrev pub SpellsWithin : Bool → Extensions → Option ℕ → Table → Text → Text → Text → plain.Data → Type 0
SpellsWithin first x (Some limit) table gap t next d = SpellsAt first x table.shapes limit false table.root gap t next d
SpellsWithin first x None table gap t next d = (room : ℕ) × SpellsAt first x table.shapes room false table.root gap t next d

-- A front of what is left spells the data within the limit, and what follows the front is rest.
abbrev pub TakesWithin : ReaderState → Table → plain.Data → Text → Type 0
TakesWithin state table d rest = (t : Text) × (state.rest ≡ t ++ rest) × SpellsWithin (is_first state) state.extensions state.limit table state.gap t rest d

-- It so takes the data, and no gap is directly before the place behind it.
pub record Takes (old : ReaderState) (table : Table) (d : plain.Data) (new : ReaderState) : Type 0 where
  pub spelled : TakesWithin old table d new.rest
  pub gap : new.gap ≡ []

-- the answer is this data, with rest left, or want of memory
abbrev pub IsDataOrMemory : Result Data Error → Text → plain.Data → Text → Type 0
IsDataOrMemory result rest d next = MatchResult result (λ e. (data_view e ≡ d) × (rest ≡ next)) (λ e. e ≡ OutOfMemory)

-- the answer is the limit's error, or want of memory
abbrev pub IsLimitOrMemory : {A : Type 0} → Result A Error → Type 0
IsLimitOrMemory result = MatchResult result (λ _. ⊥) (λ e. (e ≡ ExceededRecursionLimit) ⊎ (e ≡ OutOfMemory))

-- Wherever a front of what is left spells a data within the limit, and what follows it, after a gap, ends or goes on with `,`, `:` or a closing bracket, that
-- data is answered.
abbrev pub AnswersSpelled : ReaderState → Table → Result Data Error → Text → Type 0
AnswersSpelled state table result rest =
    (t next : Text) (d : plain.Data) → state.rest ≡ t ++ next → SpellsWithin (is_first state) state.extensions state.limit table state.gap t next d
    → FollowsValue next → IsDataOrMemory result rest d next

-- What such a front spells at some depth, but not within the limit, is refused by the limit's error.
abbrev pub RefusesDeep : ReaderState → Table → Result Data Error → Type 0
RefusesDeep state table result =
    (t next : Text) (d : plain.Data) (room : ℕ) → state.rest ≡ t ++ next
    → SpellsAt (is_first state) state.extensions table.shapes room false table.root state.gap t next d → FollowsValue next
    → (SpellsWithin (is_first state) state.extensions state.limit table state.gap t next d → ⊥) → IsLimitOrMemory result

-- The answer is that of the grammar's reader function, in each room that the limit leaves.
abbrev pub AnswersAsReader : ReaderState → Table → Result Data Error → Text → Type 0
AnswersAsReader state table result rest =
    (room : ℕ) → IsRoom state.limit (enough table.shapes false table.root (length state.rest)) room
    → Reads data_view result (read_at (is_first state) state.extensions table.shapes room false table.root state.gap state.rest) rest

-- the table's root is an integer or a character, which takes memory only to be refused, and no level
abbrev pub IsLeaf : Table → Type 0
IsLeaf table = HasLeafShape table.shapes table.root

-- the table's root is a string
abbrev pub IsString : Table → Type 0
IsString table = slice_get table.shapes table.root ≡ Some str

-- the table's root is bytes
abbrev pub IsBytes : Table → Type 0
IsBytes table = slice_get table.shapes table.root ≡ Some bytes

-- Where the root is bytes and none begin here, the answer is that a byte string is expected, and never want of memory.
abbrev pub ExpectsByteString : ReaderState → Table → Result Data Error → Type 0
ExpectsByteString state table result = IsBytes table → begins_bytes state.rest ≡ false → result ≡ Err ExpectedByteString

-- In each room that the limit leaves, the reader function reads no value here.
abbrev pub ReadsNone : ReaderState → Table → Type 0
ReadsNone state table =
    (room : ℕ) → IsRoom state.limit (enough table.shapes false table.root (length state.rest)) room
    → read_at (is_first state) state.extensions table.shapes room false table.root state.gap state.rest ≡ failed bad

-- A string or byte string is a slice of the text unless it holds an escape or a continuation: the data itself at its own place, and each that it holds, however
-- deep, at a place to which whole tokens lead from there.
pub record IsSlicedFrom (state : ReaderState) (rest : Text) (d : Data) : Type 0 where
  pub own : IsSliced state.rest rest d
  pub strings : StringsAreSliced state.rest state.text d

-- The error is one of reading, and the limit's only under a limit. Where the root is a boolean, an integer, a character or the unit, it says that none is read
-- here; where it is a string, that, or that the string holds an escape or a continuation, for which memory is wanted.
pub record IsValueRefused (state : ReaderState) (table : Table) (e : Error) : Type 0 where
  pub fault : IsOfReading e
  pub only_limited : e ≡ ExceededRecursionLimit → IsSome state.limit
  pub memory : IsLeaf table → ReadsNone state table
  pub string : IsString table → HoldsEscape String state.rest ⊎ ReadsNone state table

-- ---- the reader from call to call

-- The text, the extensions and the limit stay. A refusal makes the reader failed for good, and nothing else does; one that has failed answers `Failed`, and
-- nothing of it changes.
pub record Stays {A : Type 0} (old : ReaderState) (result : Result A Error) (new : ReaderState) : Type 0 where
  pub text : new.text ≡ old.text
  pub extensions : new.extensions ≡ old.extensions
  pub limit : new.limit ≡ old.limit
  pub failed : new.failed ≡ (old.failed || is_err result)
  pub again : old.failed ≡ true → result ≡ Err Failed
  pub stays : old.failed ≡ true → new ≡ old

-- ---- what stands behind a value

-- The place is behind the longest gap here, where no slash stands behind that; and the span begins there.
pub record IsBehindGap (old new : ReaderState) : Type 0 where
  pub rest : is_at slash (skip old.rest) ≡ false → new.rest ≡ skip old.rest
  pub token_start : new.token_start ≡ skip old.rest

-- behind the longest gap another character than a slash stands
abbrev pub HasRest : Text → Type 0
HasRest s = (skip s ≢ []) × (is_at slash (skip s) ≡ false)

-- an error of reading a value, or a rest behind it
abbrev pub IsOfDocument : Error → Type 0
IsOfDocument TrailingCharacters = Unit {0}
IsOfDocument e = IsOfReading e

-- an error that stands behind a value: neither want of memory nor the limit's
abbrev pub IsOfEnd : Error → Type 0
IsOfEnd e = (class_of e ≡ other) × IsOfDocument e
