-- Reading bytes and devices, as reading of their text.
use Rattle.std.specs.Prelude.{◌≡◌, ◌⊎◌, ℕ, Bool, true, Option, IsSome, Result, Ok, Err, MatchResult, IfSome, IfOk, IfErr, List, [], chars, IsUtf8}
use Rattle.std.specs.Io.KnownBytes.{Consumes, IsAtEnd}
use Rattle.ron_spec_words.specs.Characters.{Text}
use Rattle.ron_spec_grammar.specs.Rule.{Extensions}
use Rattle.ron_spec_grammar.specs.Schema.{OfShape}
use Rattle.ron_base.specs.declared.error.Error.{Error}
use Rattle.ron_base.specs.declared.error.Error.TheVariants.{Io, OutOfMemory, ExceededRecursionLimit, TrailingCharacters}
use Rattle.ron_base.specs.Class.{IsIoOrMemory}
use Rattle.ron_base.specs.declared.error.SpannedError.{SpannedError}
use Rattle.ron_base.specs.declared.error.Span.{Span}
use Rattle.ron_base_device.specs.Device.{RefusesDevice}
use Rattle.ron_base_device.specs.Utf8.{RefusesBytes, SpansValidFront, IsUtf8Error, valid_front}
use Rattle.ron_data.specs.declared.data.Data.{Data}
use Rattle.ron_data.specs.Datum.{data_view}
use Rattle.ron_data_schema.specs.Table.{Table}
use Rattle.ron.specs.Whole.{DocumentWithin, IsOnlyData, RefusesDocument, RefusesDeepDocument, RefusesRest, AnswersAsReader, IsSlicedWhole, ReadsBack, TrailsAt}
use Rattle.ron.specs.Whole.{TellsErrors}
use Rattle.ron.specs.Reading.{HasSpanIn, IsOfDocument}

-- ---- bytes

-- what `from_str_seed` promises of its answer for a text
pub record ReadsText (x : Extensions) (limit : Option ℕ) (table : Table) (text : Text) (result : Result Data SpannedError) : Type 0 where
  pub ok : IfOk result (λ d. DocumentWithin x limit table text (data_view d))
  pub only : IfOk result (λ d. IsOnlyData x table text (data_view d))
  pub of_schema : IfOk result (λ d. OfShape table.shapes table.root (data_view d))
  pub err : IfErr result (RefusesDocument x limit table text)
  pub deep : RefusesDeepDocument x limit table text result
  pub slices : IfOk result (IsSlicedWhole x limit table text)
  pub reads_back : ReadsBack x limit table text result
  pub errors : TellsErrors x limit table text result

-- an `Utf8Error` at the valid front
abbrev pub RefusesInvalid : {A : Type 0} → List ℕ → Result A SpannedError → Type 0
RefusesInvalid bytes result = MatchResult result (λ _. ⊥) (RefusesBytes bytes)

-- an `Utf8Error` comes where the bytes are no UTF-8, and for nothing else
abbrev pub IsNoText : List ℕ → SpannedError → Type 0
IsNoText bytes refused = IsUtf8Error refused.code → IsUtf8 bytes → ⊥

-- The span lies in the longest front that is UTF-8.
abbrev pub IsInValidFront : List ℕ → SpannedError → Type 0
IsInValidFront bytes refused = HasSpanIn (chars (valid_front bytes)) refused

-- what `from_bytes_seed` promises of its answer for bytes
pub record ReadsBytes (x : Extensions) (limit : Option ℕ) (table : Table) (bytes : List ℕ) (result : Result Data SpannedError) : Type 0 where
  pub text : IsUtf8 bytes → ReadsText x limit table (chars bytes) result
  pub invalid : (IsUtf8 bytes → ⊥) → RefusesInvalid bytes result
  pub only : IfErr result (IsNoText bytes)
  pub place : IfErr result (IsInValidFront bytes)

-- ---- devices

-- The error is one of reading, a rest behind a value, or want of memory, the limit's only under a limit, and has a span in the text, that of a rest before its
-- first character.
pub record IsOwnedRefused (x : Extensions) (limit : Option ℕ) (table : Table) (text : Text) (refused : SpannedError) : Type 0 where
  pub fault : IsOfDocument refused.code
  pub only_limited : refused.code ≡ ExceededRecursionLimit → IsSome limit
  pub trailing : refused.code ≡ TrailingCharacters → TrailsAt x limit table text refused
  pub place : HasSpanIn text refused

-- the same of data that borrows nothing, for which memory may be wanted
pub record ReadsOwned (x : Extensions) (limit : Option ℕ) (table : Table) (text : Text) (result : Result Data SpannedError) : Type 0 where
  pub ok : IfOk result (λ d. DocumentWithin x limit table text (data_view d))
  pub only : IfOk result (λ d. IsOnlyData x table text (data_view d))
  pub of_schema : IfOk result (λ d. OfShape table.shapes table.root (data_view d))
  pub err : IfErr result (RefusesDocument x limit table text)
  pub deep : RefusesDeepDocument x limit table text result
  pub reads_back : ReadsBack x limit table text result
  pub answer : AnswersAsReader x limit table text result
  pub rest : RefusesRest x limit table text result
  pub refused : IfErr result (IsOwnedRefused x limit table text)

-- the bytes are read as the text that they are, or refused as no text
pub record ReadsGiven (x : Extensions) (limit : Option ℕ) (table : Table) (bytes : List ℕ) (result : Result Data SpannedError) : Type 0 where
  pub text : IsUtf8 bytes → ReadsOwned x limit table (chars bytes) result
  pub invalid : (IsUtf8 bytes → ⊥) → RefusesInvalid bytes result

-- What was given, which is all of the known bytes, is so read.
pub record ReadsAll (x : Extensions) (limit : Option ℕ) (table : Table) (known : Option (List ℕ)) (result : Result Data SpannedError) : Type 0 where
  pub given : List ℕ
  pub whole : IfSome known (λ bytes. given ≡ bytes)
  pub read : ReadsGiven x limit table given result

-- All is read, so the source is at its end, and no pull failed; or one did, or no memory was found.
abbrev pub ReadsSource : Bool → Bool → Extensions → Option ℕ → Table → Option (List ℕ) → Option (List ℕ) → Result Data SpannedError → Type 0
ReadsSource was failed x limit table known left result = (ReadsAll x limit table known result × IsAtEnd left × (failed ≡ was))
    ⊎ MatchResult result (λ _. ⊥) (λ refused. RefusesDevice failed refused.code)

-- All is read, so the reader is at its end; or it has failed, or no memory was found.
abbrev pub ReadsReader : Extensions → Option ℕ → Table → Option (List ℕ) → Option (List ℕ) → Result Data SpannedError → Type 0
ReadsReader x limit table known left result = (ReadsAll x limit table known result × IsAtEnd left)
    ⊎ MatchResult result (λ _. ⊥) (λ refused. IsIoOrMemory refused.code)

-- What is left is what stands behind a front of what was there.
abbrev pub LeavesRest : Option (List ℕ) → Option (List ℕ) → Type 0
LeavesRest old new = (given : List ℕ) × Consumes old new given

-- The span lies in the longest front that is UTF-8 of what a source gave.
pub record IsInGiven (old new : Option (List ℕ)) (refused : SpannedError) : Type 0 where
  pub given : List ℕ
  pub gave : Consumes old new given
  pub place : IsInValidFront given refused

-- A device failed.
abbrev pub IsIo : Error → Type 0
IsIo (Io text) = Unit {0}
IsIo _ = ⊥

-- from 1:1 to the end of the longest front that is UTF-8 of what a source gave
pub record SpansGiven (old new : Option (List ℕ)) (s : Span) : Type 0 where
  pub given : List ℕ
  pub gave : Consumes old new given
  pub span : SpansValidFront given s

-- An `Io` comes where the source has failed, at the valid front of what it gave, and for nothing else.
abbrev pub TellsFailure : Bool → Option (List ℕ) → Option (List ℕ) → SpannedError → Type 0
TellsFailure failed old new refused = IsIo refused.code → (failed ≡ true) × SpansGiven old new refused.span

-- An `Io` is told at the valid front of what a reader gave, and what stands behind that is left.
abbrev pub TellsReaderFault : Option (List ℕ) → Option (List ℕ) → SpannedError → Type 0
TellsReaderFault old new refused = IsIo refused.code → SpansGiven old new refused.span

-- The type refuses data that is answered so, by an error that it tells, or has no memory for its schema.
abbrev pub RefusesAnswer : (Data → Type 0) → (Data → Error → Type 0) → (Result Data SpannedError → Type 0) → Error → Type 0
RefusesAnswer accepts refuses Answers e = ((d : Data) × Answers (Ok d) × refuses d e × (accepts d → e ≡ OutOfMemory)) ⊎ (e ≡ OutOfMemory)

-- The refusal is that of reading a reader as data, told where that tells it; or the type's of what was read, which stands at no place, and the span is from 1:1
-- to 1:1.
abbrev pub RefusesReader : (Data → Type 0) → (Data → Error → Type 0) → Extensions → Option ℕ → Table → Option (List ℕ) → Option (List ℕ) → SpannedError → Type 0
RefusesReader accepts refuses x limit table old new refused = (ReadsReader x limit table old new (Err refused) × TellsReaderFault old new refused
    × IsInGiven old new refused) ⊎ (RefusesAnswer accepts refuses (ReadsReader x limit table old new) refused.code × SpansValidFront [] refused.span)
