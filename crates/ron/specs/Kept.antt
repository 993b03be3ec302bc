-- How a text is refused of which texts are kept as slices of a source, where it is that of the source, or else as copies, for which memory is wanted.
use Rattle.std.specs.Prelude.{◌≡◌, ◌⊎◌, ℕ, Option, Some, IsSome, Result, IfErr}
use Rattle.ron_spec_words.specs.Characters.{Text}
use Rattle.ron_spec_words.specs.Gap.{skip}
use Rattle.ron_spec_words.specs.Quoted.{String}
use Rattle.ron_spec_grammar.specs.Rule.{Extensions}
use Rattle.ron_base.specs.declared.error.Error.{Error}
use Rattle.ron_base.specs.declared.error.Error.TheVariants.{ExceededRecursionLimit, TrailingCharacters}
use Rattle.ron_base.specs.declared.error.SpannedError.{SpannedError}
use Rattle.ron_lex.specs.Quoted.{HoldsEscape}
use Rattle.ron_data.specs.declared.data.Data.{Data}
use Rattle.ron_data_schema.specs.Table.{Table}
use Rattle.ron_de_parts.specs.Errors.{IsOfReading}
use Rattle.ron.specs.Reading.{ReaderState, HasSpanIn, IsLeaf, IsString, IsOfDocument, ReadsNone}
use Rattle.ron.specs.Whole.{AnswersAsReader, HasAttribute, IsNoDocument, RefusesRest, TrailsAt}

-- as `IsValueRefused`; of a string, where slices are taken of the text
pub record IsKeptRefused (source : Option Text) (state : ReaderState) (table : Table) (e : Error) : Type 0 where
  pub fault : IsOfReading e
  pub only_limited : e ≡ ExceededRecursionLimit → IsSome state.limit
  pub memory : IsLeaf table → ReadsNone state table
  pub string : source ≡ Some state.text → IsString table → HoldsEscape String state.rest ⊎ ReadsNone state table

-- as `IsTextRefused`; of a string, where slices are taken of the text
pub record IsKeptTextRefused (source : Option Text) (x : Extensions) (limit : Option ℕ) (table : Table) (text : Text) (refused : SpannedError) : Type 0 where
  pub fault : IsOfDocument refused.code
  pub only_limited : refused.code ≡ ExceededRecursionLimit → IsSome limit
  pub trailing : refused.code ≡ TrailingCharacters → TrailsAt x limit table text refused
  pub memory : IsLeaf table → HasAttribute text ⊎ IsNoDocument x limit table text
  pub string : source ≡ Some text → IsString table → (HasAttribute text ⊎ HoldsEscape String (skip text)) ⊎ IsNoDocument x limit table text
  pub place : HasSpanIn text refused

-- as `TellsErrors`, likewise
pub record TellsKept (source : Option Text) (x : Extensions) (limit : Option ℕ) (table : Table) (text : Text) (result : Result Data SpannedError) : Type 0 where
  pub answer : AnswersAsReader x limit table text result
  pub rest : RefusesRest x limit table text result
  pub refused : IfErr result (IsKeptTextRefused source x limit table text)
