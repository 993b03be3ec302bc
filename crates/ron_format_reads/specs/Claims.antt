-- What is claimed of reading texts of the same words, in the terms of the calls' clauses.
use Rattle.std.specs.Prelude.{◌≡◌, ℕ, Option, Result, MatchResult, IfOk, IfErr}
use Rattle.ron.specs.Characters.{Text}
use Rattle.ron.specs.Rule.{Extensions}
use Rattle.ron.specs.Table.{Table}
use Rattle.ron.specs.Data.{Data}
use Rattle.ron.specs.Datum.{data_view}
use Rattle.ron.specs.Value.{Value}
use Rattle.ron.specs.ValueView.{tree_of}
use Rattle.ron.specs.Error.TheVariants.{OutOfMemory}
use Rattle.ron.specs.SpannedError.{SpannedError}
use Rattle.ron.specs.Whole.{DocumentWithin, RefusesDocument, IsOnlyData}
use Rattle.ron.specs.ValueText.{IsValueDocument, IsOnlyValue, RefusesValue}
use Rattle.ron_format_words.specs.Places.{SameText}
use Rattle.ron_format_laws.specs.Claims.{IsRawless}

-- ---- by a schema

-- what the clauses `ok`, `only` and `err` of `Options::from_str_seed` say of its answer to this text
pub record IsReadFrom (x : Extensions) (limit : Option ℕ) (table : Table) (text : Text) (result : Result Data SpannedError) : Type 0 where
  pub ok : IfOk result (λ d. DocumentWithin x limit table text (data_view d))
  pub only : IfOk result (λ d. IsOnlyData x table text (data_view d))
  pub err : IfErr result (RefusesDocument x limit table text)

-- where the first answer is data, the second is the same data, or want of memory
abbrev pub AnswersTheSame : Result Data SpannedError → Result Data SpannedError → Type 0
AnswersTheSame first second = IfOk first (λ d. MatchResult second (λ e. data_view e ≡ data_view d) (λ refused. refused.code ≡ OutOfMemory))

abbrev pub ReadsTheSame : Type 0
ReadsTheSame = (x : Extensions) (limit : Option ℕ) (table : Table) (s u : Text) (first second : Result Data SpannedError) → IsRawless table.shapes
    → SameText s u
    → IsReadFrom x limit table s first → IsReadFrom x limit table u second → AnswersTheSame first second

-- ---- without a schema

-- likewise of `value::from_str`
pub record IsValueReadFrom (text : Text) (result : Result Value SpannedError) : Type 0 where
  pub ok : IfOk result (λ v. IsValueDocument text (tree_of v))
  pub only : IfOk result (λ v. IsOnlyValue text (tree_of v))
  pub err : IfErr result (RefusesValue text)

abbrev pub AnswersTheSameValue : Result Value SpannedError → Result Value SpannedError → Type 0
AnswersTheSameValue first second = IfOk first (λ v. MatchResult second (λ w. tree_of w ≡ tree_of v) (λ refused. refused.code ≡ OutOfMemory))

abbrev pub ReadsTheSameValue : Type 0
ReadsTheSameValue = (s u : Text) (first second : Result Value SpannedError) → SameText s u → IsValueReadFrom s first → IsValueReadFrom u second
    → AnswersTheSameValue first second
