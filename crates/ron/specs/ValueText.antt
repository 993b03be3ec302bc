-- Reading whole texts as values without a schema.
use Rattle.std.specs.Prelude.{◌≡◌, ◌⊎◌, ℕ, [], ◌∷◌, Some, Result, MatchResult, IfErr}
use Rattle.ron_spec_words.specs.Characters.{Text}
use Rattle.ron_value.specs.declared.value.Value.{Value}
use Rattle.ron_value.specs.Tree.{Tree}
use Rattle.ron_value.specs.View.{tree_of}
use Rattle.ron_spec_grammar.specs.Data.{value_of}
use Rattle.ron_spec_grammar.specs.Document.{Document, ok, answer_document}
use Rattle.ron_spec_grammar.specs.Schema.{any_value}
use Rattle.ron_base.specs.declared.error.Error.TheVariants.{OutOfMemory, ExceededRecursionLimit}
use Rattle.ron_base.specs.declared.error.SpannedError.{SpannedError}
use Rattle.ron_base.specs.Class.{class_of}
use Rattle.ron_base.specs.Extensions.{no_extensions}
use Rattle.ron_data_schema.specs.Table.{Table}
use Rattle.ron.specs.Whole.{DocumentWithin, IsFaultOfText, RefusesRest, IsTextRefused}

-- the table of one shape, that of any value
abbrev pub value_table : Table
value_table = record { shapes = any_value ∷ []; root = 0 }

-- Without default extensions the whole text is a document of the value, at most 128 levels deep.
abbrev pub IsValueDocument : Text → Tree → Type 0
IsValueDocument text t = DocumentWithin no_extensions (Some 128) value_table text (value_of t)

-- No other value is so related to the text, at any depth.
abbrev pub IsOnlyValue : Text → Tree → Type 0
IsOnlyValue text t = (other : Tree) (room : ℕ) → Document no_extensions value_table.shapes 0 room text (value_of other) → other ≡ t

-- The error is want of memory, or no value is so related to the text.
abbrev pub RefusesValue : Text → SpannedError → Type 0
RefusesValue text refused = (refused.code ≡ OutOfMemory) ⊎ ((t : Tree) → IsValueDocument text t → ⊥)

-- A document at some depth, but not within 128 levels, is refused by the limit's error.
abbrev pub RefusesDeepValue : Text → Result Value SpannedError → Type 0
RefusesDeepValue text result =
    (t : Tree) (room : ℕ) → Document no_extensions value_table.shapes 0 room text (value_of t) → (IsValueDocument text t → ⊥)
    → MatchResult result (λ _. ⊥) (λ refused. (refused.code ≡ ExceededRecursionLimit) ⊎ (refused.code ≡ OutOfMemory))

-- The answer is that of the grammar's reader function, at most 128 levels deep.
abbrev pub AnswersAsValueReader : Text → Result Value SpannedError → Type 0
AnswersAsValueReader text result =
    MatchResult result (λ v. answer_document no_extensions value_table.shapes 0 128 text ≡ ok (value_of (tree_of v)))
    (λ refused. IsFaultOfText (class_of refused.code) (answer_document no_extensions value_table.shapes 0 128 text))

-- The answer is the reader function's; a rest behind a value is told as such; and an error tells its kind and its place.
pub record TellsValueErrors (text : Text) (result : Result Value SpannedError) : Type 0 where
  pub answer : AnswersAsValueReader text result
  pub rest : RefusesRest no_extensions (Some 128) value_table text result
  pub refused : IfErr result (IsTextRefused no_extensions (Some 128) value_table text)
