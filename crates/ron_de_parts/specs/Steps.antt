-- The steps between values, each from a text to what follows it.
use Rattle.std.specs.Prelude.{◌≡◌, Bool, if◌then◌else◌, true, false, Option, Some, None, Result, MatchResult}
use Rattle.ron_spec_words.specs.Characters.{Text, left_parenthesis, right_parenthesis}
use Rattle.ron_spec_words.specs.Gap.{skip}
use Rattle.ron_spec_words.specs.Name.{named}
use Rattle.ron_spec_words.specs.Reader.{Got, got, failed}
use Rattle.ron_spec_words.specs.Runs.{is_at, same_text}
use Rattle.ron_spec_words.specs.Scan.{left_by}
use Rattle.ron_base.specs.declared.error.Error.{Error}
use Rattle.ron_de_steps.specs.Errors.{IsMemoryOr}
use Rattle.ron_de_steps.specs.Steps.{unless_slash, past_close, behind_comma}

-- what follows the gap behind a name
abbrev pub behind_gap : Got Text → Option Text
behind_gap (got name rest) = unless_slash rest (Some (skip rest))
behind_gap (failed fault) = None

-- directly behind the struct's name; or at a parenthesis, where no name is required
abbrev pub behind_name : Bool → Text → Text → Option Text
behind_name required name s = if is_at left_parenthesis s then (if required then None else Some s) else left_by (named name s)

-- behind the struct's name and a gap; or at a parenthesis, where no name is required
abbrev pub past_name : Bool → Text → Text → Option Text
past_name required name s = if is_at left_parenthesis s then (if required then None else Some s) else behind_gap (named name s)

-- The name that is found is the struct's; or it is refused, for it is another.
abbrev pub NeedsName : {A : Type 0} → Text → Text → Result A Error → Type 0
NeedsName name found result = MatchResult result (λ _. same_text found name ≡ true) (IsMemoryOr (same_text found name ≡ false))

-- behind perhaps a comma, a gap, and the closing parenthesis
abbrev pub past_bare_end : Text → Option Text
past_bare_end s = past_close right_parenthesis (behind_comma s)

-- likewise behind a gap
abbrev pub past_end : Text → Option Text
past_end s = unless_slash s (past_bare_end (skip s))
