-- What a fault of a bracket tells.
use Rattle.std.specs.Prelude.{◌≡◌, ◌⊎◌, List, [], ◌∷◌, Option, Some, None, MatchOption, chars}
use Rattle.ron_spec_words.specs.Characters.{Text}
use Rattle.ron_base.specs.declared.error.Position.{Position}
use Rattle.ron_lex.specs.Place.{IsPositionBefore}
use Rattle.ron_format.specs.declared.refusal.BracketFault.{BracketFault}
use Rattle.ron_format.specs.declared.refusal.BracketFault.TheVariants.{OutOfMemory, ClosesNone, NotClosed}

-- the innermost of the open brackets, if there is one
abbrev pub innermost : List Text → Option Text
innermost [] = None
innermost (bracket ∷ around) = Some bracket

-- the bracket that a fault finds open, told by the text from it on
abbrev pub found_open : BracketFault → Option Text
found_open OutOfMemory = None
found_open ClosesNone = None
found_open (NotClosed bracket) = Some (chars bracket.now)

-- Within these open brackets a fault was found where a token leads on to these or to none: memory was wanting, or it leads to none, and the fault tells the
-- innermost bracket.
abbrev pub IsFault : List Text → Option (List Text) → BracketFault → Type 0
IsFault around next found = (found ≡ OutOfMemory) ⊎ ((next ≡ None) × (innermost around ≡ found_open found))

-- of a bracket that is told its place is told, and of none no place
abbrev pub IsTold : Text → Option Text → Option Position → Type 0
IsTold text None place = place ≡ None
IsTold text (Some bracket) place = MatchOption place ⊥ (IsPositionBefore text bracket)
