-- What is known where a text is refused.
use Rattle.std.specs.Prelude.{◌≡◌, ◌⊎◌, Bool, true, ◌&&◌, not, List, [], ◌∷◌, IfSome, IsSome}
use Rattle.ron_spec_words.specs.Characters.{Text}
use Rattle.ron_spec_words.specs.Scan.{is_closing}
use Rattle.ron_base.specs.declared.error.Error.TheVariants.{OutOfMemory}
use Rattle.ron_base.specs.declared.error.Position.{Position}
use Rattle.ron_base.specs.declared.error.Span.{Span}
use Rattle.ron_base.specs.declared.error.SpannedError.{SpannedError}
use Rattle.ron_base.specs.Place.{IsNotAfter}
use Rattle.ron_lex.specs.Place.{IsPositionIn, IsPositionBefore}
use Rattle.ron_format.specs.Whole.{IsWhole, Leads, closes}
use Rattle.ron_format.specs.declared.refusal.Refusal.{Refusal}

-- The span lies in the text, and its start is not after its end.
pub record IsSpanIn (text : Text) (span : Span) : Type 0 where
  pub ordered : IsNotAfter span.start span.end
  pub start : IsPositionIn text span.start
  pub end : IsPositionIn text span.end

-- The text is refused for want of memory, or since it is not whole; and the span lies in it.
pub record IsRefused (text : Text) (error : SpannedError) : Type 0 where
  pub why : (error.code ≡ OutOfMemory) ⊎ ¬ (IsWhole text)
  pub place : IsSpanIn text error.span

-- the bracket with which a text begins is not closed at this rest: the text ends there, or a bracket of another kind closes
abbrev pub is_not_closed : Text → Text → Bool
is_not_closed bracket [] = true
is_not_closed bracket (c ∷ t) = is_closing c && not (closes bracket c)

-- Within a text the innermost open bracket is that with which `bracket` begins, where `rest` is left, and it is not closed there.
pub record IsLeftOpen (text bracket rest : Text) : Type 0 where
  pub around : List Text
  pub leads : Leads (bracket ∷ around) rest [] text
  pub fault : is_not_closed bracket rest ≡ true

-- At this position a bracket was opened that is not closed where a fault starts.
pub record IsOpening (text : Text) (start position : Position) : Type 0 where
  pub bracket : Text
  pub rest : Text
  pub left : IsLeftOpen text bracket rest
  pub opened : IsPositionBefore text bracket position
  pub fault : IsPositionBefore text rest start

-- Where a bracket is left open or closed by one of another kind, a refusal tells where it was opened, and where it is not closed; if memory is found. Else no
-- bracket is told.
pub record TellsOpened (text : Text) (refusal : Refusal) : Type 0 where
  pub told : IfSome refusal.opened (IsOpening text refusal.error.span.start)
  pub each : (bracket rest : Text) → IsLeftOpen text bracket rest → (refusal.error.code ≡ OutOfMemory) ⊎ IsSome refusal.opened
