-- The steps between values, each from a text to what follows it.
use Rattle.std.specs.Prelude.{◌≡◌, ℕ, Bool, ◌==◌, if◌then◌else◌, true, false, [], ◌∷◌, Option, Some, None, option_and_then, Result, Ok, Err}
use Rattle.ron_spec_words.specs.Characters.{Text, comma, colon, slash}
use Rattle.ron_spec_words.specs.Gap.{skip, gap_of}
use Rattle.ron_spec_words.specs.Runs.{is_at}
use Rattle.ron_base.specs.declared.error.Error.{Error}
use Rattle.ron_de_steps.specs.Errors.{IsMemoryOr}

-- this, where no slash stands behind the gap here
abbrev pub unless_slash : {A : Type 0} → Text → Option A → Option A
unless_slash s next = if is_at slash (skip s) then None else next

-- behind this mark and a gap: the gap and what follows it
abbrev pub past_mark : ℕ → Text → Option (Text × Text)
past_mark mark [] = None
past_mark mark (c ∷ s) = if c == mark then unless_slash s (Some (gap_of s, skip s)) else None

-- behind a gap, a colon and the gap behind that: the last gap and what follows it
abbrev pub past_colon : Text → Option (Text × Text)
past_colon s = unless_slash s (past_mark colon (skip s))

-- behind the mark that stands here
abbrev pub behind_mark : ℕ → Text → Option Text
behind_mark mark [] = None
behind_mark mark (c ∷ s) = if c == mark then Some s else None

-- behind a gap and the closing character
abbrev pub past_close : ℕ → Text → Option Text
past_close close s = unless_slash s (behind_mark close (skip s))

-- Behind a comma and its gap, where one stands behind this gap; else here. Whether one does, and the gap and the text there.
abbrev pub at_comma : Text → Text → Option (Bool × (Text × Text))
at_comma gap [] = Some (false, (gap, []))
at_comma gap (c ∷ s) = if c == comma then unless_slash s (Some (true, (gap_of s, skip s))) else Some (false, (gap, c ∷ s))

-- likewise behind a gap
abbrev pub past_comma : Text → Option (Bool × (Text × Text))
past_comma s = unless_slash s (at_comma (gap_of s) (skip s))

-- behind a comma, where one was passed; else at the closing character
abbrev pub or_closed : ℕ → Bool → Text × Text → Option (Text × Text)
or_closed close true there = Some there
or_closed close false there = if is_at close there.1 then Some there else None

-- behind an item, a gap, and a comma with its gap; or, where there is no comma, at the closing character
abbrev pub past_item : ℕ → Text → Option (Text × Text)
past_item close s = option_and_then (λ p. or_closed close p.0 p.1) (past_comma s)

-- behind the comma that stands here, if one does
abbrev pub behind_comma : Text → Text
behind_comma [] = []
behind_comma (c ∷ s) = if c == comma then s else c ∷ s

-- behind a gap, and a comma, if one stands there
abbrev pub past_last_comma : Text → Option Text
past_last_comma s = unless_slash s (Some (behind_comma (skip s)))

-- This is where the step leads, or the step leads nowhere.
abbrev pub GoesTo : {A B : Type 0} → Option B → Result A Error → B → Type 0
GoesTo next (Ok a) here = next ≡ Some here
GoesTo next (Err e) here = IsMemoryOr (next ≡ None) e

-- The same of a step that tells something on its way.
abbrev pub Tells : {A B : Type 0} → Option (A × B) → Result A Error → B → Type 0
Tells next (Ok a) here = next ≡ Some (a, here)
Tells next (Err e) here = IsMemoryOr (next ≡ None) e
