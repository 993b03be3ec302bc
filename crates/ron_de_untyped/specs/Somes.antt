-- Chains of Some: what one holds is the next, and the ways in and out are loops.
use Rattle.std.specs.Prelude.{◌≡◌, ℕ, zero, suc, Bool, true, false, ◌&&◌, length, drop, codes, Result, Ok, Err}
use Rattle.ron_spec_words.specs.Characters.{Text, left_parenthesis, right_parenthesis}
use Rattle.ron_spec_words.specs.Directly.{stands}
use Rattle.ron_spec_words.specs.Gap.{skip}
use Rattle.ron_spec_words.specs.Lookahead.{opens_field, holds_several}
use Rattle.ron_spec_words.specs.Reader.{Got, failed, deep, bad, mark, and_then, meant, opt_comma}
use Rattle.ron_spec_words.specs.Runs.{is_at}
use Rattle.ron_base.specs.declared.error.Error.{Error}
use Rattle.ron_base.specs.Class.{class_of}
use Rattle.ron_lex.specs.Place.{Place}
use Rattle.ron_lex.specs.Turns.{Stays}
use Rattle.ron_value.specs.Tree.{Tree}
use Rattle.ron_spec_grammar.specs.Values.Grammar.{some_value}
use Rattle.ron_spec_grammar.specs.Values.Statement.{enough_for_value}
use Rattle.ron_de_steps.specs.Conditions.{Conditions}
use Rattle.ron_de_steps.specs.Errors.{IsMemoryOr}
use Rattle.ron_de_steps.specs.Reads.{IsFaultOf}
use Rattle.ron_de_steps.specs.Room.{IsRoom}
use Rattle.ron_de_untyped.specs.Reading.{read_held}
use Rattle.ron_de_untyped.specs.Values.{unwraps}

-- ---- out

-- a Some of what was read, behind a gap and `)`
abbrev pub closed : Got Tree → Got Tree
closed held = meant (and_then held (λ t _. mark right_parenthesis t)) some_value

-- what holds that Some: it and perhaps a comma
abbrev pub closed_within : Got Tree → Got Tree
closed_within held = and_then (closed held) (λ t _. opt_comma t)

-- so many of them, one around the other
abbrev pub closed_times : ℕ → Got Tree → Got Tree
closed_times zero held = held
closed_times (suc k) held = closed_times k (closed_within held)

-- ---- in

-- bare content is neither fields nor several items
abbrev pub IsOne : Bool → Text → Type 0
IsOne bare s = bare ≡ true → (opens_field s ≡ false) × (holds_several s ≡ false)

-- the word `Some` and, behind a gap, `(`
abbrev pub opens_some : Text → Bool
opens_some s = stands (codes "Some") s && is_at left_parenthesis (skip (drop 4 s))

-- what is held here is no further Some, or it is one among several
abbrev pub IsLast : Bool → Text → Type 0
IsLast bare s = opens_some s ≡ true → IsOne bare s → ⊥

-- what is read of a Some as all that is held, where what it holds itself begins here
abbrev pub held_within : Bool → ℕ → Text → Text → Got Tree
held_within bare zero before s = failed deep
held_within bare (suc room) before s = closed_within (read_held bare room before s)

-- What is held is a Some, and what that holds begins at the new place; or the place stays; or nothing is read.
abbrev pub EntersNext : Bool → Place → Result Bool Error → Place → Type 0
EntersNext bare old (Ok true) new = (room : ℕ) → read_held bare room old.gap old.rest ≡ held_within bare room new.gap new.rest
EntersNext bare old (Ok false) new = Stays old new
EntersNext bare old (Err e) new = IsMemoryOr ((room : ℕ) → read_held bare room old.gap old.rest ≡ failed bad) e

-- So many Somes further in, in the room that is left there: what is read at the first place is what is read at the last, so many times closed.
pub record AfterSomes (depth : ℕ) (outer : Conditions) (first : Place) (inner : Conditions) (last : Place) (room : ℕ) : Type 0 where
  pub left : ℕ
  pub is_room : IsRoom inner.limit (enough_for_value true (length last.rest)) left
  pub is : read_held (unwraps outer) room first.gap first.rest ≡ closed_times depth (read_held (unwraps outer) left last.gap last.rest)

-- in each room that the limit leaves
abbrev pub EntersSomes : Conditions → Place → Result ℕ Error → Conditions → Place → Type 0
EntersSomes outer first (Ok depth) inner last =
    (room : ℕ) → IsRoom outer.limit (enough_for_value true (length first.rest)) room
    → AfterSomes depth outer first inner last room
EntersSomes outer first (Err e) inner last =
    (room : ℕ) → IsRoom outer.limit (enough_for_value true (length first.rest)) room
    → IsFaultOf (class_of e) (read_held (unwraps outer) room first.gap first.rest)
