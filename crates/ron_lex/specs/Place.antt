-- What a cursor stands for, and the positions of places in its text.
use Rattle.std.specs.Prelude.{◌≡◌, ℕ, ◌+◌, ◌==◌, Bool, length, ◌++◌}
use Rattle.ron_spec_words.specs.Characters.{Text}
use Rattle.ron_spec_words.specs.Position.{line_after, column_after}
use Rattle.ron_base.specs.declared.error.Position.{Position}

-- the whole text, what is left of it, what was left before the last word or the stretch at fault, the gap directly
-- before the place, how many turns were counted, and how many will have been when the kinds are known
pub record Place : Type 0 where
  pub text : Text
  pub rest : Text
  pub token_start : Text
  pub gap : Text
  pub counted : ℕ
  pub turns : ℕ

-- nothing but the gap directly before the place stands before it in the text
abbrev pub is_at_start : Place → Bool
is_at_start place = length place.gap + length place.rest == length place.text

-- the position of the place in a text before its end `rest`
pub record IsPositionBefore (text rest : Text) (p : Position) : Type 0 where
  pub front : Text
  pub split : text ≡ front ++ rest
  pub line : p.line ≡ line_after front
  pub col : p.col ≡ column_after front

-- the position of some place in a text
abbrev pub IsPositionIn : Text → Position → Type 0
IsPositionIn text p = (rest : Text) × IsPositionBefore text rest p
