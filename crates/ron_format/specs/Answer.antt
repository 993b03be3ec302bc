-- What is told of the text that is answered.
use Rattle.std.specs.Prelude.{◌≡◌, Bool}
use Rattle.ron_spec_words.specs.Characters.{Text}
use Rattle.ron_spec_words.specs.Runs.{same_text}
use Rattle.ron_format_words.specs.Written.{Kept}

-- There is an answer, of the same words and comments; and this tells whether it is the text itself.
pub record TellsSame (text : Text) (is_same : Bool) : Type 0 where
  pub answer : Text
  pub kept : Kept text answer
  pub told : is_same ≡ same_text answer text
