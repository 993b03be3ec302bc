-- Whole texts of a language, and values without a schema as whole texts.
use Rattle.std.specs.Prelude.{◌≡◌, ℕ, Bool, false, [], ◌∷◌, ◌++◌}
use Rattle.ron_spec_words.specs.Characters.{Text}
use Rattle.ron_spec_words.specs.Gap.{Gap, LongGap, skip}
use Rattle.ron_spec_words.specs.Lang.{Lang}
use Rattle.ron_spec_words.specs.Reader.{bad, Got, got, failed, after_gap}
use Rattle.ron_value.specs.Tree.{Tree}
use Rattle.ron_spec_grammar.specs.Values.Grammar.{AnySpells, read_any}

-- a gap, what the language spells behind it, and a gap
pub record BodyOf {A : Type 0} (L : Text → Lang A) (text : Text) (a : A) : Type 0 where
  pub before : Text
  pub value : Text
  pub after : Text
  pub split : text ≡ before ++ (value ++ after)
  pub is_before : LongGap before (value ++ after)
  pub spelled : L before value after a
  pub is_after : Gap after []

-- the value, where the text has ended
abbrev pub ended : {A : Type 0} → A → Text → Got A
ended a [] = got a []
ended a (c ∷ s) = failed bad

-- what is read is the whole text where only a gap follows it
abbrev pub all_of : {A : Type 0} → Got A → Got A
all_of (got a rest) = ended a (skip rest)
all_of (failed f) = failed f

-- The body of a document without a schema is a gap, a value to a depth of at most `limit`, and a gap.
abbrev pub ValueBody : Bool → ℕ → Text → Tree → Type 0
ValueBody unwrap limit = BodyOf (AnySpells unwrap limit false)

-- reads such a body, with nothing left behind it
unfoldable pub answer_value : Bool → ℕ → Text → Got Tree
answer_value unwrap limit text = all_of (after_gap (read_any unwrap limit false) text)
