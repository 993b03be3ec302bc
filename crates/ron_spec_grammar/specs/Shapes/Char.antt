-- The shape of characters.
use Rattle.std.specs.Prelude.{ℕ, Bool, Option, Some}
use Rattle.ron_spec_words.specs.Lang.{Lang, Means}
use Rattle.ron_spec_words.specs.Reader.{Reader, means}
use Rattle.ron_spec_words.specs.Quoted.{Char, char}
use Rattle.ron_spec_grammar.specs.Data.{Data, char_of}
use Rattle.ron_spec_grammar.specs.Rule.{Plain, plain}

-- the character, whichever it is
abbrev pub char_data : ℕ → Option Data
char_data c = Some (char_of c)

-- a char literal
abbrev pub CharText : Bool → Lang Data
CharText bare = Plain bare (Means Char char_data)

-- its reader function
abbrev pub read_char : Bool → Reader Data
read_char bare = plain bare (means char char_data)
