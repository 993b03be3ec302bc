-- The shape of booleans.
use Rattle.std.specs.Prelude.{Bool, true, false, codes, Option, Some}
use Rattle.ron_spec_words.specs.Lang.{Lang, Means, Or}
use Rattle.ron_spec_words.specs.Reader.{Reader, means, pick}
use Rattle.ron_spec_words.specs.Directly.{FixedWord, stands, fixed_word}
use Rattle.ron_spec_grammar.specs.Data.{Data, bool_of}
use Rattle.ron_spec_grammar.specs.Rule.{Plain, plain}

-- the boolean, whichever it is
abbrev pub bool_data : Bool → Option Data
bool_data b = Some (bool_of b)

-- the word `true` or the word `false`
abbrev pub Boolean : Lang Bool
Boolean = Or (FixedWord (codes "true") true) (FixedWord (codes "false") false)

-- such a word
abbrev pub BoolText : Bool → Lang Data
BoolText bare = Plain bare (Means Boolean bool_data)

-- ---- its reader function

-- the word
abbrev pub boolean : Reader Bool
boolean = pick (stands (codes "true")) (fixed_word (codes "true") true) (fixed_word (codes "false") false)

-- the boolean
abbrev pub read_bool : Bool → Reader Data
read_bool bare = plain bare (means boolean bool_data)
