-- The shape of strings.
use Rattle.std.specs.Prelude.{Bool, Option, Some}
use Rattle.ron_spec_words.specs.Characters.{Text}
use Rattle.ron_spec_words.specs.Lang.{Lang, Means}
use Rattle.ron_spec_words.specs.Reader.{Reader, means}
use Rattle.ron_spec_words.specs.Quoted.{String, string}
use Rattle.ron_spec_grammar.specs.Data.{Data, str_of}
use Rattle.ron_spec_grammar.specs.Rule.{Plain, plain}

-- the string, whichever it is
abbrev pub str_data : Text → Option Data
str_data t = Some (str_of t)

-- a string, quoted or raw
abbrev pub StrText : Bool → Lang Data
StrText bare = Plain bare (Means String str_data)

-- its reader function
abbrev pub read_str : Bool → Reader Data
read_str bare = plain bare (means string str_data)
