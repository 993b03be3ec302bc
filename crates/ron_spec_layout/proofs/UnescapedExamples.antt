-- Worked texts of strings and bytes that are not escaped, by computing.
use Rattle.std.proofs.Common.{◌≡◌, false, [], ◌∷◌, ◌++◌, codes, refl}
use Rattle.ron_spec_grammar.specs.Data.{str_of, bytes_of}
use Rattle.ron_spec_layout.specs.Config.{Config, default_config}
use Rattle.ron_spec_layout.proofs.Computing.{laying}
use Rattle.ron_spec_layout.proofs.ConfigExamples.{written}

abbrev unescaped : Config
unescaped = record default_config { escape_strings = false }

plain : written unescaped (str_of (codes "a#b")) ≡ codes "\"a#b\""
unfolding laying
plain = refl

-- a line feed stands as it is
line : written unescaped (str_of (codes "a\nb")) ≡ codes "\"a\nb\""
unfolding laying
line = refl

backslash : written unescaped (str_of (codes "a\\b")) ≡ codes "r#\"a\\b\"#"
unfolding laying
backslash = refl

hash_behind_quote : written unescaped (str_of (codes "x\"#y")) ≡ codes "r##\"x\"#y\"##"
unfolding laying
hash_behind_quote = refl

two_hashes : written unescaped (str_of (codes "\"##")) ≡ codes "r###\"\"##\"###"
unfolding laying
two_hashes = refl

-- one hash more than in the longest run, wherever it stands
hashes_apart_from_the_quote : written unescaped (str_of (codes "\"a##b#")) ≡ codes "r###\"\"a##b#\"###"
unfolding laying
hashes_apart_from_the_quote = refl

plain_bytes : written unescaped (bytes_of (97 ∷ 34 ∷ [])) ≡ codes "br#\"a\"\"#"
unfolding laying
plain_bytes = refl

-- bytes that are UTF-8 are written as their text
text_of_bytes : written unescaped (bytes_of (195 ∷ 164 ∷ [])) ≡ codes "b\"" ++ (228 ∷ codes "\"")
unfolding laying
text_of_bytes = refl

-- and any others are escaped
other_bytes : written unescaped (bytes_of (255 ∷ 34 ∷ [])) ≡ codes "b\"\\xff\\\"\""
unfolding laying
other_bytes = refl

escaped_bytes : written default_config (bytes_of (195 ∷ 164 ∷ 34 ∷ [])) ≡ codes "b\"\\xc3\\xa4\\\"\""
unfolding laying
escaped_bytes = refl
