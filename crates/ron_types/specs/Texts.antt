-- The text that bytes are.
use Rattle.std.specs.Prelude.{ℕ, ◌+◌, ◌-◌, cond, List, map, chars, encode_utf8_all}
use Rattle.std.specs.Str.{is_utf8, all_scalars}
use Rattle.ron_spec_words.specs.Characters.{Text}

-- behind the codes of all characters, where no text reaches
abbrev pub behind_characters : ℕ
behind_characters = 1114112

-- The characters that bytes spell. Bytes that spell none, as those of no text, stand behind all characters: so bytes that differ are texts that differ.
abbrev pub text_of_bytes : List ℕ → Text
text_of_bytes bs = cond (is_utf8 bs) (chars bs) (map (λ b. behind_characters + b) bs)

-- the bytes that are a text
abbrev pub bytes_of_text : Text → List ℕ
bytes_of_text t = cond (all_scalars t) (encode_utf8_all t) (map (λ c. c - behind_characters) t)
