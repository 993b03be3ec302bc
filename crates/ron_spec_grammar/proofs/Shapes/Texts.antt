-- What the rules of characters and strings owe: each literal is read exactly.
use Rattle.std.proofs.Common.{◌≡◌, ℕ, Bool, false, List, Some, slice_get, refl}
use Rattle.ron_spec_words.specs.Characters.{Text}
use Rattle.ron_spec_words.specs.Quoted.{Char, String}
use Rattle.ron_spec_words.proofs.Words.{First, first_means}
use Rattle.ron_spec_words.proofs.Exactly.{Opens}
use Rattle.ron_spec_words.proofs.Classes.{Solid, solid_mark, first_solid}
use Rattle.ron_spec_words.proofs.LiteralStarts.{first_char, first_string}
use Rattle.ron_spec_words.proofs.Quotes.{word_char}
use Rattle.ron_spec_words.proofs.RawStrings.{word_string}
use Rattle.ron_spec_words.proofs.WordsPass.{passes_char, passes_string}
use Rattle.ron_spec_words.proofs.Parts.{Part, part_word, part_means}
use Rattle.ron_spec_grammar.specs.Data.{Data, char_of, str_of}
use Rattle.ron_spec_grammar.specs.Schema.{Shape, char, str}
use Rattle.ron_spec_grammar.specs.Shapes.Char.{char_data, CharText, read_char}
use Rattle.ron_spec_grammar.specs.Shapes.Str.{str_data, StrText, read_str}
use Rattle.ron_spec_grammar.proofs.Rule.{After, IsDataOf, part_plain}

pub char_solid : First Solid Char
char_solid = first_char Solid (λ s. solid_mark 39 s refl refl refl)

pub string_solid : First Solid String
string_solid = first_string Solid (λ s. solid_mark 34 s refl refl refl) (λ s. solid_mark 114 s refl refl refl)

module _ {schema : List Shape} {room i : ℕ} (s : slice_get schema i ≡ Some char) where
  is_char : (c : ℕ) (d : Data) → char_data c ≡ Some d → IsDataOf schema room 0 i d
  is_char c d e = let same : char_of c ≡ d = cc in rw (← same) (record { of_shape = λ _. s })

  pub part_char : {step e : ℕ} (bare : Bool) → Part room step bare (IsDataOf schema room 0 i) (read_char bare) (read_char bare) (CharText bare) (After bare) e
  part_char bare = part_plain bare (part_means char_data (λ c d _. is_char c d) (part_word word_char (first_solid char_solid) passes_char))

module _ {schema : List Shape} {room i : ℕ} (s : slice_get schema i ≡ Some str) where
  is_str : (t : Text) (d : Data) → str_data t ≡ Some d → IsDataOf schema room 0 i d
  is_str t d e = let same : str_of t ≡ d = cc in rw (← same) (record { of_shape = λ _. s })

  pub part_str : {step e : ℕ} (bare : Bool) → Part room step bare (IsDataOf schema room 0 i) (read_str bare) (read_str bare) (StrText bare) (After bare) e
  part_str bare = part_plain bare (part_means str_data (λ t d _. is_str t d) (part_word word_string (first_solid string_solid) passes_string))

pub char_opens : Opens (CharText false)
char_opens = first_means char_solid

pub str_opens : Opens (StrText false)
str_opens = first_means string_solid
