-- What stands between the quotes of a string or a byte string.
use Rattle.std.specs.Prelude.{◌≡◌, ℕ, refl}
use Rattle.std.specs.Char.{encode_utf8}
use Rattle.ron_spec_words.specs.Characters.{Text}
use Rattle.ron_spec_words.specs.Lang.{Lang}
use Rattle.ron_spec_words.specs.Reader.{Reader}
use Rattle.ron_spec_words.specs.Exact.{IsWordReader}
use Rattle.ron_spec_words.specs.Quoted.{pieces, string_piece, itself, StringEscape, string_escape, ByteStringEscape, byte_string_escape}
use Rattle.ron_spec_words.proofs.Escapes.{AllEscaped, is_mark}
use Rattle.ron_spec_words.proofs.Quotes.{escaped_string, word_string_escape, escaped_byte_string, word_byte_string_escape}
use Rattle.ron_lex.specs.Quoted.{string_content, bytes_content}

-- what characters give, what escapes are read by, and what these are
pub record IsContent (C : Reader Text) (give : ℕ → Text) (e : Reader Text) (E : Lang Text) : Type 0 where
  pub pieces_are : C ≡ pieces (string_piece give e)
  pub escaped : AllEscaped is_mark E
  pub is_word : IsWordReader e E

-- that of a string
pub string_is : IsContent string_content itself string_escape StringEscape
unfolding string_content
string_is = record { pieces_are = refl; escaped = escaped_string; is_word = word_string_escape }

-- that of a byte string
pub bytes_are : IsContent bytes_content encode_utf8 byte_string_escape ByteStringEscape
unfolding bytes_content
bytes_are = record { pieces_are = refl; escaped = escaped_byte_string; is_word = word_byte_string_escape }
