-- What the rule of bytes owes: byte strings and lists of bytes are read exactly.
use Rattle.std.proofs.Common.{◌≡◌, ℕ, ◌≤◌, Bool, true, false, List, ◌∷◌, Some, slice_get, refl, arith}
use Rattle.ron_spec_words.specs.Characters.{Text, left_bracket, right_bracket}
use Rattle.ron_spec_words.specs.Runs.{is_at}
use Rattle.ron_spec_words.specs.Lang.{done, Means, Items, Needs}
use Rattle.ron_spec_words.specs.Reader.{means, items, needs}
use Rattle.ron_spec_words.specs.Exact.{Before, FollowsValue}
use Rattle.ron_spec_words.specs.Quoted.{ByteString}
use Rattle.ron_spec_words.proofs.Words.{First, first_means, first_or}
use Rattle.ron_spec_words.proofs.Exactly.{Opens, first_then, first_mark}
use Rattle.ron_spec_words.proofs.Classes.{Solid, solid_mark, first_solid}
use Rattle.ron_spec_words.proofs.LiteralStarts.{first_byte_string}
use Rattle.ron_spec_words.proofs.AnyIntegers.{word_any_integer, any_integer_solid}
use Rattle.ron_spec_words.proofs.RawStrings.{word_byte_string}
use Rattle.ron_spec_words.proofs.Values.{AnyValue}
use Rattle.ron_spec_words.proofs.WordsPass.{passes_any_integer, passes_byte_string}
use Rattle.ron_spec_words.proofs.Parts.{Part, part_word, part_means, part_needs, part_choose, part_items, part_group}
use Rattle.ron_spec_grammar.specs.Data.{Data, bytes_of}
use Rattle.ron_spec_grammar.specs.Schema.{Shape, bytes}
use Rattle.ron_spec_grammar.specs.Room.{step}
use Rattle.ron_spec_grammar.specs.Shapes.Bytes.{bytes_data, as_byte, ByteItem, BytesText, byte_item, read_bytes}
use Rattle.ron_spec_grammar.proofs.Room.{step_is, size}
use Rattle.ron_spec_grammar.proofs.Rule.{After, IsDataOf, part_plain}

pub byte_string_solid : First Solid ByteString
byte_string_solid = first_byte_string Solid (λ s. solid_mark 98 (34 ∷ s) refl refl refl) (λ s. solid_mark 98 (114 ∷ s) refl refl refl)

byte_opens : (room : ℕ) → Opens (ByteItem room)
byte_opens room = record { holds = λ t next b z. any_integer_solid.holds t next z.1.value z.1.spelled }

module _ {room step : ℕ} (m : ℕ) (le : m ≤ room) where
  pub part_byte : Part room step false AnyValue (byte_item m) (byte_item room) (ByteItem room) FollowsValue 2
  part_byte =
      part_needs 2 m le (omega arith) (part_means as_byte (λ _ _ _ _ _. tt) (part_word word_any_integer (first_solid any_integer_solid) passes_any_integer))

module _ {schema : List Shape} {room : ℕ} (m : ℕ) (le : m ≤ room) {i : ℕ} (s : slice_get schema i ≡ Some bytes) where
  is_bytes : (bs : List ℕ) (d : Data) → bytes_data bs ≡ Some d → IsDataOf schema room 0 i d
  is_bytes bs d e = let same : bytes_of bs ≡ d = cc in rw (← same) (record { of_shape = λ _. s })

  content : (gap : Text) → Part room (step schema) true (IsDataOf schema room 0 i) (needs 1 m (means (items (λ _ _. byte_item m) right_bracket gap) bytes_data))
      (needs 1 room (means (items (λ _ _. byte_item room) right_bracket gap) bytes_data))
      (Needs 1 room (Means (Items (λ _ _. ByteItem room) gap) bytes_data)) (Before right_bracket) 2
  content gap = part_needs 1 m le (omega arith) (part_means bytes_data (λ bs d _ e _. is_bytes bs d e)
      (part_items (λ _ _. byte_item m) (λ _ _. byte_item room) (λ _ _. ByteItem room) right_bracket refl refl (λ _ _. byte_opens room) (λ _ _. part_byte m le)
      gap))

  pub part_bytes : (base : ℕ → ℕ) (bare : Bool) → Part room (step schema) bare (IsDataOf schema room 0 i) (read_bytes m bare) (read_bytes room bare)
      (BytesText room bare) (After bare) (size schema base bare i)
  part_bytes base bare = part_plain bare (part_choose (is_at left_bracket) (first_then (first_mark _ left_bracket done (λ s. refl)))
      (first_means (first_byte_string (λ t. is_at left_bracket t ≡ false) (λ t. refl) (λ t. refl)))
      (part_group left_bracket right_bracket (size schema base bare i) refl refl content (omega (arith, step_is schema)))
      (part_means bytes_data (λ bs d _. is_bytes bs d) (part_word word_byte_string (first_solid byte_string_solid) passes_byte_string)))

pub bytes_opens : (room : ℕ) → Opens (BytesText room false)
bytes_opens room = first_or (first_then (first_mark Solid left_bracket done (λ s. solid_mark left_bracket s refl refl refl))) (first_means byte_string_solid)
