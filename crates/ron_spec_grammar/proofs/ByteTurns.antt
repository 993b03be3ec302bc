-- The reader function of bytes a turn at a time: one equation for each case, for code that reads in the same order.
use Rattle.std.proofs.Common.{◌≡◌, ℕ, ◌≤◌, false, List, [], ◌∷◌, Some, slice_get, refl, arith, le-leb}
use Rattle.ron_spec_words.specs.Characters.{Text, left_bracket, right_bracket}
use Rattle.ron_spec_words.specs.Gap.{skip}
use Rattle.ron_spec_words.specs.Reader.{Fault, bad, got, failed, Reader, meant, given, after_gap, needs}
use Rattle.ron_spec_words.specs.Runs.{is_at}
use Rattle.ron_spec_words.specs.Turns.{all_items}
use Rattle.ron_spec_words.specs.AnyInteger.{any_integer}
use Rattle.ron_spec_words.specs.Quoted.{byte_string}
use Rattle.ron_spec_words.proofs.Room.{shrinks}
use Rattle.ron_spec_words.proofs.Turns.{Shrinks, group_opened, group_over, group_failed, group_last, group_not_closed, group_more}
use Rattle.ron_spec_grammar.specs.Schema.{Shape, bytes}
use Rattle.ron_spec_grammar.specs.Rule.{Extensions}
use Rattle.ron_spec_grammar.specs.Reading.{read, read_at}
use Rattle.ron_spec_grammar.specs.Shapes.Bytes.{bytes_data, as_byte, byte_item, read_bytes}
use Rattle.ron_spec_grammar.proofs.Shapes.Bytes.{part_byte}
use Rattle.ron_spec_grammar.specs.Turns.{read_bytes_from}

module _ (room : ℕ) where
  pub byte_within : (s : Text) → 2 ≤ room → byte_item room s ≡ meant (any_integer s) as_byte
  byte_within s le = rw (le-leb 2 room le) refl

  -- ---- the items, and the bracket that closes them

  abbrev reader : List ℕ → Text → Reader ℕ
  reader _ _ = byte_item room

  bytes_shrink : Shrinks reader
  bytes_shrink = record { at_most = λ seen gap t b rest e. shrinks _ _ (part_byte {room = room} {step = 0} room (omega arith)).exact.sound t b rest e }

  module _ (seen : List ℕ) (before s : Text) where
    pub bytes_over : (u : Text) → s ≡ right_bracket ∷ u → read_bytes_from room seen before s ≡ given (bytes_data (all_items seen [])) u
    unfolding read_bytes_from
    bytes_over = group_over reader right_bracket bytes_data (refl, refl, refl) bytes_shrink seen before s

    module _ (open_still : is_at right_bracket s ≡ false) where
      pub bytes_failed : (f : Fault) → byte_item room s ≡ failed f → read_bytes_from room seen before s ≡ failed f
      unfolding read_bytes_from
      bytes_failed = group_failed reader right_bracket bytes_data (refl, refl, refl) bytes_shrink seen before s open_still

      module _ (b : ℕ) (rest : Text) (e : byte_item room s ≡ got b rest) where
        pub bytes_last : (u : Text) → skip rest ≡ right_bracket ∷ u → read_bytes_from room seen before s ≡ given (bytes_data (all_items (b ∷ seen) [])) u
        unfolding read_bytes_from
        bytes_last = group_last reader right_bracket bytes_data (refl, refl, refl) bytes_shrink seen before s open_still b rest e

        pub bytes_not_closed : is_at 44 (skip rest) ≡ false → is_at right_bracket (skip rest) ≡ false → read_bytes_from room seen before s ≡ failed bad
        unfolding read_bytes_from
        bytes_not_closed = group_not_closed reader right_bracket bytes_data (refl, refl, refl) bytes_shrink seen before s open_still b rest e

        pub bytes_more : (u : Text) → skip rest ≡ 44 ∷ u → read_bytes_from room seen before s ≡ after_gap (read_bytes_from room (b ∷ seen)) u
        unfolding read_bytes_from
        bytes_more = group_more reader right_bracket bytes_data (refl, refl, refl) bytes_shrink seen before s open_still b rest e

  -- ---- a list, and what else spells bytes

  pub bytes_opened : (s u : Text) → s ≡ left_bracket ∷ u → read_bytes room false s ≡ after_gap (λ gap. needs 1 room (read_bytes_from room [] gap)) u
  unfolding read_bytes_from
  bytes_opened s u e = rw e (group_opened (λ _ _. byte_item room) right_bracket bytes_data left_bracket 1 room u)

  pub bytes_quoted : (s : Text) → is_at left_bracket s ≡ false → read_bytes room false s ≡ meant (byte_string s) bytes_data
  bytes_quoted s e = rw e refl

-- bytes at an index of the table
pub bytes_read : (x : Extensions) (schema : List Shape) (room i : ℕ) (before s : Text) → slice_get schema i ≡ Some bytes
    → read x schema room false i before s ≡ read_bytes room false s
unfolding read_at
bytes_read x schema room i before s e = rw e refl
