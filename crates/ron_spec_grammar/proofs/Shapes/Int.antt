-- What the rule of integers owes: an integer of a width is read exactly.
use Rattle.std.proofs.Common.{◌≡◌, ℕ, Bool, ◌&&◌, true, false, cond, List, Some, None, slice_get, refl}
use Rattle.ron_spec_words.proofs.Words.{first_means}
use Rattle.std.proofs.lemmas.Bool.{and_parts}
use Rattle.ron_spec_words.specs.Number.{Numeral, numeral_value}
use Rattle.ron_spec_words.proofs.AnyIntegers.{word_any_integer, any_integer_solid}
use Rattle.ron_spec_words.proofs.Exactly.{Opens}
use Rattle.ron_spec_words.proofs.Classes.{first_solid}
use Rattle.ron_spec_words.proofs.WordsPass.{passes_any_integer}
use Rattle.ron_spec_words.proofs.Parts.{Part, part_word, part_means}
use Rattle.ron_spec_grammar.specs.Data.{Data, int_of}
use Rattle.ron_value_number.specs.declared.width.Width.{Width}
use Rattle.ron_value_number.specs.Width.{fits}
use Rattle.ron_spec_grammar.specs.Schema.{Shape, int}
use Rattle.ron_spec_grammar.specs.Shapes.Int.{suits, in_width, IntText, read_int}
use Rattle.ron_spec_grammar.proofs.Rule.{After, IsDataOf, part_plain}

module _ {schema : List Shape} {room i : ℕ} (w : Width) (s : slice_get schema i ≡ Some (int w)) where
  is_int : (n : Numeral) (d : Data) → in_width w n ≡ Some d → IsDataOf schema room 0 i d
  is_int n d e = go (suits w n.suffix && fits w (numeral_value n)) refl e
    where
      go : (b : Bool) → (suits w n.suffix && fits w (numeral_value n)) ≡ b → cond b (Some (int_of w (numeral_value n))) None ≡ Some d
          → IsDataOf schema room 0 i d
      go true k q =
          let same : int_of w (numeral_value n) ≡ d = cc in
          let fit = (and_parts (suits w n.suffix) (fits w (numeral_value n)) k).1 in
          rw (← same) (record { of_shape = λ _. (s, fit) })
      go false k q = absurd (cc)

  pub part_int : {step e : ℕ} (bare : Bool) → Part room step bare (IsDataOf schema room 0 i) (read_int w bare) (read_int w bare) (IntText w bare) (After bare) e
  part_int bare =
      part_plain bare (part_means (in_width w) (λ n d _. is_int n d) (part_word word_any_integer (first_solid any_integer_solid) passes_any_integer))

pub int_opens : (w : Width) → Opens (IntText w false)
int_opens w = first_means any_integer_solid
