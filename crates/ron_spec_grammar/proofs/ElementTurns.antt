-- The reader function of booleans, the unit, lists and tuples a turn at a time: one equation for each case, for code that reads in the same order.
use Rattle.std.proofs.Common.{◌≡◌, true, ℕ, false, List, [], ◌∷◌, Option, Some, None, slice_get, refl, ap, arith}
use Rattle.ron_spec_words.specs.Characters.{Text, left_bracket, right_bracket}
use Rattle.ron_spec_words.specs.Gap.{skip}
use Rattle.ron_spec_words.specs.Lang.{Done, done}
use Rattle.ron_spec_words.specs.Reader.{Fault, bad, got, failed, Reader, mark, in_sequence, meant, given, after_gap, needs}
use Rattle.ron_spec_words.specs.Runs.{is_at}
use Rattle.ron_spec_words.specs.Turns.{all_items}
use Rattle.ron_spec_words.proofs.Room.{shrinks}
use Rattle.ron_spec_words.proofs.Turns.{Shrinks, Closes, group_opened, group_over, group_failed, group_last, group_not_closed, group_more}
use Rattle.ron_spec_grammar.specs.Data.{Data}
use Rattle.ron_spec_grammar.specs.Schema.{Shape, bool, unit, seq}
use Rattle.ron_spec_grammar.specs.Rule.{Extensions, below}
use Rattle.ron_spec_grammar.specs.Grammar.{Rule, nothing_spelled}
use Rattle.ron_spec_grammar.specs.Reading.{rule, too_deep, read, read_at}
use Rattle.ron_spec_grammar.specs.Shapes.Bool.{boolean, bool_data}
use Rattle.ron_spec_grammar.specs.Shapes.Unit.{empty_brackets, unit_data}
use Rattle.ron_spec_grammar.specs.Shapes.Seq.{list_data}
use Rattle.ron_spec_grammar.specs.Shapes.Tuple.{at_shape}
use Rattle.ron_spec_grammar.proofs.Levels.{below_fit}
use Rattle.ron_spec_grammar.proofs.Room.{no_ranks, size, size_within}
use Rattle.ron_spec_grammar.proofs.Shapes.Tuple.{part_at}
use Rattle.ron_spec_grammar.specs.Turns.{Elements, of_one, shape_behind, read_field_value, read_element, read_elements}

-- a group where its opening character doesn't stand
pub no_group : {B : Type 0} (c : ℕ) (s : Text) (q : Done → Text → Reader B) → is_at c s ≡ false → in_sequence (mark c done) q s ≡ failed bad
no_group c [] q e = refl
no_group c (d ∷ s) q e = rw e refl

module _ (x : Extensions) (schema : List Shape) (room : ℕ) where
  -- ---- an item

  module _ (es : Elements) (seen : List Data) (before s : Text) where
    pub element_value : (j : ℕ) → shape_behind es seen ≡ Some j → read_element x schema room es seen before s ≡ read_field_value x schema room j before s
    unfolding read_element read_field_value
    element_value j e = ap (λ o. at_shape (below (rule x schema) too_deep room 1 false) o before s) e

    pub no_element : shape_behind es seen ≡ None → read_element x schema room es seen before s ≡ failed bad
    unfolding read_element
    no_element e = ap (λ o. at_shape (below (rule x schema) too_deep room 1 false) o before s) e

  -- ---- the items, and the bracket that closes them

  module _ (es : Elements) where
    abbrev reader : List Data → Text → Reader Data
    reader seen = at_shape (below (rule x schema) too_deep room 1 false) (shape_behind es seen)

    elements_shrink : Shrinks reader
    elements_shrink = record {
      at_most = λ seen gap t d rest e.
          shrinks _ _ (part_at {schema = schema} {room = room} 1 (below (rule x schema) too_deep room 1 false) (below (rule x schema) too_deep room 1 false)
          (below (Rule x schema) nothing_spelled room 1 false) (below_fit x schema (no_ranks schema room) room room 1 (omega arith) (omega arith) false)
          (size schema (λ i. room) true 0) (λ j. size_within schema (no_ranks schema room) 0 j) [] 0 (shape_behind es seen) gap).exact.sound t d rest e;
    }

    module _ (close : ℕ) (c : Closes close) (f : List Data → Option Data) (seen : List Data) (before s : Text) where
      pub elements_over : (u : Text) → s ≡ close ∷ u → read_elements x schema room es close f seen before s ≡ given (f (all_items seen [])) u
      unfolding read_elements
      elements_over = group_over reader close f c elements_shrink seen before s

      module _ (open_still : is_at close s ≡ false) where
        pub elements_failed : (k : Fault) → read_element x schema room es seen before s ≡ failed k
            → read_elements x schema room es close f seen before s ≡ failed k
        unfolding read_element read_elements
        elements_failed = group_failed reader close f c elements_shrink seen before s open_still

        module _ (d : Data) (rest : Text) (e : read_element x schema room es seen before s ≡ got d rest) where
          pub elements_last : (u : Text) → skip rest ≡ close ∷ u → read_elements x schema room es close f seen before s ≡ given (f (all_items (d ∷ seen) [])) u
          unfolding read_element read_elements
          elements_last = group_last reader close f c elements_shrink seen before s open_still d rest e

          pub elements_not_closed : is_at 44 (skip rest) ≡ false → is_at close (skip rest) ≡ false
              → read_elements x schema room es close f seen before s ≡ failed bad
          unfolding read_element read_elements
          elements_not_closed = group_not_closed reader close f c elements_shrink seen before s open_still d rest e

          pub elements_more : (u : Text) → skip rest ≡ 44 ∷ u
              → read_elements x schema room es close f seen before s ≡ after_gap (read_elements x schema room es close f (d ∷ seen)) u
          unfolding read_element read_elements
          elements_more = group_more reader close f c elements_shrink seen before s open_still d rest e

  -- ---- at an index of the table

  module _ (i : ℕ) (before s : Text) where
    pub read_boolean : slice_get schema i ≡ Some bool → read x schema room false i before s ≡ meant (boolean s) bool_data
    unfolding read_at
    read_boolean e = rw e refl

    pub read_the_unit : slice_get schema i ≡ Some unit → read x schema room false i before s ≡ meant (empty_brackets s) unit_data
    unfolding read_at
    read_the_unit e = rw e refl

    pub seq_opened : (j : ℕ) → slice_get schema i ≡ Some (seq j) → (u : Text) → s ≡ left_bracket ∷ u
        → read x schema room false i before s ≡ after_gap (λ gap. needs 1 room (read_elements x schema room (of_one j) right_bracket list_data [] gap)) u
    unfolding read_at read_elements
    seq_opened j e u o =
        rw (e, o) (group_opened (λ seen. at_shape (below (rule x schema) too_deep room 1 false) (Some j)) right_bracket list_data left_bracket 1 room u)

    pub seq_not_opened : (j : ℕ) → slice_get schema i ≡ Some (seq j) → is_at left_bracket s ≡ false → read x schema room false i before s ≡ failed bad
    unfolding read_at
    seq_not_opened j e o = rw e (no_group left_bracket s _ o)
