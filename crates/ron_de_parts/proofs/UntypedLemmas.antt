-- Values without a schema, beside the steps of the code.
use Rattle.std.proofs.Common.{◌≡◌, ℕ, suc, Bool, true, false, List, length, Some, None, Ok, Err, slice_get, refl, sym, ap, ◌∙◌}
use Rattle.ron_spec_words.specs.Characters.{Text}
use Rattle.ron_spec_words.specs.Reader.{deep, Got, got, failed, meant}
use Rattle.ron_value.specs.declared.value.Value.{Value}
use Rattle.ron_value.specs.Tree.{Tree}
use Rattle.ron_value.specs.View.{tree_of}
use Rattle.ron_spec_grammar.specs.Schema.{Shape, any_value}
use Rattle.ron_spec_grammar.specs.Rule.{Extensions}
use Rattle.ron_spec_grammar.specs.Reading.{read, read_at}
use Rattle.ron_spec_grammar.specs.Room.{enough}
use Rattle.ron_spec_grammar.specs.Turns.{read_bare}
use Rattle.ron_spec_grammar.specs.Values.Grammar.{read_any, read_any_below}
use Rattle.ron_spec_grammar.specs.Values.Statement.{enough_for_value}
use Rattle.ron_spec_grammar.specs.Shapes.Value.{value_data}
use Rattle.ron_spec_grammar.proofs.BareTurns.{bracketed}
use Rattle.ron_base.specs.declared.error.Error.{Error}
use Rattle.ron_base.specs.Class.{class_of}
use Rattle.ron_lex.specs.Place.{Place}
use Rattle.ron_de_steps.specs.Reads.{IsFaultOf}
use Rattle.ron_data.specs.declared.any_value.AnyValue.TheVariants.{Owned}
use Rattle.ron_data.specs.declared.data.Data.TheVariants as data_
use Rattle.ron_data.specs.Datum.{data_view}
use Rattle.ron_data.proofs.DatumLemmas.{view-value}
use Rattle.ron_de_untyped.specs.Values.{ReadsAny}
use Rattle.ron_de_steps.specs.Steps.{past_close}
use Rattle.ron_de_parts.specs.Errors.{IsMemoryOr}
use Rattle.ron_de_parts.specs.Room.{IsRoom}
use Rattle.ron_de_parts.specs.Terms.{Terms, conditions_of}
use Rattle.ron_de_parts.specs.Values.{SkipsValue}
use Rattle.ron_de_parts.proofs.ContentLemmas.{bracket_missing, bracket_there}
use Rattle.ron_de_steps.proofs.ErrorLemmas.{fault_of}
use Rattle.ron_de_parts.proofs.RoomLemmas.{room_less, untyped_is_shape}

-- ---- two levels below

pub untyped_below_here : (u : Bool) (left : ℕ) (gap s : Text) → read_any_below u (suc (suc left)) 1 gap s ≡ read_any u left false gap s
unfolding read_any_below read_any
untyped_below_here u left gap s = refl

no_level_below : (u : Bool) (gap s : Text) → read_any_below u 1 1 gap s ≡ failed deep
unfolding read_any_below
no_level_below u gap s = refl

pub untyped_below_deep : (u : Bool) (room : ℕ) (gap s : Text) → room ≡ 1 → read_any_below u room 1 gap s ≡ failed deep
untyped_below_deep u room gap s e = ap (λ k. read_any_below u k 1 gap s) e ∙ no_level_below u gap s

-- ---- by the terms in force

-- a value that is dropped
pub skips : (terms : Terms) (place : Place) (v : Value) (rest : Text) → ReadsAny (conditions_of terms) false place (Ok v) rest
    → SkipsValue terms place (Ok tt) rest
skips terms place v rest h = λ room r. (tree_of v, h room r)

-- ---- at an index of the table

untyped_at : (x : Extensions) (schema : List Shape) (room i : ℕ) (before s : Text) → slice_get schema i ≡ Some any_value
    → read x schema room false i before s ≡ meant (read_any x.unwrap_variant_newtypes room false before s) value_data
unfolding read_at
untyped_at x schema room i before s e = rw e refl

bare_at : (x : Extensions) (schema : List Shape) (room i : ℕ) (before s : Text) → slice_get schema i ≡ Some any_value
    → read_bare x schema room i before s ≡ bracketed (meant (read_any x.unwrap_variant_newtypes room true before s) value_data)
unfolding read_bare read_at
bare_at x schema room i before s e = rw e refl

-- the value as data
as_data : (v : Value) (rest : Text) (o : Got Tree) → o ≡ got (tree_of v) rest → meant o value_data ≡ got (data_view (data_.Value (Owned v))) rest
as_data v rest o e = ap (λ o. meant o value_data) e ∙ ap (λ d. got d rest) (sym (view-value (Owned v)))

module _ (terms : Terms) (i : ℕ) (at : slice_get terms.schema i ≡ Some any_value) (place : Place) (room : ℕ) where
  -- the room of a shape is enough
  room_of : (bare : Bool) → IsRoom terms.limit (enough terms.schema bare i (length place.rest)) room
      → IsRoom terms.limit (enough_for_value bare (length place.rest)) room
  room_of bare r = room_less terms.limit _ _ room r (untyped_is_shape terms.schema bare i (length place.rest))

  module _ (r : IsRoom terms.limit (enough terms.schema false i (length place.rest)) room) where
    pub untyped_fault : (e : Error) (rest : Text) → ReadsAny (conditions_of terms) false place (Err e) rest
        → IsFaultOf (class_of e) (read terms.extensions terms.schema room false i place.gap place.rest)
    untyped_fault e rest h = fault_of (class_of e) _ _
        (λ fault f. untyped_at terms.extensions terms.schema room i place.gap place.rest at ∙ ap (λ o. meant o value_data) f) (h room (room_of false r))

    pub untyped_read : (v : Value) (rest : Text) → ReadsAny (conditions_of terms) false place (Ok v) rest
        → read terms.extensions terms.schema room false i place.gap place.rest ≡ got (data_view (data_.Value (Owned v))) rest
    untyped_read v rest h = untyped_at terms.extensions terms.schema room i place.gap place.rest at ∙ as_data v rest _ (h room (room_of false r))

  module _ (r : IsRoom terms.limit (enough terms.schema true i (length place.rest)) room) where
    pub bare_untyped_fault : (e : Error) (rest : Text) → ReadsAny (conditions_of terms) true place (Err e) rest
        → IsFaultOf (class_of e) (read_bare terms.extensions terms.schema room i place.gap place.rest)
    bare_untyped_fault e rest h = fault_of (class_of e) _ _
        (λ fault f. bare_at terms.extensions terms.schema room i place.gap place.rest at ∙ ap (λ o. bracketed (meant o value_data)) f) (h room (room_of true r))

    module _ (v : Value) (rest : Text) (h : ReadsAny (conditions_of terms) true place (Ok v) rest) where
      pub bare_untyped_open : (e : Error) → IsMemoryOr (past_close 41 rest ≡ None) e
          → IsFaultOf (class_of e) (read_bare terms.extensions terms.schema room i place.gap place.rest)
      bare_untyped_open e n = bracket_missing (meant (read_any terms.extensions.unwrap_variant_newtypes room true place.gap place.rest) value_data) _
          (data_view (data_.Value (Owned v))) rest (bare_at terms.extensions terms.schema room i place.gap place.rest at)
          (as_data v rest _ (h room (room_of true r))) e n

      pub bare_untyped_read : (end : Text) → past_close 41 rest ≡ Some end
          → read_bare terms.extensions terms.schema room i place.gap place.rest ≡ got (data_view (data_.Value (Owned v))) end
      bare_untyped_read end n = bracket_there (meant (read_any terms.extensions.unwrap_variant_newtypes room true place.gap place.rest) value_data) _
          (data_view (data_.Value (Owned v))) rest (bare_at terms.extensions terms.schema room i place.gap place.rest at)
          (as_data v rest _ (h room (room_of true r))) end n
