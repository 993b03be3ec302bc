-- Newtypes and tuple structs, by what stands in their brackets.
use Rattle.std.proofs.Common.{◌≡◌, ℕ, suc, ◌≤◌, Bool, false, List, ◌∷◌, length, Some, None, slice_get, refl, sym, ap, ap₂, ◌∙◌, arith, chars, string_bytes}
use Rattle.std.proofs.Common.{String, Box, Vec, Global}
use Rattle.ron_spec_words.specs.Characters.{Text}
use Rattle.ron_spec_words.specs.Gap.{skip, gap_of}
use Rattle.ron_spec_words.specs.Reader.{bad, Got, got, failed, means, meant}
use Rattle.ron_spec_words.specs.Runs.{is_at}
use Rattle.ron_spec_grammar.specs.Data as plain
use Rattle.ron_spec_grammar.specs.Schema.{Shape, newtype, tuple_struct}
use Rattle.ron_spec_grammar.specs.Rule.{Extensions}
use Rattle.ron_spec_grammar.specs.Reading.{read}
use Rattle.ron_spec_grammar.specs.Room.{rank, enough}
use Rattle.ron_spec_grammar.specs.Shapes.Newtype.{newtype_data}
use Rattle.ron_spec_grammar.specs.Turns.{read_tuple_group, read_below, read_content}
use Rattle.ron_spec_grammar.proofs.ContentTurns.{closed, content_inside, tuple_group_not_opened, read_tuple_struct_of, read_newtype_wrapped}
use Rattle.ron_base.specs.Class.{ErrorClass}
use Rattle.ron_lex.specs.Place.{Place}
use Rattle.ron_de_steps.specs.Reads.{IsFaultOf}
use Rattle.ron_data.specs.declared.data.Data.{Data}
use Rattle.ron_data.specs.declared.data.Data.TheVariants as data_
use Rattle.ron_data.specs.Datum.{data_view, items_view}
use Rattle.ron_data.proofs.DatumLemmas.{view-newtype, view-tuple_struct}
use Rattle.ron_de_parts.specs.Steps.{behind_name, past_name}
use Rattle.ron_de_parts.specs.Terms.{Terms}
use Rattle.ron_de_parts.specs.Room.{IsRoom, enough_for_group}
use Rattle.ron_de_parts.proofs.RoomLemmas.{room_less, content_in_group, group_of_value, held_of_value}
use Rattle.ron_de_steps.proofs.ErrorLemmas.{fault_of}
use Rattle.ron_de_parts.proofs.NameLemmas.{at_place, named_first, named_directly}

-- a fault of the items is that of the tuple
pub tuple_fault : (k : ErrorClass) (part : Got plain.Data) {whole : Got plain.Data} → whole ≡ part → IsFaultOf k part → IsFaultOf k whole
tuple_fault k part w h = fault_of k part _ (λ fault e. w ∙ e) h

-- ---- the room of what stands within

module _ (terms : Terms) (i : ℕ) where
  pub room_of_group : (m n room : ℕ) → m ≤ n → IsRoom terms.limit (enough terms.schema false i n) room
      → IsRoom terms.limit (enough_for_group terms.schema m) room
  room_of_group m n room le r = room_less terms.limit _ _ room r (omega (arith, group_of_value terms.schema i m n le))

  pub room_of_held : (j n room : ℕ) → rank terms.schema i ≡ suc (rank terms.schema j) → IsRoom terms.limit (enough terms.schema false i n) room
      → IsRoom terms.limit (suc (enough terms.schema false j n)) room
  room_of_held j n room e r = room_less terms.limit _ _ room r (omega (arith, held_of_value terms.schema i j n e))

  module _ (place : Place) (u : Text) (room : ℕ) where
    pub room_of_content : length place.rest ≤ length u → IsRoom terms.limit (enough_for_group terms.schema (length (40 ∷ u))) room
        → IsRoom terms.limit (suc (enough terms.schema false i (length place.rest))) room
    room_of_content le r =
        room_less terms.limit _ _ room r (omega (arith, content_in_group terms.schema i (length place.rest) (length (40 ∷ u)) (omega (arith, le))))

    pub content_here : is_at 47 (skip u) ≡ false → place.gap ≡ gap_of u → place.rest ≡ skip u → (b : Bool) → b ≡ false
        → read_content terms.extensions terms.schema room b i (40 ∷ u) ≡ closed (read_below terms.extensions terms.schema room i place.gap place.rest)
    content_here m g w b e = ap (λ b. read_content terms.extensions terms.schema room b i (40 ∷ u)) e ∙ content_inside terms.extensions terms.schema room i
        (40 ∷ u) u refl m ∙ ap₂ (λ gap s. closed (read_below terms.extensions terms.schema room i gap s)) (sym g) (sym w)

-- ---- tuple structs

module _ (x : Extensions) (schema : List Shape) (room i : ℕ) (before s n : Text) (js : List ℕ) (is : slice_get schema i ≡ Some (tuple_struct n js)) where
  is_tuple_struct : read x schema room false i before s
      ≡ at_place (read_tuple_group x schema room (plain.tuple_struct_of n) js) (behind_name x.explicit_struct_names n s)
  is_tuple_struct = read_tuple_struct_of x schema room i before s n js is ∙ named_directly (read_tuple_group x schema room (plain.tuple_struct_of n) js)
      x.explicit_struct_names n s (λ t h. tuple_group_not_opened x schema room (plain.tuple_struct_of n) js t h)

  pub tuple_struct_nowhere : behind_name x.explicit_struct_names n s ≡ None → read x schema room false i before s ≡ failed bad
  tuple_struct_nowhere e = is_tuple_struct ∙ ap (at_place (read_tuple_group x schema room (plain.tuple_struct_of n) js)) e

  pub tuple_struct_at : (t : Text) → behind_name x.explicit_struct_names n s ≡ Some t
      → read x schema room false i before s ≡ read_tuple_group x schema room (plain.tuple_struct_of n) js t
  tuple_struct_at t e = is_tuple_struct ∙ ap (at_place (read_tuple_group x schema room (plain.tuple_struct_of n) js)) e

pub tuple_struct_value : (name : String Global) (items : Vec Data Global) (spelled : List ℕ) (rest : Text) → string_bytes name ≡ spelled
    → got (plain.tuple_struct_of (chars spelled) (items_view items.items)) rest ≡ got (data_view (data_.TupleStruct name items)) rest
tuple_struct_value name items spelled rest e =
    ap (λ d. got d rest) (ap (λ b. plain.tuple_struct_of (chars b) (items_view items.items)) (sym e) ∙ sym (view-tuple_struct name items))

-- ---- newtypes

module _ (x : Extensions) (schema : List Shape) (room i : ℕ) (before s n : Text) (j : ℕ) (is : slice_get schema i ≡ Some (newtype n j))
    (wrapped : x.unwrap_newtypes ≡ false) where
  is_newtype : read x schema room false i before s
      ≡ at_place (means (read_content x schema room false j) (newtype_data n)) (past_name x.explicit_struct_names n s)
  is_newtype = read_newtype_wrapped x schema room i before s n j is wrapped
      ∙ named_first (means (read_content x schema room false j) (newtype_data n)) x.explicit_struct_names n s

  pub newtype_nowhere : past_name x.explicit_struct_names n s ≡ None → read x schema room false i before s ≡ failed bad
  newtype_nowhere e = is_newtype ∙ ap (at_place (means (read_content x schema room false j) (newtype_data n))) e

  pub newtype_at : (t : Text) → past_name x.explicit_struct_names n s ≡ Some t
      → read x schema room false i before s ≡ meant (read_content x schema room false j t) (newtype_data n)
  newtype_at t e = is_newtype ∙ ap (at_place (means (read_content x schema room false j) (newtype_data n))) e

pub newtype_value : (name : String Global) (value : Box Data Global) (d : Data) (spelled : List ℕ) (rest : Text) → string_bytes name ≡ spelled → value.value ≡ d
    → got (plain.newtype_of (chars spelled) (data_view d)) rest ≡ got (data_view (data_.Newtype name value)) rest
newtype_value name value d spelled rest e v =
    ap (λ d. got d rest) (ap₂ (λ b d. plain.newtype_of (chars b) (data_view d)) (sym e) (sym v) ∙ sym (view-newtype name value))
