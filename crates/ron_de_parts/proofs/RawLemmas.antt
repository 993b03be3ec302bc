-- Raw texts by a schema, beside what is read of them.
use Rattle.std.proofs.Common.{◌≡◌, ℕ, Bool, false, List, length, Some, Ok, Err, slice_get, refl, sym, ap, ◌∙◌}
use denote.Ref.{Bor}
use Rattle.ron_spec_words.specs.Characters.{Text}
use Rattle.ron_spec_words.specs.Reader.{got, meant}
use Rattle.ron_spec_grammar.specs.Data as plain
use Rattle.ron_spec_grammar.specs.Schema.{any_raw}
use Rattle.ron_spec_grammar.specs.Reading.{read, read_at}
use Rattle.ron_spec_grammar.specs.Room.{enough}
use Rattle.ron_spec_grammar.specs.Shapes.Raw.{raw_data, raw_part}
use Rattle.ron_spec_grammar.specs.Turns.{read_bare}
use Rattle.ron_spec_grammar.proofs.BareTurns.{bare_plain, closed_is}
use Rattle.ron_spec_grammar.proofs.ContentTurns.{closed}
use Rattle.ron_spec_grammar.proofs.RawTurns.{raw_is}
use Rattle.ron_base.specs.declared.error.Error.{Error}
use Rattle.ron_base.specs.Class.{class_of}
use Rattle.ron_lex.specs.Place.{Place}
use Rattle.ron_de_steps.specs.Reads.{IsFaultOf}
use Rattle.ron_de_steps.proofs.ErrorLemmas.{fault_of}
use Rattle.ron_de_raw.specs.Raw.{raw_text_of}
use Rattle.ron_de_raw.specs.Reading.{ReadsRaw}
use Rattle.ron_de_raw.specs.declared.raw.RawValue.{RawValue}
use Rattle.ron_data.specs.declared.data.Data.TheVariants as data_
use Rattle.ron_data.specs.Datum.{data_view}
use Rattle.ron_data.proofs.DatumLemmas.{view-raw}
use Rattle.ron_de_parts.specs.Room.{IsRoom}
use Rattle.ron_de_parts.specs.Terms.{Terms, conditions_of}
use Rattle.ron_de_parts.proofs.RoomLemmas.{room_less, untyped_is_shape}

module _ (at_start : Bool) (terms : Terms) (i : ℕ) (at : slice_get terms.schema i ≡ Some any_raw) (place : Place) (room : ℕ)
    (r : IsRoom terms.limit (enough terms.schema false i (length place.rest)) room) where
  raw_here : read_at at_start terms.extensions terms.schema room false i place.gap place.rest
      ≡ meant (raw_part terms.extensions.unwrap_variant_newtypes room at_start place.gap place.rest) raw_data
  raw_here = raw_is at_start terms.extensions terms.schema room i place.gap place.rest at

  pub raw_fault : (e : Error) (rest : Text) → ReadsRaw (conditions_of terms) at_start place (Err e) rest
      → IsFaultOf (class_of e) (read_at at_start terms.extensions terms.schema room false i place.gap place.rest)
  raw_fault e rest h = fault_of (class_of e) _ _ (λ fault f. raw_here ∙ ap (λ o. meant o raw_data) f)
      (h room (room_less terms.limit _ _ room r (untyped_is_shape terms.schema false i (length place.rest))))

  -- what is kept of it
  pub raw_read : (read : RawValue × Bor (List ℕ)) (kept : RawValue) (rest : Text) → raw_text_of kept ≡ raw_text_of read.0 → ReadsRaw (conditions_of terms)
      at_start place (Ok read) rest → read_at at_start terms.extensions terms.schema room false i place.gap place.rest ≡ got (data_view (data_.Raw kept)) rest
  raw_read read kept rest same h =
      raw_here ∙ ap (λ o. meant o raw_data) (h room (room_less terms.limit _ _ room r (untyped_is_shape terms.schema false i (length place.rest))))
      ∙ ap (λ t. got (plain.raw_of t) rest) (sym same) ∙ ap (λ d. got d rest) (sym (view-raw kept))

-- bare, it is a value with perhaps a comma behind it
pub bare_raw_is : (terms : Terms) (i : ℕ) → slice_get terms.schema i ≡ Some any_raw → (place : Place) (room : ℕ)
    → read_bare terms.extensions terms.schema room i place.gap place.rest ≡ closed (read terms.extensions terms.schema room false i place.gap place.rest)
bare_raw_is terms i at place room =
    bare_plain terms.extensions terms.schema room i place.gap place.rest any_raw at refl ∙ closed_is terms.extensions terms.schema room i place.gap place.rest
