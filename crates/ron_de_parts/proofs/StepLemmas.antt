-- The reader function of values and fields beside the steps of the code: for the cycle of `read`.
use Rattle.std.proofs.Common.{◌≡◌, ℕ, suc, ◌-◌, ◌<◌, ◌≤◌, true, false, nat_lt, chars, string_bytes, String, Vec, Global, ◌⊎◌, inl, inr, map, List, [], ◌∷◌}
use Rattle.std.proofs.Common.{length, get_or, Option, Some, None, option_map, Result, Ok, Err, IfErr, IfSome, slice_get, refl, sym, ap, ap₂, subst, ◌∙◌, arith}
use Rattle.std.specs.List.{list_all}
use Rattle.std.proofs.lemmas.Bool.{ltb-true, lt-ltb}
use Rattle.std.proofs.lemmas.Option.{slice_get-get_or, same_Some}
use Rattle.ron_spec_words.specs.Characters.{Text}
use Rattle.ron_spec_words.specs.Gap.{skip, gap_of}
use Rattle.ron_spec_words.specs.Runs.{is_at}
use Rattle.ron_spec_words.specs.Name.{name}
use Rattle.ron_spec_words.specs.Range.{opens_interval}
use Rattle.ron_spec_words.specs.Reader.{deep, bad, Got, got, failed, meant}
use Rattle.ron_spec_words.proofs.Exactly.{is_at_other}
use Rattle.ron_spec_grammar.specs.Data as plain
use Rattle.ron_spec_grammar.specs.Schema.{Field, FieldList, Shape, field, struct, holds_below}
use Rattle.ron_spec_grammar.specs.Rule.{Extensions}
use Rattle.ron_spec_grammar.specs.Reading.{read}
use Rattle.ron_spec_grammar.specs.Shapes.Struct.{Item, Target, known, unknown, target, skipped, item_of}
use Rattle.ron_spec_grammar.specs.Turns.{read_field_group, read_item, read_field_value}
use Rattle.ron_spec_grammar.specs.Values.Grammar.{read_any, read_any_below}
use Rattle.ron_spec_grammar.specs.Values.Statement.{enough_for_value}
use Rattle.ron_spec_grammar.proofs.Turns as turns
use Rattle.ron_spec_grammar.proofs.GroupTurns.{read_struct_of}
use Rattle.ron_spec_grammar.proofs.Seen.{target_some}
use Rattle.ron_spec_grammar.proofs.Finding.{all_get}
use Rattle.ron_de_steps.specs.Reads.{IsFaultOf}
use Rattle.ron_data_schema.specs.declared.schema.FieldShape.{FieldShape}
use Rattle.ron_data.specs.declared.data.Data.{Data}
use Rattle.ron_data.specs.declared.data.Data.TheVariants as data_
use Rattle.ron_data.specs.Datum.{data_view, fields_view}
use Rattle.ron_data.proofs.DatumLemmas.{view-struct}
use Rattle.ron_data_schema.specs.Shapes.{field_view}
use Rattle.ron_data.specs.declared.slots.Slots.{Slots}
use Rattle.ron_data.specs.Slots.{IsFree, MissesField}
use Rattle.ron_data_schema.proofs.TableLemmas.{view_at}
use Rattle.ron_base.specs.declared.error.Error.{Error}
use Rattle.ron_base.specs.declared.error.Error.TheVariants.{MissingStructField, OutOfMemory}
use Rattle.ron_base.specs.Class.{ErrorClass, class_of}
use Rattle.ron_lex.specs.Place.{Place}
use Rattle.ron_de_parts.specs.Errors.{IsMemoryOr}
use Rattle.ron_de_parts.specs.Steps.{past_name}
use Rattle.ron_spec_grammar.specs.Room.{enough}
use Rattle.ron_de_parts.specs.Terms.{Terms, IsDeeper}
use Rattle.ron_de_parts.specs.Room.{IsRoom, enough_for_items}
use Rattle.ron_de_parts.specs.Values.{ReadsValue, SkipsValue}
use Rattle.ron_de_parts.specs.Slots.{IsTarget, IsAtValue, IsAtUnknown, IsAtTarget, IsItem, IsSkipped}
use Rattle.ron_de_parts.proofs.RoomLemmas.{RoomBelow, room_below, item_within, untyped_within}
use Rattle.ron_de_parts.proofs.UntypedLemmas.{untyped_below_here, untyped_below_deep}
use Rattle.ron_de_parts.proofs.NameLemmas.{at_place, named_first}
use Rattle.ron_de_steps.proofs.ErrorLemmas.{memory_or_more, fault_of}

-- ---- a field's name

module _ (x : Extensions) (schema : List Shape) (room : ℕ) (list : FieldList) (seen : List Item) (s n rest : Text) (e : name s ≡ got n rest) where
  pub refused : (code : Error) → IsMemoryOr (target list seen n ≡ None) code → IsMemoryOr (read_item x schema room list seen s ≡ failed bad) code
  refused code t = memory_or_more code (λ k. turns.item_refused x schema room list seen s n rest e k) t

  pub no_colon : (t : Text) → t ≡ skip rest → is_at 58 t ≡ false → read_item x schema room list seen s ≡ failed bad
  no_colon t g h = go (target list seen n) refl
    where
      go : (o : Option Target) → target list seen n ≡ o → read_item x schema room list seen s ≡ failed bad
      go None k = turns.item_refused x schema room list seen s n rest e k
      go (Some f) k = turns.item_without_colon x schema room list seen s n rest e f k (ap (is_at 58) (sym g) ∙ h)

  -- a slash behind the name's gap, or behind the colon's
  pub name_slash : is_at 47 (skip rest) ≡ true → read_item x schema room list seen s ≡ failed bad
  name_slash k = no_colon (skip rest) refl (is_at_other 47 58 (skip rest) k refl)

  pub colon_slash : (t u : Text) → t ≡ skip rest → t ≡ 58 ∷ u → is_at 47 (skip u) ≡ true → read_item x schema room list seen s ≡ failed bad
  colon_slash t u g h m = go (target list seen n) refl
    where
      go : (o : Option Target) → target list seen n ≡ o → read_item x schema room list seen s ≡ failed bad
      go None k = turns.item_refused x schema room list seen s n rest e k
      go (Some f) k = turns.item_slash x schema room list seen s n rest e f k u (sym g ∙ h) m

  -- behind the colon and its gap
  module _ (t u : Text) (place : Place) (g : t ≡ skip rest) (h : t ≡ 58 ∷ u) (m : is_at 47 (skip u) ≡ false) (is_gap : place.gap ≡ gap_of u)
      (is_rest : place.rest ≡ skip u) where
    at_value : (index : ℕ) → index < length list.fields → target list seen n ≡ option_map known (slice_get list.fields index)
        → IsAtValue x schema room list seen index s place
    at_value index lt k =
        let f : Field = get_or list.fields index (field [] 0) in
        let at : slice_get list.fields index ≡ Some f = slice_get-get_or list.fields index (field [] 0) lt in
        let here : target list seen n ≡ Some (known f) = k ∙ ap (option_map known) at in
        record {
          field = f;
          at = at;
          is_new = (target_some list seen n (known f) here).is_new;
          is = turns.item_value x schema room list seen s n rest e (known f) here u (sym g ∙ h) f refl m
              ∙ ap (λ o. meant o (item_of f)) (ap₂ (read_field_value x schema room f.shape) (sym is_gap) (sym is_rest));
        }

    at_unknown : target list seen n ≡ Some (unknown n) → IsAtUnknown x schema room list seen s place
    at_unknown k = record {
      spelled = n;
      behind = rest;
      named = e;
      is_unknown = (target_some list seen n (unknown n) k).1;
      is = turns.item_skipped x schema room list seen s n rest e (unknown n) k u (sym g ∙ h) n refl m
          ∙ ap (λ o. meant o (skipped n)) (ap₂ (read_any_below x.unwrap_variant_newtypes room 1) (sym is_gap) (sym is_rest));
    }

    pub at_target : (field : Option ℕ) → IfSome field (λ i. i < length list.fields) → IsTarget list seen n field
        → IsAtTarget x schema room list seen field s place
    at_target None lt k = at_unknown k
    at_target (Some index) lt k = at_value index lt k

-- ---- an integer

-- what is refused whatever the room, where the room bears on nothing
pub refused_in_any_room : (result : Result Data Error) {answer : Got plain.Data} {whole : ℕ → Got plain.Data} → IfErr result (λ _. answer ≡ failed bad)
    → ((room : ℕ) → whole room ≡ answer) → IfErr result (λ _. (room : ℕ) → whole room ≡ failed bad)
refused_in_any_room (Ok d) none same = tt
refused_in_any_room (Err e) none same = λ room. same room ∙ none

pub refused_or : (P : Type 0) (result : Result Data Error) {answer : Got plain.Data} {whole : ℕ → Got plain.Data}
    → IfErr result (λ _. P ⊎ (answer ≡ failed bad)) → ((room : ℕ) → whole room ≡ answer) → IfErr result (λ _. P ⊎ ((room : ℕ) → whole room ≡ failed bad))
refused_or P (Ok d) none same = tt
refused_or P (Err e) (inl p) same = inl p
refused_or P (Err e) (inr none) same = inr (λ room. same room ∙ none)

-- ---- a field that is missing

pub misses : (P : Type 0) (e : Error) → MissesField P e → IsMemoryOr P e
misses P (MissingStructField field outer) p = p
misses P OutOfMemory p = tt
misses P _ p = absurd p

-- ---- a field's value

-- the shape of a field of the code's list is that of the field at its index
shape_at : (fields : List FieldShape) (index : ℕ) (r : FieldShape) (f : Field) → index < length fields → r ≡ get_or fields index r
    → slice_get (map field_view fields) index ≡ Some f → f.shape ≡ (get_or fields index r).shape
shape_at fields index r f lt e at =
    let same : field_view r ≡ f = same_Some (field_view r) f (sym (view_at field_view fields index r (lt-ltb index (length fields) lt) e) ∙ at) in
    ap (λ (g : Field). g.shape) (sym same) ∙ ap (λ (g : FieldShape). g.shape) e

pub shape_of : (all fields : List FieldShape) → fields ≡ all → (index : ℕ) (r : FieldShape) (f : Field) → index < length all → r ≡ get_or fields index r
    → slice_get (map field_view all) index ≡ Some f → f.shape ≡ (get_or fields index r).shape
shape_of all fields e index r f lt is at = shape_at fields index r f (subst (λ (fs : List FieldShape). index < length fs) (sym e) lt) is
    (subst (λ (fs : List FieldShape). slice_get (map field_view fs) index ≡ Some f) (sym e) at)

-- an index that was found is that of a field without a value
pub free_field : (fields : List FieldShape) (slots : Slots) (field : Option ℕ) (index : ℕ) → field ≡ Some index → IfSome field (IsFree fields slots)
    → IsFree fields slots index
free_field fields slots field index e h = subst (λ (o : Option ℕ). IfSome o (IsFree fields slots)) e h

pub shape_in_range : (n : ℕ) (fields : List FieldShape) (index : ℕ) (r : FieldShape) → list_all (λ (f : Field). nat_lt f.shape n) (map field_view fields) ≡ true
    → index < length fields → r ≡ get_or fields index r → (get_or fields index r).shape < n
shape_in_range n fields index r h lt e =
    subst (λ (g : FieldShape). g.shape < n) e (ltb-true r.shape n (all_get (λ (f : Field). nat_lt f.shape n) (map field_view fields) index (field_view r) h
    (view_at field_view fields index r (lt-ltb index (length fields) lt) e)))

module _ (x : Extensions) (schema : List Shape) (room : ℕ) (list : FieldList) (seen : List Item) (index : ℕ) (s : Text) (place : Place)
    (at : IsAtValue x schema room list seen index s place) where
  module _ (i left : ℕ) (r : at.field.shape ≡ i) (e : room ≡ suc (suc left)) where
    value_here : read_field_value x schema room at.field.shape place.gap place.rest ≡ read x schema left false i place.gap place.rest
    value_here =
        let two : 2 ≤ room = omega (arith, e) in
        let less : room - 2 ≡ left = omega (arith, e) in
        turns.value_within x schema room at.field.shape place.gap place.rest two ∙ ap₂ (λ n k. read x schema n false k place.gap place.rest) less r

    pub item_read : (d : plain.Data) (new : Text) → read x schema left false i place.gap place.rest ≡ got d new
        → IsItem list seen index d (read_item x schema room list seen s) new
    item_read d new g = record { field = at.field; at = at.at; is_new = at.is_new; is = at.is ∙ ap (λ o. meant o (item_of at.field)) (value_here ∙ g) }

    pub item_fault : (k : ErrorClass) → IsFaultOf k (read x schema left false i place.gap place.rest) → IsFaultOf k (read_item x schema room list seen s)
    item_fault k g = fault_of k _ _ (λ fault f. at.is ∙ ap (λ o. meant o (item_of at.field)) (value_here ∙ f)) g

  item_deep : room ≡ 1 → read_item x schema room list seen s ≡ failed deep
  item_deep e = let l : room < 2 = omega (arith, e) in
      at.is ∙ ap (λ o. meant o (item_of at.field)) (turns.value_deep x schema room at.field.shape place.gap place.rest l)

-- what stands behind the name that was found
pub at_known_name : (x : Extensions) (schema : List Shape) (room : ℕ) (list : FieldList) (seen : List Item) (field : Option ℕ) (index : ℕ) (s : Text)
    (place : Place) → field ≡ Some index → IsAtTarget x schema room list seen field s place → IsAtValue x schema room list seen index s place
at_known_name x schema room list seen field index s place e at = subst (λ (o : Option ℕ). IsAtTarget x schema room list seen o s place) e at

pub at_unknown_name : (x : Extensions) (schema : List Shape) (room : ℕ) (list : FieldList) (seen : List Item) (field : Option ℕ) (s : Text) (place : Place)
    → field ≡ None → IsAtTarget x schema room list seen field s place → IsAtUnknown x schema room list seen s place
at_unknown_name x schema room list seen field s place e at = subst (λ (o : Option ℕ). IsAtTarget x schema room list seen o s place) e at

-- where no level is left for the value, known or not
pub target_deep : (x : Extensions) (schema : List Shape) (room : ℕ) (list : FieldList) (seen : List Item) (field : Option ℕ) (s : Text) (place : Place)
    → IsAtTarget x schema room list seen field s place → room ≡ 1 → read_item x schema room list seen s ≡ failed deep
target_deep x schema room list seen None s place at e =
    at.is ∙ ap (λ o. meant o (skipped at.spelled)) (untyped_below_deep x.unwrap_variant_newtypes room place.gap place.rest e)
target_deep x schema room list seen (Some index) s place at e = item_deep x schema room list seen index s place at e

-- ---- a struct

pub struct_value : (name : String Global) (fields : Vec (String Global × Data) Global) (spelled : List ℕ) (rest : Text) → string_bytes name ≡ spelled
    → got (plain.struct_of (chars spelled) (fields_view fields.items)) rest ≡ got (data_view (data_.Struct name fields)) rest
struct_value name fields spelled rest e =
    ap (λ d. got d rest) (ap (λ b. plain.struct_of (chars b) (fields_view fields.items)) (sym e) ∙ sym (view-struct name fields))

module _ (x : Extensions) (schema : List Shape) (room i : ℕ) (before s n : Text) (list : FieldList) (is : slice_get schema i ≡ Some (struct n list))
    (no_range : opens_interval s ≡ false) where
  is_struct : read x schema room false i before s ≡ at_place (read_field_group x schema room (plain.struct_of n) list) (past_name x.explicit_struct_names n s)
  is_struct = read_struct_of x schema room i before s n list is no_range
      ∙ named_first (read_field_group x schema room (plain.struct_of n) list) x.explicit_struct_names n s

  pub struct_nowhere : past_name x.explicit_struct_names n s ≡ None → read x schema room false i before s ≡ failed bad
  struct_nowhere e = is_struct ∙ ap (at_place (read_field_group x schema room (plain.struct_of n) list)) e

  pub struct_at : (t : Text) → past_name x.explicit_struct_names n s ≡ Some t
      → read x schema room false i before s ≡ read_field_group x schema room (plain.struct_of n) list t
  struct_at t e = is_struct ∙ ap (at_place (read_field_group x schema room (plain.struct_of n) list)) e

pub in_range_of : (s inner : List Shape) (i : ℕ) → inner ≡ s → i < length s → i < length inner
in_range_of s inner i e lt = subst (λ (k : List Shape). i < length k) (sym e) lt

pub below_of : (s inner : List Shape) (shape : Shape) → inner ≡ s → holds_below (length s) shape ≡ true → holds_below (length inner) shape ≡ true
below_of s inner shape e h = subst (λ (k : List Shape). holds_below (length k) shape ≡ true) (sym e) h

-- ---- a field, by what its value is read as a level deeper

module _ (terms inner : Terms) (list : FieldList) (old place : Place) (d : IsDeeper terms inner) (room : ℕ) (seen : List Item)
    (r : IsRoom terms.limit (enough_for_items terms.schema (length old.rest)) room) (shorter : length place.rest < length old.rest) where
  module _ {index : ℕ} (at : IsAtValue terms.extensions terms.schema (suc room) list seen index old.rest place) (i : ℕ) (is_shape : at.field.shape ≡ i) where
    room_there : RoomBelow inner.limit (enough terms.schema false i (length place.rest)) room
    room_there = room_below terms.limit inner.limit _ _ room d.2 r (item_within terms.schema i (length place.rest) (length old.rest) (omega (arith, shorter)))

    -- what reading the value gives is of the reader function in the room that is left
    there : (P : Got plain.Data → Type 0) → ((n : ℕ) → IsRoom inner.limit (enough inner.schema false i (length place.rest)) n
        → P (read inner.extensions inner.schema n false i place.gap place.rest))
        → P (read terms.extensions terms.schema room_there.left false i place.gap place.rest)
    there P g =
        let n = room_there.left in
        let h = g n (subst (λ (s : List Shape). IsRoom inner.limit (enough s false i (length place.rest)) n) (sym d.1) room_there.is_room) in
        subst (λ (s : List Shape). P (read terms.extensions s n false i place.gap place.rest)) d.1
        (subst (λ (x : Extensions). P (read x inner.schema n false i place.gap place.rest)) d.0 h)

    pub field_faults : (e : Error) (rest : Text) → ReadsValue inner i place (Err e) rest
        → IsFaultOf (class_of e) (read_item terms.extensions terms.schema (suc room) list seen old.rest)
    field_faults e rest g = item_fault terms.extensions terms.schema (suc room) list seen index old.rest place
        at i room_there.left is_shape (ap suc room_there.is) (class_of e) (there (IsFaultOf (class_of e)) g)

    pub field_read : (v : Data) (rest : Text) → ReadsValue inner i place (Ok v) rest
        → IsItem list seen index (data_view v) (read_item terms.extensions terms.schema (suc room) list seen old.rest) rest
    field_read v rest g = item_read terms.extensions terms.schema (suc room) list seen index old.rest place
        at i room_there.left is_shape (ap suc room_there.is) (data_view v) rest (there (λ o. o ≡ got (data_view v) rest) g)

  -- the value of a name that no field has
  module _ (at : IsAtUnknown terms.extensions terms.schema (suc room) list seen old.rest place) where
    room_skipped : RoomBelow inner.limit (enough_for_value false (length place.rest)) room
    room_skipped =
        room_below terms.limit inner.limit _ _ room d.2 r (untyped_within terms.schema (length place.rest) (length old.rest) (omega (arith, shorter)))

    skipped_here : read_any_below terms.extensions.unwrap_variant_newtypes (suc room) 1 place.gap place.rest
        ≡ read_any inner.extensions.unwrap_variant_newtypes room_skipped.left false place.gap place.rest
    skipped_here =
        ap (λ k. read_any_below terms.extensions.unwrap_variant_newtypes (suc k) 1 place.gap place.rest) room_skipped.is
        ∙ untyped_below_here terms.extensions.unwrap_variant_newtypes room_skipped.left place.gap place.rest
        ∙ ap (λ (x : Extensions). read_any x.unwrap_variant_newtypes room_skipped.left false place.gap place.rest) (sym d.0)

    pub skip_faults : (e : Error) (rest : Text) → SkipsValue inner place (Err e) rest
        → IsFaultOf (class_of e) (read_item terms.extensions terms.schema (suc room) list seen old.rest)
    skip_faults e rest g =
        fault_of (class_of e) _ _ (λ fault f. at.is ∙ ap (λ o. meant o (skipped at.spelled)) (skipped_here ∙ f)) (g room_skipped.left room_skipped.is_room)

    pub field_skipped : (rest : Text) → SkipsValue inner place (Ok tt) rest
        → IsSkipped list old.rest (read_item terms.extensions terms.schema (suc room) list seen old.rest) rest
    field_skipped rest g =
        let h = g room_skipped.left room_skipped.is_room in
        record {
          spelled = at.spelled;
          behind = at.behind;
          named = at.named;
          is_unknown = at.is_unknown;
          is = at.is ∙ ap (λ o. meant o (skipped at.spelled)) (skipped_here ∙ h.1);
        }
