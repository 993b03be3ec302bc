-- Fields found by the keys of a map: for structs that a map becomes.
use Rattle.std.proofs.Common.{◌≡◌, ℕ, ◌<◌, Bool, true, false, not, ◌&&◌, if◌then◌else◌, zero, suc, cond, List, [], ◌∷◌, map, length, get_or, chars, Option}
use Rattle.std.proofs.Common.{Some, None, option_map, slice_get, set, find, refl, sym, ap, ◌∙◌, arith}
use Rattle.std.specs.Option.{option_and_then}
use Rattle.std.specs.List.{list_any, position}
use Rattle.std.proofs.lemmas.List.{length-map}
use Rattle.std.proofs.lemmas.Option.{slice_get-map, slice_get-get_or}
use Rattle.ron_spec_words.specs.Characters.{Text}
use Rattle.ron_spec_words.specs.Turns.{all_items}
use Rattle.ron_spec_grammar.specs.Data.{the_unit}
use Rattle.ron_spec_grammar.specs.Schema.{Field, FieldList, Shape, is_named, is_called, names_differ}
use Rattle.ron_spec_grammar.specs.Shapes.Struct.{Item, unless_seen, new_field, Target, known, unknown, target}
use Rattle.ron_spec_grammar.proofs.Finding.{found_any, named_called, none_any}
use Rattle.ron_spec_grammar.proofs.Seen.{StandsFor, target_some}
use Rattle.ron_spec_grammar.specs.Values.Conversion.{into, fields_into, field_named, item_as, followed}
use Rattle.ron_value.specs.Tree.{Tree, text, Pairs, no_pairs, pair_and}
use Rattle.ron_value.specs.declared.value.Value.{Value}
use Rattle.ron_value.specs.View.{tree_of}
use Rattle.ron_data.specs.declared.data.Data.{Data}
use Rattle.ron_data_schema.specs.declared.schema.FieldShape.{FieldShape}
use Rattle.ron_data_schema.specs.declared.schema.FieldList.{FieldList as FieldList_}
use Rattle.ron_data_schema.specs.Shapes.{field_view, list_view}
use Rattle.ron_data.specs.declared.slots.Slots.{Slots}
use Rattle.ron_data.specs.Datum.{data_view}
use Rattle.ron_data.specs.Slots.{slots_view, slots_in, so_far, is_filled, AreSlotsOf}
use Rattle.ron_data.proofs.PositionLemmas.{find_position}
use Rattle.ron_data.proofs.SlotLemmas.{slot_kept}
use Rattle.ron_data.proofs.ItemLemmas.{slots-nothing}
use Rattle.ron_base.specs.declared.error.Error.{Error}
use Rattle.ron_data_convert.specs.Becomes.{pairs_tree, IsMemoryOr}
use Rattle.ron_data_convert.specs.Misfits.{Misfit, names_no_field, names_field_again, lacks_field, misfit, key_misfit, field_misfit, followed_misfit}
use Rattle.ron_data_convert.specs.Misfits.{fields_misfit}
use Rattle.ron_data_convert.proofs.BecomesLemmas.{memory_or_more}
use Rattle.ron_data_convert.specs.Places.{AreFlagsOf}
use Rattle.ron_data_convert.specs.Slots.{field_views, Names}
use Rattle.ron_data_convert.proofs.SlotLemmas.{slots_more, slots_other, filled_seen}

-- ---- what a name stands for, where it calls a field and where it calls none

-- by whether unknown names are skipped, whether this one calls a field, and which one is found that is new
abbrev target_by : Bool → Bool → Text → Option Field → Option Target
target_by skips calls name found = if skips && not calls then Some (unknown name) else option_map known found

of_field : (skips : Bool) (name : Text) (found : Option Field) → target_by skips true name found ≡ option_map known found
of_field true name found = refl
of_field false name found = refl

module _ (list : FieldList) (seen : List Item) (name : Text) where
  target_found : (f : Field) → find (is_called name) list.fields ≡ Some f → target list seen name ≡ option_map known (unless_seen seen f)
  target_found f e =
      ap (λ calls. target_by list.skips_unknown calls name (new_field list.fields seen name)) (found_any (is_called name) list.fields f e)
      ∙ of_field list.skips_unknown name (new_field list.fields seen name) ∙ ap (λ o. option_map known (option_and_then (unless_seen seen) o)) e

  target_else : find (is_called name) list.fields ≡ None → target list seen name ≡ target_by list.skips_unknown false name None
  target_else e =
      ap (λ calls. target_by list.skips_unknown calls name (new_field list.fields seen name)) (none_any (is_called name) list.fields e)
      ∙ ap (λ o. target_by list.skips_unknown false name (option_and_then (unless_seen seen) o)) e

-- ---- what a key names that is a text

-- what stands at an index of a list
held_at : {X Y : Type 0} (view : X → Y) (xs : List X) (i : ℕ) → i < length xs → (y : Y) × (slice_get (map view xs) i ≡ Some y)
held_at view [] i lt = absurd (omega (arith, lt))
held_at view (x ∷ xs) zero lt = (view x, refl)
held_at view (x ∷ xs) (suc i) lt = held_at view xs i (omega (arith, lt))

module _ (list : FieldList_) (key : Tree) (bs : List ℕ) (e : key ≡ text bs) (seen : List Item) where
  spelled : field_named (list_view list) seen key ≡ target (list_view list) seen (chars bs)
  spelled = ap (field_named (list_view list) seen) e

  abbrev At : Option ℕ → Type 0
  At o = o ≡ position (λ f. is_called (chars bs) (field_view f)) list.fields.items

  -- a field, but where its slot is filled
  pub key_names : (slots : List (Option Data)) (i : ℕ) (b : Bool) → At (Some i) → is_filled (slice_get slots i) ≡ b
      → AreSlotsOf (slots_view slots) (field_views list.fields.items) (all_items seen [])
      → field_named (list_view list) seen key ≡ cond b None (option_map known (slice_get (field_views list.fields.items) i))
  key_names slots i b p filled are =
      let found = find_position field_view (is_called (chars bs)) list.fields.items (Some i) p in
      let at = held_at field_view list.fields.items i found.0 in
      let is_seen = sym (filled_seen (field_views list.fields.items) seen slots i at.0 are at.1) ∙ filled in
      spelled ∙ target_found (list_view list) seen (chars bs) at.0 (found.1 ∙ at.1) ∙ ap (λ b. option_map known (cond b None (Some at.0))) is_seen ∙ go b at.0
      ∙ ap (λ o. cond b None (option_map known o)) (sym at.1)
    where
      go : (b : Bool) (f : Field) → option_map known (cond b None (Some f)) ≡ cond b None (Some (known f))
      go true f = refl
      go false f = refl

  -- the same of slots as they are kept
  pub key_kept : (slots : Slots) (i : ℕ) (b : Bool) → At (Some i) → is_filled (slice_get (so_far slots) i) ≡ b
      → AreSlotsOf (slots_view (slots_in list.fields.items slots)) (field_views list.fields.items) (all_items seen [])
      → field_named (list_view list) seen key ≡ cond b None (option_map known (slice_get (field_views list.fields.items) i))
  key_kept slots i b p filled =
      let found = find_position field_view (is_called (chars bs)) list.fields.items (Some i) p in
      key_names (slots_in list.fields.items slots) i b p (slot_kept (length list.fields.items) (so_far slots) i found.0 ∙ filled)

  -- and of slots whose flags say which are filled
  pub key_flagged : (flags : List Bool) (slots : List (Option Data)) → AreFlagsOf (length (field_views list.fields.items)) flags slots → (i : ℕ) (b : Bool)
      → At (Some i) → get_or flags i false ≡ b
      → AreSlotsOf (slots_view slots) (field_views list.fields.items) (all_items seen [])
      → field_named (list_view list) seen key ≡ cond b None (option_map known (slice_get (field_views list.fields.items) i))
  key_flagged flags slots h i b p flagged =
      let found = find_position field_view (is_called (chars bs)) list.fields.items (Some i) p in
      key_names slots i b p (h i (omega (arith, found.0, length-map list.fields.items field_view)) ∙ flagged)

  -- none, by whether unknown ones are skipped
  pub key_else : (skips : Bool) → At None → list.skip_unknown ≡ skips → field_named (list_view list) seen key ≡ cond skips (Some (unknown (chars bs))) None
  key_else skips p s =
      spelled ∙ target_else (list_view list) seen (chars bs) (find_position field_view (is_called (chars bs)) list.fields.items None p)
      ∙ ap (λ skips. target_by skips false (chars bs) None) s ∙ go skips
    where
      go : (skips : Bool) → target_by skips false (chars bs) None ≡ cond skips (Some (unknown (chars bs))) None
      go true = refl
      go false = refl

  -- ---- why it may not stand here

  misfit_by : key_misfit (list_view list) key ≡ cond (list_any (is_called (chars bs)) (list_view list).fields) names_field_again names_no_field
  misfit_by = ap (key_misfit (list_view list)) e

  pub key_again : (i : ℕ) → At (Some i) → key_misfit (list_view list) key ≡ names_field_again
  key_again i p =
      let found = find_position field_view (is_called (chars bs)) list.fields.items (Some i) p in
      let at = held_at field_view list.fields.items i found.0 in
      misfit_by ∙ ap (λ b. cond b names_field_again names_no_field) (found_any (is_called (chars bs)) (list_view list).fields at.0 (found.1 ∙ at.1))

  pub key_of_none : At None → key_misfit (list_view list) key ≡ names_no_field
  key_of_none p =
      misfit_by ∙ ap (λ b. cond b names_field_again names_no_field)
      (none_any (is_called (chars bs)) (list_view list).fields (find_position field_view (is_called (chars bs)) list.fields.items None p))

-- the field that stands at an index of the list, as code reads it
pub field_here : (all fields : List FieldShape) (i : ℕ) (f : FieldShape) → fields ≡ all → i < length all
    → slice_get (field_views all) i ≡ Some (field_view (get_or fields i f))
field_here all fields i f same lt =
    slice_get-map field_view all i ∙ ap (option_map field_view) (slice_get-get_or all i f lt) ∙ ap (λ fs. Some (field_view (get_or fs i f))) (sym same)

-- ---- what a key says that names something

key_stands : (list : FieldList) (seen : List Item) (key : Tree) (t : Target) → field_named list seen key ≡ Some t → (name : Text) × StandsFor list seen name t
key_stands list seen (text bs) t e = (chars bs, target_some list seen (chars bs) t e)
key_stands list seen _ t e = absurd (cc)

-- one that is skipped is no field's name
key_unknown : (list : FieldList) (seen : List Item) (key : Tree) (name : Text) → field_named list seen key ≡ Some (unknown name)
    → not (list_any (is_named name) list.fields) ≡ true
key_unknown list seen key name e = go (list_any (is_named name) list.fields) refl
  where
    go : (b : Bool) → list_any (is_named name) list.fields ≡ b → not b ≡ true
    go false h = refl
    go true h =
        let k = (key_stands list seen key (unknown name) e).1 in
        absurd (let q : true ≡ false = sym (named_called name list.fields h) ∙ ap (λ n. list_any (is_called n) list.fields) k.0 ∙ k.1 in cc)

-- ---- the items of a struct, one after another

-- what a key and its value become, behind these items
abbrev pub item_into : List Shape → FieldList → List Item → Value × Value → Option Item
item_into schema list seen e = option_and_then (item_as (λ j. into schema j (tree_of e.1))) (field_named list seen (tree_of e.0))

-- So far: these items have become of the pairs before those that are left, the last of them first, and the slots hold them.
pub record SlotsSoFar (schema : List Shape) (list : FieldList) (entries : List (Value × Value)) (slots : List (Option Data))
    (left : List (Value × Value)) : Type 0 where
  pub seen : List Item
  pub gone : fields_into schema list [] (pairs_tree entries) ≡ option_map (all_items seen) (fields_into schema list seen (pairs_tree left))
  pub first : fields_misfit schema list [] (pairs_tree entries) ≡ fields_misfit schema list seen (pairs_tree left)
  pub are_slots : AreSlotsOf (slots_view slots) list.fields (all_items seen [])

pub slots_begin : (schema : List Shape) (list : FieldList_) (entries : List (Value × Value)) (slots : List (Option Data))
    → slots ≡ map (λ _. None) list.fields.items → SlotsSoFar schema (list_view list) entries slots entries
slots_begin schema list entries slots e = record {
  seen = [];
  gone = go (fields_into schema (list_view list) [] (pairs_tree entries));
  first = refl;
  are_slots = slots-nothing list.fields.items slots e;
}
  where
    go : (o : Option (List Item)) → o ≡ option_map (all_items []) o
    go None = refl
    go (Some xs) = refl

module _ (schema : List Shape) (list : FieldList) (entries : List (Value × Value)) (slots : List (Option Data)) (left rest : List (Value × Value))
    (e : Value × Value) (h : SlotsSoFar schema list entries slots left) (at : left ≡ e ∷ rest) where
  -- what all become, by the item that this pair becomes
  by_item : fields_into schema list [] (pairs_tree entries)
      ≡ option_map (all_items h.seen) (followed (λ item. fields_into schema list (item ∷ h.seen) (pairs_tree rest)) (item_into schema list h.seen e))
  by_item = h.gone ∙ ap (λ es. option_map (all_items h.seen) (fields_into schema list h.seen (pairs_tree es))) at

  -- the first misfit of all, by that item
  abbrev of_item : Option Target → Option Item → Misfit
  of_item target item = followed_misfit (λ item. fields_misfit schema list (item ∷ h.seen) (pairs_tree rest))
      (field_misfit (key_misfit list (tree_of e.0)) (λ j. misfit schema j (tree_of e.1)) target) item

  first_by_item : fields_misfit schema list [] (pairs_tree entries) ≡ of_item (field_named list h.seen (tree_of e.0)) (item_into schema list h.seen e)
  first_by_item = h.first ∙ ap (λ es. fields_misfit schema list h.seen (pairs_tree es)) at

  first_more : (item : Item) → item_into schema list h.seen e ≡ Some item
      → fields_misfit schema list [] (pairs_tree entries) ≡ fields_misfit schema list (item ∷ h.seen) (pairs_tree rest)
  first_more item is = first_by_item ∙ ap (of_item (field_named list h.seen (tree_of e.0))) is

  item_more : (item : Item) → item_into schema list h.seen e ≡ Some item
      → fields_into schema list [] (pairs_tree entries) ≡ option_map (all_items (item ∷ h.seen)) (fields_into schema list (item ∷ h.seen) (pairs_tree rest))
  item_more item is =
      by_item ∙ ap (λ o. option_map (all_items h.seen) (followed (λ item. fields_into schema list (item ∷ h.seen) (pairs_tree rest)) o)) is
      ∙ go (fields_into schema list (item ∷ h.seen) (pairs_tree rest))
    where
      go : (o : Option (List Item)) → option_map (all_items h.seen) (option_map (λ xs. item ∷ xs) o) ≡ option_map (all_items (item ∷ h.seen)) o
      go None = refl
      go (Some xs) = refl

  -- a key that may not stand here
  pub key_refused : field_named list h.seen (tree_of e.0) ≡ None → fields_into schema list [] (pairs_tree entries) ≡ None
  key_refused n =
      by_item ∙ ap (λ o. option_map (all_items h.seen)
      (followed (λ item. fields_into schema list (item ∷ h.seen) (pairs_tree rest)) (option_and_then (item_as (λ j. into schema j (tree_of e.1))) o))) n

  key_refused_by : field_named list h.seen (tree_of e.0) ≡ None → key_misfit list (tree_of e.0) ≡ fields_misfit schema list [] (pairs_tree entries)
  key_refused_by n = sym (first_by_item ∙ ap (λ o. of_item o (option_and_then (item_as (λ j. into schema j (tree_of e.1))) o)) n)

  pub key_refuses : (x : Error) → IsMemoryOr (key_misfit list (tree_of e.0)) (field_named list h.seen (tree_of e.0) ≡ None) x
      → IsMemoryOr (fields_misfit schema list [] (pairs_tree entries)) (fields_into schema list [] (pairs_tree entries) ≡ None) x
  key_refuses x t = memory_or_more x key_refused_by key_refused t

  -- a key that is skipped
  pub slot_skipped : Names list h.seen (tree_of e.0) None → SlotsSoFar schema list entries slots rest
  slot_skipped n = record {
    seen = (n.0, the_unit) ∷ h.seen;
    gone = item_more (n.0, the_unit) (ap (option_and_then (item_as (λ j. into schema j (tree_of e.1)))) n.1);
    first = first_more (n.0, the_unit) (ap (option_and_then (item_as (λ j. into schema j (tree_of e.1)))) n.1);
    are_slots = h.are_slots ∙ sym (slots_other h.seen (n.0, the_unit) list.fields (key_unknown list h.seen (tree_of e.0) n.0 n.1));
  }

  module _ (index : ℕ) (f : Field) (named : Names list h.seen (tree_of e.0) (Some index)) (found : slice_get list.fields index ≡ Some f) where
    is_known : field_named list h.seen (tree_of e.0) ≡ Some (known f)
    is_known = named ∙ ap (option_map known) found

    item_known : item_into schema list h.seen e ≡ option_map (λ d. (f.name, d)) (into schema f.shape (tree_of e.1))
    item_known = ap (option_and_then (item_as (λ j. into schema j (tree_of e.1)))) is_known

    -- a field's value
    pub slot_more : (more : List (Option Data)) (d : Data) → names_differ list.fields ≡ true → into schema f.shape (tree_of e.1) ≡ Some (data_view d)
        → more ≡ set slots index (Some d) → SlotsSoFar schema list entries more rest
    slot_more more d differ is m = record {
      seen = (f.name, data_view d) ∷ h.seen;
      gone = item_more (f.name, data_view d) (item_known ∙ ap (option_map (λ d. (f.name, d))) is);
      first = first_more (f.name, data_view d) (item_known ∙ ap (option_map (λ d. (f.name, d))) is);
      are_slots =
          slots_more list.fields h.seen slots more index f d differ h.are_slots found (key_stands list h.seen (tree_of e.0) (known f) is_known).1.is_new m;
    }

    -- one that its shape doesn't hold
    pub value_refused : into schema f.shape (tree_of e.1) ≡ None → fields_into schema list [] (pairs_tree entries) ≡ None
    value_refused n =
        by_item ∙ ap (λ o. option_map (all_items h.seen) (followed (λ item. fields_into schema list (item ∷ h.seen) (pairs_tree rest)) o))
        (item_known ∙ ap (option_map (λ d. (f.name, d))) n)

    value_refused_by : into schema f.shape (tree_of e.1) ≡ None → misfit schema f.shape (tree_of e.1) ≡ fields_misfit schema list [] (pairs_tree entries)
    value_refused_by n = sym (first_by_item ∙ ap (of_item (field_named list h.seen (tree_of e.0))) (item_known ∙ ap (option_map (λ d. (f.name, d))) n)
        ∙ ap (λ o. of_item o None) is_known)

    pub value_refuses : (x : Error) → IsMemoryOr (misfit schema f.shape (tree_of e.1)) (into schema f.shape (tree_of e.1) ≡ None) x
        → IsMemoryOr (fields_misfit schema list [] (pairs_tree entries)) (fields_into schema list [] (pairs_tree entries) ≡ None) x
    value_refuses x t = memory_or_more x value_refused_by value_refused t

-- where each pair becomes an item, only a field that didn't come is at fault
lacks_behind : (into : Option (List Item)) (m : Misfit) (item : Item) (items : List Item) → ((xs : List Item) → into ≡ Some xs → m ≡ lacks_field)
    → option_map (λ xs. item ∷ xs) into ≡ Some items → m ≡ lacks_field
lacks_behind None m item items more e = absurd (cc)
lacks_behind (Some xs) m item items more e = more xs refl

lacks_followed : (into : Item → Option (List Item)) (m : Item → Misfit) (here : Misfit) (o : Option Item) (items : List Item)
    → ((item : Item) (xs : List Item) → into item ≡ Some xs → m item ≡ lacks_field) → followed into o ≡ Some items → followed_misfit m here o ≡ lacks_field
lacks_followed into m here None items more e = absurd (cc)
lacks_followed into m here (Some item) items more e = lacks_behind (into item) (m item) item items (more item) e

pub lacks_one : (schema : List Shape) (list : FieldList) (seen : List Item) (ps : Pairs) (items : List Item) → fields_into schema list seen ps ≡ Some items
    → fields_misfit schema list seen ps ≡ lacks_field
lacks_one schema list seen no_pairs items e = refl
lacks_one schema list seen (pair_and key t ps) items e =
    lacks_followed (λ item. fields_into schema list (item ∷ seen) ps) (λ item. fields_misfit schema list (item ∷ seen) ps)
    (field_misfit (key_misfit list key) (λ j. misfit schema j t) (field_named list seen key))
    (option_and_then (item_as (λ j. into schema j t)) (field_named list seen key)) items (λ item xs. lacks_one schema list (item ∷ seen) ps xs) e

-- behind the last pair
pub all_slots : (schema : List Shape) (list : FieldList) (entries : List (Value × Value)) (slots : List (Option Data)) (left : List (Value × Value))
    → SlotsSoFar schema list entries slots left → left ≡ []
    → (items : List Item) × (fields_into schema list [] (pairs_tree entries) ≡ Some items) × AreSlotsOf (slots_view slots) list.fields items
all_slots schema list entries slots left h e = (
  all_items h.seen [],
  h.gone ∙ ap (λ es. option_map (all_items h.seen) (fields_into schema list h.seen (pairs_tree es))) e,
  h.are_slots,
)
