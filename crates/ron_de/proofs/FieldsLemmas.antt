-- Fields by name, as items between brackets whose data the slots hold.
use Rattle.std.proofs.Common.{◌≡◌, ℕ, suc, ◌≤◌, true, false, inl, inr, List, [], ◌∷◌, map, length, Option, Some, None, option_map, refl, sym, ap, ◌∙◌}
use Rattle.std.proofs.lemmas.Option.{same_Some}
use Rattle.ron_spec_words.specs.Characters.{Text}
use Rattle.ron_spec_words.specs.Runs.{is_at}
use Rattle.ron_spec_words.specs.Turns.{all_items}
use Rattle.ron_spec_words.specs.Reader.{Got, got, given}
use Rattle.ron_spec_grammar.specs.Data as plain
use Rattle.ron_spec_grammar.specs.Schema.{Field, FieldList, names_differ}
use Rattle.ron_spec_grammar.specs.Shapes.Struct.{Item, arranged}
use Rattle.ron_spec_grammar.specs.Turns.{with_fields, read_fields, read_item}
use Rattle.ron_spec_grammar.proofs.Turns as turns
use Rattle.ron_spec_grammar.proofs.Finding.{are_found}
use Rattle.ron_base.specs.declared.error.Error.{Error}
use Rattle.ron_base.specs.Class.{ErrorClass, class_of}
use Rattle.ron_lex.specs.Place.{Place}
use Rattle.ron_de_steps.specs.Reads.{IsFaultOf}
use Rattle.ron_data.specs.declared.data.Data.{Data}
use Rattle.ron_data_schema.specs.declared.schema.FieldList as code
use Rattle.ron_data.specs.Datum.{data_view}
use Rattle.ron_data_schema.specs.Shapes.{list_view}
use Rattle.ron_de_parts.specs.Terms.{Terms}
use Rattle.ron_de_parts.specs.Room.{IsRoom, enough_for_items}
use Rattle.ron_de_parts.specs.Errors.{IsMemoryOr}
use Rattle.ron_de_steps.specs.Steps.{past_item}
use Rattle.ron_data.specs.Slots.{slots_view, AreSlotsOf, filled}
use Rattle.ron_de_parts.specs.Slots.{with_read, IsReadItem}
use Rattle.ron_de_parts.proofs.RoomLemmas.{items_later}
use Rattle.ron_data.proofs.ItemLemmas.{slots-nothing, filled_is}
use Rattle.ron_de_parts.proofs.SlotLemmas.{slots-more, slots-skipped}
use Rattle.ron_de.proofs.SeenLemmas.{IsOnce, AreOnce, arranged_once}
use Rattle.ron_de_steps.proofs.ItemLemmas.{HasTurns, ItemsRead, no_items, items_over, item_fails, comma_fails, one_more, at_mark}
use Rattle.ron_de_steps.proofs.RoomLemmas.{some_room}

module _ (terms : Terms) (list : FieldList) where
  -- a field, and all fields from a place on
  abbrev pub a_field : ℕ → List Item → Text → Text → Got Item
  a_field room seen gap s = read_item terms.extensions terms.schema (suc room) list seen s

  abbrev pub all_fields : (plain.Fields → plain.Data) → ℕ → List Item → Text → Text → Got plain.Data
  all_fields make room = read_fields terms.extensions terms.schema (suc room) make list

  pub fields_turns : (make : plain.Fields → plain.Data) → HasTurns a_field (all_fields make) 41 (with_fields make list)
  fields_turns make = record {
    over = λ room seen gap s. turns.fields_over terms.extensions terms.schema (suc room) make list seen gap s;
    fails = λ room seen gap s still. turns.fields_failed terms.extensions terms.schema (suc room) make list seen gap s still;
    last = λ room seen gap s still a rest u e. turns.fields_last terms.extensions terms.schema (suc room) make list seen gap s still a rest e u;
    stays_open = λ room seen gap s still a rest e. turns.fields_not_closed terms.extensions terms.schema (suc room) make list seen gap s still a rest e;
    goes_on = λ room seen gap s still a rest u e. turns.fields_more terms.extensions terms.schema (suc room) make list seen gap s still a rest e u;
    no_slash = refl;
  }

  -- so far: these fields are read
  abbrev pub AreRead : (plain.Fields → plain.Data) → List Item → Place → Place → Type 0
  AreRead make =
      ItemsRead a_field (all_fields make) 41 (with_fields make list) (fields_turns make) terms.limit (enough_for_items terms.schema) (items_later terms.schema)

  -- whatever they make, and the slots hold them
  pub record FieldsRead (slots : List (Option Data)) (old now : Place) : Type 0 where
    pub seen : List Item
    pub are_once : AreOnce list.fields seen
    pub are_slots : AreSlotsOf (slots_view slots) list.fields seen
    pub items : (make : plain.Fields → plain.Data) → AreRead make seen old now

pub nothing_read : (terms : Terms) (list : code.FieldList) (slots : List (Option Data)) (place : Place) → slots ≡ map (λ _. None) list.fields.items
    → FieldsRead terms (list_view list) slots place place
nothing_read terms list slots place e =
    record { seen = []; are_once = tt; are_slots = slots-nothing list.fields.items slots e; items = λ make. no_items _ _ _ _ _ _ _ _ place }

same_name : (m n r s : Text) → got m r ≡ got n s → m ≡ n
same_name m n r s e = cc

module _ (terms : Terms) (list : FieldList) (slots : List (Option Data)) (old now : Place) (h : FieldsRead terms list slots old now) where
  -- the room that the limit leaves to the fields from a place on
  abbrev pub IsRoomOf : Text → ℕ → Type 0
  IsRoomOf s room = IsRoom terms.limit (enough_for_items terms.schema (length s)) room

  -- what reading an item gives, in each room
  abbrev pub ReadsAnItem : (Got Item → List Item → Type 0) → Type 0
  ReadsAnItem IsRead = (room : ℕ) (seen : List Item) → IsRoomOf now.rest room → AreSlotsOf (slots_view slots) list.fields seen
      → IsRead (read_item terms.extensions terms.schema (suc room) list seen now.rest) seen

  pub fields_no_longer : length now.rest ≤ length old.rest
  fields_no_longer = (h.items (plain.struct_of [])).no_longer

  module _ (still : is_at 41 now.rest ≡ false) where
    pub field_fails : (k : ErrorClass) → ReadsAnItem (λ o _. IsFaultOf k o) → (make : plain.Fields → plain.Data) (room : ℕ) → IsRoomOf old.rest room
        → IsFaultOf k (read_fields terms.extensions terms.schema (suc room) make list [] old.gap old.rest)
    field_fails k g make = item_fails _ _ _ _ _ _ _ _ h.seen old now (h.items make) still k (λ room r. g room h.seen r h.are_slots)

    -- the item that was read, the same in every room; its name is a new one or that of no field, and the slots hold it if it is a field's
    record WasRead (item : Option (ℕ × Data)) (rest : Text) : Type 0 where
      one : Item
      is_read : (room : ℕ) → IsRoomOf now.rest room → read_item terms.extensions terms.schema (suc room) list h.seen now.rest ≡ got one rest
      is_once : IsOnce list.fields h.seen one
      are_held : (more : List (Option Data)) → more ≡ with_read slots item → names_differ list.fields ≡ true
          → AreSlotsOf (slots_view more) list.fields (one ∷ h.seen)

    was_read : (item : Option (ℕ × Data)) (rest : Text) → ReadsAnItem (λ o seen. IsReadItem list seen now.rest item o rest) → WasRead item rest
    was_read None rest g =
        let r = some_room terms.limit (enough_for_items terms.schema (length now.rest)) in
        let some = g r.0 h.seen r.1 h.are_slots in
        record {
          one = (some.spelled, plain.the_unit);
          is_read = λ room q. (let i = g room h.seen q h.are_slots in
              i.is ∙ ap (λ n. got (n, plain.the_unit) rest) (same_name i.spelled some.spelled i.behind some.behind (sym i.named ∙ some.named)));
          is_once = inr some.is_unknown;
          are_held = λ more m distinct. slots-skipped list.fields h.seen slots more some.spelled plain.the_unit some.is_unknown h.are_slots m;
        }
    was_read (Some item) rest g =
        let r = some_room terms.limit (enough_for_items terms.schema (length now.rest)) in
        let some = g r.0 h.seen r.1 h.are_slots in
        record {
          one = (some.field.name, data_view item.1);
          is_read = λ room q. (let i = g room h.seen q h.are_slots in let same : i.field ≡ some.field = same_Some i.field some.field (sym i.at ∙ some.at) in
              i.is ∙ ap (λ (k : Field). got (k.name, data_view item.1) rest) same);
          is_once = inl some.is_new;
          are_held = λ more m distinct. slots-more list.fields h.seen slots more item.0 some.field item.1 distinct h.are_slots some.at m;
        }

    module _ (item : Option (ℕ × Data)) (rest : Text) (g : ReadsAnItem (λ o seen. IsReadItem list seen now.rest item o rest)) where
      the_item : WasRead item rest
      the_item = was_read item rest g

      pub no_comma : (e : Error) → IsMemoryOr (past_item 41 rest ≡ None) e → (make : plain.Fields → plain.Data) (room : ℕ) → IsRoomOf old.rest room
          → IsFaultOf (class_of e) (read_fields terms.extensions terms.schema (suc room) make list [] old.gap old.rest)
      no_comma e t make = comma_fails _ _ _ _ _ _ _ _ h.seen old now (h.items make) still the_item.one rest the_item.is_read e t

      pub field_more : (more : List (Option Data)) (next : Place) → names_differ list.fields ≡ true → more ≡ with_read slots item
          → past_item 41 rest ≡ Some (next.gap, next.rest) → length next.rest ≤ length now.rest → FieldsRead terms list more old next
      field_more more next distinct m c shorter = record {
        seen = the_item.one ∷ h.seen;
        are_once = (the_item.is_once, h.are_once);
        are_slots = the_item.are_held more m distinct;
        items = λ make. one_more _ _ _ _ _ _ _ _ h.seen old now (h.items make) still the_item.one rest the_item.is_read next c shorter;
      }

  pub all_read : names_differ list.fields ≡ true → is_at 41 now.rest ≡ true → (make : plain.Fields → plain.Data) (room : ℕ) → IsRoomOf old.rest room
      → (u : Text) × (now.rest ≡ 41 ∷ u)
      × (read_fields terms.extensions terms.schema (suc room) make list [] old.gap old.rest ≡ given (option_map make (filled list.fields (slots_view slots))) u)
  all_read distinct over make room r =
      let b = at_mark 41 now.rest over in
      let all_are : arranged list.fields (all_items h.seen []) ≡ filled list.fields (slots_view slots) = arranged_once list.fields h.seen h.are_once list.fields
      (are_found list.fields distinct) ∙ sym (filled_is list.fields h.seen (slots_view slots) h.are_slots) in
      (b.0, b.1, items_over _ _ _ _ _ _ _ _ h.seen old now (h.items make) b.0 b.1 room r ∙ ap (λ o. given (option_map make o) b.0) all_are)
