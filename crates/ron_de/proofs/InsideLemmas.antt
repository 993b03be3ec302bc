-- What stands in brackets, apart from what it makes: the items of tuples and the fields of structs, by what is read a level deeper.
use Rattle.std.proofs.Common.{◌≡◌, ℕ, suc, ◌+◌, true, false, List, [], ◌∷◌, length, Option, Some, None, option_map, Result, Ok, Err, refl, sym, ap, ap₂, subst}
use Rattle.std.proofs.Common.{◌∙◌, arith, String, Vec, Global}
use Rattle.std.proofs.lemmas.Bool.{le-leb}
use Rattle.ron_spec_words.specs.Characters.{Text}
use Rattle.ron_spec_words.specs.Gap.{skip, gap_of}
use Rattle.ron_spec_words.specs.Reader.{deep, bad, Got, got, failed, given, after_gap, needs}
use Rattle.ron_spec_words.specs.Runs.{is_at}
use Rattle.ron_spec_words.proofs.Gaps.{length-skip}
use Rattle.ron_spec_words.proofs.Turns.{after_slash, after_other}
use Rattle.ron_spec_grammar.specs.Data as plain
use Rattle.ron_spec_grammar.specs.Schema.{Field, FieldList, Shape}
use Rattle.ron_spec_grammar.specs.Rule.{Extensions}
use Rattle.ron_spec_grammar.specs.Shapes.Tuple.{as_many}
use Rattle.ron_spec_grammar.specs.Turns.{of_each, read_elements, read_tuple_group, read_tuple_inside, read_fields, read_field_group, read_fields_inside}
use Rattle.ron_spec_grammar.proofs.ContentTurns.{tuple_group_opened}
use Rattle.ron_spec_grammar.proofs.GroupTurns.{field_group_opened}
use Rattle.ron_base.specs.declared.error.Error.{Error}
use Rattle.ron_base.specs.Class.{class_of}
use Rattle.ron_lex.specs.Place.{Place}
use Rattle.ron_de_steps.specs.Reads.{IsFaultOf, Reads}
use Rattle.ron_data.specs.declared.data.Data.{Data}
use Rattle.ron_data.specs.Datum.{items_view, fields_view}
use Rattle.ron_de_parts.specs.Content.{ReadsTuple, ReadsTupleInside, ReadsFieldGroup, ReadsFieldsInside}
use Rattle.ron_de_parts.specs.Errors.{IsMemoryOr}
use Rattle.ron_de_parts.specs.Room.{IsRoom, enough_for_items, enough_for_group}
use Rattle.ron_data.specs.declared.slots.Slots.{Slots}
use Rattle.ron_data.specs.Slots.{slots_view, filled}
use Rattle.ron_de_parts.specs.Slots.{ReadsFields}
use Rattle.ron_de_parts.specs.Terms.{Terms, IsDeeper}
use Rattle.ron_de_steps.proofs.ErrorLemmas.{memory_or_more, is_fault}
use Rattle.ron_de_parts.proofs.RoomLemmas.{room_below, room_less, items_in_group}

-- ---- behind the opening bracket and its gap

module _ (inside : Text → Text → Got plain.Data) (u : Text) (answer : Got plain.Data) (o : answer ≡ after_gap inside u) where
  pub opened_slash : is_at 47 (skip u) ≡ true → answer ≡ failed bad
  opened_slash e = o ∙ after_slash inside u e

  opened_inside : (place : Place) → is_at 47 (skip u) ≡ false → place.gap ≡ gap_of u → place.rest ≡ skip u → answer ≡ inside place.gap place.rest
  opened_inside place e g w = o ∙ after_other inside u e ∙ ap₂ inside (sym g) (sym w)

-- what is read inside is read of the group
module _ (terms : Terms) (place : Place) (u : Text) (m : is_at 47 (skip u) ≡ false) (g : place.gap ≡ gap_of u) (w : place.rest ≡ skip u) (rest : Text) where
  room_of_inside : (room : ℕ) → IsRoom terms.limit (enough_for_group terms.schema (length (40 ∷ u))) room
      → IsRoom terms.limit (enough_for_items terms.schema (length place.rest) + 1) room
  room_of_inside room r =
      room_less terms.limit _ _ room r (items_in_group terms.schema (length place.rest) (length (40 ∷ u)) (omega (arith, ap length w, length-skip u)))

  pub tuple_in_group : (js : List ℕ) (result : Result (Vec Data Global) Error) → ReadsTupleInside terms js place result rest
      → ReadsTuple terms js (40 ∷ u) result rest
  tuple_in_group js result h = λ make room r.
      let is : read_tuple_group terms.extensions terms.schema room make js (40 ∷ u)
      ≡ read_tuple_inside terms.extensions terms.schema room make js place.gap place.rest =
      opened_inside (read_tuple_inside terms.extensions terms.schema room make js) u _
      (tuple_group_opened terms.extensions terms.schema room make js (40 ∷ u) u refl) place m g w in
      subst (λ (a : Got plain.Data). Reads (λ (items : Vec Data Global). make (items_view items.items)) result a rest) (sym is)
      (h make room (room_of_inside room r))

  pub fields_in_group : (list : FieldList) (result : Result (Vec (String Global × Data) Global) Error) → ReadsFieldsInside terms list place result rest
      → ReadsFieldGroup terms list (40 ∷ u) result rest
  fields_in_group list result h = λ make room r.
      let is : read_field_group terms.extensions terms.schema room make list (40 ∷ u)
      ≡ read_fields_inside terms.extensions terms.schema room make list place.gap place.rest =
      opened_inside (read_fields_inside terms.extensions terms.schema room make list) u _
      (field_group_opened terms.extensions terms.schema room make list (40 ∷ u) u refl) place m g w in
      subst (λ (a : Got plain.Data). Reads (λ (all : Vec (String Global × Data) Global). make (fields_view all.items)) result a rest) (sym is)
      (h make room (room_of_inside room r))

-- ---- inside, a level deeper

module _ (within : Extensions → List Shape → ℕ → Text → Text → Got plain.Data) (terms : Terms) (place : Place) (room : ℕ) where
  -- what stands within, where a level is left
  abbrev a_level : Got plain.Data
  a_level = needs 1 room (within terms.extensions terms.schema room place.gap) place.rest

  level_deep : room ≡ 0 → a_level ≡ failed deep
  level_deep e = ap (λ k. needs 1 k (within terms.extensions terms.schema k place.gap) place.rest) e

  -- what is said of it, in each room that the limit leaves to it, is said with that level
  level_said : (inner : Terms) → IsDeeper terms inner → IsRoom terms.limit (enough_for_items terms.schema (length place.rest) + 1) room
      → (P : Got plain.Data → Type 0)
      → ((k : ℕ) → IsRoom inner.limit (enough_for_items inner.schema (length place.rest)) k
      → P (within inner.extensions inner.schema (suc k) place.gap place.rest)) → P a_level
  level_said inner d r P h =
      let below = room_below terms.limit inner.limit (enough_for_items terms.schema (length place.rest)) (enough_for_items terms.schema (length place.rest) + 1)
      room d.2 r (omega arith) in
      let k = below.left in
      let said = h k (subst (λ (s : List Shape). IsRoom inner.limit (enough_for_items s (length place.rest)) k) (sym d.1) below.is_room) in
      let there : P (within terms.extensions terms.schema (suc k) place.gap place.rest) =
      subst (λ (s : List Shape). P (within terms.extensions s (suc k) place.gap place.rest)) d.1
      (subst (λ (x : Extensions). P (within x inner.schema (suc k) place.gap place.rest)) d.0 said) in
      let left_over : needs 1 (suc k) (within terms.extensions terms.schema (suc k) place.gap) place.rest
      ≡ within terms.extensions terms.schema (suc k) place.gap place.rest = rw (le-leb 1 (suc k) (omega arith)) refl in
      let is : a_level ≡ within terms.extensions terms.schema (suc k) place.gap place.rest =
      ap (λ n. needs 1 n (within terms.extensions terms.schema n place.gap) place.rest) below.is ∙ left_over in
      subst P (sym is) there

-- the items of a tuple
module _ (terms : Terms) (make : plain.Datas → plain.Data) (js : List ℕ) (place : Place) (room : ℕ) where
  pub tuple_deep : room ≡ 0 → read_tuple_inside terms.extensions terms.schema room make js place.gap place.rest ≡ failed deep
  unfolding read_tuple_inside
  tuple_deep = level_deep (λ x schema k. read_elements x schema k (of_each js) 41 (as_many make js) []) terms place room

  pub tuple_said : (inner : Terms) → IsDeeper terms inner → IsRoom terms.limit (enough_for_items terms.schema (length place.rest) + 1) room
      → (P : Got plain.Data → Type 0)
      → ((k : ℕ) → IsRoom inner.limit (enough_for_items inner.schema (length place.rest)) k
      → P (read_elements inner.extensions inner.schema (suc k) (of_each js) 41 (as_many make js) [] place.gap place.rest))
      → P (read_tuple_inside terms.extensions terms.schema room make js place.gap place.rest)
  unfolding read_tuple_inside
  tuple_said = level_said (λ x schema k. read_elements x schema k (of_each js) 41 (as_many make js) []) terms place room

-- fields
module _ (terms : Terms) (make : plain.Fields → plain.Data) (list : FieldList) (place : Place) (room : ℕ) where
  pub fields_deep : room ≡ 0 → read_fields_inside terms.extensions terms.schema room make list place.gap place.rest ≡ failed deep
  unfolding read_fields_inside
  fields_deep = level_deep (λ x schema k. read_fields x schema k make list []) terms place room

  module _ (inner : Terms) (d : IsDeeper terms inner) (r : IsRoom terms.limit (enough_for_items terms.schema (length place.rest) + 1) room) where
    fields_said : (P : Got plain.Data → Type 0) → ((k : ℕ) → IsRoom inner.limit (enough_for_items inner.schema (length place.rest)) k
        → P (read_fields inner.extensions inner.schema (suc k) make list [] place.gap place.rest))
        → P (read_fields_inside terms.extensions terms.schema room make list place.gap place.rest)
    unfolding read_fields_inside
    fields_said = level_said (λ x schema k. read_fields x schema k make list []) terms place room inner d r

    pub fields_fault : (slots : Slots → List (Option Data)) (e : Error) (rest : Text) → ReadsFields inner list slots place (Err e) rest
        → IsFaultOf (class_of e) (read_fields_inside terms.extensions terms.schema room make list place.gap place.rest)
    fields_fault slots e rest h = fields_said (IsFaultOf (class_of e)) (h make)

    module _ (slots : Slots → List (Option Data)) (found : Slots) (rest : Text) (h : ReadsFields inner list slots place (Ok found) rest) where
      closed : (y : Text) × (rest ≡ 41 ∷ y) × (read_fields_inside terms.extensions terms.schema room make list place.gap place.rest
          ≡ given (option_map make (filled list.fields (slots_view (slots found)))) y)
      closed = fields_said (λ o. (y : Text) × (rest ≡ 41 ∷ y) × (o ≡ given (option_map make (filled list.fields (slots_view (slots found)))) y)) (h make)

      -- by the fields that code arranges, which are those of the list
      module _ (fields : List Field) (same : fields ≡ list.fields) where
        pub misses_field : (e : Error) → IsMemoryOr (filled fields (slots_view (slots found)) ≡ None) e
            → IsFaultOf (class_of e) (read_fields_inside terms.extensions terms.schema room make list place.gap place.rest)
        misses_field e k = is_fault (class_of e) _ (memory_or_more e
            (λ none. closed.2 ∙ ap (λ o. given (option_map make o) closed.0) (ap (λ fs. filled fs (slots_view (slots found))) (sym same) ∙ none)) k)

        pub reads_fields : (all : plain.Fields) (end : Text) → filled fields (slots_view (slots found)) ≡ Some all → rest ≡ 41 ∷ end
            → read_fields_inside terms.extensions terms.schema room make list place.gap place.rest ≡ got (make all) end
        reads_fields all end e over =
            let behind : 41 ∷ closed.0 ≡ 41 ∷ end = sym closed.1 ∙ over in
            let ends : closed.0 ≡ end = cc in
            closed.2 ∙ ap (λ o. given (option_map make o) closed.0) (ap (λ fs. filled fs (slots_view (slots found))) (sym same) ∙ e) ∙ ap (got (make all)) ends
