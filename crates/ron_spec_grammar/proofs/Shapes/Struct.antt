-- What the rule of structs owes: fields by name, in any order, are read exactly.
use Rattle.std.proofs.Common.{◌≡◌, ℕ, suc, ◌+◌, ◌≤◌, Bool, true, false, ◌⊎◌, inl, inr, List, [], ◌∷◌, ◌++◌, Option, Some, None, option_map, slice_get, find}
use Rattle.std.proofs.Common.{refl, sym, ap, ◌∙◌, arith}
use Rattle.std.specs.List.{list_any, list_all}
use Rattle.ron_spec_words.specs.Characters.{Text, left_parenthesis, right_parenthesis, colon}
use Rattle.ron_spec_words.specs.Lang.{done, Means, Items, Needs}
use Rattle.ron_spec_words.specs.Reader.{means, items, needs}
use Rattle.ron_spec_words.specs.Runs.{is_at}
use Rattle.ron_spec_words.specs.Gap.{skip}
use Rattle.ron_spec_words.specs.Range.{Interval, opens_interval}
use Rattle.ron_spec_words.proofs.Ranges.{interval_solid, name_no_interval, close_no_interval}
use Rattle.ron_spec_grammar.specs.Shapes.Range.{range_fields, range_data}
use Rattle.ron_spec_grammar.proofs.Shapes.Range.{range_is, range_begins, part_range}
use Rattle.ron_spec_grammar.proofs.Values.Telling.{starts_first, starts_means, starts_needs, part_tell, items_first}
use Rattle.ron_spec_words.specs.Exact.{Before, FollowsValue}
use Rattle.ron_spec_words.proofs.Words.{word_mark, first_means, first_or}
use Rattle.ron_spec_words.proofs.Classes.{Solid, solid_mark, first_solid}
use Rattle.ron_spec_words.proofs.Names.{word_name, word_named, name_solid, name_no_bracket}
use Rattle.ron_spec_words.proofs.Values.{Each}
use Rattle.ron_spec_words.proofs.Exactly.{Opens, first_then, first_mark}
use Rattle.ron_spec_words.proofs.WordsPass.{passes_name, passes_named, passes_colon}
use Rattle.ron_spec_words.proofs.Parts.{Part, part_more, part_any, part_word, part_means, part_needs, part_then, part_behind, part_choose, part_items}
use Rattle.ron_spec_words.proofs.Parts.{part_group}
use Rattle.ron_spec_grammar.specs.Data.{Data, the_unit, struct_of, Fields, no_fields, field_and}
use Rattle.ron_spec_grammar.specs.Schema.{Field, FieldList, Shape, struct, is_named, is_called, names_of, in_order, names_differ, has_distinct_names, OfShape}
use Rattle.ron_spec_grammar.specs.Schema.{OfFields}
use Rattle.ron_spec_grammar.specs.Rule.{Extensions, Langs, Readers}
use Rattle.ron_spec_grammar.specs.Values.Grammar.{AnyBelow, read_any_below}
use Rattle.ron_spec_grammar.specs.Room.{step}
use Rattle.ron_spec_grammar.specs.Shapes.Struct.{Item, is_of, Target, known, unknown, target, skipped, item_of, with_item, arranged, FieldValue, FieldItem}
use Rattle.ron_spec_grammar.specs.Shapes.Struct.{FieldItems, StructText, field_value, field_item, field_items, read_struct}
use Rattle.ron_spec_grammar.proofs.Finding.{same_is, find_some, found_any, all_get, IsFound, are_found, names_parts, IsKnown, known_found, named_called}
use Rattle.ron_spec_grammar.proofs.Finding.{mapped_from}
use Rattle.ron_spec_grammar.proofs.Seen.{StandsFor, target_some}
use Rattle.ron_spec_grammar.proofs.Orders.{there_first, missing_first}
use Rattle.ron_spec_grammar.proofs.Room.{Sizes, size, step_is, size_within, size_inside}
use Rattle.ron_spec_grammar.proofs.Rule.{After, IsDataOf, Fit, part_without, first_without}
use Rattle.ron_spec_grammar.proofs.Values.Grammar.{any_below}

-- ---- the data

-- a target is a field that some name calls, or a name that calls none
abbrev pub TargetIs : FieldList → Target → Type 0
TargetIs list (known f) = IsKnown list.fields f
TargetIs list (unknown name) = list_any (is_called name) list.fields ≡ false

pub target_is : (list : FieldList) (seen : List Item) (name : Text) (t : Target) → target list seen name ≡ Some t → TargetIs list t
target_is list seen name t e = go t (target_some list seen name t e)
  where
    go : (t : Target) → StandsFor list seen name t → TargetIs list t
    go (known f) h = (name, h.known)
    go (unknown other) h = rw h.0 h.1

-- an item with the fields behind it, or no item for a field that may be missing
abbrev pub FromItem : Option Item → Option Fields → Fields → Type 0
FromItem o r ds = (item : Item) × (rest : Fields) × (o ≡ Some item) × (r ≡ Some rest) × (field_and item.0 item.1 rest ≡ ds)

pub with_item_is : (may : Bool) (o : Option Item) (r : Option Fields) (ds : Fields) → with_item may o r ≡ Some ds
    → FromItem o r ds ⊎ ((may ≡ true) × (r ≡ Some ds))
with_item_is true None r ds e = inr (refl, e)
with_item_is false None r ds e = absurd (cc)
with_item_is may (Some item) None ds e = absurd (cc)
with_item_is may (Some item) (Some rest) ds e = inl (item, rest, refl, refl, cc)

-- an item is a field's, with data of its shape, or that of none, one level below the k levels of what holds the fields
abbrev pub ItemOf : List Shape → ℕ → ℕ → List Field → Item → Type 0
ItemOf schema room k fields item =
    ((f : Field) × IsKnown fields f × (item.0 ≡ f.name) × IsDataOf schema room (suc k) f.shape item.1)
    ⊎ (list_any (is_called item.0) fields ≡ false)

-- the item of a field's name is the field's
item_known : (schema : List Shape) (room k : ℕ) (fields : List Field) (f : Field) (item : Item) → item.0 ≡ f.name → find (is_named f.name) fields ≡ Some f
    → list_all has_distinct_names schema ≡ true → Each (IsFound fields) fields → ItemOf schema room k fields item
    → (g : Field) × (find (is_named item.0) fields ≡ Some g) × OfShape schema g.shape item.1
item_known schema room k fields f item named there formed found (inl z) =
    (z.0, ap (λ n. find (is_named n) fields) z.2 ∙ known_found fields z.0 found z.1, z.3.of_shape formed)
item_known schema room k fields f item named there formed found (inr z) = absurd (let e : true ≡ false =
    sym (named_called f.name fields (found_any (is_named f.name) fields f there)) ∙ ap (λ n. list_any (is_called n) fields) (sym named) ∙ z in cc)

module _ (schema : List Shape) (room k : ℕ) (all : List Field) (xs : List Item) (items : Each (ItemOf schema room k all) xs) where
  abbrev ArrangedAs : List Field → Fields → Type 0
  ArrangedAs fields ds =
      list_all has_distinct_names schema ≡ true → Each (IsFound all) all → Each (IsFound all) fields → names_differ fields ≡ true
      → (in_order fields (names_of ds) ≡ true) × OfFields schema all ds

  pub arranged_is : (fields : List Field) (ds : Fields) → arranged fields xs ≡ Some ds → ArrangedAs fields ds
  unfolding IsFound
  arranged_is [] ds e = let same : no_fields ≡ ds = cc in rw (← same) (λ _ _ _ _. (refl, tt))
  arranged_is (f ∷ fields) ds e = go (with_item_is f.may_be_missing (find (is_of f.name) xs) (arranged fields xs) ds e) (λ rest. arranged_is fields rest)
    where
      go : FromItem (find (is_of f.name) xs) (arranged fields xs) ds ⊎ ((f.may_be_missing ≡ true) × (arranged fields xs ≡ Some ds))
          → ((rest : Fields) → arranged fields xs ≡ Some rest → ArrangedAs fields rest) → ArrangedAs (f ∷ fields) ds
      go (inl z) ih =
          let item = z.0 in
          let g = find_some (ItemOf schema room k all) (is_of f.name) xs item z.2 items in
          let named : item.0 ≡ f.name = same_is item.0 f.name g.0 in
          let rest = ih z.1 z.3 in
          rw (← z.4) (λ formed whole found differ. (let d = names_parts f fields differ in let more = rest formed whole found.1 d.1 in
          let own = item_known schema room k all f item named found.0 formed whole g.1 in
          (there_first f fields item.0 (names_of z.1) named more.0, (own.0, own.1, own.2, more.1))))
      go (inr z) ih =
          let rest = ih ds z.1 in
          (λ formed whole found differ.
          (let d = names_parts f fields differ in let more = rest formed whole found.1 d.1 in (missing_first f fields (names_of ds) z.0 d.0 more.0, more.1)))

-- ---- the text

module _ (schema : List Shape) (room k : ℕ) {base : ℕ → ℕ} (q r : Readers) (L : Langs) (h : Fit schema base room (suc k) q r L) (e : ℕ)
    (wide : (j : ℕ) → size schema base false j + suc k ≤ e) (u : Bool) (m : ℕ) (le : m ≤ room) (list : FieldList) where
  part_field_value : (t : Target) (gap : Text) → Part room (step schema) false (λ item. TargetIs list t → ItemOf schema room k list.fields item)
      (field_value q (read_any_below u m k) gap t) (field_value r (read_any_below u room k) gap t) (FieldValue L (AnyBelow u room k) gap t) FollowsValue e
  part_field_value (known f) gap = part_means (item_of f) (λ d item p e is. let same : (f.name, d) ≡ item = cc in rw (← same) (inl (f, is, refl, p)))
      (part_more (h.part false f.shape gap) (wide f.shape))
  part_field_value (unknown name) gap =
      let w = wide 0 in
      part_means (skipped name) (λ t item p e none. let same : (name, the_unit) ≡ item = cc in rw (← same) (inr none))
      (part_more (any_below (omega (arith, step_is schema)) u m room k le gap) (omega (arith, w)))

  pub part_field : (seen : List Item) → Part room (step schema) false (ItemOf schema room k list.fields) (field_item list q (read_any_below u m k) seen)
      (field_item list r (read_any_below u room k) seen) (FieldItem list L (AnyBelow u room k) seen) FollowsValue e
  part_field seen = part_then {P = TargetIs list}
      (part_means (target list seen) (λ name t _ e. target_is list seen name t e) (part_word word_name (first_solid name_solid) passes_name))
      (λ t _. part_behind (word_mark colon done) (first_mark _ colon done (λ s. refl)) (passes_colon done) (λ gap. part_field_value t gap))

  -- what the fields make, where it is of the shape at an index and k levels deeper than they are
  pub part_fields : (make : Fields → Data) (i : ℕ) → (list_all has_distinct_names schema ≡ true → (names_differ list.fields ≡ true)
      × ((ds : Fields) → in_order list.fields (names_of ds) ≡ true → OfFields schema list.fields ds → OfShape schema i (make ds))) → (before : Text)
      → Part room (step schema) true (λ d. k ≤ room → IsDataOf schema room 0 i d)
      (means (items (λ seen _. field_item list q (read_any_below u m k) seen) right_parenthesis before) (λ xs. option_map make (arranged list.fields xs)))
      (means (items (λ seen _. field_item list r (read_any_below u room k) seen) right_parenthesis before) (λ xs. option_map make (arranged list.fields xs)))
      (Means (Items (λ seen _. FieldItem list L (AnyBelow u room k) seen) before) (λ xs. option_map make (arranged list.fields xs))) (Before right_parenthesis)
      e
  part_fields make i formed_is before = part_means (λ xs. option_map make (arranged list.fields xs)) to
      (part_items (λ seen _. field_item list q (read_any_below u m k) seen) (λ seen _. field_item list r (read_any_below u room k) seen) (λ seen _.
      FieldItem list L (AnyBelow u room k) seen) right_parenthesis refl refl (λ seen _. first_then (first_means name_solid)) (λ seen _. part_field seen) before)
    where
      to : (xs : List Item) (d : Data) → Each (ItemOf schema room k list.fields) xs → option_map make (arranged list.fields xs) ≡ Some d → k ≤ room
          → IsDataOf schema room 0 i d
      to xs d items e le =
          let n = mapped_from make (arranged list.fields xs) d e in
          let z = arranged_is schema room k list.fields xs items list.fields n.0 n.1 in
          rw (← n.2) (record {
            of_shape = λ formed. (let f = formed_is formed in let found = are_found list.fields f.0 in let o = z formed found found f.0 in f.1 n.0 o.0 o.1);
          })

-- no range begins with fields, before `)`
fields_no_span : (room : ℕ) (L : Langs) (u : Bool) (list : FieldList) (before : Text) (t next : Text) (xs : List Item)
    → Items (λ seen _. FieldItem list L (AnyBelow u room 1) seen) before t next xs → Before right_parenthesis next → skip (t ++ next) ≡ t ++ next
    → opens_interval (t ++ next) ≡ false
fields_no_span room L u list before t next [] z f n = rw (← n, z) (close_no_interval (skip next) f)
fields_no_span room L u list before t next (a ∷ xs) z f n = items_first (λ seen _. FieldItem list L (AnyBelow u room 1) seen) (λ s. opens_interval s ≡ false)
    before (first_then (first_means name_no_interval)) t next a xs z

module _ {schema : List Shape} {room top : ℕ} {base : ℕ → ℕ} (sizes : Sizes schema top base) (m : ℕ) (le : m ≤ room) (q r : ℕ → Readers) (L : ℕ → Langs)
    (h : Fit schema base room 2 (q 1) (r 1) (L 1))
    (x : Extensions) (name : Text) (list : FieldList) (i : ℕ) (s : slice_get schema i ≡ Some (struct name list)) where
  content : (gap : Text)
      → Part room (step schema) true (IsDataOf schema room 0 i) (needs 1 m (field_items name list (q 1) (read_any_below x.unwrap_variant_newtypes m 1) gap))
      (needs 1 room (field_items name list (r 1) (read_any_below x.unwrap_variant_newtypes room 1) gap))
      (Needs 1 room (FieldItems name list (L 1) (AnyBelow x.unwrap_variant_newtypes room 1) gap)) (Before right_parenthesis) (size schema base true i)
  content gap = let w = size_within schema sizes i i in
      part_needs 1 m le (omega (arith, w)) (part_fields schema room 1 (q 1) (r 1) (L 1) h (size schema base true i) (λ j. size_within schema sizes i j)
      x.unwrap_variant_newtypes m le list (struct_of name) i
      (λ formed. (all_get has_distinct_names schema i (struct name list) formed s, λ ds o z. (list, s, o, z))) gap)

  is_range : (z : Interval) (d : Data) → range_data schema name list.fields z ≡ Some d → IsDataOf schema room 0 i d
  is_range z d e =
      let n = mapped_from (struct_of name) (range_fields schema name list.fields z) d e in
      rw (← n.2) (record {
        of_shape = λ formed.
            (let k = range_is schema name list.fields z n.0 (all_get has_distinct_names schema i (struct name list) formed s) n.1 in (list, s, k.0, k.1));
      })

  pub part_struct : (bare : Bool) (before : Text)
      → Part room (step schema) bare (IsDataOf schema room 0 i) (read_struct x schema name list m q bare before)
      (read_struct x schema name list room r bare before) (StructText x schema name list room L bare before) (After bare) (size schema base bare i)
  part_struct true before = part_tell opens_interval (starts_first (Before right_parenthesis) (range_begins true (range_data schema name list.fields)))
      (starts_needs (starts_means (record { at = fields_no_span room (L 1) x.unwrap_variant_newtypes list before })))
      (part_range true (range_data schema name list.fields) is_range) (content before)
  part_struct false before =
      let g =
      part_any FollowsValue (part_group left_parenthesis right_parenthesis (size schema base false i) refl refl content (size_inside schema sizes false i)) in
      part_choose opens_interval (range_begins false (range_data schema name list.fields)) (first_or
      (first_without x.explicit_struct_names (first_then (first_mark _ left_parenthesis done (λ s. refl)))) (first_then (first_means name_no_interval)))
      (part_range false (range_data schema name list.fields) is_range)
      (part_choose (is_at left_parenthesis) (first_without x.explicit_struct_names (first_then (first_mark _ left_parenthesis done (λ s. refl))))
      (first_then (first_means name_no_bracket)) (part_without x.explicit_struct_names g)
      (part_behind (word_named name) (first_means (first_solid name_solid)) (passes_named name) (λ _. g)))

pub struct_opens : (x : Extensions) (schema : List Shape) (name : Text) (list : FieldList) (room : ℕ) (L : ℕ → Langs) (before : Text)
    → Opens (StructText x schema name list room L false before)
struct_opens x schema name list room L before = first_or (first_means interval_solid) (first_or (first_without x.explicit_struct_names
    (first_then (first_mark Solid left_parenthesis done (λ s. solid_mark left_parenthesis s refl refl refl)))) (first_then (first_means name_solid)))
