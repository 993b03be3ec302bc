-- Enums and their variants, beside the steps of the code.
use Rattle.std.proofs.Common.{◌≡◌, ℕ, suc, ◌≤◌, Bool, true, false, List, map, length, Option, Some, None, option_map, slice_get, find, get_or, [], refl, sym}
use Rattle.std.proofs.Common.{ap, ap₂, subst, ◌<◌, ◌∙◌, arith, chars, string_bytes, String, Box, Vec, Global}
use Rattle.std.specs.List.{list_all, position}
use Rattle.std.proofs.lemmas.Bool.{and_parts, lt-ltb}
use Rattle.std.proofs.lemmas.List.{length-map}
use Rattle.std.proofs.lemmas.Option.{slice_get-get_or}
use Rattle.ron_spec_words.specs.Characters.{Text}
use Rattle.ron_spec_words.specs.Gap.{skip}
use Rattle.ron_spec_words.specs.Name.{name}
use Rattle.ron_spec_words.specs.Reader.{deep, bad, Got, got, failed, meant}
use Rattle.ron_spec_words.specs.Runs.{is_at}
use Rattle.ron_spec_grammar.specs.Data as plain
use Rattle.ron_spec_grammar.specs.Rule.{Extensions}
use Rattle.ron_spec_grammar.specs.Room.{enough}
use Rattle.ron_spec_grammar.specs.Schema.{Shape, Variant, VariantShape, enum, unit_variant, newtype_variant, tuple_variant, struct_variant, is_variant}
use Rattle.ron_spec_grammar.specs.Schema.{FieldList, holds_below, has_distinct_names, variants_differ, variant_below, variant_has_distinct_names}
use Rattle.ron_spec_grammar.proofs.Finding.{all_get}
use Rattle.ron_spec_grammar.specs.Reading.{read}
use Rattle.ron_spec_grammar.specs.Shapes.Enum.{newtype_variant_data}
use Rattle.ron_spec_grammar.specs.Turns.{read_content, read_tuple_group, read_field_group, variant_got, variant_at, read_variant_content}
use Rattle.ron_spec_grammar.proofs.VariantTurns.{enum_deep, enum_deep_within, enum_none, enum_some, variant_unit, variant_newtype, variant_tuple}
use Rattle.ron_spec_grammar.proofs.VariantTurns.{variant_struct, variant_slash}
use Rattle.ron_base.specs.Limit.{one_deeper}
use Rattle.ron_lex.specs.Place.{Place}
use Rattle.ron_data.specs.declared.data.Data.{Data}
use Rattle.ron_data.specs.declared.data.Data.TheVariants as data_
use Rattle.ron_data.specs.declared.data.VariantData.{VariantData}
use Rattle.ron_data.specs.declared.data.VariantData.TheVariants as held_
use Rattle.ron_data_schema.specs.declared.schema.VariantShape as code
use Rattle.ron_data.specs.Datum.{data_view, items_view, fields_view, content_view, variant_of}
use Rattle.ron_data_schema.specs.Shapes.{variant_view}
use Rattle.ron_data_schema.specs.Shapes as shapes
use Rattle.ron_data_schema.proofs.TableLemmas.{view_at}
use Rattle.ron_data.proofs.DatumLemmas.{view-variant, view-no_content, view-one, view-items, view-named}
use Rattle.ron_de_parts.specs.Room.{IsRoom, enough_for_group}
use Rattle.ron_de_parts.specs.Terms.{Terms, IsDeeper}
use Rattle.ron_de_parts.specs.Variants.{IsVariantAt}
use Rattle.ron_de_parts.proofs.RoomLemmas.{RoomBelow, room_below, room_less, room_ended, group_of_value, group_later, enough_there}
use Rattle.ron_data.proofs.PositionLemmas.{find_position}

-- ---- a variant's name

-- the name that is read is that of no variant, or of the one at this index
pub no_variant : (v : Text) (rest s : Text) (variants : List (String Global × code.VariantShape)) → name s ≡ got v rest
    → None ≡ position (λ w. is_variant v (variant_view w)) variants → variant_at (map variant_view variants) s ≡ None
no_variant v rest s variants e p = ap (variant_got (map variant_view variants)) e
    ∙ ap (option_map {U = Variant × Text} (λ variant. (variant, rest))) (find_position variant_view (is_variant v) variants None p)

pub named_variant : (v : Text) (rest s : Text) (variants : List (String Global × code.VariantShape)) (index : ℕ) → name s ≡ got v rest
    → Some index ≡ position (λ w. is_variant v (variant_view w)) variants → IsVariantAt (map variant_view variants) s rest index
named_variant v rest s variants index e p =
    go (slice_get (map variant_view variants) index) refl (find_position variant_view (is_variant v) variants (Some index) p).1
  where
    f : (index < length variants) × (find (is_variant v) (map variant_view variants) ≡ slice_get (map variant_view variants) index)
    f = find_position variant_view (is_variant v) variants (Some index) p

    go : (o : Option Variant) → slice_get (map variant_view variants) index ≡ o → find (is_variant v) (map variant_view variants) ≡ o
        → IsVariantAt (map variant_view variants) s rest index
    go (Some variant) a h = (variant, a, ap (variant_got (map variant_view variants)) e ∙ ap (option_map {U = Variant × Text} (λ w. (w, rest))) h)
    go None a h =
        absurd (let q : None ≡ Some (get_or (map variant_view variants) index (record { name = []; content = unit_variant })) = sym a ∙ slice_get-get_or
        (map variant_view variants) index (record { name = []; content = unit_variant }) (let l = f.0 in rw (length-map variants variant_view) l) in cc)

-- the variant at an index, and what it holds
pub variant_here : (variants : List (String Global × code.VariantShape)) (index : ℕ) (v : String Global × code.VariantShape) (variant : Variant)
    → index < length variants → v ≡ get_or variants index v → slice_get (map variant_view variants) index ≡ Some variant → variant ≡ variant_view v
variant_here variants index v variant lt e at = let same : Some variant ≡ Some (variant_view v) =
    sym at ∙ view_at variant_view variants index v (lt-ltb index (length variants) lt) e in
    cc

module _ (n : ℕ) (name : Text) (variants : List (String Global × code.VariantShape)) (index : ℕ) (v : String Global × code.VariantShape)
    (lt : index < length variants) (e : v ≡ get_or variants index v) where
  pub variant_is_below : holds_below n (enum name (map variant_view variants)) ≡ true → variant_below n (shapes.content_view v.1) ≡ true
  variant_is_below h = all_get (λ (w : Variant). variant_below n w.content) (map variant_view variants) index (variant_view v) h
      (view_at variant_view variants index v (lt-ltb index (length variants) lt) e)

  pub variant_is_distinct : has_distinct_names (enum name (map variant_view variants)) ≡ true → variant_has_distinct_names (shapes.content_view v.1) ≡ true
  variant_is_distinct h = all_get (λ (w : Variant). variant_has_distinct_names w.content) (map variant_view variants) index (variant_view v) (and_parts
      (variants_differ (map variant_view variants)) (list_all (λ (w : Variant). variant_has_distinct_names w.content) (map variant_view variants)) h).1
      (view_at variant_view variants index v (lt-ltb index (length variants) lt) e)

pub still_variant_below : (schema inner : List Shape) (content : VariantShape) → inner ≡ schema → variant_below (length schema) content ≡ true
    → variant_below (length inner) content ≡ true
still_variant_below schema inner content e h = subst (λ (k : List Shape). variant_below (length k) content ≡ true) (sym e) h

-- ---- the levels of an enum and of its variant's name

pub enum_ended : (x : Extensions) (schema : List Shape) (room i : ℕ) (before s n : Text) (variants : List Variant) → slice_get schema i ≡ Some (enum n variants)
    → room ≡ 0 → read x schema room false i before s ≡ failed deep
enum_ended x schema room i before s n variants is e = ap (λ k. read x schema k false i before s) e ∙ enum_deep x schema i before s n variants is

module _ (terms inner : Terms) (d : IsDeeper terms inner) (i : ℕ) (place : Place) (enum_name : Text) (variants : List Variant)
    (is : slice_get terms.schema i ≡ Some (enum enum_name variants)) where
  module _ (room : ℕ) (r : IsRoom terms.limit (enough terms.schema false i (length place.rest)) room) where
    left : RoomBelow inner.limit (enough_for_group terms.schema (length place.rest)) room
    left =
        room_below terms.limit inner.limit _ _ room d.2 r (omega (arith, group_of_value terms.schema i (length place.rest) (length place.rest) (omega arith)))

    pub name_deep : one_deeper inner.limit ≡ None → read terms.extensions terms.schema room false i place.gap place.rest ≡ failed deep
    name_deep e =
        let last : left.left ≡ 0 = room_ended inner.limit _ left.left e left.is_room in
        ap (λ k. read terms.extensions terms.schema k false i place.gap place.rest) (left.is ∙ ap suc last)
        ∙ enum_deep_within terms.extensions terms.schema i place.gap place.rest enum_name variants is

    module _ (inner_limit : Option ℕ) (two : one_deeper inner.limit ≡ Some inner_limit) where
      within : RoomBelow inner_limit 0 left.left
      within = room_below inner.limit inner_limit 0 _ left.left two left.is_room (enough_there terms.schema (length place.rest))

      here : room ≡ suc (suc within.left)
      here = left.is ∙ ap suc within.is

      pub no_variant_named : variant_at variants place.rest ≡ None → read terms.extensions terms.schema room false i place.gap place.rest ≡ failed bad
      no_variant_named e = ap (λ k. read terms.extensions terms.schema k false i place.gap place.rest) here
          ∙ enum_none terms.extensions terms.schema i place.gap place.rest enum_name variants is within.left e

      -- what is said of what the variant holds, in each room that the limit leaves to it, is said of the enum
      pub variant_said : (variant : Variant) (behind : Place) → variant_at variants place.rest ≡ Some (variant, behind.rest)
          → length behind.rest ≤ length place.rest
          → (P : Got plain.Data → Type 0) → ((k : ℕ) → IsRoom inner.limit (enough_for_group inner.schema (length behind.rest)) k
          → P (read_variant_content inner.extensions inner.schema k enum_name variant.name variant.content behind.rest))
          → P (read terms.extensions terms.schema room false i place.gap place.rest)
      variant_said variant behind e le P h =
          let at_here : read terms.extensions terms.schema room false i place.gap place.rest
          ≡ read_variant_content terms.extensions terms.schema left.left enum_name variant.name variant.content behind.rest =
          ap (λ k. read terms.extensions terms.schema k false i place.gap place.rest) here
          ∙ enum_some terms.extensions terms.schema i place.gap place.rest enum_name variants is within.left variant behind.rest e
          ∙ ap (λ k. read_variant_content terms.extensions terms.schema k enum_name variant.name variant.content behind.rest) (sym within.is) in
          let room_here : IsRoom inner.limit (enough_for_group terms.schema (length behind.rest)) left.left =
          room_less inner.limit _ _ left.left left.is_room (group_later terms.schema (length behind.rest) (length place.rest) le) in
          let said = h left.left (subst (λ (s : List Shape). IsRoom inner.limit (enough_for_group s (length behind.rest)) left.left) (sym d.1) room_here) in
          subst P (sym at_here)
          (subst (λ (s : List Shape). P (read_variant_content terms.extensions s left.left enum_name variant.name variant.content behind.rest)) d.1
          (subst (λ (x : Extensions). P (read_variant_content x inner.schema left.left enum_name variant.name variant.content behind.rest)) d.0 said))

-- ---- what a variant holds

pub held_nothing : (n v : Text) (rest : Text) → got (plain.unit_variant_of n v) rest ≡ got (variant_of n v (content_view held_.Unit)) rest
held_nothing n v rest = ap (λ c. got (variant_of n v c) rest) (sym view-no_content)

-- behind the gap
module _ (terms : Terms) (old place : Place) (room : ℕ) (n v : Text) (content : VariantShape) (m : is_at 47 (skip old.rest) ≡ false)
    (w : place.rest ≡ skip old.rest) where
  pub newtype_here : (j : ℕ) (unwrap : Bool) → content ≡ newtype_variant j → unwrap ≡ terms.extensions.unwrap_variant_newtypes
      → read_variant_content terms.extensions terms.schema room n v content old.rest
      ≡ meant (read_content terms.extensions terms.schema room unwrap j place.rest) (newtype_variant_data n v)
  newtype_here j unwrap c u = ap (λ c. read_variant_content terms.extensions terms.schema room n v c old.rest) c ∙ variant_newtype terms.extensions terms.schema
      room n v old.rest m j ∙ ap₂ (λ b s. meant (read_content terms.extensions terms.schema room b j s) (newtype_variant_data n v)) (sym u) (sym w)

  pub tuple_here : (js : List ℕ) → content ≡ tuple_variant js → read_variant_content terms.extensions terms.schema room n v content old.rest
      ≡ read_tuple_group terms.extensions terms.schema room (plain.tuple_variant_of n v) js place.rest
  tuple_here js c = ap (λ c. read_variant_content terms.extensions terms.schema room n v c old.rest) c ∙ variant_tuple terms.extensions terms.schema room n v
      old.rest m js ∙ ap (read_tuple_group terms.extensions terms.schema room (plain.tuple_variant_of n v) js) (sym w)

  pub struct_here : (list : FieldList) → content ≡ struct_variant list → read_variant_content terms.extensions terms.schema room n v content old.rest
      ≡ read_field_group terms.extensions terms.schema room (plain.struct_variant_of n v) list place.rest
  struct_here list c = ap (λ c. read_variant_content terms.extensions terms.schema room n v c old.rest) c ∙ variant_struct terms.extensions terms.schema room n
      v old.rest m list ∙ ap (read_field_group terms.extensions terms.schema room (plain.struct_variant_of n v) list) (sym w)

pub room_behind_gap : (terms : Terms) (m n room : ℕ) → m ≤ n → IsRoom terms.limit (enough_for_group terms.schema n) room
    → IsRoom terms.limit (enough_for_group terms.schema m) room
room_behind_gap terms m n room le r = room_less terms.limit _ _ room r (group_later terms.schema m n le)

-- a slash behind the name
pub gap_slash : (terms : Terms) (s : Text) (room : ℕ) (n v : Text) (content other : VariantShape) → content ≡ other → (other ≡ unit_variant → ⊥)
    → is_at 47 (skip s) ≡ true → read_variant_content terms.extensions terms.schema room n v content s ≡ failed bad
gap_slash terms s room n v content other c u e =
    ap (λ c. read_variant_content terms.extensions terms.schema room n v c s) c ∙ variant_slash terms.extensions terms.schema room n v s other u e

pub unit_here : (terms : Terms) (s : Text) (room : ℕ) (n v : Text) (content : VariantShape) → content ≡ unit_variant
    → read_variant_content terms.extensions terms.schema room n v content s ≡ got (variant_of n v (content_view held_.Unit)) s
unit_here terms s room n v content c =
    ap (λ c. read_variant_content terms.extensions terms.schema room n v c s) c ∙ variant_unit terms.extensions terms.schema room n v s ∙ held_nothing n v s

-- what is made of the parts that were read
pub held_one : (n v : Text) (value : Box Data Global) (d : Data) (rest : Text) (o : Got plain.Data) → o ≡ got (data_view d) rest → value.value ≡ d
    → meant o (newtype_variant_data n v) ≡ got (variant_of n v (content_view (held_.Newtype value))) rest
held_one n v value d rest o e w = ap (λ o. meant o (newtype_variant_data n v)) e ∙ ap (λ d. got (plain.newtype_variant_of n v (data_view d)) rest) (sym w)
    ∙ ap (λ c. got (variant_of n v c) rest) (sym (view-one value))

pub held_items : (n v : Text) (items : Vec Data Global) (rest : Text)
    → got (plain.tuple_variant_of n v (items_view items.items)) rest ≡ got (variant_of n v (content_view (held_.Tuple items))) rest
held_items n v items rest = ap (λ c. got (variant_of n v c) rest) (sym (view-items items))

pub held_fields : (n v : Text) (fields : Vec (String Global × Data) Global) (rest : Text)
    → got (plain.struct_variant_of n v (fields_view fields.items)) rest ≡ got (variant_of n v (content_view (held_.Struct fields))) rest
held_fields n v fields rest = ap (λ c. got (variant_of n v c) rest) (sym (view-named fields))

pub variant_value : (name v : String Global) (held : VariantData) (spelled named : List ℕ) (rest : Text) → string_bytes name ≡ spelled → string_bytes v ≡ named
    → got (variant_of (chars spelled) (chars named) (content_view held)) rest ≡ got (data_view (data_.Variant name v held)) rest
variant_value name v held spelled named rest e f =
    ap₂ (λ a b. got (variant_of (chars a) (chars b) (content_view held)) rest) (sym e) (sym f) ∙ ap (λ d. got d rest) (sym (view-variant name v held))
