-- Data of a shape is of it still where the table has moved, or has grown behind.
use Rattle.std.proofs.Common.{◌≡◌, ℕ, ◌+◌, ◌&&◌, cond, List, [], ◌∷◌, ◌++◌, map, length, Option, Some, None, option_map, find, slice_get, refl, sym, ap, subst}
use Rattle.std.proofs.Common.{◌∙◌, zero-add}
use Rattle.std.proofs.lemmas.Option.{slice_get-map}
use Rattle.ron_spec_words.specs.Characters.{Text}
use Rattle.ron_spec_grammar.specs.Data.{Data, bool_of, int_of, char_of, str_of, bytes_of, the_unit, the_none, some_of, unit_struct_of, list_of, tuple_of}
use Rattle.ron_spec_grammar.specs.Data.{tuple_struct_of, map_of, newtype_of, struct_of, unit_variant_of, newtype_variant_of, tuple_variant_of}
use Rattle.ron_spec_grammar.specs.Data.{struct_variant_of, value_of, raw_of, Datas, no_datas, data_and, Pairs, no_pairs, pair_and, Fields, no_fields, field_and}
use Rattle.ron_spec_grammar.specs.Schema.{Field, FieldList, Variant, VariantShape, unit_variant, newtype_variant, tuple_variant, struct_variant, Shape, bool}
use Rattle.ron_spec_grammar.specs.Schema.{int, char, str, bytes, unit, optional, unit_struct, seq, tuple, tuple_struct, map as map_, newtype, struct, enum}
use Rattle.ron_spec_grammar.specs.Schema.{any_value, any_raw, is_named, is_variant, variant_named, in_order, HasVariant, OfShape, AllOfShape, EachOfShape}
use Rattle.ron_spec_grammar.specs.Schema.{PairsOfShape, OfFields}
use Rattle.ron_data_schema.specs.Shapes.{moved, moved_field, moved_list, moved_content, moved_variant}
use Rattle.ron_data_schema.specs.Table.{Table}
use Rattle.ron_types.specs.OfTables.{IsOf}
use Rattle.ron_types.specs.Tables.{put, root_in}
use Rattle.ron_types.proofs.ListLemmas.{get_front, get_back, find-map, map-same}

-- ---- names stay

pub in_order-moved : (n : ℕ) (fields : List Field) (names : List Text) → in_order (map (moved_field n) fields) names ≡ in_order fields names
in_order-moved n [] [] = refl
in_order-moved n [] (name ∷ names) = refl
in_order-moved n (f ∷ fields) [] = ap (λ b. f.may_be_missing && b) (in_order-moved n fields [])
in_order-moved n (f ∷ fields) (name ∷ names) =
    λ i. cond (is_named name f) (in_order-moved n fields names i) (f.may_be_missing && in_order-moved n fields (name ∷ names) i)

pub find-moved : (n : ℕ) (name : Text) (fields : List Field)
    → find (is_named name) (map (moved_field n) fields) ≡ option_map (moved_field n) (find (is_named name) fields)
find-moved n name fields = find-map (is_named name) (is_named name) (moved_field n) (λ f. refl) fields

variant-moved : (n : ℕ) (name : Text) (variants : List Variant) (content : VariantShape) → variant_named name variants ≡ Some content
    → variant_named name (map (moved_variant n) variants) ≡ Some (moved_content n content)
variant-moved n name variants content e =
    ap (option_map (λ (v : Variant). v.content)) (find-map (is_variant name) (is_variant name) (moved_variant n) (λ v. refl) variants)
    ∙ go (find (is_variant name) variants) e
  where
    go : (o : Option Variant) → option_map (λ v. v.content) o ≡ Some content
        → option_map (λ v. v.content) (option_map (moved_variant n) o) ≡ Some (moved_content n content)
    go None k = absurd (cc)
    go (Some v) k = ap (option_map (moved_content n)) k

-- ---- a table whose shapes stand moved in another

module _ (n : ℕ) (old new : List Shape) (stands : (i : ℕ) (s : Shape) → slice_get old i ≡ Some s → slice_get new (n + i) ≡ Some (moved n s)) where
  variant_stands : (i : ℕ) (name v : Text) (content : VariantShape) → HasVariant old i name v content → HasVariant new (n + i) name v (moved_content n content)
  variant_stands i name v content h = (map (moved_variant n) h.0, stands i (enum name h.0) h.1, variant-moved n v h.0 content h.2)

  mutual
    pub of_shape : (i : ℕ) (d : Data) → OfShape old i d → OfShape new (n + i) d
    of_shape i (bool_of b) h = stands i bool h
    of_shape i (int_of w k) h = (stands i (int w) h.0, h.1)
    of_shape i (char_of c) h = stands i char h
    of_shape i (str_of t) h = stands i str h
    of_shape i (bytes_of bs) h = stands i bytes h
    of_shape i the_unit h = stands i unit h
    of_shape i the_none h = (n + h.0, stands i (optional h.0) h.1)
    of_shape i (some_of d) h = (n + h.0, stands i (optional h.0) h.1, of_shape h.0 d h.2)
    of_shape i (unit_struct_of name) h = stands i (unit_struct name) h
    of_shape i (list_of ds) h = (n + h.0, stands i (seq h.0) h.1, all_of_shape h.0 ds h.2)
    of_shape i (tuple_of ds) h = (map (λ j. n + j) h.0, stands i (tuple h.0) h.1, each_of_shape h.0 ds h.2)
    of_shape i (tuple_struct_of name ds) h = (map (λ j. n + j) h.0, stands i (tuple_struct name h.0) h.1, each_of_shape h.0 ds h.2)
    of_shape i (map_of ps) h = (n + h.0, n + h.1, stands i (map_ h.0 h.1) h.2, pairs_of_shape h.0 h.1 ps h.3)
    of_shape i (newtype_of name d) h = (n + h.0, stands i (newtype name h.0) h.1, of_shape h.0 d h.2)
    of_shape i (struct_of name ds) h = (moved_list n h.0, stands i (struct name h.0) h.1, in_order-moved n h.0.fields _ ∙ h.2, of_fields h.0.fields ds h.3)
    of_shape i (unit_variant_of name v) h = variant_stands i name v unit_variant h
    of_shape i (newtype_variant_of name v d) h = (n + h.0, variant_stands i name v (newtype_variant h.0) h.1, of_shape h.0 d h.2)
    of_shape i (tuple_variant_of name v ds) h = (map (λ j. n + j) h.0, variant_stands i name v (tuple_variant h.0) h.1, each_of_shape h.0 ds h.2)
    of_shape i (struct_variant_of name v ds) h =
        (moved_list n h.0, variant_stands i name v (struct_variant h.0) h.1, in_order-moved n h.0.fields _ ∙ h.2, of_fields h.0.fields ds h.3)
    of_shape i (value_of t) h = (stands i any_value h.0, h.1)
    of_shape i (raw_of t) h = (stands i any_raw h.0, h.1)

    all_of_shape : (j : ℕ) (ds : Datas) → AllOfShape old j ds → AllOfShape new (n + j) ds
    all_of_shape j no_datas h = tt
    all_of_shape j (data_and d ds) h = (of_shape j d h.0, all_of_shape j ds h.1)

    each_of_shape : (js : List ℕ) (ds : Datas) → EachOfShape old js ds → EachOfShape new (map (λ j. n + j) js) ds
    each_of_shape [] no_datas h = tt
    each_of_shape (j ∷ js) (data_and d ds) h = (of_shape j d h.0, each_of_shape js ds h.1)
    each_of_shape [] (data_and d ds) h = absurd h
    each_of_shape (j ∷ js) no_datas h = absurd h

    pairs_of_shape : (k v : ℕ) (ps : Pairs) → PairsOfShape old k v ps → PairsOfShape new (n + k) (n + v) ps
    pairs_of_shape k v no_pairs h = tt
    pairs_of_shape k v (pair_and key d ps) h = (of_shape k key h.0, of_shape v d h.1, pairs_of_shape k v ps h.2)

    of_fields : (fields : List Field) (ds : Fields) → OfFields old fields ds → OfFields new (map (moved_field n) fields) ds
    of_fields fields no_fields h = tt
    of_fields fields (field_and name d ds) h =
        (moved_field n h.0, find-moved n name fields ∙ ap (option_map (moved_field n)) h.1, of_shape h.0.shape d h.2, of_fields fields ds h.3)

-- ---- a move by none

moved_field-zero : (f : Field) → moved_field 0 f ≡ f
moved_field-zero f = let P : ℕ → Field = λ j. record { name = f.name; aliases = f.aliases; shape = j; may_be_missing = f.may_be_missing } in
    ap P (zero-add f.shape)

moved_list-zero : (list : FieldList) → moved_list 0 list ≡ list
moved_list-zero list = let P : List Field → FieldList = λ fields. record { fields = fields; skips_unknown = list.skips_unknown } in
    ap P (map-same (moved_field 0) moved_field-zero list.fields)

indices-zero : (js : List ℕ) → map (λ j. 0 + j) js ≡ js
indices-zero js = map-same (λ j. 0 + j) zero-add js

moved_content-zero : (v : VariantShape) → moved_content 0 v ≡ v
moved_content-zero unit_variant = refl
moved_content-zero (newtype_variant j) = ap newtype_variant (zero-add j)
moved_content-zero (tuple_variant js) = ap tuple_variant (indices-zero js)
moved_content-zero (struct_variant list) = ap struct_variant (moved_list-zero list)

moved_variant-zero : (v : Variant) → moved_variant 0 v ≡ v
moved_variant-zero v = let P : VariantShape → Variant = λ c. record { name = v.name; content = c } in ap P (moved_content-zero v.content)

pub moved-zero : (s : Shape) → moved 0 s ≡ s
moved-zero (optional j) = ap optional (zero-add j)
moved-zero (seq j) = ap seq (zero-add j)
moved-zero (tuple js) = ap tuple (indices-zero js)
moved-zero (tuple_struct name js) = ap (tuple_struct name) (indices-zero js)
moved-zero (map_ k v) = λ i. map_ (zero-add k i) (zero-add v i)
moved-zero (newtype name j) = ap (newtype name) (zero-add j)
moved-zero (struct name list) = ap (struct name) (moved_list-zero list)
moved-zero (enum name variants) = ap (enum name) (map-same (moved_variant 0) moved_variant-zero variants)
moved-zero bool = refl
moved-zero (int w) = refl
moved-zero char = refl
moved-zero str = refl
moved-zero bytes = refl
moved-zero unit = refl
moved-zero (unit_struct name) = refl
moved-zero any_value = refl
moved-zero any_raw = refl

-- ---- tables that grow

pub stands_in_front : (shapes more : List Shape) (i : ℕ) (s : Shape) → slice_get shapes i ≡ Some s → slice_get (shapes ++ more) (0 + i) ≡ Some (moved 0 s)
stands_in_front shapes more i s at = ap (slice_get (shapes ++ more)) (zero-add i) ∙ (get_front shapes more i s at ∙ ap Some (sym (moved-zero s)))

pub stands_behind : (shapes : List Shape) (t : Table) (i : ℕ) (s : Shape) → slice_get t.shapes i ≡ Some s
    → slice_get (put shapes t) (length shapes + i) ≡ Some (moved (length shapes) s)
stands_behind shapes t i s at =
    get_back shapes (map (moved (length shapes)) t.shapes) i ∙ (slice_get-map (moved (length shapes)) t.shapes i ∙ ap (option_map (moved (length shapes))) at)

-- data of a shape is of it where more shapes follow
pub of_grown : (shapes more : List Shape) (i : ℕ) (d : Data) → OfShape shapes i d → OfShape (shapes ++ more) i d
of_grown shapes more i d h =
    let P : ℕ → Type 0 = λ j. OfShape (shapes ++ more) j d in
    subst P (zero-add i) (of_shape 0 shapes (shapes ++ more) (stands_in_front shapes more) i d h)

-- data of a table is of it where the table stands behind others
pub of_put : (shapes : List Shape) (t : Table) (d : Data) → IsOf t d → OfShape (put shapes t) (root_in shapes t) d
of_put shapes t d h = of_shape (length shapes) t.shapes (put shapes t) (stands_behind shapes t) t.root d h
