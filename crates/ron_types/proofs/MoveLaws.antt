-- Data of a shape that has moved is of it where it stood before: the converse of `MoveLemmas` of `ron_types`.
use Rattle.std.proofs.Common.{◌≡◌, ℕ, ◌+◌, ◌-◌, true, nat_lt, List, [], ◌∷◌, map, length, Option, Some, None, option_map, find, slice_get, get_or, refl, sym}
use Rattle.std.proofs.Common.{ap, subst, ◌∙◌, arith}
use Rattle.std.specs.List.{list_all}
use Rattle.std.proofs.lemmas.Bool.{and_parts}
use Rattle.std.proofs.lemmas.Simd.{map-map}
use Rattle.std.proofs.lemmas.Option.{slice_get-get_or}
use borrow.Author.Tests.{ltb-true}
use Rattle.ron_spec_words.specs.Characters.{Text}
use Rattle.ron_spec_grammar.specs.Data.{Data, bool_of, int_of, char_of, str_of, bytes_of, the_unit, the_none, some_of, unit_struct_of, list_of, tuple_of}
use Rattle.ron_spec_grammar.specs.Data.{tuple_struct_of, map_of, newtype_of, struct_of, unit_variant_of, newtype_variant_of, tuple_variant_of}
use Rattle.ron_spec_grammar.specs.Data.{struct_variant_of, value_of, raw_of, Datas, no_datas, data_and, Pairs, no_pairs, pair_and, Fields, no_fields, field_and}
use Rattle.ron_spec_grammar.specs.Schema.{Field, FieldList, Variant, VariantShape, unit_variant, newtype_variant, tuple_variant, struct_variant, Shape, bool}
use Rattle.ron_spec_grammar.specs.Schema.{int, char, str, bytes, unit, optional, unit_struct, seq, tuple, tuple_struct, map as map_, newtype, struct, enum}
use Rattle.ron_spec_grammar.specs.Schema.{any_value, any_raw, is_named, is_variant, variant_below, holds_below, names_of, in_order, HasVariant, OfShape}
use Rattle.ron_spec_grammar.specs.Schema.{AllOfShape, EachOfShape, PairsOfShape, OfFields}
use Rattle.ron_spec_grammar.proofs.Finding.{all_get, find_in}
use Rattle.ron_data_schema.specs.Shapes.{moved, moved_field, moved_list, moved_content, moved_variant}
use Rattle.ron_types.proofs.ListLemmas.{find-map, map-same}
use Rattle.ron_types.proofs.MoveLemmas.{in_order-moved, find-moved}

-- ---- back by so many indices

abbrev back_field : ℕ → Field → Field
back_field n f = record { name = f.name; aliases = f.aliases; shape = f.shape - n; may_be_missing = f.may_be_missing }

abbrev back_list : ℕ → FieldList → FieldList
back_list n list = record { fields = map (back_field n) list.fields; skips_unknown = list.skips_unknown }

abbrev back_content : ℕ → VariantShape → VariantShape
back_content n unit_variant = unit_variant
back_content n (newtype_variant j) = newtype_variant (j - n)
back_content n (tuple_variant js) = tuple_variant (map (λ j. j - n) js)
back_content n (struct_variant list) = struct_variant (back_list n list)

abbrev back_variant : ℕ → Variant → Variant
back_variant n v = record { name = v.name; content = back_content n v.content }

abbrev back : ℕ → Shape → Shape
back n (optional j) = optional (j - n)
back n (seq j) = seq (j - n)
back n (tuple js) = tuple (map (λ j. j - n) js)
back n (tuple_struct name js) = tuple_struct name (map (λ j. j - n) js)
back n (map_ k v) = map_ (k - n) (v - n)
back n (newtype name j) = newtype name (j - n)
back n (struct name list) = struct name (back_list n list)
back n (enum name variants) = enum name (map (back_variant n) variants)
back n s = s

-- there and back

map-back : {A B : Type 0} (f : A → B) (g : B → A) → ((a : A) → g (f a) ≡ a) → (xs : List A) → map g (map f xs) ≡ xs
map-back f g same xs = map-map g f xs ∙ map-same (λ a. g (f a)) same xs

module _ (n : ℕ) where
  index-back : (j : ℕ) → (n + j) - n ≡ j
  index-back j = omega arith

  indices-back : (js : List ℕ) → map (λ j. j - n) (map (λ j. n + j) js) ≡ js
  indices-back = map-back (λ j. n + j) (λ j. j - n) index-back

  field-back : (f : Field) → back_field n (moved_field n f) ≡ f
  field-back f = let P : ℕ → Field = λ j. record { name = f.name; aliases = f.aliases; shape = j; may_be_missing = f.may_be_missing } in
      ap P (index-back f.shape)

  list-back : (list : FieldList) → back_list n (moved_list n list) ≡ list
  list-back list = let P : List Field → FieldList = λ fields. record { fields = fields; skips_unknown = list.skips_unknown } in
      ap P (map-back (moved_field n) (back_field n) field-back list.fields)

  content-back : (c : VariantShape) → back_content n (moved_content n c) ≡ c
  content-back unit_variant = refl
  content-back (newtype_variant j) = ap newtype_variant (index-back j)
  content-back (tuple_variant js) = ap tuple_variant (indices-back js)
  content-back (struct_variant list) = ap struct_variant (list-back list)

  variant-back : (v : Variant) → back_variant n (moved_variant n v) ≡ v
  variant-back v = let P : VariantShape → Variant = λ c. record { name = v.name; content = c } in ap P (content-back v.content)

  shape-back : (s : Shape) → back n (moved n s) ≡ s
  shape-back (optional j) = ap optional (index-back j)
  shape-back (seq j) = ap seq (index-back j)
  shape-back (tuple js) = ap tuple (indices-back js)
  shape-back (tuple_struct name js) = ap (tuple_struct name) (indices-back js)
  shape-back (map_ k v) = λ i. map_ (index-back k i) (index-back v i)
  shape-back (newtype name j) = ap (newtype name) (index-back j)
  shape-back (struct name list) = ap (struct name) (list-back list)
  shape-back (enum name variants) = ap (enum name) (map-back (moved_variant n) (back_variant n) variant-back variants)
  shape-back bool = refl
  shape-back (int w) = refl
  shape-back char = refl
  shape-back str = refl
  shape-back bytes = refl
  shape-back unit = refl
  shape-back (unit_struct name) = refl
  shape-back any_value = refl
  shape-back any_raw = refl

-- ---- a table whose shapes stand moved in another, and hold no index beyond its end

module _ (n : ℕ) (old new : List Shape) (stands : (i : ℕ) (s : Shape) → slice_get old i ≡ Some s → slice_get new (n + i) ≡ Some (moved n s))
    (below : list_all (holds_below (length old)) old ≡ true) where
  abbrev IsBelow : ℕ → Type 0
  IsBelow i = nat_lt i (length old) ≡ true

  abbrev AreBelow : List ℕ → Type 0
  AreBelow js = list_all (λ j. nat_lt j (length old)) js ≡ true

  abbrev FieldsBelow : List Field → Type 0
  FieldsBelow fields = list_all (λ (f : Field). nat_lt f.shape (length old)) fields ≡ true

  -- what stands in the other is a shape of the table, moved
  there : (i : ℕ) → IsBelow i → (s : Shape) → slice_get new (n + i) ≡ Some s
      → (slice_get old i ≡ Some (back n s)) × (moved n (back n s) ≡ s) × (holds_below (length old) (back n s) ≡ true)
  there i less s at =
      let s' : Shape = get_or old i s in
      let e : slice_get old i ≡ Some s' = slice_get-get_or old i s (ltb-true i (length old) less) in
      let there' : slice_get new (n + i) ≡ Some (moved n s') = stands i s' e in
      let same : moved n s' ≡ s = cc in
      let is : s' ≡ back n s = sym (shape-back n s') ∙ ap (back n) same in
      (e ∙ ap Some is, ap (moved n) (sym is) ∙ same, ap (holds_below (length old)) (sym is) ∙ all_get (holds_below (length old)) old i s' below e)

  -- so is what a variant of an enum holds
  variant_there : (i : ℕ) → IsBelow i → (name v : Text) (content : VariantShape) → HasVariant new (n + i) name v content
      → HasVariant old i name v (back_content n content) × (moved_content n (back_content n content) ≡ content)
      × (variant_below (length old) (back_content n content) ≡ true)
  variant_there i less name v content h =
      let t = there i less (enum name h.0) h.1 in
      let all : map (moved_variant n) (map (back_variant n) h.0) ≡ h.0 = cc in
      let found = ap (option_map (λ (w : Variant). w.content))
      (sym (find-map (is_variant v) (is_variant v) (moved_variant n) (λ w. refl) (map (back_variant n) h.0)) ∙ ap (find (is_variant v)) all) ∙ h.2 in
      go (map (back_variant n) h.0) t.0 t.2 (find (is_variant v) (map (back_variant n) h.0)) refl found
    where
      go : (us : List Variant) → slice_get old i ≡ Some (enum name us) → list_all (λ (w : Variant). variant_below (length old) w.content) us ≡ true
          → (o : Option Variant) → find (is_variant v) us ≡ o
          → option_map (λ (w : Variant). w.content) (option_map (moved_variant n) o) ≡ Some content
          → HasVariant old i name v (back_content n content) × (moved_content n (back_content n content) ≡ content)
          × (variant_below (length old) (back_content n content) ≡ true)
      go us at all None e k = absurd (cc)
      go us at all (Some w) e k =
          let same : moved_content n w.content ≡ content = cc in
          let is : w.content ≡ back_content n content = sym (content-back n w.content) ∙ ap (back_content n) same in (
            (us, at, ap (option_map (λ (w : Variant). w.content)) e ∙ ap Some is),
            ap (moved_content n) (sym is) ∙ same,
            ap (variant_below (length old)) (sym is) ∙ find_in (is_variant v) (λ (w : Variant). variant_below (length old) w.content) us w e all,
          )

  -- and a field that is found
  field_there : (fields : List Field) (name : Text) (g : Field) → find (is_named name) (map (moved_field n) fields) ≡ Some g
      → (f : Field) × (find (is_named name) fields ≡ Some f) × (g ≡ moved_field n f)
  field_there fields name g e = go (find (is_named name) fields) refl (sym (find-moved n name fields) ∙ e)
    where
      go : (o : Option Field) → find (is_named name) fields ≡ o → option_map (moved_field n) o ≡ Some g
          → (f : Field) × (find (is_named name) fields ≡ Some f) × (g ≡ moved_field n f)
      go None at k = absurd (cc)
      go (Some f) at k = (f, at, cc)

  mutual
    pub from_shape : (i : ℕ) → IsBelow i → (d : Data) → OfShape new (n + i) d → OfShape old i d
    from_shape i l (bool_of b) h = (there i l bool h).0
    from_shape i l (int_of w k) h = ((there i l (int w) h.0).0, h.1)
    from_shape i l (char_of c) h = (there i l char h).0
    from_shape i l (str_of t) h = (there i l str h).0
    from_shape i l (bytes_of bs) h = (there i l bytes h).0
    from_shape i l the_unit h = (there i l unit h).0
    from_shape i l the_none h = (h.0 - n, (there i l (optional h.0) h.1).0)
    from_shape i l (some_of d) h =
        let t = there i l (optional h.0) h.1 in
        let e : h.0 ≡ n + (h.0 - n) = cc in
        (h.0 - n, t.0, from_shape (h.0 - n) t.2 d (subst (λ j. OfShape new j d) e h.2))
    from_shape i l (unit_struct_of name) h = (there i l (unit_struct name) h).0
    from_shape i l (list_of ds) h =
        let t = there i l (seq h.0) h.1 in
        let e : h.0 ≡ n + (h.0 - n) = cc in
        (h.0 - n, t.0, from_all (h.0 - n) t.2 ds (subst (λ j. AllOfShape new j ds) e h.2))
    from_shape i l (tuple_of ds) h =
        let t = there i l (tuple h.0) h.1 in
        let js = map (λ j. j - n) h.0 in
        let e : h.0 ≡ map (λ j. n + j) js = cc in
        (js, t.0, from_each js t.2 ds (subst (λ js. EachOfShape new js ds) e h.2))
    from_shape i l (tuple_struct_of name ds) h =
        let t = there i l (tuple_struct name h.0) h.1 in
        let js = map (λ j. j - n) h.0 in
        let e : h.0 ≡ map (λ j. n + j) js = cc in
        (js, t.0, from_each js t.2 ds (subst (λ js. EachOfShape new js ds) e h.2))
    from_shape i l (map_of ps) h =
        let t = there i l (map_ h.0 h.1) h.2 in
        let b = and_parts (nat_lt (h.0 - n) (length old)) (nat_lt (h.1 - n) (length old)) t.2 in
        let e : h.0 ≡ n + (h.0 - n) = cc in
        let f : h.1 ≡ n + (h.1 - n) = cc in (
          h.0 - n,
          h.1 - n,
          t.0,
          from_pairs (h.0 - n) (h.1 - n) b.0 b.1 ps (subst (λ k. PairsOfShape new k (n + (h.1 - n)) ps) e (subst (λ v. PairsOfShape new h.0 v ps) f h.3)),
        )
    from_shape i l (newtype_of name d) h =
        let t = there i l (newtype name h.0) h.1 in
        let e : h.0 ≡ n + (h.0 - n) = cc in
        (h.0 - n, t.0, from_shape (h.0 - n) t.2 d (subst (λ j. OfShape new j d) e h.2))
    from_shape i l (struct_of name ds) h =
        let t = there i l (struct name h.0) h.1 in
        let e : h.0 ≡ moved_list n (back_list n h.0) = cc in (
          back_list n h.0,
          t.0,
          sym (in_order-moved n (back_list n h.0).fields (names_of ds)) ∙ subst (λ (us : FieldList). in_order us.fields (names_of ds) ≡ true) e h.2,
          from_fields (back_list n h.0).fields t.2 ds (subst (λ (us : FieldList). OfFields new us.fields ds) e h.3),
        )
    from_shape i l (unit_variant_of name v) h = (variant_there i l name v unit_variant h).0
    from_shape i l (newtype_variant_of name v d) h =
        let t = variant_there i l name v (newtype_variant h.0) h.1 in
        let e : h.0 ≡ n + (h.0 - n) = cc in
        (h.0 - n, t.0, from_shape (h.0 - n) t.2 d (subst (λ j. OfShape new j d) e h.2))
    from_shape i l (tuple_variant_of name v ds) h =
        let t = variant_there i l name v (tuple_variant h.0) h.1 in
        let js = map (λ j. j - n) h.0 in
        let e : h.0 ≡ map (λ j. n + j) js = cc in
        (js, t.0, from_each js t.2 ds (subst (λ js. EachOfShape new js ds) e h.2))
    from_shape i l (struct_variant_of name v ds) h =
        let t = variant_there i l name v (struct_variant h.0) h.1 in
        let e : h.0 ≡ moved_list n (back_list n h.0) = cc in (
          back_list n h.0,
          t.0,
          sym (in_order-moved n (back_list n h.0).fields (names_of ds)) ∙ subst (λ (us : FieldList). in_order us.fields (names_of ds) ≡ true) e h.2,
          from_fields (back_list n h.0).fields t.2 ds (subst (λ (us : FieldList). OfFields new us.fields ds) e h.3),
        )
    from_shape i l (value_of t) h = ((there i l any_value h.0).0, h.1)
    from_shape i l (raw_of t) h = ((there i l any_raw h.0).0, h.1)

    from_all : (j : ℕ) → IsBelow j → (ds : Datas) → AllOfShape new (n + j) ds → AllOfShape old j ds
    from_all j l no_datas h = tt
    from_all j l (data_and d ds) h = (from_shape j l d h.0, from_all j l ds h.1)

    from_each : (js : List ℕ) → AreBelow js → (ds : Datas) → EachOfShape new (map (λ j. n + j) js) ds → EachOfShape old js ds
    from_each [] l no_datas h = tt
    from_each (j ∷ js) l (data_and d ds) h = let b = and_parts (nat_lt j (length old)) (list_all (λ j. nat_lt j (length old)) js) l in
        (from_shape j b.0 d h.0, from_each js b.1 ds h.1)
    from_each [] l (data_and d ds) h = absurd h
    from_each (j ∷ js) l no_datas h = absurd h

    from_pairs : (k v : ℕ) → IsBelow k → IsBelow v → (ps : Pairs) → PairsOfShape new (n + k) (n + v) ps → PairsOfShape old k v ps
    from_pairs k v a b no_pairs h = tt
    from_pairs k v a b (pair_and key d ps) h = (from_shape k a key h.0, from_shape v b d h.1, from_pairs k v a b ps h.2)

    from_fields : (fields : List Field) → FieldsBelow fields → (ds : Fields) → OfFields new (map (moved_field n) fields) ds → OfFields old fields ds
    from_fields fields l no_fields h = tt
    from_fields fields l (field_and name d ds) h =
        let found : (f : Field) × (find (is_named name) fields ≡ Some f) × (h.0 ≡ moved_field n f) = field_there fields name h.0 h.1 in
        let less = find_in (is_named name) (λ (f : Field). nat_lt f.shape (length old)) fields found.0 found.1 l in
        (found.0, found.1, from_shape found.0.shape less d (subst (λ (g : Field). OfShape new g.shape d) found.2 h.2), from_fields fields l ds h.3)
