-- What a layout is read back as is the same as the normal form, where raw texts are compared by value: for the law.
use Rattle.std.proofs.Common.{◌≡◌, ℕ, suc, Bool, true, false, not, ◌&&◌, cond, List, [], ◌∷◌, ◌++◌, refl, ap, ap₂, subst}
use Rattle.std.proofs.lemmas.Bool.{and_parts}
use Rattle.ron_spec_words.specs.Characters.{Text}
use Rattle.ron_spec_words.specs.Gap.{none}
use Rattle.ron_spec_grammar.specs.Data.{Data, bool_of, int_of, char_of, str_of, bytes_of, the_unit, the_none, some_of, unit_struct_of, list_of, tuple_of}
use Rattle.ron_spec_grammar.specs.Data.{tuple_struct_of, map_of, newtype_of, struct_of, unit_variant_of, newtype_variant_of, tuple_variant_of}
use Rattle.ron_spec_grammar.specs.Data.{struct_variant_of, value_of, raw_of, Datas, no_datas, data_and, Pairs, no_pairs, pair_and, Fields, no_fields, field_and}
use Rattle.ron_spec_grammar.specs.Schema.{Shape, Field, OfShape, AllOfShape, EachOfShape, PairsOfShape, OfFields}
use Rattle.ron_spec_grammar.specs.Rule.{Extensions}
use Rattle.ron_spec_grammar.specs.Equal.{equal_data, put, put_all, folded}
use Rattle.ron_spec_grammar.specs.Raw.{trimmed}
use Rattle.ron_spec_grammar.proofs.Raw.Bodies.{valid_value, trimmed_value}
use Rattle.ron_spec_layout.specs.Normal.{norm_with, norm_items_with, norm_pairs_with, norm_fields_with}
use Rattle.ron_spec_layout.specs.Back.{back, back_first, numbered_back, items_back, pairs_back, fields_back}
use Rattle.ron_spec_layout.specs.Same.{AreSame, itself, raws, in_some, in_list, in_tuple, in_tuple_struct, in_map, in_newtype, in_struct, in_newtype_variant}
use Rattle.ron_spec_layout.specs.Same.{in_tuple_variant, in_struct_variant, AreSameItems, no_items, item, AreSamePairs, no_entries, entry, AreSameFields}
use Rattle.ron_spec_layout.specs.Same.{no_members, member, is_rawless, are_rawless, pairs_rawless, fields_rawless, has_plain_keys, have_plain_keys}
use Rattle.ron_spec_layout.specs.Same.{pairs_have_plain_keys, fields_have_plain_keys, IsReadBackWith}
use Rattle.ron_spec_layout.specs.Config.{Config, spacing, inner_level, item_comment}
use Rattle.ron_spec_layout.proofs.LeadRaw.{lead_value}
use Rattle.ron_spec_layout.proofs.Closed.{Closed, closed_append, AreGaps, closed_comment, is_spacing}

-- ---- pairs with the same keys, folded

-- the same keys, and values that are the same
abbrev pub Entries : List (Data × Data) → List (Data × Data) → Type 0
Entries [] [] = Unit {0}
Entries (p ∷ ps) (q ∷ qs) = (p.0 ≡ q.0) × AreSame p.1 q.1 × Entries ps qs
Entries [] (q ∷ qs) = ⊥
Entries (p ∷ ps) [] = ⊥

put_same : (k d e : Data) {ps qs : Pairs} → AreSame d e → AreSamePairs ps qs → AreSamePairs (put k d ps) (put k e qs)
put_same k d e h no_entries = entry k d e no_pairs no_pairs h no_entries
put_same k d e h (entry l a b ps qs g r) = go (equal_data k l) (put_same k d e h r)
  where
    go : (t : Bool) → AreSamePairs (put k d ps) (put k e qs)
        → AreSamePairs (cond t (pair_and l d ps) (pair_and l a (put k d ps))) (cond t (pair_and l e qs) (pair_and l b (put k e qs)))
    go true z = entry l d e ps qs h r
    go false z = entry l a b (put k d ps) (put k e qs) g z

pub all_same : (ps qs : Pairs) (more others : List (Data × Data)) → AreSamePairs ps qs → Entries more others
    → AreSamePairs (put_all ps more) (put_all qs others)
all_same ps qs [] [] h g = h
all_same ps qs [] (q ∷ others) h g = absurd g
all_same ps qs (p ∷ more) [] h g = absurd g
all_same ps qs (p ∷ more) (q ∷ others) h g =
    all_same (put p.0 p.1 ps) (put q.0 q.1 qs) more others (subst (λ k. AreSamePairs (put p.0 p.1 ps) (put k q.1 qs)) g.0 (put_same p.0 p.1 q.1 g.1 h)) g.2

module _ (c : Config) (x : Extensions) where
  -- data without raw texts is read back as its normal form
  mutual
    rawless : (d : Data) (level : ℕ) (lead : Text) → is_rawless d ≡ true → back c x level lead d ≡ norm_with c.number_suffixes d
    rawless (raw_of t) level lead e = absurd (cc)
    rawless (some_of d) level lead e = ap some_of (rawless d level [] e)
    rawless (list_of ds) level lead e = ap list_of
        (numbered_rawless ds (inner_level c.compact_arrays level) (spacing c c.compact_arrays level).first (spacing c c.compact_arrays level).between 0 e)
    rawless (tuple_of ds) level lead e = ap tuple_of (items_rawless ds (inner_level (not c.separate_tuple_members) level)
        (spacing c (not c.separate_tuple_members) level).first (spacing c (not c.separate_tuple_members) level).between e)
    rawless (tuple_struct_of name ds) level lead e = ap (tuple_struct_of name) (items_rawless ds (inner_level (not c.separate_tuple_members) level)
        (spacing c (not c.separate_tuple_members) level).first (spacing c (not c.separate_tuple_members) level).between e)
    rawless (map_of ps) level lead e = ap (λ qs. map_of (folded qs))
        (entries_rawless ps (inner_level c.compact_maps level) (spacing c c.compact_maps level).first (spacing c c.compact_maps level).between e)
    rawless (newtype_of name d) level lead e = ap (newtype_of name) (rawless d level (cond x.unwrap_newtypes lead []) e)
    rawless (struct_of name ds) level lead e = ap (struct_of name) (members_rawless ds (inner_level c.compact_structs level) e)
    rawless (newtype_variant_of name v d) level lead e = ap (newtype_variant_of name v) (rawless d level [] e)
    rawless (tuple_variant_of name v ds) level lead e = ap (tuple_variant_of name v) (items_rawless ds (inner_level (not c.separate_tuple_members) level)
        (spacing c (not c.separate_tuple_members) level).first (spacing c (not c.separate_tuple_members) level).between e)
    rawless (struct_variant_of name v ds) level lead e = ap (struct_variant_of name v) (members_rawless ds (inner_level c.compact_structs level) e)
    rawless (bool_of b) level lead e = refl
    rawless (int_of w n) level lead e = refl
    rawless (char_of a) level lead e = refl
    rawless (str_of t) level lead e = refl
    rawless (bytes_of bs) level lead e = refl
    rawless the_unit level lead e = refl
    rawless the_none level lead e = refl
    rawless (unit_struct_of name) level lead e = refl
    rawless (unit_variant_of name v) level lead e = refl
    rawless (value_of t) level lead e = refl

    numbered_rawless : (ds : Datas) (level : ℕ) (g h : Text) (k : ℕ) → are_rawless ds ≡ true
        → numbered_back c x level g h k ds ≡ norm_items_with c.number_suffixes ds
    numbered_rawless no_datas level g h k e = refl
    numbered_rawless (data_and d ds) level g h k e = let p = and_parts (is_rawless d) (are_rawless ds) e in
        ap₂ data_and (rawless d level (g ++ item_comment c level k) p.0) (numbered_rawless ds level h h (suc k) p.1)

    items_rawless : (ds : Datas) (level : ℕ) (g h : Text) → are_rawless ds ≡ true → items_back c x level g h ds ≡ norm_items_with c.number_suffixes ds
    items_rawless no_datas level g h e = refl
    items_rawless (data_and d ds) level g h e = let k = and_parts (is_rawless d) (are_rawless ds) e in
        ap₂ data_and (rawless d level g k.0) (items_rawless ds level h h k.1)

    entries_rawless : (ps : Pairs) (level : ℕ) (g h : Text) → pairs_rawless ps ≡ true → pairs_back c x level g h ps ≡ norm_pairs_with c.number_suffixes ps
    entries_rawless no_pairs level g h e = refl
    entries_rawless (pair_and a d ps) level g h e =
        let k = and_parts (is_rawless a) (is_rawless d && pairs_rawless ps) e in
        let l = and_parts (is_rawless d) (pairs_rawless ps) k.1 in
        ap₂ (λ p qs. p ∷ qs) (ap₂ (λ x y. (x, y)) (rawless a level g k.0) (rawless d level c.separator l.0)) (entries_rawless ps level h h l.1)

    members_rawless : (ds : Fields) (level : ℕ) → fields_rawless ds ≡ true → fields_back c x level ds ≡ norm_fields_with c.number_suffixes ds
    members_rawless no_fields level e = refl
    members_rawless (field_and name d ds) level e = let k = and_parts (is_rawless d) (fields_rawless ds) e in
        ap₂ (field_and name) (rawless d level c.separator k.0) (members_rawless ds level k.1)

  -- at the start of a text too
  rawless_first : (d : Data) (level : ℕ) → is_rawless d ≡ true → back_first c x level d ≡ norm_with c.number_suffixes d
  rawless_first (raw_of t) level e = absurd (cc)
  rawless_first (newtype_of name d) level e = ap (newtype_of name) (go x.unwrap_newtypes (rawless_first d level e))
    where
      go : (b : Bool) → back_first c x level d ≡ norm_with c.number_suffixes d
          → cond b (back_first c x level d) (back c x level [] d) ≡ norm_with c.number_suffixes d
      go true h = h
      go false h = rawless d level [] e
  rawless_first (bool_of b) level e = rawless (bool_of b) level [] e
  rawless_first (int_of w n) level e = rawless (int_of w n) level [] e
  rawless_first (char_of a) level e = rawless (char_of a) level [] e
  rawless_first (str_of t) level e = rawless (str_of t) level [] e
  rawless_first (bytes_of bs) level e = rawless (bytes_of bs) level [] e
  rawless_first the_unit level e = rawless the_unit level [] e
  rawless_first the_none level e = rawless the_none level [] e
  rawless_first (some_of d) level e = rawless (some_of d) level [] e
  rawless_first (unit_struct_of name) level e = rawless (unit_struct_of name) level [] e
  rawless_first (list_of ds) level e = rawless (list_of ds) level [] e
  rawless_first (tuple_of ds) level e = rawless (tuple_of ds) level [] e
  rawless_first (tuple_struct_of name ds) level e = rawless (tuple_struct_of name ds) level [] e
  rawless_first (map_of ps) level e = rawless (map_of ps) level [] e
  rawless_first (struct_of name ds) level e = rawless (struct_of name ds) level [] e
  rawless_first (unit_variant_of name v) level e = rawless (unit_variant_of name v) level [] e
  rawless_first (newtype_variant_of name v d) level e = rawless (newtype_variant_of name v d) level [] e
  rawless_first (tuple_variant_of name v ds) level e = rawless (tuple_variant_of name v ds) level [] e
  rawless_first (struct_variant_of name v ds) level e = rawless (struct_variant_of name v ds) level [] e
  rawless_first (value_of t) level e = rawless (value_of t) level [] e

  -- ---- the law

  module _ (gaps : AreGaps c) (schema : List Shape) where
    either : (u : Bool) (lead : Text) → Closed lead → Closed (cond u lead [])
    either true lead g = g
    either false lead g = none

    mutual
      pub back_same : (d : Data) (i level : ℕ) (lead : Text) → Closed lead → OfShape schema i d → has_plain_keys d ≡ true
          → AreSame (back c x level lead d) (norm_with c.number_suffixes d)
      back_same (raw_of t) i level lead g o e = let v = valid_value t o.1 in
          raws (trimmed (lead ++ t)) t (record { value = v.0; first = trimmed_value (lead ++ t) v.0 (lead_value lead t g v.0 v.1); second = v.1 })
      back_same (some_of d) i level lead g o e = in_some _ _ (back_same d o.0 level [] none o.2 e)
      back_same (list_of ds) i level lead g o e = let z = is_spacing c gaps c.compact_arrays level in
          in_list _ _ (all_back ds o.0 (inner_level c.compact_arrays level) (spacing c c.compact_arrays level).first (spacing c c.compact_arrays level).between
          0 z.first z.between o.2 e)
      back_same (tuple_of ds) i level lead g o e = let z = is_spacing c gaps (not c.separate_tuple_members) level in
          in_tuple _ _ (each_back ds o.0 (inner_level (not c.separate_tuple_members) level) (spacing c (not c.separate_tuple_members) level).first
          (spacing c (not c.separate_tuple_members) level).between z.first z.between o.2 e)
      back_same (tuple_struct_of name ds) i level lead g o e = let z = is_spacing c gaps (not c.separate_tuple_members) level in
          in_tuple_struct name _ _ (each_back ds o.0 (inner_level (not c.separate_tuple_members) level) (spacing c (not c.separate_tuple_members) level).first
          (spacing c (not c.separate_tuple_members) level).between z.first z.between o.2 e)
      back_same (map_of ps) i level lead g o e = let z = is_spacing c gaps c.compact_maps level in
          in_map _ _ (all_same no_pairs no_pairs _ (norm_pairs_with c.number_suffixes ps) no_entries (pairs_back_same ps o.0 o.1
          (inner_level c.compact_maps level) (spacing c c.compact_maps level).first (spacing c c.compact_maps level).between z.first z.between o.3 e))
      back_same (newtype_of name d) i level lead g o e =
          in_newtype name _ _ (back_same d o.0 level (cond x.unwrap_newtypes lead []) (either x.unwrap_newtypes lead g) o.2 e)
      back_same (struct_of name ds) i level lead g o e = in_struct name _ _ (fields_back_same ds o.0.fields (inner_level c.compact_structs level) o.3 e)
      back_same (newtype_variant_of name v d) i level lead g o e = in_newtype_variant name v _ _ (back_same d o.0 level [] none o.2 e)
      back_same (tuple_variant_of name v ds) i level lead g o e = let z = is_spacing c gaps (not c.separate_tuple_members) level in
          in_tuple_variant name v _ _ (each_back ds o.0 (inner_level (not c.separate_tuple_members) level)
          (spacing c (not c.separate_tuple_members) level).first (spacing c (not c.separate_tuple_members) level).between z.first z.between o.2 e)
      back_same (struct_variant_of name v ds) i level lead g o e =
          in_struct_variant name v _ _ (fields_back_same ds o.0.fields (inner_level c.compact_structs level) o.3 e)
      back_same (bool_of b) i level lead g o e = itself _
      back_same (int_of w n) i level lead g o e = itself _
      back_same (char_of a) i level lead g o e = itself _
      back_same (str_of t) i level lead g o e = itself _
      back_same (bytes_of bs) i level lead g o e = itself _
      back_same the_unit i level lead g o e = itself _
      back_same the_none i level lead g o e = itself _
      back_same (unit_struct_of name) i level lead g o e = itself _
      back_same (unit_variant_of name v) i level lead g o e = itself _
      back_same (value_of t) i level lead g o e = itself _

      all_back : (ds : Datas) (j level : ℕ) (g h : Text) (k : ℕ) → Closed g → Closed h → AllOfShape schema j ds → have_plain_keys ds ≡ true
          → AreSameItems (numbered_back c x level g h k ds) (norm_items_with c.number_suffixes ds)
      all_back no_datas j level g h k cg ch o e = no_items
      all_back (data_and d ds) j level g h k cg ch o e = let p = and_parts (has_plain_keys d) (have_plain_keys ds) e in
          item _ _ _ _ (back_same d j level (g ++ item_comment c level k) (closed_append cg (closed_comment c level k)) o.0 p.0)
          (all_back ds j level h h (suc k) ch ch o.1 p.1)

      each_back : (ds : Datas) (js : List ℕ) (level : ℕ) (g h : Text) → Closed g → Closed h → EachOfShape schema js ds → have_plain_keys ds ≡ true
          → AreSameItems (items_back c x level g h ds) (norm_items_with c.number_suffixes ds)
      each_back no_datas js level g h cg ch o e = no_items
      each_back (data_and d ds) [] level g h cg ch o e = absurd o
      each_back (data_and d ds) (j ∷ js) level g h cg ch o e = let k = and_parts (has_plain_keys d) (have_plain_keys ds) e in
          item _ _ _ _ (back_same d j level g cg o.0 k.0) (each_back ds js level h h ch ch o.1 k.1)

      pairs_back_same : (ps : Pairs) (a v level : ℕ) (g h : Text) → Closed g → Closed h → PairsOfShape schema a v ps → pairs_have_plain_keys ps ≡ true
          → Entries (pairs_back c x level g h ps) (norm_pairs_with c.number_suffixes ps)
      pairs_back_same no_pairs a v level g h cg ch o e = tt
      pairs_back_same (pair_and key d ps) a v level g h cg ch o e =
          let k = and_parts (is_rawless key) (has_plain_keys d && pairs_have_plain_keys ps) e in
          let l = and_parts (has_plain_keys d) (pairs_have_plain_keys ps) k.1 in
          (rawless key level g k.0, back_same d v level c.separator gaps.separator o.1 l.0, pairs_back_same ps a v level h h ch ch o.2 l.1)

      fields_back_same : (ds : Fields) (fields : List Field) (level : ℕ) → OfFields schema fields ds → fields_have_plain_keys ds ≡ true
          → AreSameFields (fields_back c x level ds) (norm_fields_with c.number_suffixes ds)
      fields_back_same no_fields fields level o e = no_members
      fields_back_same (field_and name d ds) fields level o e = let k = and_parts (has_plain_keys d) (fields_have_plain_keys ds) e in
          member name _ _ _ _ (back_same d o.0.shape level c.separator gaps.separator o.2 k.0) (fields_back_same ds fields level o.3 k.1)

    -- at the start of a text too
    pub first_same : (d : Data) (i level : ℕ) → OfShape schema i d → has_plain_keys d ≡ true → AreSame (back_first c x level d) (norm_with c.number_suffixes d)
    first_same (raw_of t) i level o e = itself (raw_of t)
    first_same (newtype_of name d) i level o e = go x.unwrap_newtypes (first_same d o.0 level o.2 e)
      where
        go : (b : Bool) → AreSame (back_first c x level d) (norm_with c.number_suffixes d)
            → AreSame (newtype_of name (cond b (back_first c x level d) (back c x level [] d))) (newtype_of name (norm_with c.number_suffixes d))
        go true h = in_newtype name _ _ h
        go false h = in_newtype name _ _ (back_same d o.0 level [] none o.2 e)
    first_same (bool_of a) i level o e = back_same (bool_of a) i level [] none o e
    first_same (int_of w n) i level o e = back_same (int_of w n) i level [] none o e
    first_same (char_of a) i level o e = back_same (char_of a) i level [] none o e
    first_same (str_of t) i level o e = back_same (str_of t) i level [] none o e
    first_same (bytes_of bs) i level o e = back_same (bytes_of bs) i level [] none o e
    first_same the_unit i level o e = back_same the_unit i level [] none o e
    first_same the_none i level o e = back_same the_none i level [] none o e
    first_same (some_of d) i level o e = back_same (some_of d) i level [] none o e
    first_same (unit_struct_of name) i level o e = back_same (unit_struct_of name) i level [] none o e
    first_same (list_of ds) i level o e = back_same (list_of ds) i level [] none o e
    first_same (tuple_of ds) i level o e = back_same (tuple_of ds) i level [] none o e
    first_same (tuple_struct_of name ds) i level o e = back_same (tuple_struct_of name ds) i level [] none o e
    first_same (map_of ps) i level o e = back_same (map_of ps) i level [] none o e
    first_same (struct_of name ds) i level o e = back_same (struct_of name ds) i level [] none o e
    first_same (unit_variant_of name v) i level o e = back_same (unit_variant_of name v) i level [] none o e
    first_same (newtype_variant_of name v d) i level o e = back_same (newtype_variant_of name v d) i level [] none o e
    first_same (tuple_variant_of name v ds) i level o e = back_same (tuple_variant_of name v ds) i level [] none o e
    first_same (struct_variant_of name v ds) i level o e = back_same (struct_variant_of name v ds) i level [] none o e
    first_same (value_of t) i level o e = back_same (value_of t) i level [] none o e

    -- ---- what a layout is read back as

    pub back_with : (d : Data) (i level : ℕ) (lead : Text) → Closed lead → OfShape schema i d → IsReadBackWith c.number_suffixes d (back c x level lead d)
    back_with d i level lead g o = record { same = back_same d i level lead g o; equal = rawless d level lead }

    pub first_with : (d : Data) (i level : ℕ) → OfShape schema i d → IsReadBackWith c.number_suffixes d (back_first c x level d)
    first_with d i level o = record { same = first_same d i level o; equal = rawless_first d level }
