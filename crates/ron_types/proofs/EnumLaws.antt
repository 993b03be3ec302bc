-- Enums accept all data of their schemas where what their variants hold does.
use Rattle.std.proofs.Common.{◌≡◌, ℕ, ◌≤◌, Bool, true, false, not, cond, List, [], ◌∷◌, ◌++◌, map, length, Some, find, option_map, slice_get, chars}
use Rattle.std.proofs.Common.{string_bytes, refl, sym, ap, subst, ◌∙◌, arith, rules}
use Rattle.std.specs.List.{list_all, list_any}
use Rattle.std.proofs.lemmas.Bool.{and_from, and_parts, or_parts}
use borrow.Author.Tests.{lt-ltb}
use Rattle.ron_spec_words.specs.Characters.{Text}
use Rattle.ron_spec_words.specs.Runs.{same_text}
use Rattle.ron_spec_grammar.specs.Schema.{Shape, enum, only, Variant, VariantShape, unit_variant, newtype_variant, tuple_variant, struct_variant, is_variant}
use Rattle.ron_spec_grammar.specs.Schema.{variant_named, all_differ, variants_differ, variant_below, variant_has_distinct_names, names_of, in_order, HasVariant}
use Rattle.ron_spec_grammar.specs.Schema.{OfShape, EachOfShape, OfFields}
use Rattle.ron_data.specs.declared.data.Data.{Data, out-Data, the_lemmas}
use Rattle.ron_data.specs.declared.data.Data.TheFolds.{map-VariantData, fold_out-VariantData}
use Rattle.ron_data.specs.declared.data.Data.TheOpen.{Data-F, VariantData-F}
use Rattle.ron_data.specs.declared.data.Data.TheVariants as held
use Rattle.ron_data.specs.declared.data.VariantData.{VariantData, out-VariantData}
use Rattle.ron_data.specs.declared.data.VariantData.TheVariants as content
use Rattle.ron_data.specs.Datum.{Content, no_content, one_of, items_of, named_of, variant_of, view_step, content_step, data_view, content_view}
use Rattle.ron_spec_grammar.specs.Data as plain
use Rattle.ron_data_schema.specs.Table.{Table}
use Rattle.ron_types.specs.Accepts.{HoldsNothing, HoldsOne, HoldsItems, HoldsFields}
use Rattle.ron_types.specs.FieldNames.{Field}
use Rattle.ron_types.specs.Kinds.{Kind, unit, newtype, tuple, named, Kinds, holding, holdings, names_in, table_of_enum, Holds, HeldBy, OneOr, IsOneOf}
use Rattle.ron_types.specs.Lists.{Each}
use Rattle.ron_types.specs.OfTables.{IsOf}
use Rattle.ron_types.specs.Rows.{AreNames, named_tables}
use Rattle.ron_types.specs.Tables.{put_all, roots_in, root_in, tables_of, fields_at, parts_of, held_in, put_variants, variants_in, is_closed}
use Rattle.ron_types.proofs.ClosedLemmas.{topped_well_formed}
use Rattle.ron_types.proofs.KindLemmas.{with_accepted, holds-Unit, holds-Newtype, holds-Tuple, holds-Struct}
use Rattle.ron_types.proofs.ListLemmas.{get_last}
use Rattle.ron_types.proofs.RowLemmas.{tables_named, fields_differ, fields_in_range}
use Rattle.ron_types.proofs.TypeLemmas.{finds_each}
use Rattle.ron_types.specs.Laws.{AcceptsAll, AcceptsItems, AcceptsFields, AcceptsKind, AcceptsEach, IsFormed}
use Rattle.ron_types.proofs.OutlineLaws.{outline_in, seen, whole_accepts}
use Rattle.ron_types.proofs.PartLaws.{of_part, root_within}
use Rattle.ron_types.proofs.RowLaws.{behind, all_closed, all_grown, all_within, items_of_parts, fields_of_parts, in_turn}

-- ---- the schema is well formed

kind_formed : (k : Kind) → AcceptsKind k → Each IsFormed (parts_of (holding k))
kind_formed unit all = tt
kind_formed (newtype t P f) all = (all.formed, tt)
kind_formed (tuple ts P fs) all = all.formed
kind_formed (named names ts P fs) all = subst (Each IsFormed) (sym (tables_named names ts all.0.as_many)) all.1.formed

kind_within : (shapes : List Shape) (k : Kind) → AcceptsKind k → (n : ℕ) → length (put_all shapes (parts_of (holding k))) ≤ n
    → variant_below n (held_in shapes (holding k)) ≡ true
kind_within shapes unit all n le = refl
kind_within shapes (newtype t P f) all n le = lt-ltb (root_in shapes t) n (omega (arith, root_within shapes t all.formed, le))
kind_within shapes (tuple ts P fs) all n le = all_within shapes ts all.formed n le
kind_within shapes (named names ts P fs) all n le =
    let us = tables_of (named_tables names ts) in
    fields_in_range n names ts (roots_in shapes us) (all_within shapes us (kind_formed (named names ts P fs) all) n le)

kind_distinct : (shapes : List Shape) (k : Kind) → AcceptsKind k → variant_has_distinct_names (held_in shapes (holding k)) ≡ true
kind_distinct shapes unit all = refl
kind_distinct shapes (newtype t P f) all = refl
kind_distinct shapes (tuple ts P fs) all = refl
kind_distinct shapes (named names ts P fs) all = fields_differ names ts (roots_in shapes (tables_of (named_tables names ts))) all.0.differ

-- the shapes behind those of the first variant
abbrev behind_first : List Shape → Kind → List Shape
behind_first shapes k = put_all shapes (parts_of (holding k))

variants_closed : (shapes : List Shape) (ks : Kinds) → is_closed shapes ≡ true → AcceptsEach ks → is_closed (put_variants shapes (holdings ks)) ≡ true
variants_closed shapes [] closed all = closed
variants_closed shapes (k ∷ ks) closed all =
    variants_closed (behind_first shapes k.1) ks (all_closed shapes (parts_of (holding k.1)) closed (kind_formed k.1 all.0)) all.1

variants_grown : (shapes : List Shape) (ks : Kinds) → length shapes ≤ length (put_variants shapes (holdings ks))
variants_grown shapes [] = omega arith
variants_grown shapes (k ∷ ks) = omega (arith, all_grown shapes (parts_of (holding k.1)), variants_grown (behind_first shapes k.1) ks)

variants_within : (shapes : List Shape) (ks : Kinds) → AcceptsEach ks → (n : ℕ) → length (put_variants shapes (holdings ks)) ≤ n
    → list_all (λ (w : Variant). variant_below n w.content) (variants_in shapes (holdings ks)) ≡ true
variants_within shapes [] all n le = refl
variants_within shapes (k ∷ ks) all n le =
    let mid = behind_first shapes k.1 in
    and_from _ _ (kind_within shapes k.1 all.0 n (omega (arith, variants_grown mid ks, le))) (variants_within mid ks all.1 n le)

contents_distinct : (shapes : List Shape) (ks : Kinds) → AcceptsEach ks
    → list_all (λ (w : Variant). variant_has_distinct_names w.content) (variants_in shapes (holdings ks)) ≡ true
contents_distinct shapes [] all = refl
contents_distinct shapes (k ∷ ks) all = and_from _ _ (kind_distinct shapes k.1 all.0) (contents_distinct (behind_first shapes k.1) ks all.1)

any_called : (name : Text) (shapes : List Shape) (ks : Kinds) → list_any (λ t. same_text t name) (map chars (names_in ks)) ≡ false
    → list_any (is_variant name) (variants_in shapes (holdings ks)) ≡ false
any_called name shapes [] h = refl
any_called name shapes (k ∷ ks) h =
    let p = or_parts (same_text (chars k.0) name) (list_any (λ t. same_text t name) (map chars (names_in ks))) h in
    rw (p.0) (any_called name (behind_first shapes k.1) ks p.1)

names_distinct : (shapes : List Shape) (ks : Kinds) → all_differ (map chars (names_in ks)) ≡ true → variants_differ (variants_in shapes (holdings ks)) ≡ true
names_distinct shapes [] h = refl
names_distinct shapes (k ∷ ks) h =
    let p = and_parts (not (list_any (λ t. same_text t (chars k.0)) (map chars (names_in ks)))) (all_differ (map chars (names_in ks))) h in
    and_from _ _ (ap not (any_called (chars k.0) (behind_first shapes k.1) ks (not_true _ p.0))) (names_distinct (behind_first shapes k.1) ks p.1)
  where
    not_true : (b : Bool) → not b ≡ true → b ≡ false
    not_true true e = sym e
    not_true false e = refl

-- ---- what a variant holds

-- content is of a variant's shape
abbrev ContentOf : List Shape → VariantShape → Content → Type 0
ContentOf shapes unit_variant no_content = Unit {0}
ContentOf shapes (newtype_variant j) (one_of d) = OfShape shapes j d
ContentOf shapes (tuple_variant js) (items_of ds) = EachOfShape shapes js ds
ContentOf shapes (struct_variant list) (named_of fs) = (in_order list.fields (names_of fs) ≡ true) × OfFields shapes list.fields fs
ContentOf shapes _ _ = ⊥

content_of : (shapes : List Shape) (i : ℕ) (name v : Text) (c : Content) → OfShape shapes i (variant_of name v c)
    → (s : VariantShape) × HasVariant shapes i name v s × ContentOf shapes s c
content_of shapes i name v no_content h = (unit_variant, h, tt)
content_of shapes i name v (one_of d) h = (newtype_variant h.0, h.1, h.2)
content_of shapes i name v (items_of ds) h = (tuple_variant h.0, h.1, h.2)
content_of shapes i name v (named_of fs) h = (struct_variant h.0, h.1, (h.2, h.3))

-- one level of content of code
abbrev seen_content : VariantData-F Data VariantData → Content
seen_content o = content_step (map-VariantData Data VariantData plain.Data Content data_view content_view o)

content_seen : (c : VariantData) → content_view c ≡ seen_content (out-VariantData c)
content_seen c = fold_out-VariantData plain.Data Content view_step content_step c

module _ (shapes rest : List Shape) where
  holds_unit : (c : VariantData) (o : VariantData-F Data VariantData) → out-VariantData c ≡ o → ContentOf (shapes ++ rest) unit_variant (seen_content o)
      → HoldsNothing c
  holds_unit c VariantData-F.VariantData::Unit at h = let is : c ≡ content.Unit = search (rules, the_lemmas) in subst HoldsNothing (sym is) holds-Unit
  holds_unit c o at h = absurd h

  holds_newtype : (t : Table) (P : Data → Type 0) → AcceptsAll t P → (c : VariantData) (o : VariantData-F Data VariantData) → out-VariantData c ≡ o
      → ContentOf (put_all shapes (t ∷ []) ++ rest) (newtype_variant (root_in shapes t)) (seen_content o) → HoldsOne P c
  holds_newtype t P all c (VariantData-F.VariantData::Newtype d) at h =
      let is : c ≡ content.Newtype d = search (rules, the_lemmas) in
      subst (HoldsOne P) (sym is) (holds-Newtype P d (all.accepted d.value (of_part shapes t rest all.formed (data_view d.value) h)))
  holds_newtype t P all c o at h = absurd h

  holds_items : (ts : List Table) (P : List Data → Type 0) → AcceptsItems ts P → (c : VariantData) (o : VariantData-F Data VariantData) → out-VariantData c ≡ o
      → ContentOf (put_all shapes ts ++ rest) (tuple_variant (roots_in shapes ts)) (seen_content o) → HoldsItems P c
  holds_items ts P all c (VariantData-F.VariantData::Tuple ds) at h =
      let is : c ≡ content.Tuple ds = search (rules, the_lemmas) in
      subst (HoldsItems P) (sym is) (holds-Tuple P ds (all.accepted ds.items (items_of_parts shapes ts rest all.formed ds.items h)))
  holds_items ts P all c o at h = absurd h

  holds_fields : (names : List (List ℕ)) (ts : List Table) (P : List (List ℕ) → List Field → Type 0) → AreNames names ts → AcceptsFields ts P
      → (c : VariantData) (o : VariantData-F Data VariantData) → out-VariantData c ≡ o
      → ContentOf (put_all shapes ts ++ rest) (struct_variant (only (fields_at (named_tables names ts) (roots_in shapes ts)))) (seen_content o)
      → HoldsFields (P names) c
  holds_fields names ts P are all c (VariantData-F.VariantData::Struct fs) at h =
      let fields = fields_at (named_tables names ts) (roots_in shapes ts) in
      let is : c ≡ content.Struct fs = search (rules, the_lemmas) in
      let k = subst (λ ds. ContentOf (put_all shapes ts ++ rest) (struct_variant (only fields)) (named_of ds)) (in_turn fs.items) h in
      let parts = fields_of_parts fields rest names shapes ts are.as_many all.formed
      (finds_each fields (fields_differ names ts (roots_in shapes ts) are.differ)) fs.items k.0 k.1 in
      subst (HoldsFields (P names)) (sym is) (holds-Struct (P names) fs (all.accepted names fs.items parts))
  holds_fields names ts P are all c o at h = absurd h

  holds : (k : Kind) → AcceptsKind k → (c : VariantData)
      → ContentOf (behind_first shapes k ++ rest) (held_in shapes (holding k)) (seen_content (out-VariantData c)) → Holds k c
  holds unit all c h = holds_unit c (out-VariantData c) refl h
  holds (newtype t P f) all c h = holds_newtype t P all c (out-VariantData c) refl h
  holds (tuple ts P fs) all c h = holds_items ts P all c (out-VariantData c) refl h
  holds (named names ts P fs) all c h =
      holds_fields names ts P all.0 all.1 c (out-VariantData c) refl
      (subst (λ us. ContentOf (put_all shapes us ++ rest) (struct_variant (only (fields_at (named_tables names ts) (roots_in shapes us))))
      (seen_content (out-VariantData c))) (tables_named names ts all.0.as_many) h)

-- ---- the variants

-- the first shapes stand there still
behind_variants : (shapes : List Shape) (ks : Kinds) (more : List Shape) → (rest : List Shape) × (put_variants shapes (holdings ks) ++ more ≡ shapes ++ rest)
behind_variants shapes [] more = (more, refl)
behind_variants shapes (k ∷ ks) more =
    let later = behind_variants (behind_first shapes k.1) ks more in
    let first = behind shapes (parts_of (holding k.1)) later.0 in
    (first.0, later.1 ∙ first.1)

held_by : (shapes : List Shape) (ks : Kinds) (more : List Shape) → AcceptsEach ks → (v : Text) (s : VariantShape)
    → variant_named v (variants_in shapes (holdings ks)) ≡ Some s
    → (c : VariantData) → ContentOf (put_variants shapes (holdings ks) ++ more) s (seen_content (out-VariantData c)) → HeldBy ks v c
held_by shapes [] more all v s e c h = absurd (cc)
held_by shapes (k ∷ ks) more all v s e c h = go (same_text (chars k.0) v) e (λ q. held_by (behind_first shapes k.1) ks more all.1 v s q c h)
  where
    first : Variant
    first = record { name = chars k.0; content = held_in shapes (holding k.1) }

    go : (b : Bool)
        → option_map (λ (w : Variant). w.content) (cond b (Some first) (find (is_variant v) (variants_in (behind_first shapes k.1) (holdings ks)))) ≡ Some s
        → (variant_named v (variants_in (behind_first shapes k.1) (holdings ks)) ≡ Some s → HeldBy ks v c) → OneOr b (Holds k.1 c) (HeldBy ks v c)
    go true q later =
        let same : s ≡ held_in shapes (holding k.1) = cc in
        let b = behind_variants (behind_first shapes k.1) ks more in
        let there =
        subst (λ (s : VariantShape). ContentOf (put_variants (behind_first shapes k.1) (holdings ks) ++ more) s (seen_content (out-VariantData c))) same h in
        holds shapes b.0 k.1 all.0 c (subst (λ all. ContentOf all (held_in shapes (holding k.1)) (seen_content (out-VariantData c))) b.1 there)
    go false q later = later q

-- ---- enums

module _ (name : List ℕ) (ks : Kinds) (differ : all_differ (map chars (names_in ks)) ≡ true) (all : AcceptsEach ks) where
  abbrev enum_shapes : List Shape
  enum_shapes = put_variants [] (holdings ks)

  abbrev enum_top : Shape
  enum_top = enum (chars name) (variants_in [] (holdings ks))

  enum_formed : IsFormed (table_of_enum name ks)
  enum_formed = topped_well_formed enum_shapes enum_top (variants_closed [] ks refl all) (record {
    in_range = variants_within [] ks all (length enum_shapes) (omega arith);
    distinct = and_from _ _ (names_distinct [] ks differ) (contents_distinct [] ks all);
    whole = refl;
  })

  enum_accepts : (d : Data) (o : Data-F Data VariantData) → out-Data d ≡ o → enum (chars name) [] ≡ outline_in o → IsOf (table_of_enum name ks) (seen o)
      → IsOneOf name ks d
  enum_accepts d (Data-F.Variant f v c) at e h =
      let table = table_of_enum name ks in
      let k = content_of table.shapes table.root (chars (string_bytes f)) (chars (string_bytes v)) (content_view c) h in
      let last : slice_get table.shapes table.root ≡ Some enum_top = get_last enum_shapes enum_top in
      let stands : slice_get table.shapes table.root ≡ Some (enum (chars (string_bytes f)) k.1.0) = k.1.1 in
      let same : k.1.0 ≡ variants_in [] (holdings ks) = cc in
      let called : chars (string_bytes f) ≡ chars name = cc in
      let is : d ≡ held.Variant f v c = search (rules, the_lemmas) in
      let found = subst (λ vs. variant_named (chars (string_bytes v)) vs ≡ Some k.0) same k.1.2 in
      let of = subst (λ s. ContentOf table.shapes k.0 s) (content_seen c) k.2 in
      with_accepted (chars name) (chars (string_bytes v)) c d (record { enum = f; own = v; is = is; enum_is = called; own_is = refl }) (HeldBy ks)
      (held_by [] ks (enum_top ∷ []) all (chars (string_bytes v)) k.0 found c of)
  enum_accepts d o at e h = absurd (cc)

  pub enums : AcceptsAll (table_of_enum name ks) (IsOneOf name ks)
  enums = whole_accepts (table_of_enum name ks) enum_top (IsOneOf name ks) enum_formed (get_last enum_shapes enum_top) enum_accepts
