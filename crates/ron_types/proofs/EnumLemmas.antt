-- Data of a variant is of its enum's schema.
use Rattle.std.proofs.Common.{◌≡◌, ℕ, Bool, true, false, cond, List, [], ◌∷◌, ◌++◌, Some, option_map, find, refl, sym, ap, subst, ◌∙◌}
use Rattle.ron_spec_words.specs.Characters.{Text}
use Rattle.ron_spec_words.specs.Runs.{same_text}
use Rattle.ron_spec_grammar.specs.Data.{Data, unit_variant_of, newtype_variant_of, tuple_variant_of, struct_variant_of, datas}
use Rattle.ron_spec_grammar.specs.Schema.{Shape, enum, only, Variant, is_variant, variant_named, names_differ, OfShape, EachOfShape}
use Rattle.ron_data_schema.specs.Table.{Table}
use Rattle.ron_types.specs.OfTables.{IsOfOrdered, EachIsOf, fields_with, holding_of}
use Rattle.ron_types.specs.Tables.{put_all, root_in, roots_in, Holding, nothing, one, several, fields, parts_of, held_in, put_variants, variants_in, enum_table}
use Rattle.ron_types.specs.Tables.{Named, tables_of, fields_at}
use Rattle.ron_types.proofs.ListLemmas.{get_last}
use Rattle.ron_types.proofs.MoveLemmas.{of_grown, of_put}
use Rattle.ron_types.proofs.TypeLemmas.{of_put_all, each_put, finds_each, in_order-with, fields_are_of, roots_for, data_for, ordered_for}

of_put_variants : (vs : List (Text × Holding)) (shapes : List Shape) (i : ℕ) (d : Data) → OfShape shapes i d → OfShape (put_variants shapes vs) i d
of_put_variants [] shapes i d h = h
of_put_variants (v ∷ vs) shapes i d h = of_put_variants vs (put_all shapes (parts_of v.1)) i d (of_put_all (parts_of v.1) shapes i d h)

-- Behind some of the shapes the variant's parts stand, and what is of a shape there is of it in the end.
record Stands (name : Text) (h : Holding) (shapes : List Shape) (vs : List (Text × Holding)) : Type 0 where
  front : List Shape
  named : variant_named name (variants_in shapes vs) ≡ Some (held_in front h)
  grows : (i : ℕ) (d : Data) → OfShape (put_all front (parts_of h)) i d → OfShape (put_variants shapes vs) i d

stands_among : (name : Text) (h : Holding) (vs : List (Text × Holding)) (shapes : List Shape) → holding_of name vs ≡ Some h → Stands name h shapes vs
stands_among name h [] shapes e = absurd (cc)
stands_among name h (v ∷ vs) shapes e = go (same_text v.0 name) refl e (λ k. stands_among name h vs (put_all shapes (parts_of v.1)) k)
  where
    first : List Variant
    first = variants_in (put_all shapes (parts_of v.1)) vs

    go : (b : Bool) → same_text v.0 name ≡ b → option_map (λ (w : Text × Holding). w.1) (cond b (Some v) (find (λ w. same_text w.0 name) vs)) ≡ Some h
        → (holding_of name vs ≡ Some h → Stands name h (put_all shapes (parts_of v.1)) vs) → Stands name h shapes (v ∷ vs)
    go true k q later =
        let same : v.1 ≡ h = cc in
        record {
          front = shapes;
          named = ap (λ b. option_map (λ (w : Variant). w.content)
              (cond b (Some (record { name = v.0; content = held_in shapes v.1 })) (find (is_variant name) first))) k ∙ ap (λ g. Some (held_in shapes g)) same;
          grows = λ i d g. of_put_variants vs (put_all shapes (parts_of v.1)) i d
              (let P : Holding → Type 0 = λ g. OfShape (put_all shapes (parts_of g)) i d in subst P (sym same) g);
        }
    go false k q later =
        let rest = later q in
        record {
          front = rest.front;
          named = ap (λ b. option_map (λ (w : Variant). w.content)
              (cond b (Some (record { name = v.0; content = held_in shapes v.1 })) (find (is_variant name) first))) k ∙ rest.named;
          grows = rest.grows;
        }

module _ (enum_name : Text) (vs : List (Text × Holding)) (name : Text) where
  abbrev top : Shape
  top = enum enum_name (variants_in [] vs)

  abbrev all : List Shape
  all = put_variants [] vs

  pub unit_variant_is_of : holding_of name vs ≡ Some nothing → IsOfOrdered (enum_table enum_name vs) (unit_variant_of enum_name name)
  unit_variant_is_of e o = (variants_in [] vs, get_last all top, (stands_among name nothing vs [] e).named)

  pub newtype_variant_is_of : (t : Table) (d : Data) → holding_of name vs ≡ Some (one t) → IsOfOrdered t d
      → IsOfOrdered (enum_table enum_name vs) (newtype_variant_of enum_name name d)
  newtype_variant_is_of t d e h o =
      let s = stands_among name (one t) vs [] e in (
        root_in s.front t,
        (variants_in [] vs, get_last all top, s.named),
        of_grown all (top ∷ []) (root_in s.front t) d (s.grows (root_in s.front t) d (of_put s.front t d (h o))),
      )

  each_grows : (front : List Shape) (ts : List Table) → ((i : ℕ) (d : Data) → OfShape (put_all front ts) i d → OfShape all i d) → (js : List ℕ) (ds : List Data)
      → EachOfShape (put_all front ts) js (datas ds) → EachOfShape (all ++ top ∷ []) js (datas ds)
  each_grows front ts grows [] [] h = tt
  each_grows front ts grows (j ∷ js) (d ∷ ds) h = (of_grown all (top ∷ []) j d (grows j d h.0), each_grows front ts grows js ds h.1)
  each_grows front ts grows [] (d ∷ ds) h = absurd h
  each_grows front ts grows (j ∷ js) [] h = absurd h

  pub tuple_variant_is_of : (ts : List Table) (ds : List Data) → holding_of name vs ≡ Some (several ts) → EachIsOf ts ds
      → IsOfOrdered (enum_table enum_name vs) (tuple_variant_of enum_name name (datas ds))
  tuple_variant_is_of ts ds e h o =
      let s = stands_among name (several ts) vs [] e in
      (roots_in s.front ts, (variants_in [] vs, get_last all top, s.named), each_grows s.front ts s.grows (roots_in s.front ts) ds (each_put s.front ts ds h o))

  pub struct_variant_is_of : (ps : List Named) (ds : List Data) → holding_of name vs ≡ Some (fields ps)
      → ((js : List ℕ) → names_differ (fields_at ps js) ≡ true) → EachIsOf (tables_of ps) ds
      → IsOfOrdered (enum_table enum_name vs) (struct_variant_of enum_name name (fields_with ps ds))
  struct_variant_is_of ps ds e distinct h o =
      let s = stands_among name (fields ps) vs [] e in
      let js = roots_in s.front (tables_of ps) in
      let each = each_grows s.front (tables_of ps) s.grows js ds (each_put s.front (tables_of ps) ds h (ordered_for ps ds h o)) in (
        only (fields_at ps js),
        (variants_in [] vs, get_last all top, s.named),
        in_order-with ps js ds (roots_for s.front ps) (data_for ps ds h),
        fields_are_of (all ++ top ∷ []) (fields_at ps js) ps js ds (finds_each (fields_at ps js) (distinct js)) each (roots_for s.front ps),
      )
