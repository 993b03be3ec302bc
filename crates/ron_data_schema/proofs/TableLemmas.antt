-- Tests over a table and its lists of fields, seen through their views: for `Schema::new` and the calls on a schema.
use Rattle.std.proofs.Common.{◌≡◌, ◌<◌, ◌≤◌, ℕ, Bool, true, false, not, ◌||◌, ◌&&◌, nat_lt, List, [], ◌∷◌, map, refl, ap, sym, ◌∙◌, length, get_or, option_map}
use Rattle.std.proofs.Common.{Option, Some, None, slice_get, String, Global, arith}
use Rattle.std.specs.List.{list_any, list_all}
use Rattle.std.specs.Option.{option_and_then}
use Rattle.std.proofs.lemmas.List.{length-map}
use Rattle.std.proofs.lemmas.List.Folds.{list_all-map}
use Rattle.std.proofs.lemmas.Option.{slice_get-map, slice_get_read}
use Rattle.std.proofs.lemmas.Bool.{and_parts}
use borrow.Author.Tests.{ltb-true}
use Rattle.ron_spec_grammar.specs.Schema as plain
use Rattle.ron_spec_grammar.specs.Schema.{is_in_range, is_well_formed, has_no_cycle, ends_within, content_of, content_at, holds_below, variant_below}
use Rattle.ron_spec_grammar.specs.Schema.{has_distinct_names, variant_has_distinct_names, has_whole_range}
use Rattle.ron_spec_grammar.specs.Room.{rank, chain, longest_of}
use Rattle.ron_spec_grammar.proofs.Finding.{all_get}
use Rattle.ron_data_schema.specs.declared.schema.Shape.{Shape}
use Rattle.ron_data_schema.specs.declared.schema.FieldShape.{FieldShape}
use Rattle.ron_data_schema.specs.declared.schema.VariantShape.{VariantShape}
use Rattle.ron_data_schema.specs.Chains.{HoldsIndices, is_of_length}
use Rattle.ron_data_schema.specs.Shapes.{field_view, content_view, variant_view, shape_view, table_view, IsOneLonger}
use Rattle.ron_data_schema.proofs.ChainLemmas.{content_below, one_longer, has_cycle, no_cycle, rank_is}

pub list_any-map : {X Y : Type 0} (p : X → Bool) (h : Y → X) (ys : List Y) → list_any p (map h ys) ≡ list_any (λ y. p (h y)) ys
list_any-map p h [] = refl
list_any-map p h (y ∷ ys) = ap (λ b. p (h y) || b) (list_any-map p h ys)

pub all_below-view : (n : ℕ) (fields : List FieldShape)
    → list_all (λ (f : plain.Field). nat_lt f.shape n) (map field_view fields) ≡ list_all (λ (f : FieldShape). nat_lt f.shape n) fields
all_below-view n fields = list_all-map (λ (f : plain.Field). nat_lt f.shape n) field_view fields

pub variants_below-view : (n : ℕ) (variants : List (String Global × VariantShape))
    → list_all (λ (v : plain.Variant). variant_below n v.content) (map variant_view variants) ≡ list_all (λ v. variant_below n (content_view v.1)) variants
variants_below-view n variants = list_all-map (λ (v : plain.Variant). variant_below n v.content) variant_view variants

pub distinct_fields-view : (variants : List (String Global × VariantShape)) → list_all (λ (v : plain.Variant). variant_has_distinct_names v.content)
    (map variant_view variants) ≡ list_all (λ v. variant_has_distinct_names (content_view v.1)) variants
distinct_fields-view variants = list_all-map (λ (v : plain.Variant). variant_has_distinct_names v.content) variant_view variants

pub in_range-view : (shapes : List Shape) (root : ℕ)
    → is_in_range (table_view shapes) root ≡ (nat_lt root (length shapes) && list_all (λ s. holds_below (length shapes) (shape_view s)) shapes)
in_range-view shapes root =
    rw (length-map shapes shape_view) (ap (λ b. nat_lt root (length shapes) && b) (list_all-map (holds_below (length shapes)) shape_view shapes))

pub distinct-view : (shapes : List Shape) → list_all has_distinct_names (table_view shapes) ≡ list_all (λ s. has_distinct_names (shape_view s)) shapes
distinct-view shapes = list_all-map has_distinct_names shape_view shapes

pub whole-view : (shapes : List Shape) → list_all has_whole_range (table_view shapes) ≡ list_all (λ s. has_whole_range (shape_view s)) shapes
whole-view shapes = list_all-map has_whole_range shape_view shapes

pub needed-view : (fields : List FieldShape)
    → list_all (λ (f : plain.Field). not f.may_be_missing) (map field_view fields) ≡ list_all (λ (f : FieldShape). not f.may_be_missing) fields
needed-view fields = list_all-map (λ (f : plain.Field). not f.may_be_missing) field_view fields

pub well_formed-from : (shapes : List Shape) (root : ℕ) → is_in_range (table_view shapes) root ≡ true → has_no_cycle (table_view shapes) ≡ true
    → list_all (λ s. has_distinct_names (shape_view s)) shapes ≡ true → list_all (λ s. has_whole_range (shape_view s)) shapes ≡ true
    → is_well_formed (table_view shapes) root ≡ true
well_formed-from shapes root r n d w = rw (r, distinct-view shapes, whole-view shapes, d, w, n) refl

-- an element is looked up in a view
pub view_at : {X Y : Type 0} (v : X → Y) (xs : List X) (i : ℕ) (x : X) → nat_lt i (length xs) ≡ true → x ≡ get_or xs i x → slice_get (map v xs) i ≡ Some (v x)
view_at v xs i x lt e = slice_get-map v xs i ∙ ap (option_map v) (slice_get_read xs (length xs) i x refl (ltb-true i (length xs) lt) e)

-- ---- a shape of a well-formed table

pub shape_in_range : (shapes : List plain.Shape) (root i : ℕ) (s : plain.Shape) → is_well_formed shapes root ≡ true → slice_get shapes i ≡ Some s
    → holds_below (length shapes) s ≡ true
shape_in_range shapes root i s w e =
    all_get (holds_below (length shapes)) shapes i s (and_parts (nat_lt root (length shapes)) _ (and_parts (is_in_range shapes root) _ w).0).1 e

pub shape_distinct : (shapes : List plain.Shape) (root i : ℕ) (s : plain.Shape) → is_well_formed shapes root ≡ true → slice_get shapes i ≡ Some s
    → has_distinct_names s ≡ true
shape_distinct shapes root i s w e = all_get has_distinct_names shapes i s
    (and_parts (list_all has_distinct_names shapes) _ (and_parts (has_no_cycle shapes) _ (and_parts (is_in_range shapes root) _ w).1).1).0 e

pub shape_falls : (shapes : List plain.Shape) (root i : ℕ) (s : plain.Shape) → is_well_formed shapes root ≡ true → slice_get shapes i ≡ Some s
    → IsOneLonger shapes i (content_of s)
shape_falls shapes root i s w e = go (content_of s) refl
  where
    go : (o : Option ℕ) → content_of s ≡ o → IsOneLonger shapes i o
    go None k = tt
    go (Some j) k =
        one_longer shapes (and_parts (has_no_cycle shapes) _ (and_parts (is_in_range shapes root) _ w).1).0 i j (ap (option_and_then content_of) e ∙ k)

pub looked_up : (shapes : List Shape) (root i : ℕ) (s : Shape) → is_well_formed (table_view shapes) root ≡ true → true ≡ nat_lt i (length shapes)
    → s ≡ get_or shapes i s
    → (holds_below (length (table_view shapes)) (shape_view s) ≡ true) × (has_distinct_names (shape_view s) ≡ true)
    × IsOneLonger (table_view shapes) i (content_of (shape_view s))
looked_up shapes root i s w lt e =
    let at : slice_get (table_view shapes) i ≡ Some (shape_view s) = view_at shape_view shapes i s (sym lt) e in (
      shape_in_range (table_view shapes) root i (shape_view s) w at,
      shape_distinct (table_view shapes) root i (shape_view s) w at,
      shape_falls (table_view shapes) root i (shape_view s) w at,
    )

-- ---- the chain at an index of code's table

pub content_here : (shapes : List Shape) (i : ℕ) (s : Shape) → i < length shapes → s ≡ get_or shapes i s
    → content_at (table_view shapes) i ≡ content_of (shape_view s)
content_here shapes i s less e =
    ap (option_and_then content_of) (slice_get-map shape_view shapes i ∙ ap (option_map shape_view) (slice_get_read shapes (length shapes) i s refl less e))

pub next_below : (shapes : List Shape) (i j : ℕ) (s : Shape) → HoldsIndices (table_view shapes) → i < length shapes → s ≡ get_or shapes i s
    → content_of (shape_view s) ≡ Some j → j < length shapes
next_below shapes i j s h less e content =
    let at : slice_get (table_view shapes) i ≡ Some (shape_view s) =
    slice_get-map shape_view shapes i ∙ ap (option_map shape_view) (slice_get_read shapes (length shapes) i s refl less e) in
    let below : nat_lt j (length (table_view shapes)) ≡ true = content_below (length (table_view shapes)) (shape_view s) j
    (all_get (holds_below (length (table_view shapes))) (table_view shapes) i (shape_view s) h at) content in
    let within = ltb-true j (length (table_view shapes)) below in
    omega (arith, within, length-map shapes shape_view)

pub cycle_at : (shapes : List Shape) (i : ℕ) → ends_within (table_view shapes) (length shapes) (content_at (table_view shapes) i) ≡ false
    → has_no_cycle (table_view shapes) ≡ false
cycle_at shapes i e =
    has_cycle (table_view shapes) i (ap (λ n. ends_within (table_view shapes) n (content_at (table_view shapes) i)) (length-map shapes shape_view) ∙ e)

pub each_ends : (shapes : List Shape) → ((i : ℕ) → i < length shapes
    → ends_within (table_view shapes) (length shapes) (content_at (table_view shapes) i) ≡ true) → has_no_cycle (table_view shapes) ≡ true
each_ends shapes h = no_cycle (table_view shapes) (λ i less. ap (λ n. ends_within (table_view shapes) n (content_at (table_view shapes) i))
    (length-map shapes shape_view) ∙ h i (omega (arith, less, length-map shapes shape_view)))

pub rank_at : (shapes : List Shape) (i r : ℕ) → is_of_length (table_view shapes) r (content_at (table_view shapes) i) ≡ true → r ≤ length shapes
    → rank (table_view shapes) i ≡ r
rank_at shapes i r h le = rank_is (table_view shapes) i r h (omega (arith, le, length-map shapes shape_view))

pub longest_of_all : (shapes : List Shape) (i longest : ℕ) → length shapes ≤ i → i ≤ length shapes → longest ≡ longest_of (table_view shapes) i
    → longest ≡ chain (table_view shapes)
longest_of_all shapes i longest le ge e = e ∙ ap (longest_of (table_view shapes)) (omega (arith, le, ge, length-map shapes shape_view))
