-- One more variant: for `Variants`.
use Rattle.std.proofs.Common.{◌≡◌, ◌≤◌, ◌<◌, ℕ, Bool, true, false, not, ◌&&◌, List, [], ◌∷◌, ◌++◌, map, length, chars, nat_lt, refl, sym, ap, subst, ◌∙◌, arith}
use Rattle.std.proofs.Common.{append-nil, append_assoc}
use Rattle.std.specs.List.{list_all, list_any}
use Rattle.std.proofs.lemmas.Bool.{and_from, and_parts, or_parts}
use Rattle.std.proofs.lemmas.List.Folds.{list_all-append}
use Rattle.ron_spec_words.specs.Characters.{Text}
use Rattle.ron_spec_words.specs.Runs.{same_text}
use Rattle.ron_spec_words.proofs.Turns.{in_order}
use Rattle.ron_spec_grammar.specs.Schema.{Shape, enum, Field, only, Variant, unit_variant, newtype_variant, tuple_variant, struct_variant, variant_below}
use Rattle.ron_spec_grammar.specs.Schema.{variant_has_distinct_names, all_differ, variants_differ, is_variant, holds_below}
use Rattle.ron_data_schema.specs.Shapes.{variant_view}
use Rattle.ron_data_schema.specs.Table.{Table}
use Rattle.ron_data_schema.proofs.MoveLemmas.{table_more}
use Rattle.ron_types.specs.Parts.{shapes_in}
use Rattle.ron_types.specs.Rows.{AreNames, AddsItems, AddsFields, named_tables}
use Rattle.ron_types.specs.Tables.{put, put_all, root_in, roots_in, tables_of, fields_at, Holding, nothing, one, several, fields, parts_of, held_in}
use Rattle.ron_types.specs.Tables.{put_variants, variants_in, enum_table, topped, MayTop}
use Rattle.ron_types.specs.Kinds.{Kinds, holdings, names_in, table_of_enum}
use Rattle.ron_types.specs.Variants.{IsBuilt, HasAdded, Adds, turned}
use Rattle.ron_types.specs.declared.tables.Parts.{Parts}
use Rattle.ron_types.specs.declared.variants.Variants.{Variants}
use Rattle.ron_types.proofs.RowLemmas.{tables_named, fields_differ, fields_in_range}
use borrow.Author.Tests.{lt-ltb}

put_more : (shapes : List Shape) (vs : List (Text × Holding)) (v : Text × Holding)
    → put_variants shapes (vs ++ v ∷ []) ≡ put_all (put_variants shapes vs) (parts_of v.1)
put_more shapes [] v = refl
put_more shapes (w ∷ vs) v = put_more (put_all shapes (parts_of w.1)) vs v

variants_more : (shapes : List Shape) (vs : List (Text × Holding)) (v : Text × Holding)
    → variants_in shapes (vs ++ v ∷ []) ≡ variants_in shapes vs ++ record { name = v.0; content = held_in (put_variants shapes vs) v.1 } ∷ []
variants_more shapes [] v = refl
variants_more shapes (w ∷ vs) v = ap (λ us. record { name = w.0; content = held_in shapes w.1 } ∷ us) (variants_more (put_all shapes (parts_of w.1)) vs v)

below_more : (m n : ℕ) → m ≤ n → (vs : List Variant) → list_all (λ (w : Variant). variant_below m w.content) vs ≡ true
    → list_all (λ (w : Variant). variant_below n w.content) vs ≡ true
below_more m n le vs h = and_left (table_more m n le (enum [] vs ∷ []) (and_from _ _ h refl))
  where
    and_left : (holds_below n (enum [] vs) && true) ≡ true → holds_below n (enum [] vs) ≡ true
    and_left e = go (holds_below n (enum [] vs)) e
      where
        go : (b : _) → (b && true) ≡ true → b ≡ true
        go true e = refl
        go _ e = e

-- The parts of a variant have been put behind the others, and the variant behind the other variants.
pub variant_added : (old new : Variants) (name : Text) (h : Holding) → shapes_in new.parts ≡ put_all (shapes_in old.parts) (parts_of h)
    → map variant_view new.variants.items ≡ map variant_view old.variants.items ++ record { name = name; content = held_in (shapes_in old.parts) h } ∷ []
    → length (shapes_in old.parts) ≤ length (shapes_in new.parts) → variant_below (length (shapes_in new.parts)) (held_in (shapes_in old.parts) h) ≡ true
    → variant_has_distinct_names (held_in (shapes_in old.parts) h) ≡ true → (added : List (Text × Holding)) → IsBuilt old added
    → IsBuilt new (added ++ (name, h) ∷ [])
variant_added old new name h shapes pushed grown below distinct added b =
    let v : Variant = record { name = name; content = held_in (shapes_in old.parts) h } in
    let all : variants_in [] (added ++ (name, h) ∷ []) ≡ variants_in [] added ++ v ∷ [] =
    variants_more [] added (name, h) ∙ ap (λ s. variants_in [] added ++ record { name = name; content = held_in s h } ∷ []) (sym b.shapes) in
    record {
      shapes = shapes ∙ ap (λ s. put_all s (parts_of h)) b.shapes ∙ sym (put_more [] added (name, h));
      variants = pushed ∙ ap (λ vs. vs ++ v ∷ []) b.variants ∙ sym all;
      in_range = ap (list_all (λ (w : Variant). variant_below (length (shapes_in new.parts)) w.content)) all
          ∙ list_all-append (λ (w : Variant). variant_below (length (shapes_in new.parts)) w.content) (variants_in [] added) (v ∷ [])
          ∙ and_from _ _ (below_more (length (shapes_in old.parts)) (length (shapes_in new.parts)) grown (variants_in [] added) b.in_range)
          (and_from _ _ below refl);
      distinct = ap (list_all (λ (w : Variant). variant_has_distinct_names w.content)) all
          ∙ list_all-append (λ (w : Variant). variant_has_distinct_names w.content) (variants_in [] added) (v ∷ [])
          ∙ and_from _ _ b.distinct (and_from _ _ distinct refl);
    }

-- what it holds: nothing, one part, several, or fields
module _ (old new : Variants) (name : Text) where
  pub nothing_added : shapes_in new.parts ≡ shapes_in old.parts → map variant_view new.variants.items ≡ map variant_view old.variants.items
      ++ record { name = name; content = unit_variant } ∷ [] → (added : List (Text × Holding)) → IsBuilt old added → IsBuilt new (added ++ (name, nothing) ∷ [])
  nothing_added same pushed =
      variant_added old new name nothing same pushed (subst (λ s. length (shapes_in old.parts) ≤ length s) (sym same) (omega arith)) refl refl

  pub one_added : (mid : Parts) (t : Table) (root : ℕ) → new.parts ≡ mid → (shapes_in mid ≡ put (shapes_in old.parts) t)
      × (root ≡ root_in (shapes_in old.parts) t) → root < length (shapes_in mid) → length (shapes_in old.parts) ≤ length (shapes_in mid)
      → map variant_view new.variants.items ≡ map variant_view old.variants.items ++ record { name = name; content = newtype_variant root } ∷ []
      → (added : List (Text × Holding)) → IsBuilt old added → IsBuilt new (added ++ (name, one t) ∷ [])
  one_added mid t root is puts less grown pushed =
      let n : length (shapes_in new.parts) ≡ length (shapes_in mid) = ap (λ (p : Parts). length (shapes_in p)) is in
      variant_added old new name (one t) (ap shapes_in is ∙ puts.0)
      (pushed ∙ ap (λ j. map variant_view old.variants.items ++ record { name = name; content = newtype_variant j } ∷ []) puts.1)
      (omega (arith, n, grown)) (lt-ltb _ _ (omega (arith, n, less, puts.1))) refl

  pub several_added : (mid : Parts) (ts : List Table) (roots : List ℕ) → new.parts ≡ mid → AddsItems ts (shapes_in old.parts) [] (shapes_in mid) roots
      → map variant_view new.variants.items ≡ map variant_view old.variants.items ++ record { name = name; content = tuple_variant roots } ∷ []
      → (added : List (Text × Holding)) → IsBuilt old added → IsBuilt new (added ++ (name, several ts) ∷ [])
  several_added mid ts roots is adds pushed =
      let n : length (shapes_in new.parts) ≡ length (shapes_in mid) = ap (λ (p : Parts). length (shapes_in p)) is in
      variant_added old new name (several ts) (ap shapes_in is ∙ adds.shapes)
      (pushed ∙ ap (λ js. map variant_view old.variants.items ++ record { name = name; content = tuple_variant js } ∷ []) adds.roots)
      (omega (arith, n, adds.grown)) (ap (λ m. list_all (λ j. nat_lt j m) (roots_in (shapes_in old.parts) ts)) n ∙ adds.in_range) refl

  pub named_added : (mid : Parts) (names : List (List ℕ)) (ts : List Table) (fs : List Field) → AreNames names ts → new.parts ≡ mid
      → AddsFields names ts (shapes_in old.parts) [] (shapes_in mid) fs
      → map variant_view new.variants.items ≡ map variant_view old.variants.items ++ record { name = name; content = struct_variant (only fs) } ∷ []
      → (added : List (Text × Holding)) → IsBuilt old added → IsBuilt new (added ++ (name, fields (named_tables names ts)) ∷ [])
  named_added mid names ts fs are is adds pushed =
      let n : length (shapes_in new.parts) ≡ length (shapes_in mid) = ap (λ (p : Parts). length (shapes_in p)) is in
      let tables = tables_named names ts are.as_many in
      let js : roots_in (shapes_in old.parts) ts ≡ roots_in (shapes_in old.parts) (tables_of (named_tables names ts)) =
      ap (roots_in (shapes_in old.parts)) (sym tables) in
      variant_added old new name (fields (named_tables names ts)) (ap shapes_in is ∙ adds.shapes ∙ ap (put_all (shapes_in old.parts)) (sym tables))
      (pushed ∙ ap (λ fs. map variant_view old.variants.items ++ record { name = name; content = struct_variant (only fs) } ∷ [])
      (adds.fields ∙ ap (fields_at (named_tables names ts)) js))
      (omega (arith, n, adds.grown))
      (ap (λ m.
      list_all (λ (f : Field). nat_lt f.shape m) (fields_at (named_tables names ts) (roots_in (shapes_in old.parts) (tables_of (named_tables names ts))))) n
      ∙ ap (λ js. list_all (λ (f : Field). nat_lt f.shape (length (shapes_in mid))) (fields_at (named_tables names ts) js)) (sym js)
      ∙ fields_in_range (length (shapes_in mid)) names ts (roots_in (shapes_in old.parts) ts) adds.in_range)
      (fields_differ names ts (roots_in (shapes_in old.parts) (tables_of (named_tables names ts))) are.differ)

-- names that differ are those of variants that do
any_called : (name : Text) (shapes : List Shape) (vs : List (Text × Holding)) → list_any (λ t. same_text t name) (map (λ v. v.0) vs) ≡ false
    → list_any (is_variant name) (variants_in shapes vs) ≡ false
any_called name shapes [] h = refl
any_called name shapes (v ∷ vs) h =
    let p = or_parts (same_text v.0 name) (list_any (λ t. same_text t name) (map (λ v. v.0) vs)) h in
    rw (p.0) (any_called name (put_all shapes (parts_of v.1)) vs p.1)

differ : (shapes : List Shape) (vs : List (Text × Holding)) → all_differ (map (λ v. v.0) vs) ≡ true → variants_differ (variants_in shapes vs) ≡ true
differ shapes [] h = refl
differ shapes (v ∷ vs) h =
    let p = and_parts (not (list_any (λ t. same_text t v.0) (map (λ v. v.0) vs))) (all_differ (map (λ v. v.0) vs)) h in
    and_from _ _ (ap not (any_called v.0 (put_all shapes (parts_of v.1)) vs (not_true _ p.0))) (differ (put_all shapes (parts_of v.1)) vs p.1)
  where
    not_true : (b : Bool) → not b ≡ true → b ≡ false
    not_true true e = sym e
    not_true false e = refl

-- The enum of these variants may stand on top of their parts, and then the table is the enum's.
module _ (v : Variants) (added : List (Text × Holding)) (name : Text) (b : IsBuilt v added) (d : all_differ (map (λ v. v.0) added) ≡ true) where
  pub enum_may_top : MayTop (shapes_in v.parts) (enum name (map variant_view v.variants.items))
  enum_may_top = subst (λ vs. MayTop (shapes_in v.parts) (enum name vs)) (sym b.variants) (record {
    in_range = b.in_range;
    distinct = and_from _ _ (differ [] added d) b.distinct;
    whole = refl;
  })

  pub enum_topped : topped (shapes_in v.parts) (enum name (map variant_view v.variants.items)) ≡ enum_table name added
  enum_topped = λ i. topped (b.shapes i) (enum name (b.variants i))

-- ---- the last one first

turned_back : {A : Type 0} (xs ys : List A) → turned (turned xs ys) [] ≡ turned ys [] ++ xs
turned_back [] ys = sym (append-nil (turned ys []))
turned_back (x ∷ xs) ys = turned_back xs (x ∷ ys) ∙ ap (λ zs. zs ++ xs) (in_order ys [] (x ∷ [])) ∙ append_assoc (turned ys []) (x ∷ []) xs

pub last_first : (old new : Variants) (name : Text) (h : Holding)
    → ((added : List (Text × Holding)) → IsBuilt old added → IsBuilt new (added ++ (name, h) ∷ [])) → Adds old new name h
last_first old new name h step added b = record { built = subst (IsBuilt new) (sym (in_order added [] ((name, h) ∷ []))) (step (turned added []) b.built) }

module _ (v : Variants) (ks : Kinds) (name : List ℕ) (all : HasAdded v (turned (holdings ks) [])) (d : all_differ (map chars (names_in ks)) ≡ true) where
  built : IsBuilt v (holdings ks)
  built = subst (IsBuilt v) (turned_back (holdings ks) []) all.built

  names : (ks : Kinds) → map (λ (v : Text × Holding). v.0) (holdings ks) ≡ map chars (names_in ks)
  names [] = refl
  names (k ∷ ks) = ap (λ ns. chars k.0 ∷ ns) (names ks)

  pub enum_may_stand : MayTop (shapes_in v.parts) (enum (chars name) (map variant_view v.variants.items))
  enum_may_stand = enum_may_top v (holdings ks) (chars name) built (ap all_differ (names ks) ∙ d)

  pub enum_stands : topped (shapes_in v.parts) (enum (chars name) (map variant_view v.variants.items)) ≡ table_of_enum name ks
  enum_stands = enum_topped v (holdings ks) (chars name) built (ap all_differ (names ks) ∙ d)
