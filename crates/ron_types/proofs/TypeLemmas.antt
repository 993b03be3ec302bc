-- Data of a type is of its schema where that of its parts is of theirs.
use Rattle.std.proofs.Common.{◌≡◌, ℕ, true, false, ◌&&◌, cond, List, [], ◌∷◌, ◌++◌, Some, find, refl, ap, ◌∙◌}
use Rattle.ron_spec_words.specs.Characters.{Text}
use Rattle.ron_spec_grammar.specs.Data.{Data, some_of, list_of, tuple_of, map_of, struct_of, Datas, no_datas, data_and, datas}
use Rattle.ron_spec_grammar.specs.Schema.{Shape, optional, seq, tuple, map as map_, struct, Field, field, only, names_of, in_order, is_named, names_differ}
use Rattle.ron_spec_grammar.specs.Schema.{OfShape, AllOfShape, EachOfShape, PairsOfShape, OfFields}
use Rattle.ron_spec_grammar.proofs.Finding.{same_self, IsFound, are_found}
use Rattle.ron_data.specs.Datum.{pairs_of}
use Rattle.ron_data_schema.specs.Table.{Table}
use Rattle.ron_types.specs.Lists.{Each, Both}
use Rattle.ron_types.specs.OfTables.{IsOf, IsOfOrdered, EachIsOf, fields_with}
use Rattle.ron_types.specs.Ordered.{HaveOrderedValues, PairsHaveOrderedValues, FieldsHaveOrderedValues}
use Rattle.ron_types.specs.Tables.{put, put_all, root_in, roots_in, optional_table, seq_table, tuple_table, map_table, struct_table, Named, tables_of}
use Rattle.ron_types.specs.Tables.{fields_at}
use Rattle.ron_types.proofs.ListLemmas.{get_last}
use Rattle.ron_types.proofs.MoveLemmas.{of_grown, of_put}

-- the lists are as long
abbrev pub SameLength : {A B : Type 0} → List A → List B → Type 0
SameLength [] ys = Unit {0}
SameLength (x ∷ xs) [] = ⊥
SameLength (x ∷ xs) (y ∷ ys) = SameLength xs ys

-- ---- one part

-- the part's data is of its shape below another
below : (s : Shape) (t : Table) (d : Data) → IsOf t d → OfShape (put [] t ++ s ∷ []) (root_in [] t) d
below s t d h = of_grown (put [] t) (s ∷ []) (root_in [] t) d (of_put [] t d h)

pub some_is_of : (t : Table) (d : Data) → IsOfOrdered t d → IsOfOrdered (optional_table t) (some_of d)
some_is_of t d h o = (root_in [] t, get_last (put [] t) (optional (root_in [] t)), below (optional (root_in [] t)) t d (h o))

items_are_of : (s : Shape) (t : Table) (ds : List Data) → Each (IsOfOrdered t) ds → HaveOrderedValues (datas ds)
    → AllOfShape (put [] t ++ s ∷ []) (root_in [] t) (datas ds)
items_are_of s t [] h o = tt
items_are_of s t (d ∷ ds) h o = (below s t d (h.0 o.0), items_are_of s t ds h.1 o.1)

pub list_is_of : (t : Table) (ds : List Data) → Each (IsOfOrdered t) ds → IsOfOrdered (seq_table t) (list_of (datas ds))
list_is_of t ds h o = (root_in [] t, get_last (put [] t) (seq (root_in [] t)), items_are_of (seq (root_in [] t)) t ds h o)

-- ---- several parts

pub of_put_all : (ts : List Table) (shapes : List Shape) (i : ℕ) (d : Data) → OfShape shapes i d → OfShape (put_all shapes ts) i d
of_put_all [] shapes i d h = h
of_put_all (t ∷ ts) shapes i d h = of_put_all ts (put shapes t) i d (of_grown shapes _ i d h)

-- each part's data is of its shape
pub each_put : (shapes : List Shape) (ts : List Table) (ds : List Data) → EachIsOf ts ds → HaveOrderedValues (datas ds)
    → EachOfShape (put_all shapes ts) (roots_in shapes ts) (datas ds)
each_put shapes [] [] h o = tt
each_put shapes (t ∷ ts) (d ∷ ds) h o = (of_put_all ts (put shapes t) (root_in shapes t) d (of_put shapes t d (h.0 o.0)), each_put (put shapes t) ts ds h.1 o.1)
each_put shapes [] (d ∷ ds) h o = absurd h
each_put shapes (t ∷ ts) [] h o = absurd h

pub each_grown : (shapes more : List Shape) (js : List ℕ) (ds : Datas) → EachOfShape shapes js ds → EachOfShape (shapes ++ more) js ds
each_grown shapes more [] no_datas h = tt
each_grown shapes more (j ∷ js) (data_and d ds) h = (of_grown shapes more j d h.0, each_grown shapes more js ds h.1)
each_grown shapes more [] (data_and d ds) h = absurd h
each_grown shapes more (j ∷ js) no_datas h = absurd h

pub tuple_is_of : (ts : List Table) (ds : List Data) → EachIsOf ts ds → IsOfOrdered (tuple_table ts) (tuple_of (datas ds))
tuple_is_of ts ds h o = (
  roots_in [] ts,
  get_last (put_all [] ts) (tuple (roots_in [] ts)),
  each_grown (put_all [] ts) (tuple (roots_in [] ts) ∷ []) (roots_in [] ts) (datas ds) (each_put [] ts ds h o),
)

-- ---- maps

module _ (k v : Table) where
  abbrev top : Shape
  top = map_ (root_in [] k) (root_in (put [] k) v)

  key_is_of : (d : Data) → IsOf k d → OfShape (map_table k v).shapes (root_in [] k) d
  key_is_of d h = of_grown (put (put [] k) v) (top ∷ []) (root_in [] k) d (of_grown (put [] k) _ (root_in [] k) d (of_put [] k d h))

  value_is_of : (d : Data) → IsOf v d → OfShape (map_table k v).shapes (root_in (put [] k) v) d
  value_is_of d h = of_grown (put (put [] k) v) (top ∷ []) (root_in (put [] k) v) d (of_put (put [] k) v d h)

  entries_are_of : (es : List (Data × Data)) → Each (Both (IsOfOrdered k) (IsOfOrdered v)) es → PairsHaveOrderedValues (pairs_of es)
      → PairsOfShape (map_table k v).shapes (root_in [] k) (root_in (put [] k) v) (pairs_of es)
  entries_are_of [] h o = tt
  entries_are_of (e ∷ es) h o = (key_is_of e.0 (h.0.0 o.0), value_is_of e.1 (h.0.1 o.1), entries_are_of es h.1 o.2)

  pub map_is_of : (es : List (Data × Data)) → Each (Both (IsOfOrdered k) (IsOfOrdered v)) es → IsOfOrdered (map_table k v) (map_of (pairs_of es))
  map_is_of es h o = (root_in [] k, root_in (put [] k) v, get_last (put (put [] k) v) top, entries_are_of es h o)

-- ---- fields

-- each field is the one that its name finds
pub finds_each : (fields : List Field) → names_differ fields ≡ true → Each (λ (f : Field). find (is_named f.name) fields ≡ Some f) fields
unfolding IsFound
finds_each = are_found

-- the fields stand in their order
pub in_order-with : (ps : List Named) (js : List ℕ) (ds : List Data) → SameLength ps js → SameLength ps ds
    → in_order (fields_at ps js) (names_of (fields_with ps ds)) ≡ true
in_order-with [] js ds h k = refl
in_order-with (p ∷ ps) (j ∷ js) (d ∷ ds) h k =
    ap (λ b. cond b (in_order (fields_at ps js) (names_of (fields_with ps ds))) (false && in_order (fields_at ps js) (p.0 ∷ names_of (fields_with ps ds))))
    (same_self p.0)
    ∙ in_order-with ps js ds h k
in_order-with (p ∷ ps) [] ds h k = absurd h
in_order-with (p ∷ ps) (j ∷ js) [] h k = absurd k

-- each field's data is of its shape
pub fields_are_of : (schema : List Shape) (all : List Field) (ps : List Named) (js : List ℕ) (ds : List Data)
    → Each (λ (f : Field). find (is_named f.name) all ≡ Some f) (fields_at ps js) → EachOfShape schema js (datas ds) → SameLength ps js
    → OfFields schema all (fields_with ps ds)
fields_are_of schema all [] js ds found h k = tt
fields_are_of schema all (p ∷ ps) (j ∷ js) (d ∷ ds) found h k = (field p.0 j, found.0, h.0, fields_are_of schema all ps js ds found.1 h.1 k)
fields_are_of schema all (p ∷ ps) (j ∷ js) [] found h k = absurd h
fields_are_of schema all (p ∷ ps) [] ds found h k = absurd k

pub roots_for : (shapes : List Shape) (ps : List Named) → SameLength ps (roots_in shapes (tables_of ps))
roots_for shapes [] = tt
roots_for shapes (p ∷ ps) = roots_for (put shapes p.1) ps

pub data_for : (ps : List Named) (ds : List Data) → EachIsOf (tables_of ps) ds → SameLength ps ds
data_for [] [] h = tt
data_for (p ∷ ps) (d ∷ ds) h = data_for ps ds h.1
data_for [] (d ∷ ds) h = tt
data_for (p ∷ ps) [] h = absurd h

pub ordered_for : (ps : List Named) (ds : List Data) → EachIsOf (tables_of ps) ds → FieldsHaveOrderedValues (fields_with ps ds) → HaveOrderedValues (datas ds)
ordered_for [] [] h o = tt
ordered_for (p ∷ ps) (d ∷ ds) h o = (o.0, ordered_for ps ds h.1 o.1)
ordered_for [] (d ∷ ds) h o = absurd h
ordered_for (p ∷ ps) [] h o = absurd h

pub struct_is_of : (name : Text) (ps : List Named) (ds : List Data) → names_differ (fields_at ps (roots_in [] (tables_of ps))) ≡ true
    → EachIsOf (tables_of ps) ds → IsOfOrdered (struct_table name ps) (struct_of name (fields_with ps ds))
struct_is_of name ps ds distinct h o =
    let js = roots_in [] (tables_of ps) in
    let s = struct name (only (fields_at ps js)) in
    let shapes = put_all [] (tables_of ps) in
    let each = each_grown shapes (s ∷ []) js (datas ds) (each_put [] (tables_of ps) ds h (ordered_for ps ds h o)) in (
      only (fields_at ps js),
      get_last shapes s,
      in_order-with ps js ds (roots_for [] ps) (data_for ps ds h),
      fields_are_of (shapes ++ s ∷ []) (fields_at ps js) ps js ds (finds_each (fields_at ps js) distinct) each (roots_for [] ps),
    )
