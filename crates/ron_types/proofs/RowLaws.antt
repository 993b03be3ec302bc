-- Types in a row accept all data of their schemas where each does; so do tuples and structs.
use Rattle.std.proofs.Common.{◌≡◌, ℕ, ◌<◌, ◌≤◌, nat_lt, Bool, true, false, cond, List, [], ◌∷◌, ◌++◌, map, length, Some, find, slice_get, chars, string_bytes}
use Rattle.std.proofs.Common.{refl, sym, ap, subst, ◌∙◌, arith, rules}
use Rattle.std.specs.List.{list_all}
use Rattle.std.proofs.lemmas.List.{append_assoc}
use Rattle.std.proofs.lemmas.Bool.{and_from}
use borrow.Author.Tests.{lt-ltb}
use Rattle.ron_spec_words.specs.Characters.{Text}
use Rattle.ron_spec_grammar.specs.Data as plain
use Rattle.ron_spec_grammar.specs.Schema as schema
use Rattle.ron_spec_grammar.specs.Schema.{Shape, tuple, struct, only, is_named, names_of, in_order, OfShape, EachOfShape, OfFields}
use Rattle.ron_spec_grammar.proofs.Finding.{same_is}
use Rattle.ron_data.specs.declared.data.Data.{Data, out-Data, the_lemmas}
use Rattle.ron_data.specs.declared.data.Data.TheOpen.{Data-F}
use Rattle.ron_data.specs.declared.data.Data.TheVariants as held
use Rattle.ron_data.specs.declared.data.VariantData.{VariantData}
use Rattle.ron_data.specs.Datum.{data_view, items_view, fields_view, seen_fields}
use Rattle.ron_data_schema.specs.Shapes.{moved}
use Rattle.ron_data_schema.specs.Table.{Table}
use Rattle.ron_types.specs.Accepts.{IsTuple}
use Rattle.ron_types.specs.FieldNames.{Field}
use Rattle.ron_types.specs.Lists.{Each, Then, NoMore}
use Rattle.ron_types.specs.OfTables.{IsOf}
use Rattle.ron_types.specs.Rows.{AreNames, AddsFields, NamedThen, NoneNamed, named_tables, table_of_struct, IsStructOf}
use Rattle.ron_types.specs.Tables.{put, put_all, root_in, roots_in, topped, tuple_table, fields_at, is_closed}
use Rattle.ron_types.proofs.BackLemmas.{accepts-Tuple}
use Rattle.ron_types.proofs.ClosedLemmas.{closed_of, put_closed, topped_well_formed, length_put}
use Rattle.ron_types.proofs.ListLemmas.{get_last}
use Rattle.ron_types.proofs.RowLemmas.{tuple_may_top, struct_may_top, struct_topped, fields_differ}
use Rattle.ron_types.proofs.StructLemmas.{accepts-Struct}
use Rattle.ron_types.proofs.TypeLemmas.{finds_each}
use Rattle.ron_types.specs.Laws.{AcceptsAll, AcceptsItems, AcceptsFields, AreItems, AreFields, IsFormed}
use Rattle.ron_types.proofs.OutlineLaws.{outline_in, seen, whole_accepts}
use Rattle.ron_types.proofs.PartLaws.{of_part, root_within}

-- ---- rows

pub no_items : AcceptsItems [] NoMore
no_items = record { formed = tt; accepted = go }
  where
    go : (ds : List Data) → AreItems [] ds → NoMore ds
    go [] h = tt
    go (d ∷ ds) h = h

pub no_fields : AcceptsFields [] NoneNamed
no_fields = record { formed = tt; accepted = go }
  where
    go : (names : List (List ℕ)) (fs : List Field) → AreFields names [] fs → NoneNamed names fs
    go [] [] h = tt
    go [] (f ∷ fs) h = absurd h
    go (n ∷ ns) fs h = absurd h

module _ (t : Table) (ts : List Table) (P : Data → Type 0) (first : AcceptsAll t P) where
  pub more_items : (Rest : List Data → Type 0) → AcceptsItems ts Rest → AcceptsItems (t ∷ ts) (Then P Rest)
  more_items Rest rest = record { formed = (first.formed, rest.formed); accepted = go }
    where
      go : (ds : List Data) → AreItems (t ∷ ts) ds → Then P Rest ds
      go [] h = absurd h
      go (d ∷ ds) h = (first.accepted d h.0, rest.accepted ds h.1)

  pub more_fields : (Rest : List (List ℕ) → List Field → Type 0) → AcceptsFields ts Rest → AcceptsFields (t ∷ ts) (NamedThen P Rest)
  more_fields Rest rest = record { formed = (first.formed, rest.formed); accepted = go }
    where
      go : (names : List (List ℕ)) (fs : List Field) → AreFields names (t ∷ ts) fs → NamedThen P Rest names fs
      go [] fs h = absurd h
      go (n ∷ ns) [] h = absurd h
      go (n ∷ ns) (f ∷ fs) h = ((h.0.0, first.accepted f.1 h.0.1), rest.accepted ns fs h.1)

-- ---- several tables behind one another

-- the first shapes stand there still
pub behind : (shapes : List Shape) (ts : List Table) (more : List Shape) → (rest : List Shape) × (put_all shapes ts ++ more ≡ shapes ++ rest)
behind shapes [] more = (more, refl)
behind shapes (t ∷ ts) more =
    let moved_shapes = map (moved (length shapes)) t.shapes in
    let b = behind (put shapes t) ts more in
    (moved_shapes ++ b.0, b.1 ∙ append_assoc shapes moved_shapes b.0)

pub all_closed : (shapes : List Shape) (ts : List Table) → is_closed shapes ≡ true → Each IsFormed ts → is_closed (put_all shapes ts) ≡ true
all_closed shapes [] closed formed = closed
all_closed shapes (t ∷ ts) closed formed = all_closed (put shapes t) ts (put_closed shapes t closed (closed_of t.shapes t.root formed.0)) formed.1

pub all_grown : (shapes : List Shape) (ts : List Table) → length shapes ≤ length (put_all shapes ts)
all_grown shapes [] = omega arith
all_grown shapes (t ∷ ts) = omega (arith, length_put shapes t, all_grown (put shapes t) ts)

pub all_within : (shapes : List Shape) (ts : List Table) → Each IsFormed ts → (n : ℕ) → length (put_all shapes ts) ≤ n
    → list_all (λ j. nat_lt j n) (roots_in shapes ts) ≡ true
all_within shapes [] formed n le = refl
all_within shapes (t ∷ ts) formed n le =
    let less : root_in shapes t < n = omega (arith, root_within shapes t formed.0, all_grown (put shapes t) ts, le) in
    and_from _ _ (lt-ltb (root_in shapes t) n less) (all_within (put shapes t) ts formed.1 n le)

-- data of one of them is of its table
of_first : (shapes : List Shape) (t : Table) (ts : List Table) (more : List Shape) → IsFormed t → (d : plain.Data)
    → OfShape (put_all (put shapes t) ts ++ more) (root_in shapes t) d → IsOf t d
of_first shapes t ts more formed d h =
    let b = behind (put shapes t) ts more in
    of_part shapes t b.0 formed d (subst (λ all. OfShape all (root_in shapes t) d) b.1 h)

-- ---- tuples

pub items_of_parts : (shapes : List Shape) (ts : List Table) (more : List Shape) → Each IsFormed ts → (ds : List Data)
    → EachOfShape (put_all shapes ts ++ more) (roots_in shapes ts) (items_view ds) → AreItems ts ds
items_of_parts shapes [] more formed [] h = tt
items_of_parts shapes [] more formed (d ∷ ds) h = absurd h
items_of_parts shapes (t ∷ ts) more formed [] h = absurd h
items_of_parts shapes (t ∷ ts) more formed (d ∷ ds) h =
    (of_first shapes t ts more formed.0 (data_view d) h.0, items_of_parts (put shapes t) ts more formed.1 ds h.1)

module _ (ts : List Table) (P : List Data → Type 0) (all : AcceptsItems ts P) where
  abbrev tuple_top : Shape
  tuple_top = tuple (roots_in [] ts)

  tuple_formed : IsFormed (tuple_table ts)
  tuple_formed = topped_well_formed (put_all [] ts) tuple_top (all_closed [] ts refl all.formed)
      (tuple_may_top ts (put_all [] ts) (roots_in [] ts)
      (record { shapes = refl; roots = refl; in_range = all_within [] ts all.formed (length (put_all [] ts)) (omega arith); grown = omega arith }))

  tuple_accepts : (d : Data) (o : Data-F Data VariantData) → out-Data d ≡ o → tuple [] ≡ outline_in o → IsOf (tuple_table ts) (seen o) → IsTuple P d
  tuple_accepts d (Data-F.Data::Tuple v) at e h =
      let last : slice_get (tuple_table ts).shapes (length (put_all [] ts)) ≡ Some tuple_top = get_last (put_all [] ts) tuple_top in
      let stands : slice_get (tuple_table ts).shapes (length (put_all [] ts)) ≡ Some (tuple h.0) = h.1 in
      let same : h.0 ≡ roots_in [] ts = cc in
      let is : d ≡ held.Tuple v = search (rules, the_lemmas) in
      let items =
      items_of_parts [] ts (tuple_top ∷ []) all.formed v.items (subst (λ js. EachOfShape (tuple_table ts).shapes js (items_view v.items)) same h.2) in
      subst (IsTuple P) (sym is) (accepts-Tuple P v (all.accepted v.items items))
  tuple_accepts d o at e h = absurd (cc)

  pub tuples : AcceptsAll (tuple_table ts) (IsTuple P)
  tuples = whole_accepts (tuple_table ts) tuple_top (IsTuple P) tuple_formed (get_last (put_all [] ts) tuple_top) tuple_accepts

-- ---- structs

-- a field of the first name, whose shape stands there, and others
first_field : (all : List schema.Field) (shapes : List Shape) (g : schema.Field) (n : Text) (f : Field) → g.name ≡ n → find (is_named n) all ≡ Some g
    → (rest : Bool) → cond (is_named (chars (string_bytes f.0)) g) rest false ≡ true → (found : schema.Field)
    → find (is_named (chars (string_bytes f.0))) all ≡ Some found → OfShape shapes found.shape (data_view f.1)
    → (chars (string_bytes f.0) ≡ n) × (rest ≡ true) × OfShape shapes g.shape (data_view f.1)
first_field all shapes g n f named finds rest order found finds' h = go (is_named (chars (string_bytes f.0)) g) refl order
  where
    go : (b : Bool) → is_named (chars (string_bytes f.0)) g ≡ b → cond b rest false ≡ true
        → (chars (string_bytes f.0) ≡ n) × (rest ≡ true) × OfShape shapes g.shape (data_view f.1)
    go false e k = absurd (cc)
    go true e k =
        let same : chars (string_bytes f.0) ≡ n = sym (same_is g.name (chars (string_bytes f.0)) e) ∙ named in
        let here : find (is_named (chars (string_bytes f.0))) all ≡ Some g = ap (λ n. find (is_named n) all) same ∙ finds in
        let is : found ≡ g = cc in
        (same, k, subst (λ (x : schema.Field). OfShape shapes x.shape (data_view f.1)) is h)

module _ (all : List schema.Field) (more : List Shape) where
  pub fields_of_parts : (names : List (List ℕ)) (shapes : List Shape) (ts : List Table) → length names ≡ length ts → Each IsFormed ts
      → Each (λ (f : schema.Field). find (is_named f.name) all ≡ Some f) (fields_at (named_tables names ts) (roots_in shapes ts))
      → (fs : List Field) → in_order (fields_at (named_tables names ts) (roots_in shapes ts)) (names_of (fields_view fs)) ≡ true
      → OfFields (put_all shapes ts ++ more) all (fields_view fs) → AreFields names ts fs
  fields_of_parts [] shapes [] many formed found [] order h = tt
  fields_of_parts [] shapes [] many formed found (f ∷ fs) order h = absurd (cc)
  fields_of_parts [] shapes (t ∷ ts) many formed found fs order h = absurd (omega (arith, many))
  fields_of_parts (n ∷ ns) shapes [] many formed found fs order h = absurd (omega (arith, many))
  fields_of_parts (n ∷ ns) shapes (t ∷ ts) many formed found [] order h = absurd (cc)
  fields_of_parts (n ∷ ns) shapes (t ∷ ts) many formed found (f ∷ fs) order h =
      let g : schema.Field = schema.field (chars n) (root_in shapes t) in
      let rest = in_order (fields_at (named_tables ns ts) (roots_in (put shapes t) ts)) (names_of (fields_view fs)) in
      let first = first_field all (put_all (put shapes t) ts ++ more) g (chars n) f refl found.0 rest order h.0 h.1 h.2 in (
        (first.0, of_first shapes t ts more formed.0 (data_view f.1) first.2),
        fields_of_parts ns (put shapes t) ts (omega (arith, many)) formed.1 found.1 fs first.1 h.3,
      )

-- fields whose data is seen first
pub in_turn : (fs : List Field) → seen_fields (map (λ f. (f.0, data_view f.1)) fs) ≡ fields_view fs
in_turn [] = refl
in_turn (f ∷ fs) = ap (plain.field_and (chars (string_bytes f.0)) (data_view f.1)) (in_turn fs)

module _ (name : List ℕ) (names : List (List ℕ)) (ts : List Table) (P : List (List ℕ) → List Field → Type 0) (are : AreNames names ts)
    (all : AcceptsFields ts P) where
  abbrev struct_fields : List schema.Field
  struct_fields = fields_at (named_tables names ts) (roots_in [] ts)

  abbrev struct_top : Shape
  struct_top = struct (chars name) (only struct_fields)

  abbrev struct_whole : Table
  struct_whole = topped (put_all [] ts) struct_top

  adds_fields : AddsFields names ts [] [] (put_all [] ts) struct_fields
  adds_fields = record { shapes = refl; fields = refl; in_range = all_within [] ts all.formed (length (put_all [] ts)) (omega arith); grown = omega arith }

  struct_accepts : (d : Data) (o : Data-F Data VariantData) → out-Data d ≡ o → struct (chars name) (only []) ≡ outline_in o → IsOf struct_whole (seen o)
      → IsStructOf name names P d
  struct_accepts d (Data-F.Data::Struct found fields) at e h =
      let k = subst (λ fs. IsOf struct_whole (plain.struct_of (chars (string_bytes found)) fs)) (in_turn fields.items) h in
      let last : slice_get struct_whole.shapes (length (put_all [] ts)) ≡ Some struct_top = get_last (put_all [] ts) struct_top in
      let stands : slice_get struct_whole.shapes (length (put_all [] ts)) ≡ Some (struct (chars (string_bytes found)) k.0) = k.1 in
      let same : k.0 ≡ only struct_fields = cc in
      let called : chars (string_bytes found) ≡ chars name = cc in
      let is : d ≡ held.Struct found fields = search (rules, the_lemmas) in
      let order = subst (λ (list : schema.FieldList). in_order list.fields (names_of (fields_view fields.items)) ≡ true) same k.2 in
      let of = subst (λ (list : schema.FieldList). OfFields struct_whole.shapes list.fields (fields_view fields.items)) same k.3 in
      let parts = fields_of_parts struct_fields (struct_top ∷ []) names [] ts are.as_many all.formed
      (finds_each struct_fields (fields_differ names ts (roots_in [] ts) are.differ)) fields.items order of in
      subst (IsStructOf name names P) (sym is) (accepts-Struct (chars name) (P names) found fields called (all.accepted names fields.items parts))
  struct_accepts d o at e h = absurd (cc)

  pub structs : AcceptsAll (table_of_struct name names ts) (IsStructOf name names P)
  structs =
      let formed = topped_well_formed (put_all [] ts) struct_top (all_closed [] ts refl all.formed)
      (struct_may_top name names ts are (put_all [] ts) struct_fields adds_fields) in
      let whole = whole_accepts struct_whole struct_top (IsStructOf name names P) formed (get_last (put_all [] ts) struct_top) struct_accepts in
      subst (λ t. AcceptsAll t (IsStructOf name names P)) (struct_topped name names ts are (put_all [] ts) struct_fields adds_fields) whole
