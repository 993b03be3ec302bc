-- Structs whose fields have no names: what they stand for, what is accepted of them, and that their data is of their schema.
use Rattle.std.proofs.Common.{◌≡◌, ℕ, List, [], ◌∷◌, Box, Vec, String, Global, chars, string_bytes, rules, sym, ap, subst, ◌∙◌}
use Rattle.ron_spec_grammar.specs.Data as plain
use Rattle.ron_spec_grammar.specs.Schema.{Shape, newtype, tuple_struct}
use Rattle.ron_data.specs.declared.data.Data.{Data, the_lemmas}
use Rattle.ron_data.specs.declared.data.Data.TheVariants as held
use Rattle.ron_data.specs.Datum.{data_view, items_view}
use Rattle.ron_data_schema.specs.Table.{Table}
use Rattle.ron_types.specs.OfTables.{IsOfOrdered, EachIsOf}
use Rattle.ron_types.specs.Tables.{put, put_all, root_in, roots_in}
use Rattle.ron_types.proofs.ListLemmas.{get_last}
use Rattle.ron_types.proofs.MoveLemmas.{of_grown, of_put}
use Rattle.ron_types.proofs.TypeLemmas.{each_put, each_grown}
use Rattle.ron_types_fields.specs.NamedStructs.{table_of_newtype, table_of_tuple_struct, data_of_newtype, data_of_tuple_struct, IsNewtypeOf, IsTupleStructOf}

-- ---- one level of data of code

view-Newtype : (found : String Global) (b : Box Data Global)
    → data_view (held.Newtype found b) ≡ plain.newtype_of (chars (string_bytes found)) (data_view b.value)
view-Newtype found b = search (rules, the_lemmas)

view-TupleStruct : (found : String Global) (v : Vec Data Global)
    → data_view (held.TupleStruct found v) ≡ plain.tuple_struct_of (chars (string_bytes found)) (items_view v.items)
view-TupleStruct found v = search (rules, the_lemmas)

accepts-Newtype : (name : List ℕ) (P : Data → Type 0) (found : String Global) (b : Box Data Global) → chars (string_bytes found) ≡ chars name → P b.value
    → IsNewtypeOf name P (held.Newtype found b)
accepts-Newtype name P found b e h = search (rules, the_lemmas)

from-Newtype : (name : List ℕ) (P : Data → Type 0) (found : String Global) (b : Box Data Global) → IsNewtypeOf name P (held.Newtype found b) → P b.value
from-Newtype name P found b h = search (rules, the_lemmas)

accepts-TupleStruct : (name : List ℕ) (P : List Data → Type 0) (found : String Global) (v : Vec Data Global) → chars (string_bytes found) ≡ chars name
    → P v.items → IsTupleStructOf name P (held.TupleStruct found v)
accepts-TupleStruct name P found v e h = search (rules, the_lemmas)

from-TupleStruct : (name : List ℕ) (P : List Data → Type 0) (found : String Global) (v : Vec Data Global) → IsTupleStructOf name P (held.TupleStruct found v)
    → P v.items
from-TupleStruct name P found v h = search (rules, the_lemmas)

module _ (name : List ℕ) (d : Data) (found : String Global) (b : Box Data Global) (is : d ≡ held.Newtype found b) where
  pub newtype_accepted : (P : Data → Type 0) → chars (string_bytes found) ≡ chars name → P b.value → IsNewtypeOf name P d
  newtype_accepted P e h = subst (IsNewtypeOf name P) (sym is) (accepts-Newtype name P found b e h)

  pub newtype_held : (P : Data → Type 0) → IsNewtypeOf name P d → P b.value
  newtype_held P h = from-Newtype name P found b (subst (IsNewtypeOf name P) is h)

  pub newtype_view : chars (string_bytes found) ≡ chars name → data_view d ≡ data_of_newtype name (data_view b.value)
  newtype_view e = ap data_view is ∙ (view-Newtype found b ∙ ap (λ n. plain.newtype_of n (data_view b.value)) e)

module _ (name : List ℕ) (d : Data) (found : String Global) (v : Vec Data Global) (is : d ≡ held.TupleStruct found v) where
  pub tuple_struct_accepted : (P : List Data → Type 0) → chars (string_bytes found) ≡ chars name → P v.items → IsTupleStructOf name P d
  tuple_struct_accepted P e h = subst (IsTupleStructOf name P) (sym is) (accepts-TupleStruct name P found v e h)

  pub tuple_struct_items : (P : List Data → Type 0) → IsTupleStructOf name P d → P v.items
  tuple_struct_items P h = from-TupleStruct name P found v (subst (IsTupleStructOf name P) is h)

  pub tuple_struct_view : chars (string_bytes found) ≡ chars name → data_view d ≡ plain.tuple_struct_of (chars name) (items_view v.items)
  tuple_struct_view e = ap data_view is ∙ (view-TupleStruct found v ∙ ap (λ n. plain.tuple_struct_of n (items_view v.items)) e)

-- ---- data is of the schema

pub newtype_is_of : (name : List ℕ) (t : Table) (d : plain.Data) → IsOfOrdered t d → IsOfOrdered (table_of_newtype name t) (data_of_newtype name d)
newtype_is_of name t d h o =
    let s : Shape = newtype (chars name) (root_in [] t) in
    (root_in [] t, get_last (put [] t) s, of_grown (put [] t) (s ∷ []) (root_in [] t) d (of_put [] t d (h o)))

pub tuple_struct_is_of : (name : List ℕ) (ts : List Table) (ds : List plain.Data) → EachIsOf ts ds
    → IsOfOrdered (table_of_tuple_struct name ts) (data_of_tuple_struct name ds)
tuple_struct_is_of name ts ds h o =
    let s : Shape = tuple_struct (chars name) (roots_in [] ts) in
    (roots_in [] ts, get_last (put_all [] ts) s, each_grown (put_all [] ts) (s ∷ []) (roots_in [] ts) (plain.datas ds) (each_put [] ts ds h o))
