-- What a value becomes by the shape that code has found.
use Rattle.std.proofs.Common.{◌≡◌, ℕ, true, false, List, chars, string_bytes, String, Vec, Global, Box, Option, Some, None, option_map, Result, Ok, Err}
use Rattle.std.proofs.Common.{MatchResult, slice_get, refl, sym, ap, subst, ◌∙◌}
use Rattle.std.specs.Option.{option_and_then}
use Rattle.ron_spec_words.specs.Characters.{Text}
use Rattle.ron_spec_grammar.specs.Data as plain
use Rattle.ron_spec_grammar.specs.Schema as schema
use Rattle.ron_spec_grammar.specs.Equal.{folded}
use Rattle.ron_spec_grammar.specs.Shapes.Map.{map_data}
use Rattle.ron_spec_grammar.specs.Shapes.Struct.{Item, arranged, struct_from}
use Rattle.ron_spec_grammar.specs.Values.Conversion.{or_itself, into, some_as, sequence_as, mapping_as}
use Rattle.ron_value.specs.Tree.{Tree}
use Rattle.ron_value.specs.Tree as tree
use Rattle.ron_data.specs.declared.data.Data.{Data}
use Rattle.ron_data.specs.declared.data.Data.TheVariants as data_
use Rattle.ron_data.specs.Datum.{data_view, fields_view}
use Rattle.ron_data.proofs.DatumLemmas.{view-some, view-struct}
use Rattle.ron_base.specs.declared.error.Error.{Error}
use Rattle.ron_data_convert.specs.Becomes.{Becomes, is_any_value, moves_into}
use Rattle.ron_data_convert.specs.Misfits.{Misfit, lacks_field, mapping_misfit}
use Rattle.ron_data_schema.specs.declared.schema.FieldList.{FieldList}
use Rattle.ron_data_schema.specs.Shapes.{list_view, struct_view}
use Rattle.ron_data.specs.Slots.{slots_view, AreSlotsOf, MissesField, filled}
use Rattle.ron_data_convert.proofs.BecomesLemmas.{memory_or_more, misses}
use Rattle.ron_data.proofs.ItemLemmas.{filled_is}

-- ---- a shape that is not that of values

itself : (t : Tree) (o : Option schema.Shape) (d : Option plain.Data) → is_any_value o ≡ false → or_itself t o d ≡ d
itself t None d e = refl
itself t (Some schema.any_value) d e = absurd (cc)
itself t (Some _) d e = refl

-- what is made of a value and the shape at an index is made of it and the shape that is found there
pub by_shape : (t : Tree) (table : List schema.Shape) (i : ℕ) (found : Option schema.Shape) (make : Option schema.Shape → Option plain.Data)
    → slice_get table i ≡ found → is_any_value found ≡ false
    → or_itself t (slice_get table i) (make (slice_get table i)) ≡ make found
by_shape t table i found make e other = ap (λ o. or_itself t o (make o)) e ∙ itself t found (make found) other

-- what a value becomes, by the case that its tree is of
pub into_as : (t u : Tree) (table : List schema.Shape) (i : ℕ) (found : Option schema.Shape) (make : Option schema.Shape → Option plain.Data) → u ≡ t
    → into table i t ≡ or_itself t (slice_get table i) (make (slice_get table i)) → slice_get table i ≡ found
    → is_any_value found ≡ false → into table i u ≡ make found
into_as t u table i found make e step at other = ap (into table i) e ∙ step ∙ by_shape t table i found make at other

-- the fields of the items, from their slots
pub fields_made : (fields : List schema.Field) (answer : Option (List Item)) (items : List Item) (slots : List (Option Data)) → answer ≡ Some items
    → AreSlotsOf (slots_view slots) fields items
    → option_and_then (arranged fields) answer ≡ filled fields (slots_view slots)
fields_made fields answer items slots e are = ap (option_and_then (arranged fields)) e ∙ sym (filled_is fields items (slots_view slots) are)

-- what code answers of slots, as what the fields become
pub becomes_fields : (answer made : Option plain.Fields) (m : Misfit) (result : Result (Vec (String Global × Data) Global) Error) → answer ≡ made
    → m ≡ lacks_field → MatchResult result (λ all. made ≡ Some (fields_view all.items)) (MissesField (made ≡ None))
    → Becomes (λ all. fields_view all.items) answer m result
becomes_fields answer made m (Ok all) e is h = e ∙ h
becomes_fields answer made m (Err x) e is h = memory_or_more x (λ _. sym is) (λ n. e ∙ n) (misses (made ≡ None) x h)

-- the first misfit of a struct's fields is the struct's
pub struct_misfit : (pairs : ℕ → ℕ → Misfit) (fields_of : schema.FieldList → Misfit) (seen : Option schema.Shape) (name : List ℕ) (list : FieldList)
    → seen ≡ Some (struct_view name list) → fields_of (list_view list) ≡ mapping_misfit pairs fields_of seen
struct_misfit pairs fields_of seen name list e = sym (ap (mapping_misfit pairs fields_of) e)

-- a struct is made of its fields
of_fields : (name : Text) (fields : List schema.Field) (answer : Option (List Item))
    → option_and_then (struct_from name fields) answer ≡ option_map (plain.struct_of name) (option_and_then (arranged fields) answer)
of_fields name fields None = refl
of_fields name fields (Some items) = refl

-- the struct that the code makes, of all its fields; and none, where there aren't all
module _ (pairs : ℕ → ℕ → Option (List (plain.Data × plain.Data))) (fields_of : schema.FieldList → Option (List Item)) (seen : Option schema.Shape)
    (name : List ℕ) (list : FieldList) (e : seen ≡ Some (struct_view name list)) where
  from_fields : mapping_as pairs fields_of seen
      ≡ option_map (plain.struct_of (chars name)) (option_and_then (arranged (list_view list).fields) (fields_of (list_view list)))
  from_fields = ap (mapping_as pairs fields_of) e ∙ of_fields (chars name) (list_view list).fields (fields_of (list_view list))

  pub no_struct : option_and_then (arranged (list_view list).fields) (fields_of (list_view list)) ≡ None → mapping_as pairs fields_of seen ≡ None
  no_struct none = from_fields ∙ ap (option_map (plain.struct_of (chars name))) none

  pub the_struct : (own : String Global) (all : Vec (String Global × Data) Global)
      → option_and_then (arranged (list_view list).fields) (fields_of (list_view list)) ≡ Some (fields_view all.items) → string_bytes own ≡ name
      → mapping_as pairs fields_of seen ≡ Some (data_view (data_.Struct own all))
  the_struct own all f n = from_fields ∙ ap (option_map (plain.struct_of (chars name))) f
      ∙ ap (λ bs. Some (plain.struct_of (chars bs) (fields_view all.items))) (sym n) ∙ ap Some (sym (view-struct own all))

-- the Some that the code makes
pub the_some : (content : ℕ → Option plain.Data) (seen : Option schema.Shape) (j : ℕ) (d : Data) (b : Box Data Global) → seen ≡ Some (schema.optional j)
    → content j ≡ Some (data_view d) → b.value ≡ d → some_as content seen ≡ Some (data_view (data_.Option (Some b)))
the_some content seen j d b e is same =
    ap (some_as content) e ∙ ap (option_map plain.some_of) is ∙ ap (λ d. Some (plain.some_of (data_view d))) (sym same) ∙ ap Some (sym (view-some b))

-- ---- what holds others is made of its parts, so the value doesn't move as it is

made : {A : Type 0} (f : A → plain.Data) (t : Tree) → ((a : A) → moves_into t (f a) ≡ false) → (o : Option A) (d : plain.Data) → option_map f o ≡ Some d
    → moves_into t d ≡ false
made f t h None d e = absurd (cc)
made f t h (Some a) d e = let same : f a ≡ d = cc in subst (λ d. moves_into t d ≡ false) same (h a)

made_then : {A : Type 0} (f : A → Option plain.Data) (t : Tree) → ((a : A) (d : plain.Data) → f a ≡ Some d → moves_into t d ≡ false)
    → (o : Option A) (d : plain.Data) → option_and_then f o ≡ Some d → moves_into t d ≡ false
made_then f t h None d e = absurd (cc)
made_then f t h (Some a) d e = h a d e

sequence_made : (all : ℕ → Option plain.Datas) (in_turn : List ℕ → Option plain.Datas) (only : ℕ → Option plain.Data) (bs : Option (List ℕ))
    (seen : Option schema.Shape) (ts : tree.Items) (d : plain.Data)
    → sequence_as all in_turn only bs seen ≡ Some d → moves_into (tree.sequence ts) d ≡ false
sequence_made all in_turn only bs None ts d e = absurd (cc)
sequence_made all in_turn only bs (Some (schema.seq j)) ts d e = made plain.list_of (tree.sequence ts) (λ _. refl) (all j) d e
sequence_made all in_turn only bs (Some (schema.tuple js)) ts d e = made plain.tuple_of (tree.sequence ts) (λ _. refl) (in_turn js) d e
sequence_made all in_turn only bs (Some (schema.tuple_struct name js)) ts d e =
    made (plain.tuple_struct_of name) (tree.sequence ts) (λ _. refl) (in_turn js) d e
sequence_made all in_turn only bs (Some (schema.newtype name j)) ts d e = made (plain.newtype_of name) (tree.sequence ts) (λ _. refl) (only j) d e
sequence_made all in_turn only bs (Some schema.bytes) ts d e = made plain.bytes_of (tree.sequence ts) (λ _. refl) bs d e
sequence_made all in_turn only bs (Some _) ts d e = absurd (cc)

mapping_made : (pairs : ℕ → ℕ → Option (List (plain.Data × plain.Data))) (fields_of : schema.FieldList → Option (List Item)) (seen : Option schema.Shape)
    (ps : tree.Pairs) (d : plain.Data)
    → mapping_as pairs fields_of seen ≡ Some d → moves_into (tree.mapping ps) d ≡ false
mapping_made pairs fields_of None ps d e = absurd (cc)
mapping_made pairs fields_of (Some (schema.map k v)) ps d e =
    made_then map_data (tree.mapping ps) (λ qs c f. made (λ qs. plain.map_of (folded qs)) (tree.mapping ps) (λ _. refl) (Some qs) c f) (pairs k v) d e
mapping_made pairs fields_of (Some (schema.struct name list)) ps d e =
    made_then (struct_from name list.fields) (tree.mapping ps)
    (λ xs c f. made (plain.struct_of name) (tree.mapping ps) (λ _. refl) (arranged list.fields xs) c f) (fields_of list) d e
mapping_made pairs fields_of (Some _) ps d e = absurd (cc)

stays : (t u : Tree) (d : plain.Data) → u ≡ t → moves_into t d ≡ false → moves_into u d ≡ true → ⊥
stays t u d e f g = let q : true ≡ false = sym g ∙ ap (λ t. moves_into t d) e ∙ f in cc

-- a list doesn't move
pub sequence_stays : (all : ℕ → Option plain.Datas) (in_turn : List ℕ → Option plain.Datas) (only : ℕ → Option plain.Data) (bs : Option (List ℕ))
    (seen : Option schema.Shape) (ts : tree.Items) (u : Tree) (answer : Option plain.Data) (d : plain.Data)
    → u ≡ tree.sequence ts → answer ≡ sequence_as all in_turn only bs seen → answer ≡ Some d → moves_into u d ≡ true → ⊥
sequence_stays all in_turn only bs seen ts u answer d e is f = stays (tree.sequence ts) u d e (sequence_made all in_turn only bs seen ts d (sym is ∙ f))

-- nor does a map
pub mapping_stays : (pairs : ℕ → ℕ → Option (List (plain.Data × plain.Data))) (fields_of : schema.FieldList → Option (List Item)) (seen : Option schema.Shape)
    (ps : tree.Pairs) (u : Tree) (answer : Option plain.Data) (d : plain.Data)
    → u ≡ tree.mapping ps → answer ≡ mapping_as pairs fields_of seen → answer ≡ Some d → moves_into u d ≡ true → ⊥
mapping_stays pairs fields_of seen ps u answer d e is f = stays (tree.mapping ps) u d e (mapping_made pairs fields_of seen ps d (sym is ∙ f))
