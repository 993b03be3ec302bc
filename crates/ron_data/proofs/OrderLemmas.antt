-- What the order of data is at each case, and that it tells the same data as `equal_data`.
use Rattle.std.proofs.Common.{◌≡◌, refl, ap, ◌∙◌, ℕ, List, [], ◌∷◌}
use Rattle.std.specs.Ordering.{ordering_then, nat_cmp}
use Rattle.std.specs.Cmp.Lexicographic.{slice_cmp}
use Rattle.ron_spec_words.specs.Characters.{Text}
use Rattle.ron_value.specs.Node.{Node, node_cmp, nodes_cmp}
use Rattle.ron_value.specs.OrderLaws.{then_Equal, then_assoc, unsigneds_cmp}
use Rattle.ron_spec_grammar.specs.Data.{Data, str_of, bytes_of, some_of, unit_struct_of, list_of, tuple_of, tuple_struct_of, map_of, newtype_of, struct_of}
use Rattle.ron_spec_grammar.specs.Data.{raw_of, datas}
use Rattle.ron_data.specs.Datum.{Content, no_content, one_of, items_of, named_of, variant_of, pairs_of, fields_of}
use Rattle.ron_data.specs.Order.{node_of, variant_node, item_nodes, field_nodes, data_cmp, content_data, text_cmp, pair_cmp, field_cmp}

pub strings_cmp : (s t : Text) → data_cmp (str_of s) (str_of t) ≡ text_cmp s t
strings_cmp s t = then_Equal _ ∙ unsigneds_cmp s t

pub bytes_cmp : (s t : List ℕ) → data_cmp (bytes_of s) (bytes_of t) ≡ slice_cmp nat_cmp s t
bytes_cmp s t = then_Equal _ ∙ unsigneds_cmp s t

pub somes_cmp : (d e : Data) → data_cmp (some_of d) (some_of e) ≡ data_cmp d e
somes_cmp d e = then_Equal _

pub raws_cmp : (s t : Text) → data_cmp (raw_of s) (raw_of t) ≡ text_cmp s t
raws_cmp s t = then_Equal _ ∙ unsigneds_cmp s t

items_cmp : (ds es : List Data) → nodes_cmp (item_nodes (datas ds)) (item_nodes (datas es)) ≡ slice_cmp data_cmp ds es
items_cmp [] [] = refl
items_cmp [] (e ∷ es) = refl
items_cmp (d ∷ ds) [] = refl
items_cmp (d ∷ ds) (e ∷ es) = ap (ordering_then (data_cmp d e)) (items_cmp ds es)

pub lists_cmp : (ds es : List Data) → data_cmp (list_of (datas ds)) (list_of (datas es)) ≡ slice_cmp data_cmp ds es
lists_cmp ds es = items_cmp ds es

pub tuples_cmp : (ds es : List Data) → data_cmp (tuple_of (datas ds)) (tuple_of (datas es)) ≡ slice_cmp data_cmp ds es
tuples_cmp ds es = items_cmp ds es

pub maps_cmp : (ps qs : List (Data × Data)) → data_cmp (map_of (pairs_of ps)) (map_of (pairs_of qs)) ≡ slice_cmp pair_cmp ps qs
maps_cmp [] [] = refl
maps_cmp [] (q ∷ qs) = refl
maps_cmp (p ∷ ps) [] = refl
maps_cmp (p ∷ ps) (q ∷ qs) = then_assoc (data_cmp p.0 q.0) (data_cmp p.1 q.1) _ ∙ ap (ordering_then (pair_cmp p q)) (maps_cmp ps qs)

fields_cmp : (fs gs : List (Text × Data)) → nodes_cmp (field_nodes (fields_of fs)) (field_nodes (fields_of gs)) ≡ slice_cmp field_cmp fs gs
fields_cmp [] [] = refl
fields_cmp [] (g ∷ gs) = refl
fields_cmp (f ∷ fs) [] = refl
fields_cmp (f ∷ fs) (g ∷ gs) =
    (λ i. ordering_then (strings_cmp f.0 g.0 i) (ordering_then (data_cmp f.1 g.1) (fields_cmp fs gs i)))
    ∙ then_assoc (text_cmp f.0 g.0) (data_cmp f.1 g.1) _

pub unit_structs_cmp : (s t : Text) → data_cmp (unit_struct_of s) (unit_struct_of t) ≡ text_cmp s t
unit_structs_cmp s t = then_Equal _ ∙ unsigneds_cmp s t

pub newtypes_cmp : (s t : Text) (d e : Data) → data_cmp (newtype_of s d) (newtype_of t e) ≡ ordering_then (text_cmp s t) (data_cmp d e)
newtypes_cmp s t d e = λ i. ordering_then (unsigneds_cmp s t i) (then_Equal (data_cmp d e) i)

pub tuple_structs_cmp : (s t : Text) (ds es : List Data)
    → data_cmp (tuple_struct_of s (datas ds)) (tuple_struct_of t (datas es)) ≡ ordering_then (text_cmp s t) (slice_cmp data_cmp ds es)
tuple_structs_cmp s t ds es = λ i. ordering_then (unsigneds_cmp s t i) (items_cmp ds es i)

pub structs_cmp : (s t : Text) (fs gs : List (Text × Data))
    → data_cmp (struct_of s (fields_of fs)) (struct_of t (fields_of gs)) ≡ ordering_then (text_cmp s t) (slice_cmp field_cmp fs gs)
structs_cmp s t fs gs = λ i. ordering_then (unsigneds_cmp s t i) (fields_cmp fs gs i)

-- the fields of a variant, as those of a struct without a name
pub contents_cmp : (fs gs : List (Text × Data)) → data_cmp (struct_of [] (fields_of fs)) (struct_of [] (fields_of gs)) ≡ slice_cmp field_cmp fs gs
contents_cmp fs gs = fields_cmp fs gs

-- a variant is its names and what it holds
pub variant_is : (s v : Text) (c : Content) → node_of (variant_of s v c) ≡ variant_node s v (node_of (content_data c))
variant_is s v no_content = refl
variant_is s v (one_of d) = refl
variant_is s v (items_of ds) = refl
variant_is s v (named_of fs) = refl

variant_nodes_cmp : (s t v w : Text) (m n : Node)
    → node_cmp (variant_node s v m) (variant_node t w n) ≡ ordering_then (ordering_then (text_cmp s t) (text_cmp v w)) (node_cmp m n)
variant_nodes_cmp s t v w m n =
    (λ i. ordering_then (unsigneds_cmp s t i) (ordering_then (strings_cmp v w i) (then_Equal (node_cmp m n) i)))
    ∙ then_assoc (text_cmp s t) (text_cmp v w) (node_cmp m n)

pub variants_cmp : (s t v w : Text) (c d : Content)
    → data_cmp (variant_of s v c) (variant_of t w d) ≡ ordering_then (ordering_then (text_cmp s t) (text_cmp v w)) (data_cmp (content_data c) (content_data d))
variants_cmp s t v w c d =
    (λ i. node_cmp (variant_is s v c i) (variant_is t w d i))
    ∙ variant_nodes_cmp s t v w (node_of (content_data c)) (node_of (content_data d))
