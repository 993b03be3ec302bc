-- The order of data is total and tells all data apart.
use Rattle.std.specs.Prelude.{◌≡◌, refl, ℕ, ℤ, List, [], map, true, false, not, ◌==◌, cond}
use Rattle.std.proofs.Common.{sym, ap, ap₂, ◌∙◌}
use Rattle.std.specs.declared.cmp.Ordering.TheVariants.{Equal}
use Rattle.std.specs.Cmp.{IsTotalOrder, on_total}
use Rattle.ron_spec_words.specs.Characters.{Text}
use Rattle.ron_value.specs.Node.{Node, node, Nodes, no_nodes, node_and}
use Rattle.ron_value.specs.NodeLaws.{node_cmp_total, node_same}
use Rattle.ron_value.specs.OrderLaws.{number_at, unsigned, unsigned_back, width_at, width_back, tree_in, tree_back}
use Rattle.ron_value.specs.Tree.{Tree, unit}
use Rattle.ron_spec_grammar.specs.Data.{Data, bool_of, int_of, char_of, str_of, bytes_of, the_unit, the_none, some_of, unit_struct_of, list_of, tuple_of}
use Rattle.ron_spec_grammar.specs.Data.{tuple_struct_of, map_of, newtype_of, struct_of, unit_variant_of, newtype_variant_of, tuple_variant_of}
use Rattle.ron_spec_grammar.specs.Data.{struct_variant_of, value_of, raw_of, Datas, no_datas, data_and, Pairs, no_pairs, pair_and, Fields, no_fields, field_and}
use Rattle.ron_data.specs.Datum.{Content, no_content, one_of, items_of, named_of}
use Rattle.ron_data.specs.Order.{node_of, item_nodes, pair_nodes, field_nodes, data_cmp, content_data, content_cmp}

pub data_cmp_total : IsTotalOrder data_cmp
data_cmp_total = on_total node_of node_cmp_total

-- ---- data is known from its node

abbrev text_in : Data → Text
text_in (str_of s) = s
text_in _ = []

abbrev first_in : Datas → Data
first_in no_datas = the_unit
first_in (data_and d ds) = d

abbrev pairs_in : Datas → Pairs
pairs_in no_datas = no_pairs
pairs_in (data_and k no_datas) = no_pairs
pairs_in (data_and k (data_and d ds)) = pair_and k d (pairs_in ds)

abbrev fields_in : Datas → Fields
fields_in no_datas = no_fields
fields_in (data_and s no_datas) = no_fields
fields_in (data_and s (data_and d ds)) = field_and (text_in s) d (fields_in ds)

abbrev variant_with : Text → Text → Data → Data
variant_with s v (some_of d) = newtype_variant_of s v d
variant_with s v (list_of ds) = tuple_variant_of s v ds
variant_with s v (struct_of name fs) = struct_variant_of s v fs
variant_with s v _ = unit_variant_of s v

abbrev variant_in : Text → Datas → Data
variant_in s no_datas = the_unit
variant_in s (data_and v ds) = variant_with s (text_in v) (first_in ds)

abbrev value_in : Nodes → Tree
value_in no_nodes = unit
value_in (node_and n ns) = tree_in n

abbrev data_at : ℕ → List ℤ → Nodes → Datas → Data
data_at place ks ns ds =
    let s = map unsigned ks in
    cond (place == 0) (bool_of (not (unsigned (number_at ks 0) == 0))) (
    cond (place == 1) (int_of (width_at (unsigned (number_at ks 0))) (number_at ks 1)) (
    cond (place == 2) (char_of (unsigned (number_at ks 0))) (
    cond (place == 3) (str_of s) (
    cond (place == 4) (bytes_of s) (
    cond (place == 5) the_unit (
    cond (place == 6) the_none (
    cond (place == 7) (some_of (first_in ds)) (
    cond (place == 8) (list_of ds) (
    cond (place == 9) (tuple_of ds) (
    cond (place == 10) (map_of (pairs_in ds)) (
    cond (place == 11) (unit_struct_of s) (
    cond (place == 12) (newtype_of s (first_in ds)) (
    cond (place == 13) (tuple_struct_of s ds) (
    cond (place == 14) (struct_of s (fields_in ds)) (
    cond (place == 15) (variant_in s ds) (
    cond (place == 16) (value_of (value_in ns)) (raw_of s)))))))))))))))))

abbrev mutual
  data_in : Node → Data
  data_in (node place ks ns) = data_at place ks ns (datas_in ns)

  datas_in : Nodes → Datas
  datas_in no_nodes = no_datas
  datas_in (node_and n ns) = data_and (data_in n) (datas_in ns)

mutual
  data_back : (d : Data) → data_in (node_of d) ≡ d
  data_back (bool_of false) = refl
  data_back (bool_of true) = refl
  data_back (int_of w n) = ap (λ v. int_of v n) (width_back w)
  data_back (char_of c) = refl
  data_back (str_of s) = ap str_of (unsigned_back s)
  data_back (bytes_of bs) = ap bytes_of (unsigned_back bs)
  data_back the_unit = refl
  data_back the_none = refl
  data_back (some_of d) = ap some_of (data_back d)
  data_back (list_of ds) = ap list_of (items_back ds)
  data_back (tuple_of ds) = ap tuple_of (items_back ds)
  data_back (map_of ps) = ap map_of (pairs_back ps)
  data_back (unit_struct_of s) = ap unit_struct_of (unsigned_back s)
  data_back (newtype_of s d) = ap₂ newtype_of (unsigned_back s) (data_back d)
  data_back (tuple_struct_of s ds) = ap₂ tuple_struct_of (unsigned_back s) (items_back ds)
  data_back (struct_of s fs) = ap₂ struct_of (unsigned_back s) (fields_back fs)
  data_back (unit_variant_of s v) = ap₂ unit_variant_of (unsigned_back s) (unsigned_back v)
  data_back (newtype_variant_of s v d) = λ i. newtype_variant_of (unsigned_back s i) (unsigned_back v i) (data_back d i)
  data_back (tuple_variant_of s v ds) = λ i. tuple_variant_of (unsigned_back s i) (unsigned_back v i) (items_back ds i)
  data_back (struct_variant_of s v fs) = λ i. struct_variant_of (unsigned_back s i) (unsigned_back v i) (fields_back fs i)
  data_back (value_of t) = ap value_of (tree_back t)
  data_back (raw_of s) = ap raw_of (unsigned_back s)

  items_back : (ds : Datas) → datas_in (item_nodes ds) ≡ ds
  items_back no_datas = refl
  items_back (data_and d ds) = ap₂ data_and (data_back d) (items_back ds)

  pairs_back : (ps : Pairs) → pairs_in (datas_in (pair_nodes ps)) ≡ ps
  pairs_back no_pairs = refl
  pairs_back (pair_and k d ps) = λ i. pair_and (data_back k i) (data_back d i) (pairs_back ps i)

  fields_back : (fs : Fields) → fields_in (datas_in (field_nodes fs)) ≡ fs
  fields_back no_fields = refl
  fields_back (field_and s d fs) = λ i. field_and (unsigned_back s i) (data_back d i) (fields_back fs i)

pub data_cmp_same : (d e : Data) → data_cmp d e ≡ Equal → d ≡ e
data_cmp_same d e h = sym (data_back d) ∙ ap data_in (node_same (node_of d) (node_of e) h) ∙ data_back e

-- ---- what variants hold

pub content_cmp_total : IsTotalOrder content_cmp
content_cmp_total = on_total content_data data_cmp_total

abbrev content_in : Data → Content
content_in (some_of d) = one_of d
content_in (list_of ds) = items_of ds
content_in (struct_of s fs) = named_of fs
content_in _ = no_content

content_back : (c : Content) → content_in (content_data c) ≡ c
content_back no_content = refl
content_back (one_of d) = refl
content_back (items_of ds) = refl
content_back (named_of fs) = refl

pub content_cmp_same : (c d : Content) → content_cmp c d ≡ Equal → c ≡ d
content_cmp_same c d h = sym (content_back c) ∙ ap content_in (data_cmp_same (content_data c) (content_data d) h) ∙ content_back d
