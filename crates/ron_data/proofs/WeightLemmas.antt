-- How large data is: recursion over it ends.
use Rattle.std.proofs.Common.{◌≡◌, ℕ, suc, ◌+◌, List, ◌∷◌, sym, ap}
use Rattle.ron_spec_grammar.specs.Data as plain
use Rattle.ron_data.specs.declared.data.Data.{Data}
use Rattle.ron_data.specs.Datum.{data_view, items_view, Content, no_content, one_of, items_of, named_of}

-- the data in data, itself among them
abbrev mutual
  pub weight : plain.Data → ℕ
  weight (plain.some_of d) = suc (weight d)
  weight (plain.list_of ds) = suc (items_weight ds)
  weight (plain.tuple_of ds) = suc (items_weight ds)
  weight (plain.map_of ps) = suc (pairs_weight ps)
  weight (plain.newtype_of name d) = suc (weight d)
  weight (plain.tuple_struct_of name ds) = suc (items_weight ds)
  weight (plain.struct_of name fs) = suc (fields_weight fs)
  weight (plain.newtype_variant_of name v d) = suc (weight d)
  weight (plain.tuple_variant_of name v ds) = suc (items_weight ds)
  weight (plain.struct_variant_of name v fs) = suc (fields_weight fs)
  weight _ = 1

  pub items_weight : plain.Datas → ℕ
  items_weight plain.no_datas = 0
  items_weight (plain.data_and d ds) = weight d + items_weight ds

  pub pairs_weight : plain.Pairs → ℕ
  pairs_weight plain.no_pairs = 0
  pairs_weight (plain.pair_and k v ps) = weight k + weight v + pairs_weight ps

  pub fields_weight : plain.Fields → ℕ
  fields_weight plain.no_fields = 0
  fields_weight (plain.field_and name d fs) = weight d + fields_weight fs

-- of what a variant holds
abbrev pub content_weight : Content → ℕ
content_weight no_content = 0
content_weight (one_of d) = weight d
content_weight (items_of ds) = items_weight ds
content_weight (named_of fs) = fields_weight fs

-- ---- what is left is no larger

pub item_within : (left rest : List Data) (d : Data) → left ≡ d ∷ rest → weight (data_view d) + items_weight (items_view rest) ≡ items_weight (items_view left)
item_within left rest d e = sym (ap (λ ds. items_weight (items_view ds)) e)
