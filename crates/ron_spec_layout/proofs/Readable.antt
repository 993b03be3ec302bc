-- Without docs no doc comment is written, so what is written without a configuration can be read back.
use Rattle.std.proofs.Common.{◌≡◌, ℕ, ℕ, Bool, true, false, not, ◌&&◌, ◌||◌, List, refl, sym, ◌∙◌}
use Rattle.std.proofs.Math.Bool.{and-false}
use Rattle.std.specs.Option.{is_none}
use Rattle.ron_spec_grammar.specs.Schema.{Shape, is_well_formed, OfShape}
use Rattle.ron_spec_grammar.specs.Document.{Document}
use Rattle.ron_spec_grammar.specs.Data.{Data, bool_of, int_of, char_of, str_of, bytes_of, the_unit, the_none, some_of, unit_struct_of, list_of, tuple_of}
use Rattle.ron_spec_grammar.specs.Data.{tuple_struct_of, map_of, newtype_of, struct_of, unit_variant_of, newtype_variant_of, tuple_variant_of}
use Rattle.ron_spec_grammar.specs.Data.{struct_variant_of, value_of, Datas, no_datas, data_and, Pairs, no_pairs, pair_and, Fields, no_fields, field_and, raw_of}
use Rattle.ron_spec_grammar.specs.Rule.{Extensions}
use Rattle.ron_spec_layout.specs.Name.{names_ok}
use Rattle.ron_spec_layout.specs.Encodable.{is_encodable}
use Rattle.ron_spec_layout.specs.Same.{is_rawless}
use Rattle.ron_spec_layout.specs.Layout.{extensions_under, full_layout}
use Rattle.ron_spec_layout.specs.Config.{no_docs, Config, no_config}
use Rattle.ron_spec_layout.specs.Ranges.{compact_range}
use Rattle.ron_spec_layout.specs.Docs.{is_documented, are_documented, pairs_documented, fields_documented}
use Rattle.ron_spec_layout.specs.Statement.{IsReadable}
use Rattle.ron_spec_layout.specs.Normal.{norm_with}
use Rattle.ron_spec_layout.proofs.Whole.{normal_read_back}

neither : (a b : Bool) → a ≡ false → b ≡ false → (a || b) ≡ false
neither a b h k = rw (h, k) refl

mutual
  pub no_doc : (c : Config) (d : Data) → is_documented c no_docs d ≡ false
  no_doc c (some_of d) = no_doc c d
  no_doc c (list_of ds) = no_docs_in c ds
  no_doc c (tuple_of ds) = no_docs_in c ds
  no_doc c (tuple_struct_of name ds) = no_docs_in c ds
  no_doc c (map_of ps) = no_docs_on c ps
  no_doc c (newtype_of name d) = no_doc c d
  no_doc c (struct_of name ds) = rw (no_docs_at c ds) (and-false (is_none (compact_range c (struct_of name ds))))
  no_doc c (newtype_variant_of name v d) = no_doc c d
  no_doc c (tuple_variant_of name v ds) = no_docs_in c ds
  no_doc c (struct_variant_of name v ds) = no_docs_at c ds
  no_doc c (bool_of b) = refl
  no_doc c (int_of w n) = refl
  no_doc c (char_of a) = refl
  no_doc c (str_of t) = refl
  no_doc c (bytes_of bs) = refl
  no_doc c the_unit = refl
  no_doc c the_none = refl
  no_doc c (unit_struct_of name) = refl
  no_doc c (unit_variant_of name v) = refl
  no_doc c (value_of t) = refl
  no_doc c (raw_of t) = refl

  no_docs_in : (c : Config) (ds : Datas) → are_documented c no_docs ds ≡ false
  no_docs_in c no_datas = refl
  no_docs_in c (data_and d ds) = neither (is_documented c no_docs d) (are_documented c no_docs ds) (no_doc c d) (no_docs_in c ds)

  no_docs_on : (c : Config) (ps : Pairs) → pairs_documented c no_docs ps ≡ false
  no_docs_on c no_pairs = refl
  no_docs_on c (pair_and k d ps) = neither (is_documented c no_docs k) (is_documented c no_docs d || pairs_documented c no_docs ps) (no_doc c k)
      (neither (is_documented c no_docs d) (pairs_documented c no_docs ps) (no_doc c d) (no_docs_on c ps))

  no_docs_at : (c : Config) (ds : Fields) → fields_documented c no_docs ds ≡ false
  no_docs_at c no_fields = refl
  no_docs_at c (field_and name d ds) = neither (not c.compact_structs && false) (is_documented c no_docs d || fields_documented c no_docs ds)
      (and-false (not c.compact_structs)) (neither (is_documented c no_docs d) (fields_documented c no_docs ds) (no_doc c d) (no_docs_at c ds))

pub readable : (d : Data) → IsReadable no_config no_docs d
readable d = record { blank = refl; ends = λ e. absurd (let no : false ≡ true = sym (no_doc no_config d) ∙ e in cc) }

-- and is read back as its normal form, where no raw text stands in it
pub read_back : (x : Extensions) (schema : List Shape) (root : ℕ) (d : Data) → is_well_formed schema root ≡ true → OfShape schema root d
    → is_encodable (extensions_under x no_config).implicit_some d ≡ true → names_ok d ≡ true → is_rawless d ≡ true
    → (room : ℕ) × Document x schema root room (full_layout x no_config d) (norm_with false d)
read_back x schema root d well o en ok rawless = normal_read_back no_config x schema root d (readable d) well o en ok rawless
