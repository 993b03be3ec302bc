-- Where no doc comment is written, the docs do not matter.
use Rattle.std.proofs.Common.{◌≡◌, ℕ, suc, Bool, true, false, not, ◌&&◌, ◌||◌, cond, List, [], ◌∷◌, ◌++◌, codes, flat_map, Option, Some, None, refl, sym, ap}
use Rattle.std.proofs.Common.{ap₂, ◌∙◌}
use Rattle.std.specs.Option.{is_none, unwrap_or}
use Rattle.std.specs.Str.Lines.{lines}
use Rattle.std.proofs.lemmas.Bool.{or_parts}
use Rattle.ron_spec_words.specs.Characters.{Text}
use Rattle.ron_spec_grammar.specs.Data.{Data, bool_of, int_of, char_of, str_of, bytes_of, the_unit, the_none, some_of, unit_struct_of, list_of, tuple_of}
use Rattle.ron_spec_grammar.specs.Data.{tuple_struct_of, map_of, newtype_of, struct_of, unit_variant_of, newtype_variant_of, tuple_variant_of}
use Rattle.ron_spec_grammar.specs.Data.{struct_variant_of, value_of, Datas, no_datas, data_and, Pairs, no_pairs, pair_and, Fields, no_fields, field_and, raw_of}
use Rattle.ron_spec_grammar.specs.Rule.{Extensions}
use Rattle.ron_spec_layout.specs.Name.{written_name}
use Rattle.ron_spec_layout.specs.Brackets.{bracketed, behind_name, in_some, tuple_text}
use Rattle.ron_spec_layout.specs.Config.{Docs, no_docs, Config, spacing, inner_level, spaced, item_comment}
use Rattle.ron_spec_layout.specs.Ranges.{compact_range}
use Rattle.ron_spec_layout.specs.Docs.{doc_of, docs_within, doc_line, doc_comment, has_lines, is_documented, are_documented, pairs_documented}
use Rattle.ron_spec_layout.specs.Docs.{fields_documented}
use Rattle.ron_spec_layout.specs.Layout.{colon, layout_within, numbered_texts, item_texts, pair_texts, field_texts}

module _ (c : Config) (x : Extensions) where
  no_comment : (level : ℕ) (docs : Docs) (name : Text) → (not c.compact_structs && has_lines (lines (doc_of docs name))) ≡ false
      → doc_comment c level docs name ≡ []
  no_comment level docs name = go c.compact_structs (lines (doc_of docs name))
    where
      go : (b : Bool) (ts : List Text) → (not b && has_lines ts) ≡ false → cond b [] (flat_map (doc_line c level) ts) ≡ []
      go true ts h = refl
      go false [] h = refl
      go false (t ∷ ts) h = absurd (cc)

  nothing : (b : Bool) (level : ℕ) (name : Text) → cond b [] (flat_map (doc_line c level) (lines [])) ≡ []
  nothing true level name = refl
  nothing false level name = refl

  -- a range, or texts that are the same where nothing is documented
  written_alike : (o : Option Text) (documented : Bool) {t u : Text} → (is_none o && documented) ≡ false → (documented ≡ false → t ≡ u)
      → unwrap_or o t ≡ unwrap_or o u
  written_alike None documented h f = f h
  written_alike (Some r) documented h f = refl

  mutual
    unfolding layout_within

    pub undocumented : (d : Data) (level : ℕ) (docs : Docs) (bare : Bool) (n : ℕ) → is_documented c docs d ≡ false
        → layout_within c x level docs bare n d ≡ layout_within c x level no_docs bare n d
    undocumented (bool_of b) level docs bare n h = refl
    undocumented (int_of w i) level docs bare n h = refl
    undocumented (char_of a) level docs bare n h = refl
    undocumented (str_of t) level docs bare n h = refl
    undocumented (bytes_of bs) level docs bare n h = refl
    undocumented the_unit level docs bare n h = refl
    undocumented the_none level docs bare n h = refl
    undocumented (unit_struct_of name) level docs bare n h = refl
    undocumented (unit_variant_of name v) level docs bare n h = refl
    undocumented (value_of t) level docs bare n h = refl
    undocumented (raw_of t) level docs bare n h = refl
    undocumented (some_of d) level docs bare n h =
        ap₂ (λ u v. cond x.implicit_some u (in_some v)) (undocumented d level docs bare (suc n) h) (undocumented d level docs x.unwrap_variant_newtypes 0 h)
    undocumented (list_of ds) level docs bare n h =
        ap (λ ts. codes "[" ++ (spaced (spacing c c.compact_arrays level) ts ++ codes "]")) (numbered_plain ds (inner_level c.compact_arrays level) docs 0 h)
    undocumented (tuple_of ds) level docs bare n h = ap (λ ts. tuple_text bare n (spaced (spacing c (not c.separate_tuple_members) level) ts))
        (items_plain ds (inner_level (not c.separate_tuple_members) level) docs h)
    undocumented (tuple_struct_of name ds) level docs bare n h = ap (λ ts. behind_name (c.struct_names || x.explicit_struct_names) bare name (tuple_text bare n
        (spaced (spacing c (not c.separate_tuple_members) level) ts))) (items_plain ds (inner_level (not c.separate_tuple_members) level) docs h)
    undocumented (map_of ps) level docs bare n h =
        ap (λ ts. codes "{" ++ (spaced (spacing c c.compact_maps level) ts ++ codes "}")) (pairs_plain ps (inner_level c.compact_maps level) docs h)
    undocumented (newtype_of name d) level docs bare n h =
        ap₂ (λ u v. cond (bare || x.unwrap_newtypes) u (behind_name (c.struct_names || x.explicit_struct_names) false name (bracketed false v)))
        (undocumented d level docs false n h) (undocumented d level docs false 0 h)
    undocumented (struct_of name ds) level docs bare n h = written_alike (compact_range c (struct_of name ds)) (fields_documented c docs ds) h
        (λ k. ap (λ ts. behind_name (c.struct_names || x.explicit_struct_names) bare name (bracketed bare (spaced (spacing c c.compact_structs level) ts)))
        (fields_plain ds (inner_level c.compact_structs level) docs k))
    undocumented (newtype_variant_of name v d) level docs bare n h =
        ap (λ t. written_name v ++ bracketed false t) (undocumented d level docs x.unwrap_variant_newtypes 0 h)
    undocumented (tuple_variant_of name v ds) level docs bare n h = ap (λ ts. written_name v ++ bracketed false
        (spaced (spacing c (not c.separate_tuple_members) level) ts)) (items_plain ds (inner_level (not c.separate_tuple_members) level) docs h)
    undocumented (struct_variant_of name v ds) level docs bare n h = ap
        (λ ts. written_name v ++ bracketed false (spaced (spacing c c.compact_structs level) ts)) (fields_plain ds (inner_level c.compact_structs level) docs h)

    numbered_plain : (ds : Datas) (level : ℕ) (docs : Docs) (k : ℕ) → are_documented c docs ds ≡ false
        → numbered_texts c x level docs k ds ≡ numbered_texts c x level no_docs k ds
    numbered_plain no_datas level docs k h = refl
    numbered_plain (data_and d ds) level docs k h = let p = or_parts (is_documented c docs d) (are_documented c docs ds) h in
        ap₂ (λ t ts. (item_comment c level k ++ t) ∷ ts) (undocumented d level docs false 0 p.0) (numbered_plain ds level docs (suc k) p.1)

    items_plain : (ds : Datas) (level : ℕ) (docs : Docs) → are_documented c docs ds ≡ false → item_texts c x level docs ds ≡ item_texts c x level no_docs ds
    items_plain no_datas level docs h = refl
    items_plain (data_and d ds) level docs h = let p = or_parts (is_documented c docs d) (are_documented c docs ds) h in
        ap₂ (λ t ts. t ∷ ts) (undocumented d level docs false 0 p.0) (items_plain ds level docs p.1)

    pairs_plain : (ps : Pairs) (level : ℕ) (docs : Docs) → pairs_documented c docs ps ≡ false → pair_texts c x level docs ps ≡ pair_texts c x level no_docs ps
    pairs_plain no_pairs level docs h = refl
    pairs_plain (pair_and k d ps) level docs h =
        let p = or_parts (is_documented c docs k) (is_documented c docs d || pairs_documented c docs ps) h in
        let q = or_parts (is_documented c docs d) (pairs_documented c docs ps) p.1 in
        ap₂ (λ t ts. t ∷ ts) (ap₂ (λ u v. u ++ (colon c ++ v)) (undocumented k level docs false 0 p.0) (undocumented d level docs false 0 q.0))
        (pairs_plain ps level docs q.1)

    fields_plain : (ds : Fields) (level : ℕ) (docs : Docs) → fields_documented c docs ds ≡ false
        → field_texts c x level docs ds ≡ field_texts c x level no_docs ds
    fields_plain no_fields level docs h = refl
    fields_plain (field_and name d ds) level docs h =
        let p =
        or_parts (not c.compact_structs && has_lines (lines (doc_of docs name))) (is_documented c (docs_within docs name) d || fields_documented c docs ds) h in
        let q = or_parts (is_documented c (docs_within docs name) d) (fields_documented c docs ds) p.1 in
        ap₂ (λ t ts. t ∷ ts) (ap₂ (λ u v. u ++ (written_name name ++ (colon c ++ v))) (no_comment level docs name p.0
        ∙ sym (nothing c.compact_structs level name)) (undocumented d level (docs_within docs name) false 0 q.0)) (fields_plain ds level docs q.1)
