-- The layout stands, behind any gap, for what it is read back as: by recursion on the data.
use Rattle.std.proofs.Common.{◌≡◌, ℕ, ◌-◌, true, false, not, ◌&&◌, ◌||◌, List, [], ◌∷◌, ◌++◌, inr, option_map, refl, sym, ap, subst, arith}
use Rattle.std.proofs.lemmas.Bool.{and_parts}
use Rattle.ron_spec_words.specs.Characters.{Text}
use Rattle.ron_spec_words.specs.Gap.{none}
use Rattle.ron_spec_words.specs.Lang.{Means, Group}
use Rattle.ron_spec_words.specs.Name.{is_name}
use Rattle.ron_spec_grammar.specs.Data.{Data, bool_of, int_of, char_of, str_of, bytes_of, the_unit, the_none, some_of, unit_struct_of, list_of, tuple_of}
use Rattle.ron_spec_grammar.specs.Data.{tuple_struct_of, map_of, newtype_of, struct_of, unit_variant_of, newtype_variant_of, tuple_variant_of}
use Rattle.ron_spec_grammar.specs.Data.{struct_variant_of, value_of, Datas, no_datas, data_and, Pairs, no_pairs, pair_and, Fields, no_fields, field_and, raw_of}
use Rattle.ron_spec_grammar.specs.Schema.{Shape, bool, int, char, str, bytes, unit, unit_struct, seq, tuple, tuple_struct, map, struct, enum, newtype_variant}
use Rattle.ron_spec_grammar.specs.Schema.{tuple_variant, struct_variant, any_value, any_raw, names_differ, has_distinct_names, is_well_formed}
use Rattle.ron_spec_grammar.specs.Rule.{Extensions}
use Rattle.ron_spec_grammar.specs.Grammar.{Spells}
use Rattle.ron_spec_grammar.specs.Values.Trees.{normal}
use Rattle.ron_spec_grammar.specs.Shapes.Bytes.{bytes_data}
use Rattle.ron_spec_grammar.specs.Shapes.Str.{str_data}
use Rattle.ron_spec_grammar.specs.Shapes.Enum.{newtype_variant_data, struct_variant_from}
use Rattle.ron_spec_grammar.specs.Shapes.Option.{Content}
use Rattle.ron_spec_grammar.specs.Shapes.Raw.{RawPart, raw_data}
use Rattle.ron_spec_grammar.specs.Shapes.Value.{value_data}
use Rattle.ron_spec_grammar.specs.Raw.{trimmed}
use Rattle.ron_spec_grammar.proofs.Finding.{all_get}
use Rattle.ron_spec_grammar.proofs.Shapes.Enum.{fields_differ}
use Rattle.ron_spec_grammar.proofs.Shapes.Value.{as_deep}
use Rattle.ron_spec_grammar.proofs.Place.{formed_parts}
use Rattle.ron_spec_layout.specs.Name.{names_ok, all_names_ok, field_names_ok}
use Rattle.ron_spec_layout.specs.Brackets.{bracketed, behind_name}
use Rattle.ron_spec_layout.specs.Config.{Config, spacing, inner_level, spaced}
use Rattle.ron_spec_layout.specs.Layout.{layout_within, layout, numbered_texts, pair_texts}
use Rattle.ron_spec_layout.specs.Back.{back, numbered_back, pairs_back}
use Rattle.ron_spec_layout.specs.Keeping.{tuple_inside, fields_inside}
use Rattle.ron_spec_layout.specs.Stand.{StandsFirst, Stands}
use Rattle.ron_spec_layout.proofs.Stands.{ends_delimiter, may_follow_ends, stands_as, stands_means, plain_stands}
use Rattle.ron_spec_layout.proofs.Named.{in_round}
use Rattle.ron_spec_layout.proofs.Items.{spaced_items}
use Rattle.ron_spec_layout.proofs.Entries.{entries}
use Rattle.ron_spec_layout.proofs.Containers.{data_list, covers, behind_gap, list_text, map_text, tuple_place, tuple_struct_place, tuple_meant, struct_place}
use Rattle.ron_spec_layout.proofs.Containers.{unit_struct_place}
use Rattle.ron_spec_layout.proofs.Words.{bool_stands, unit_stands}
use Rattle.ron_spec_layout.proofs.Places.{inner, at_shape, two_below, char_stands, content_stands, content_follows}
use Rattle.ron_spec_layout.proofs.Enums.{unit_variant_stands, holding_stands, first_means}
use Rattle.ron_spec_layout.proofs.RawBodies.{raw_law}
use Rattle.ron_spec_layout.proofs.LeadRaw.{lead_valid}
use Rattle.ron_spec_layout.proofs.ValueLaid.{told_parts}
use Rattle.ron_spec_layout.proofs.Written.{string_text_stands, bytes_text_stands, integer_text_stands}
use Rattle.ron_spec_layout.proofs.Values.{value_spelled}
use Rattle.ron_spec_layout.proofs.Keeping.{no_somes}
use Rattle.ron_spec_layout.proofs.Closed.{AreGaps, is_spacing}
use Rattle.ron_spec_layout.proofs.CompactRanges.{perhaps_range, struct_range, unit_struct_range}
use Rattle.ron_spec_layout.proofs.Parts.{AllLaws, FieldLaws, Law, PairLaws, PairsOf, arranged_back, as_many, fields_read, inside_back, no_items, numbered_items}
use Rattle.ron_spec_layout.proofs.Parts.{pair_items, struct_back, tuple_read}
use Rattle.ron_spec_layout.proofs.Options.{newtype_law, none_led, some_law}

module _ (c : Config) (gaps : AreGaps c) (x : Extensions) (schema : List Shape) where
  -- ---- variants

  newtype_variant_law : (name v : Text) (d : Data) → Law c gaps x schema d → Law c gaps x schema (newtype_variant_of name v d)
  unfolding layout_within
  newtype_variant_law name v d h room i level docs bare lead next ends o en names le b bl g f =
      let ok = and_parts (is_name v) (names_ok d) (and_parts (is_name name) (is_name v && names_ok d) names).1 in
      let u = x.unwrap_variant_newtypes in
      let t = layout c x level docs u d in
      let r = back c x level [] d in
      let value : Stands (inner x schema room 1 u o.0) t (41 ∷ next) r = two_below x schema room o.0 u (omega (arith, le))
      (h (room - 2) o.0 level docs u [] (41 ∷ next) ends o.2 en ok.1 (omega (arith, le)) (λ e. e) (λ e. refl) none (content_follows x schema u next)) in
      let inside : StandsFirst (Group 40 41 (Content u (inner x schema room 1) o.0)) (bracketed false t) next r =
      in_round t next (may_follow_ends bare next f) (content_stands u (inner x schema room 1) o.0 value) in
      behind_gap x schema room i bare (enum name o.1.0) refl o.1.1 g bl
      (holding_stands x schema name v room i bare next (newtype_variant o.0) o.1 refl ok.0 (omega (arith, le)) f t (newtype_variant_of name v r)
      (first_means (newtype_variant_of name v r) (newtype_variant_data name v) refl inside))

  tuple_variant_law : (name v : Text) (ds : Datas) → AllLaws c gaps x schema ds → Law c gaps x schema (tuple_variant_of name v ds)
  unfolding layout_within
  tuple_variant_law name v ds h room i level docs bare lead next ends o en names le b bl g f =
      let ok = and_parts (is_name v) (all_names_ok ds) (and_parts (is_name name) (is_name v && all_names_ok ds) names).1 in
      let t = tuple_inside c x level docs ds in
      let r = inside_back c gaps x schema level ds in
      let all = tuple_read c gaps x schema ds h room 2 level docs ends o.0 o.2 en ok.1 le in
      let many = as_many c gaps x schema o.0 ds (inner_level (not c.separate_tuple_members) level) (spacing c (not c.separate_tuple_members) level).first
      (spacing c (not c.separate_tuple_members) level).between o.2 in
      behind_gap x schema room i bare (enum name o.1.0) refl o.1.1 g bl
      (holding_stands x schema name v room i bare next (tuple_variant o.0) o.1 refl ok.0 (omega (arith, le)) f t (tuple_variant_of name v r)
      (in_round t next (may_follow_ends bare next f) (tuple_meant x schema room 2 (tuple_variant_of name v) o.0 t r many all next)))

  struct_variant_law : (name v : Text) (ds : Fields) → FieldLaws c gaps x schema ds → (root : ℕ) → is_well_formed schema root ≡ true
      → Law c gaps x schema (struct_variant_of name v ds)
  unfolding layout_within
  struct_variant_law name v ds h root well room i level docs bare lead next ends o en names le b bl g f =
      let ok = and_parts (is_name v) (field_names_ok ds) (and_parts (is_name name) (is_name v && field_names_ok ds) names).1 in
      let t = fields_inside c x level docs ds in
      let r = struct_back c gaps x schema level ds in
      let differ = fields_differ schema i name v o.1.0 o.0 o.1.1 o.1.2 (formed_parts schema root well).1 in
      let d = struct_variant_of name v r in
      let inside = stands_means d (struct_variant_from name v o.0.fields) (ap (option_map (struct_variant_of name v))
      (arranged_back c gaps x schema o.0 ds level differ o.2)) (fields_read c gaps x schema ds h room 2 level docs ends o.0 o.3 differ o.2 en ok.1 le next) in
      behind_gap x schema room i bare (enum name o.1.0) refl o.1.1 g bl
      (holding_stands x schema name v room i bare next (struct_variant o.0) o.1 refl ok.0 (omega (arith, le)) f t d
      (in_round t next (may_follow_ends bare next f) inside))

  -- ---- lists, tuples, maps and structs

  list_law : (ds : Datas) → AllLaws c gaps x schema ds → Law c gaps x schema (list_of ds)
  unfolding layout_within
  list_law ds h room i level docs bare lead next ends o en ok le b bl g f =
      let s = spacing c c.compact_arrays level in
      let l = inner_level c.compact_arrays level in
      let z = is_spacing c gaps c.compact_arrays level in
      let r = numbered_back c x l s.first s.between 0 ds in
      behind_gap x schema room i bare (seq o.0) refl o.1 g bl
      (list_text x schema room i bare (spaced s (numbered_texts c x l docs 0 ds)) next (omega (arith, le)) f o.0 r o.1
      (spaced_items (λ seen before. inner x schema room 1 false o.0 before) 93 next (ends_delimiter 93 next refl refl) s z (numbered_texts c x l docs 0 ds)
      (data_list r) (numbered_items c gaps x schema ds h room o.0 l 0 docs s.first s.between ends z.first z.between [] o.2 en ok le)))

  map_law : (ps : Pairs) → PairLaws c gaps x schema ps → Law c gaps x schema (map_of ps)
  unfolding layout_within
  map_law ps h room i level docs bare lead next ends o en ok le b bl g f =
      let s = spacing c c.compact_maps level in
      let l = inner_level c.compact_maps level in
      let z = is_spacing c gaps c.compact_maps level in
      let r = pairs_back c x l s.first s.between ps in
      behind_gap x schema room i bare (map o.0 o.1) refl o.2 g bl
      (map_text x schema room i bare (spaced s (pair_texts c x l docs ps)) next (omega (arith, le)) f o.0 o.1 r o.2
      (spaced_items (PairsOf c gaps x schema room o.0 o.1) 125 next (ends_delimiter 125 next refl refl) s z (pair_texts c x l docs ps) r
      (pair_items c gaps x schema ps h room o.0 o.1 l docs s.first s.between ends z.first z.between [] o.3 en ok le)))

  tuple_law : (ds : Datas) → AllLaws c gaps x schema ds → Law c gaps x schema (tuple_of ds)
  unfolding layout_within
  tuple_law ds h room i level docs bare lead next ends o en ok le b bl g f =
      let t = tuple_inside c x level docs ds in
      let r = inside_back c gaps x schema level ds in
      let many = as_many c gaps x schema o.0 ds (inner_level (not c.separate_tuple_members) level) (spacing c (not c.separate_tuple_members) level).first
      (spacing c (not c.separate_tuple_members) level).between o.2 in
      behind_gap x schema room i bare (tuple o.0) refl o.1 g bl
      (subst (λ u. Stands (Spells x schema room bare i) u next (tuple_of r)) (sym (no_somes bare t))
      (at_shape x schema room i bare (tuple o.0) o.1 (tuple_place x schema room tuple_of o.0 t r (omega (arith, le)) many
      (no_items c gaps x schema o.0 ds level docs o.2) (tuple_read c gaps x schema ds h room 1 level docs ends o.0 o.2 en ok le) refl bare next f)))

  tuple_struct_law : (name : Text) (ds : Datas) → AllLaws c gaps x schema ds → Law c gaps x schema (tuple_struct_of name ds)
  unfolding layout_within
  tuple_struct_law name ds h room i level docs bare lead next ends o en names le b bl g f =
      let ok = and_parts (is_name name) (all_names_ok ds) names in
      let t = tuple_inside c x level docs ds in
      let r = inside_back c gaps x schema level ds in
      let asked = c.struct_names || x.explicit_struct_names in
      let many = as_many c gaps x schema o.0 ds (inner_level (not c.separate_tuple_members) level) (spacing c (not c.separate_tuple_members) level).first
      (spacing c (not c.separate_tuple_members) level).between o.2 in
      behind_gap x schema room i bare (tuple_struct name o.0) refl o.1 g bl
      (subst (λ u. Stands (Spells x schema room bare i) (behind_name asked bare name u) next (tuple_struct_of name r)) (sym (no_somes bare t))
      (at_shape x schema room i bare (tuple_struct name o.0) o.1
      (tuple_struct_place x schema room (tuple_struct_of name) o.0 t r (omega (arith, le)) many (no_items c gaps x schema o.0 ds level docs o.2)
      (tuple_read c gaps x schema ds h room 1 level docs ends o.0 o.2 en ok.1 le) asked x.explicit_struct_names name
      (covers c.struct_names x.explicit_struct_names) ok.0 refl bare next f)))

  struct_law : (name : Text) (ds : Fields) → FieldLaws c gaps x schema ds → (root : ℕ) → is_well_formed schema root ≡ true
      → Law c gaps x schema (struct_of name ds)
  unfolding layout_within
  struct_law name ds h root well room i level docs bare lead next ends o en names le b bl g f =
      let ok = and_parts (is_name name) (field_names_ok ds) names in
      let differ : names_differ o.0.fields ≡ true = all_get has_distinct_names schema i (struct name o.0) (formed_parts schema root well).1 o.1 in
      behind_gap x schema room i bare (struct name o.0) refl o.1 g bl
      (perhaps_range (λ t. Stands (Spells x schema room bare i) t next (struct_of name (struct_back c gaps x schema level ds))) c (struct_of name ds) _
      (λ t e. struct_range c x schema root well room i bare next t f (inner_level c.compact_structs level) name ds o e)
      (at_shape x schema room i bare (struct name o.0) o.1
      (struct_place x schema room (c.struct_names || x.explicit_struct_names) name (covers c.struct_names x.explicit_struct_names) ok.0 o.0
      (fields_inside c x level docs ds) (entries (struct_back c gaps x schema level ds)) (struct_back c gaps x schema level ds) (omega (arith, le))
      (arranged_back c gaps x schema o.0 ds level differ o.2) (fields_read c gaps x schema ds h room 1 level docs ends o.0 o.3 differ o.2 en ok.1 le) bare next
      f)))

  -- ---- all data

  module _ (root : ℕ) (well : is_well_formed schema root ≡ true) where
    mutual
      unfolding layout_within

      pub spelled : (d : Data) → Law c gaps x schema d
      spelled (bool_of v) room i level docs bare lead next ends o en ok le b bl g f =
          behind_gap x schema room i bare bool refl o g bl (bool_stands x schema v room i bare next o f)
      spelled (int_of w n) room i level docs bare lead next ends o en ok le b bl g f =
          behind_gap x schema room i bare (int w) refl o.0 g bl
          (at_shape x schema room i bare (int w) o.0 (plain_stands bare f (integer_text_stands c.number_suffixes w n next o.1 (may_follow_ends bare next f))))
      spelled (char_of a) room i level docs bare lead next ends o en ok le b bl g f =
          behind_gap x schema room i bare char refl o g bl (char_stands x schema a room i bare next o f)
      spelled (str_of t) room i level docs bare lead next ends o en ok le b bl g f =
          behind_gap x schema room i bare str refl o g bl (at_shape x schema room i bare str o
          (plain_stands bare f (stands_means (str_of t) str_data refl (string_text_stands c.escape_strings t next en (may_follow_ends bare next f)))))
      spelled (bytes_of bs) room i level docs bare lead next ends o en ok le b bl g f =
          behind_gap x schema room i bare bytes refl o g bl
          (at_shape x schema room i bare bytes o (plain_stands bare f (stands_as (bytes_of bs)
          (stands_means (bytes_of bs) bytes_data refl (bytes_text_stands c.escape_strings bs next en (may_follow_ends bare next f))) (λ before t n z. inr z))))
      spelled the_unit room i level docs bare lead next ends o en ok le b bl g f =
          behind_gap x schema room i bare unit refl o g bl (unit_stands x schema room i bare next o f)
      spelled the_none room i level docs bare lead next ends o en ok le b bl g f = none_led c gaps x schema false room i bare next f o.0 o.1 lead bl g
      spelled (some_of d) room i level docs bare lead next ends o en ok le b bl g f =
          some_law c gaps x schema d (spelled d) room i level docs bare lead next ends o en ok le b bl g f
      spelled (unit_struct_of name) room i level docs bare lead next ends o en ok le b bl g f =
          behind_gap x schema room i bare (unit_struct name) refl o g bl
          (perhaps_range (λ t. Stands (Spells x schema room bare i) t next (unit_struct_of name)) c (unit_struct_of name) _
          (λ t e. unit_struct_range c x schema root well room i bare next t f name o e)
          (at_shape x schema room i bare (unit_struct name) o (unit_struct_place x schema (c.struct_names || x.explicit_struct_names) x.explicit_struct_names
          name (covers c.struct_names x.explicit_struct_names) ok bare next f)))
      spelled (list_of ds) room i level docs bare lead next ends o en ok le b bl g f =
          list_law ds (all_spelled ds) room i level docs bare lead next ends o en ok le b bl g f
      spelled (tuple_of ds) room i level docs bare lead next ends o en ok le b bl g f =
          tuple_law ds (all_spelled ds) room i level docs bare lead next ends o en ok le b bl g f
      spelled (tuple_struct_of name ds) room i level docs bare lead next ends o en ok le b bl g f =
          tuple_struct_law name ds (all_spelled ds) room i level docs bare lead next ends o en ok le b bl g f
      spelled (map_of ps) room i level docs bare lead next ends o en ok le b bl g f =
          map_law ps (pairs_spelled ps) room i level docs bare lead next ends o en ok le b bl g f
      spelled (newtype_of name d) room i level docs bare lead next ends o en ok le b bl g f =
          newtype_law c gaps x schema name d (spelled d) room i level docs bare lead next ends o en ok le b bl g f
      spelled (struct_of name ds) room i level docs bare lead next ends o en ok le b bl g f =
          struct_law name ds (fields_spelled ds) root well room i level docs bare lead next ends o en ok le b bl g f
      spelled (unit_variant_of name v) room i level docs bare lead next ends o en ok le b bl g f =
          behind_gap x schema room i bare (enum name o.0) refl o.1 g bl
          (unit_variant_stands x schema name v room i bare next o.0 o.1 o.2 (and_parts (is_name name) (is_name v) ok).1 le f)
      spelled (newtype_variant_of name v d) room i level docs bare lead next ends o en ok le b bl g f =
          newtype_variant_law name v d (spelled d) room i level docs bare lead next ends o en ok le b bl g f
      spelled (tuple_variant_of name v ds) room i level docs bare lead next ends o en ok le b bl g f =
          tuple_variant_law name v ds (all_spelled ds) room i level docs bare lead next ends o en ok le b bl g f
      spelled (struct_variant_of name v ds) room i level docs bare lead next ends o en ok le b bl g f =
          struct_variant_law name v ds (fields_spelled ds) root well room i level docs bare lead next ends o en ok le b bl g f
      spelled (raw_of t) room i level docs bare lead next ends o en ok le b bl g f =
          let e = may_follow_ends bare next f in
          let raw : Stands (λ before. Means (RawPart x.unwrap_variant_newtypes room false before) raw_data) (lead ++ t) next (raw_of (trimmed (lead ++ t))) =
          stands_means (raw_of (trimmed (lead ++ t))) raw_data refl
          (raw_law x.unwrap_variant_newtypes room le (lead ++ t) (lead_valid lead t g o.1) next e.2 e.1) in
          at_shape x schema room i bare any_raw o.0 (plain_stands bare f raw)
      spelled (value_of t) room i level docs bare lead next ends o en ok le b bl g f =
          let p = told_parts x.implicit_some t en in
          let v = value_spelled c gaps x t room level bare next o.1.in_width p.texts p.encodable p.tells (omega (arith, le, as_deep t)) f in
          let d = value_of (normal c.number_suffixes t) in
          behind_gap x schema room i bare any_value refl o.0 g bl (at_shape x schema room i bare any_value o.0 (stands_means d value_data refl v))

      all_spelled : (ds : Datas) → AllLaws c gaps x schema ds
      all_spelled no_datas = tt
      all_spelled (data_and d ds) = (spelled d, all_spelled ds)

      pairs_spelled : (ps : Pairs) → PairLaws c gaps x schema ps
      pairs_spelled no_pairs = tt
      pairs_spelled (pair_and key d ps) = (spelled key, spelled d, pairs_spelled ps)

      fields_spelled : (ds : Fields) → FieldLaws c gaps x schema ds
      fields_spelled no_fields = tt
      fields_spelled (field_and name d ds) = (spelled d, fields_spelled ds)
