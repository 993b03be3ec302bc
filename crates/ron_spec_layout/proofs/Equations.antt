-- The layout case by case, for code that writes in the same order.
use Rattle.std.proofs.Common.{◌≡◌, ℕ, suc, Bool, true, false, ◌||◌, cond, List, [], ℤ, ◌++◌, codes, Some, None, refl, ap, ◌∙◌}
use Rattle.std.specs.Option.{unwrap_or}
use Rattle.ron_spec_words.specs.Characters.{Text}
use Rattle.ron_value_number.specs.declared.width.Width.{Width}
use Rattle.ron_spec_grammar.specs.Data.{Data, bool_of, int_of, char_of, str_of, bytes_of, the_unit, the_none, some_of, unit_struct_of, list_of, tuple_of}
use Rattle.ron_spec_grammar.specs.Data.{tuple_struct_of, map_of, newtype_of, struct_of, unit_variant_of, newtype_variant_of, tuple_variant_of}
use Rattle.ron_spec_grammar.specs.Data.{struct_variant_of, raw_of, Datas, Pairs, Fields}
use Rattle.ron_spec_grammar.specs.Rule.{Extensions}
use Rattle.ron_spec_layout.specs.Literals.{written_char, number_text}
use Rattle.ron_spec_layout.specs.Name.{written_name}
use Rattle.ron_spec_layout.specs.Brackets.{bracketed, written_bool, unit_struct_text, behind_name, in_some, in_somes, tuple_text}
use Rattle.ron_spec_layout.specs.Config.{Docs, Config, spacing, inner_level, spaced}
use Rattle.ron_spec_layout.specs.Ranges.{compact_range}
use Rattle.ron_spec_layout.specs.Unescaped.{string_text, bytes_text}
use Rattle.ron_spec_layout.specs.Layout.{layout_within, layout, numbered_texts, pair_texts}
use Rattle.ron_spec_layout.specs.Keeping.{tuple_inside, fields_inside}
use Rattle.ron_spec_layout.proofs.Keeping.{no_somes, layout-some, layout-explicit}

module _ (c : Config) (x : Extensions) (level : ℕ) (docs : Docs) where
  -- names are written before structs
  abbrev named : Bool
  named = c.struct_names || x.explicit_struct_names

  -- ---- what tells no pending Somes

  pub layout-boolean : (bare : Bool) (n : ℕ) (b : Bool) → layout_within c x level docs bare n (bool_of b) ≡ written_bool b
  unfolding layout_within
  layout-boolean bare n b = refl

  pub layout-integer : (bare : Bool) (n : ℕ) (w : Width) (i : ℤ) → layout_within c x level docs bare n (int_of w i) ≡ number_text c.number_suffixes w i
  unfolding layout_within
  layout-integer bare n w i = refl

  pub layout-char : (bare : Bool) (n : ℕ) (a : ℕ) → layout_within c x level docs bare n (char_of a) ≡ written_char a
  unfolding layout_within
  layout-char bare n a = refl

  pub layout-string : (bare : Bool) (n : ℕ) (t : Text) → layout_within c x level docs bare n (str_of t) ≡ string_text c.escape_strings t
  unfolding layout_within
  layout-string bare n t = refl

  pub layout-bytes : (bare : Bool) (n : ℕ) (bs : List ℕ) → layout_within c x level docs bare n (bytes_of bs) ≡ bytes_text c.escape_strings bs
  unfolding layout_within
  layout-bytes bare n bs = refl

  pub layout-unit : (bare : Bool) (n : ℕ) → layout_within c x level docs bare n the_unit ≡ bracketed bare []
  unfolding layout_within
  layout-unit bare n = refl

  pub layout-list : (bare : Bool) (n : ℕ) (ds : Datas) → layout_within c x level docs bare n (list_of ds)
      ≡ codes "[" ++ (spaced (spacing c c.compact_arrays level) (numbered_texts c x (inner_level c.compact_arrays level) docs 0 ds) ++ codes "]")
  unfolding layout_within
  layout-list bare n ds = refl

  pub layout-map : (bare : Bool) (n : ℕ) (ps : Pairs) → layout_within c x level docs bare n (map_of ps)
      ≡ codes "{" ++ (spaced (spacing c c.compact_maps level) (pair_texts c x (inner_level c.compact_maps level) docs ps) ++ codes "}")
  unfolding layout_within
  layout-map bare n ps = refl

  pub layout-unit_variant : (bare : Bool) (n : ℕ) (name v : Text) → layout_within c x level docs bare n (unit_variant_of name v) ≡ written_name v
  unfolding layout_within
  layout-unit_variant bare n name v = refl

  pub layout-newtype_variant : (bare : Bool) (n : ℕ) (name v : Text) (d : Data) → layout_within c x level docs bare n (newtype_variant_of name v d)
      ≡ written_name v ++ bracketed false (layout c x level docs x.unwrap_variant_newtypes d)
  unfolding layout_within
  layout-newtype_variant bare n name v d = refl

  pub layout-tuple_variant : (bare : Bool) (n : ℕ) (name v : Text) (ds : Datas)
      → layout_within c x level docs bare n (tuple_variant_of name v ds) ≡ written_name v ++ bracketed false (tuple_inside c x level docs ds)
  unfolding layout_within
  layout-tuple_variant bare n name v ds = refl

  pub layout-struct_variant : (bare : Bool) (n : ℕ) (name v : Text) (ds : Fields)
      → layout_within c x level docs bare n (struct_variant_of name v ds) ≡ written_name v ++ bracketed false (fields_inside c x level docs ds)
  unfolding layout_within
  layout-struct_variant bare n name v ds = refl

  -- ---- what may be a range

  pub layout-range : (bare : Bool) (n : ℕ) (name : Text) (ds : Fields) (t : Text) → compact_range c (struct_of name ds) ≡ Some t
      → layout_within c x level docs bare n (struct_of name ds) ≡ t
  unfolding layout_within
  layout-range bare n name ds t e = ap (λ o. unwrap_or o (behind_name named bare name (bracketed bare (fields_inside c x level docs ds)))) e

  pub layout-struct : (bare : Bool) (n : ℕ) (name : Text) (ds : Fields) → compact_range c (struct_of name ds) ≡ None
      → layout_within c x level docs bare n (struct_of name ds) ≡ behind_name named bare name (bracketed bare (fields_inside c x level docs ds))
  unfolding layout_within
  layout-struct bare n name ds e = ap (λ o. unwrap_or o (behind_name named bare name (bracketed bare (fields_inside c x level docs ds)))) e

  pub layout-full_range : (bare : Bool) (n : ℕ) (name t : Text) → compact_range c (unit_struct_of name) ≡ Some t
      → layout_within c x level docs bare n (unit_struct_of name) ≡ t
  unfolding layout_within
  layout-full_range bare n name t e = ap (λ o. unwrap_or o (unit_struct_text named bare name)) e

  pub layout-unit_struct : (bare : Bool) (n : ℕ) (name : Text) → compact_range c (unit_struct_of name) ≡ None
      → layout_within c x level docs bare n (unit_struct_of name) ≡ unit_struct_text named bare name
  unfolding layout_within
  layout-unit_struct bare n name e = ap (λ o. unwrap_or o (unit_struct_text named bare name)) e

  -- ---- with Somes pending

  pub layout-none : (bare : Bool) (n : ℕ) → layout_within c x level docs bare n the_none ≡ in_somes n (codes "None")
  unfolding layout_within
  layout-none bare n = refl

  pub layout-implicit_some : x.implicit_some ≡ true → (bare : Bool) (n : ℕ) (d : Data)
      → layout_within c x level docs bare n (some_of d) ≡ layout_within c x level docs bare (suc n) d
  layout-implicit_some implicit bare n d = layout-some c x level docs implicit bare n d

  pub layout-explicit_some : x.implicit_some ≡ false → (bare : Bool) (n : ℕ) (d : Data)
      → layout_within c x level docs bare n (some_of d) ≡ in_some (layout c x level docs x.unwrap_variant_newtypes d)
  layout-explicit_some explicit bare n d = layout-explicit c x level docs explicit bare n d

  pub layout-tuple : (bare : Bool) (n : ℕ) (ds : Datas) → layout_within c x level docs bare n (tuple_of ds) ≡ tuple_text bare n (tuple_inside c x level docs ds)
  unfolding layout_within
  layout-tuple bare n ds = refl

  pub layout-tuple_struct : (bare : Bool) (n : ℕ) (name : Text) (ds : Datas)
      → layout_within c x level docs bare n (tuple_struct_of name ds) ≡ behind_name named bare name (tuple_text bare n (tuple_inside c x level docs ds))
  unfolding layout_within
  layout-tuple_struct bare n name ds = refl

  pub layout-newtype_alone : (bare : Bool) → (bare || x.unwrap_newtypes) ≡ true → (n : ℕ) (name : Text) (d : Data)
      → layout_within c x level docs bare n (newtype_of name d) ≡ layout_within c x level docs false n d
  unfolding layout_within
  layout-newtype_alone bare alone n name d =
      ap (λ b. cond b (layout_within c x level docs false n d) (behind_name named false name (bracketed false (layout c x level docs false d)))) alone

  pub layout-newtype : (bare : Bool) → (bare || x.unwrap_newtypes) ≡ false → (n : ℕ) (name : Text) (d : Data)
      → layout_within c x level docs bare n (newtype_of name d) ≡ behind_name named false name (bracketed false (layout c x level docs false d))
  unfolding layout_within
  layout-newtype bare wrapped n name d =
      ap (λ b. cond b (layout_within c x level docs false n d) (behind_name named false name (bracketed false (layout c x level docs false d)))) wrapped

  pub layout-raw : (bare : Bool) (n : ℕ) (t : Text) → layout_within c x level docs bare n (raw_of t) ≡ in_somes n t
  unfolding layout_within
  layout-raw bare n t = refl

  -- ---- without them

  pub layout-tuple_now : (bare : Bool) (ds : Datas) → layout c x level docs bare (tuple_of ds) ≡ bracketed bare (tuple_inside c x level docs ds)
  layout-tuple_now bare ds = layout-tuple bare 0 ds ∙ no_somes bare (tuple_inside c x level docs ds)

  pub layout-tuple_struct_now : (bare : Bool) (name : Text) (ds : Datas)
      → layout c x level docs bare (tuple_struct_of name ds) ≡ behind_name named bare name (bracketed bare (tuple_inside c x level docs ds))
  layout-tuple_struct_now bare name ds = layout-tuple_struct bare 0 name ds ∙ ap (behind_name named bare name) (no_somes bare (tuple_inside c x level docs ds))
