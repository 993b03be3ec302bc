-- Past the depth limit no level matters, since all stands in a row there, without indentation and comments; and without a configuration none does at all.
use Rattle.std.proofs.Common.{◌≡◌, ℕ, zero, suc, ◌<◌, Bool, nat_lt, nat_le, true, not, false, ◌&&◌, ◌||◌, cond, List, [], ◌∷◌, ◌++◌, codes, flat_map, refl, sym}
use Rattle.std.proofs.Common.{ap, ap₂, ◌∙◌, arith}
use Rattle.std.specs.Fmt.{decimal}
use Rattle.std.specs.Option.{unwrap_or}
use Rattle.std.specs.Str.Lines.{lines}
use Rattle.std.proofs.lemmas.Bool.{le-leb, leb-true, le-ltb}
use Rattle.ron_spec_words.specs.Characters.{Text}
use Rattle.ron_value.specs.Tree.{Tree}
use Rattle.ron_value.specs.Tree as tree
use Rattle.ron_spec_grammar.specs.Data.{Data, bool_of, int_of, char_of, str_of, bytes_of, the_unit, the_none, some_of, unit_struct_of, list_of, tuple_of}
use Rattle.ron_spec_grammar.specs.Data.{tuple_struct_of, map_of, newtype_of, struct_of, unit_variant_of, newtype_variant_of, tuple_variant_of}
use Rattle.ron_spec_grammar.specs.Data.{struct_variant_of, value_of, Datas, no_datas, data_and, Pairs, no_pairs, pair_and, Fields, no_fields, field_and, raw_of}
use Rattle.ron_spec_grammar.specs.Rule.{Extensions}
use Rattle.ron_spec_layout.specs.Name.{written_name}
use Rattle.ron_spec_layout.specs.Brackets.{bracketed, behind_name, in_some, tuple_text}
use Rattle.ron_spec_layout.specs.Config.{Docs, Config, no_config, times, on_lines, in_a_row, spacing, inner_level, spaced, item_comment}
use Rattle.ron_spec_layout.specs.Statement.{IsAtAnyLevel}
use Rattle.ron_spec_layout.specs.Docs.{doc_of, docs_within, indentation, doc_comment}
use Rattle.ron_spec_layout.specs.Ranges.{compact_range}
use Rattle.ron_spec_layout.specs.Layout.{colon, value_layout, value_texts, entry_texts, layout_within, numbered_texts, item_texts, pair_texts, field_texts}

-- ---- what a level bears on

-- At these levels a level more bears on nothing that stands around items.
record IsLevel (c : Config) (At : ℕ → Type 0) : Type 0 where
  pub deeper : (level : ℕ) → At level → At (suc level)
  pub same_spacing : (compact : Bool) (level : ℕ) → At level → spacing c compact (suc level) ≡ spacing c compact level
  pub same_comment : (level k : ℕ) → At level → item_comment c (suc level) k ≡ item_comment c level k
  pub same_indentation : (level : ℕ) → At level → indentation c (suc level) ≡ indentation c level

module _ (c : Config) (At : ℕ → Type 0) (flat : IsLevel c At) where
  same_doc : (level : ℕ) (docs : Docs) (name : Text) → At level → doc_comment c (suc level) docs name ≡ doc_comment c level docs name
  same_doc level docs name h =
      ap (λ g. cond c.compact_structs [] (flat_map (λ t. codes "/// " ++ (t ++ (c.new_line ++ g))) (lines (doc_of docs name)))) (flat.same_indentation level h)

  -- the texts of a container's items, with what stands around them
  same_inside : (compact : Bool) (level : ℕ) → At level → (texts : ℕ → List Text) → ((l : ℕ) → At l → texts (suc l) ≡ texts l)
      → spaced (spacing c compact (suc level)) (texts (inner_level compact (suc level))) ≡ spaced (spacing c compact level) (texts (inner_level compact level))
  same_inside compact level h texts same = ap₂ spaced (flat.same_spacing compact level h) (go compact)
    where
      go : (b : Bool) → texts (inner_level b (suc level)) ≡ texts (inner_level b level)
      go true = same level h
      go false = same (suc level) (flat.deeper level h)

-- ---- layouts at such levels

module _ (c : Config) (x : Extensions) (At : ℕ → Type 0) (flat : IsLevel c At) where
  -- ---- of values without a schema

  mutual
    unfolding value_layout

    same_value : (t : Tree) (level : ℕ) → At level → (bare : Bool) (n : ℕ) → value_layout c x (suc level) bare n t ≡ value_layout c x level bare n t
    same_value (tree.boolean b) level h bare n = refl
    same_value (tree.character a) level h bare n = refl
    same_value (tree.mapping ps) level h bare n =
        ap (λ t. codes "{" ++ (t ++ codes "}")) (same_inside c At flat c.compact_maps level h (λ l. entry_texts c x l ps) (λ l k. same_entries ps l k))
    same_value (tree.number w i) level h bare n = refl
    same_value tree.none level h bare n = refl
    same_value (tree.some t) level h bare n =
        ap₂ (λ u v. cond x.implicit_some u (in_some v)) (same_value t level h bare (suc n)) (same_value t level h x.unwrap_variant_newtypes 0)
    same_value (tree.text bs) level h bare n = refl
    same_value (tree.bytes bs) level h bare n = refl
    same_value (tree.sequence ts) level h bare n =
        ap (λ t. codes "[" ++ (t ++ codes "]")) (same_inside c At flat c.compact_arrays level h (λ l. value_texts c x l 0 ts) (λ l k. same_values ts l k 0))
    same_value tree.unit level h bare n = refl

    same_values : (ts : tree.Items) (level : ℕ) → At level → (k : ℕ) → value_texts c x (suc level) k ts ≡ value_texts c x level k ts
    same_values tree.no_items level h k = refl
    same_values (tree.item_and t ts) level h k =
        ap₂ (λ u us. u ∷ us) (ap₂ (λ a b. a ++ b) (flat.same_comment level k h) (same_value t level h false 0)) (same_values ts level h (suc k))

    same_entries : (ps : tree.Pairs) (level : ℕ) → At level → entry_texts c x (suc level) ps ≡ entry_texts c x level ps
    same_entries tree.no_pairs level h = refl
    same_entries (tree.pair_and k t ps) level h =
        ap₂ (λ u us. u ∷ us) (ap₂ (λ a b. a ++ (colon c ++ b)) (same_value k level h false 0) (same_value t level h false 0)) (same_entries ps level h)

  -- ---- of data

  -- names are written before structs
  abbrev named : Bool
  named = c.struct_names || x.explicit_struct_names

  mutual
    unfolding layout_within

    same_layout : (d : Data) (level : ℕ) → At level → (docs : Docs) (bare : Bool) (n : ℕ)
        → layout_within c x (suc level) docs bare n d ≡ layout_within c x level docs bare n d
    same_layout (bool_of b) level h docs bare n = refl
    same_layout (int_of w i) level h docs bare n = refl
    same_layout (char_of a) level h docs bare n = refl
    same_layout (str_of t) level h docs bare n = refl
    same_layout (bytes_of bs) level h docs bare n = refl
    same_layout the_unit level h docs bare n = refl
    same_layout the_none level h docs bare n = refl
    same_layout (some_of d) level h docs bare n =
        ap₂ (λ u v. cond x.implicit_some u (in_some v)) (same_layout d level h docs bare (suc n)) (same_layout d level h docs x.unwrap_variant_newtypes 0)
    same_layout (unit_struct_of name) level h docs bare n = refl
    same_layout (list_of ds) level h docs bare n = ap (λ t. codes "[" ++ (t ++ codes "]"))
        (same_inside c At flat c.compact_arrays level h (λ l. numbered_texts c x l docs 0 ds) (λ l k. same_numbered ds l k docs 0))
    same_layout (tuple_of ds) level h docs bare n =
        ap (tuple_text bare n) (same_inside c At flat (not c.separate_tuple_members) level h (λ l. item_texts c x l docs ds) (λ l k. same_items ds l k docs))
    same_layout (tuple_struct_of name ds) level h docs bare n = ap (λ t. behind_name named bare name (tuple_text bare n t))
        (same_inside c At flat (not c.separate_tuple_members) level h (λ l. item_texts c x l docs ds) (λ l k. same_items ds l k docs))
    same_layout (map_of ps) level h docs bare n =
        ap (λ t. codes "{" ++ (t ++ codes "}")) (same_inside c At flat c.compact_maps level h (λ l. pair_texts c x l docs ps) (λ l k. same_pairs ps l k docs))
    same_layout (newtype_of name d) level h docs bare n = ap₂ (λ u v. cond (bare || x.unwrap_newtypes) u (behind_name named false name (bracketed false v)))
        (same_layout d level h docs false n) (same_layout d level h docs false 0)
    same_layout (struct_of name fields) level h docs bare n =
        ap (λ t. unwrap_or (compact_range c (struct_of name fields)) (behind_name named bare name (bracketed bare t)))
        (same_inside c At flat c.compact_structs level h (λ l. field_texts c x l docs fields) (λ l k. same_fields fields l k docs))
    same_layout (unit_variant_of name v) level h docs bare n = refl
    same_layout (newtype_variant_of name v d) level h docs bare n =
        ap (λ t. written_name v ++ bracketed false t) (same_layout d level h docs x.unwrap_variant_newtypes 0)
    same_layout (tuple_variant_of name v ds) level h docs bare n = ap (λ t. written_name v ++ bracketed false t)
        (same_inside c At flat (not c.separate_tuple_members) level h (λ l. item_texts c x l docs ds) (λ l k. same_items ds l k docs))
    same_layout (struct_variant_of name v fields) level h docs bare n = ap (λ t. written_name v ++ bracketed false t)
        (same_inside c At flat c.compact_structs level h (λ l. field_texts c x l docs fields) (λ l k. same_fields fields l k docs))
    same_layout (value_of t) level h docs bare n = same_value t level h bare n
    same_layout (raw_of t) level h docs bare n = refl

    same_numbered : (ds : Datas) (level : ℕ) → At level → (docs : Docs) (k : ℕ) → numbered_texts c x (suc level) docs k ds ≡ numbered_texts c x level docs k ds
    same_numbered no_datas level h docs k = refl
    same_numbered (data_and d ds) level h docs k =
        ap₂ (λ u us. u ∷ us) (ap₂ (λ a b. a ++ b) (flat.same_comment level k h) (same_layout d level h docs false 0)) (same_numbered ds level h docs (suc k))

    same_items : (ds : Datas) (level : ℕ) → At level → (docs : Docs) → item_texts c x (suc level) docs ds ≡ item_texts c x level docs ds
    same_items no_datas level h docs = refl
    same_items (data_and d ds) level h docs = ap₂ (λ u us. u ∷ us) (same_layout d level h docs false 0) (same_items ds level h docs)

    same_pairs : (ps : Pairs) (level : ℕ) → At level → (docs : Docs) → pair_texts c x (suc level) docs ps ≡ pair_texts c x level docs ps
    same_pairs no_pairs level h docs = refl
    same_pairs (pair_and key d ps) level h docs = ap₂ (λ u us. u ∷ us)
        (ap₂ (λ a b. a ++ (colon c ++ b)) (same_layout key level h docs false 0) (same_layout d level h docs false 0)) (same_pairs ps level h docs)

    same_fields : (fields : Fields) (level : ℕ) → At level → (docs : Docs) → field_texts c x (suc level) docs fields ≡ field_texts c x level docs fields
    same_fields no_fields level h docs = refl
    same_fields (field_and name d fields) level h docs = ap₂ (λ u us. u ∷ us) (ap₂ (λ a b. a ++ (written_name name ++ (colon c ++ b)))
        (same_doc c At flat level docs name h) (same_layout d level h (docs_within docs name) false 0)) (same_fields fields level h docs)

-- ---- past the limit

module _ (c : Config) where
  abbrev IsPast : ℕ → Type 0
  IsPast level = nat_lt c.depth_limit level ≡ true

  past_next : (level : ℕ) → IsPast level → IsPast (suc level)
  past_next level h = let lt = leb-true (suc c.depth_limit) level h in le-leb (suc c.depth_limit) (suc level) (omega (arith, lt))

  no_more : (m n : ℕ) → n < m → nat_le m n ≡ false
  no_more m n lt = go (nat_le m n) refl
    where
      go : (b : Bool) → nat_le m n ≡ b → b ≡ false
      go true k = absurd (let le = leb-true m n k in omega (arith, le, lt))
      go false k = refl

  not_within : (level : ℕ) → IsPast level → nat_le level c.depth_limit ≡ false
  not_within level h = let lt = leb-true (suc c.depth_limit) level h in no_more level c.depth_limit (omega (arith, lt))

  not_below : (level : ℕ) → IsPast level → nat_lt level c.depth_limit ≡ false
  not_below level h = let lt = leb-true (suc c.depth_limit) level h in no_more (suc level) c.depth_limit (omega (arith, lt))

  in_row : (compact : Bool) (level : ℕ) → nat_lt level c.depth_limit ≡ false → spacing c compact level ≡ in_a_row c
  in_row compact level h = ap (λ b. cond (not compact && b) (on_lines c level) (in_a_row c)) h ∙ go compact
    where
      go : (a : Bool) → cond (not a && false) (on_lines c level) (in_a_row c) ≡ in_a_row c
      go true = refl
      go false = refl

  no_indentation : (level : ℕ) → IsPast level → indentation c level ≡ []
  no_indentation level h = ap (λ b. cond b (times level c.indentor) []) (not_within level h)

  past : IsLevel c IsPast
  past = record {
    deeper = past_next;
    same_spacing = λ compact level h. in_row compact (suc level) (not_below (suc level) (past_next level h)) ∙ sym (in_row compact level (not_below level h));
    same_comment = λ level k h. ap (λ b. cond (c.enumerate_arrays && b) (codes "/*[" ++ (decimal k ++ codes "]*/ ")) [])
        (not_within (suc level) (past_next level h) ∙ sym (not_within level h));
    same_indentation = λ level h. no_indentation (suc level) (past_next level h) ∙ sym (no_indentation level h);
  }

  module _ (x : Extensions) where
    pub past_limit : (d : Data) (level : ℕ) → nat_lt c.depth_limit level ≡ true → (docs : Docs) (bare : Bool) (n : ℕ)
        → layout_within c x (suc level) docs bare n d ≡ layout_within c x level docs bare n d
    past_limit = same_layout c x IsPast past

    pub numbered_past_limit : (ds : Datas) (level : ℕ) → nat_lt c.depth_limit level ≡ true → (docs : Docs) (k : ℕ)
        → numbered_texts c x (suc level) docs k ds ≡ numbered_texts c x level docs k ds
    numbered_past_limit = same_numbered c x IsPast past

    pub items_past_limit : (ds : Datas) (level : ℕ) → nat_lt c.depth_limit level ≡ true → (docs : Docs)
        → item_texts c x (suc level) docs ds ≡ item_texts c x level docs ds
    items_past_limit = same_items c x IsPast past

    pub pairs_past_limit : (ps : Pairs) (level : ℕ) → nat_lt c.depth_limit level ≡ true → (docs : Docs)
        → pair_texts c x (suc level) docs ps ≡ pair_texts c x level docs ps
    pairs_past_limit = same_pairs c x IsPast past

    pub fields_past_limit : (fields : Fields) (level : ℕ) → nat_lt c.depth_limit level ≡ true → (docs : Docs)
        → field_texts c x (suc level) docs fields ≡ field_texts c x level docs fields
    fields_past_limit = same_fields c x IsPast past

    pub values_past_limit : (ts : tree.Items) (level : ℕ) → nat_lt c.depth_limit level ≡ true → (k : ℕ)
        → value_texts c x (suc level) k ts ≡ value_texts c x level k ts
    values_past_limit = same_values c x IsPast past

    pub entries_past_limit : (ps : tree.Pairs) (level : ℕ) → nat_lt c.depth_limit level ≡ true → entry_texts c x (suc level) ps ≡ entry_texts c x level ps
    entries_past_limit = same_entries c x IsPast past

-- ---- without a configuration

no_times : (level : ℕ) → times level [] ≡ []
no_times zero = refl
no_times (suc level) = no_times level

nothing_indented : (level : ℕ) → indentation no_config level ≡ []
nothing_indented level = go (nat_le level 0)
  where
    go : (b : Bool) → cond b (times level []) [] ≡ []
    go true = no_times level
    go false = refl

any : IsLevel no_config (λ level. Unit {0})
any = record {
  deeper = λ level h. tt;
  same_spacing = λ compact level h. in_row no_config compact (suc level) (le-ltb (suc level) 0 (omega arith))
      ∙ sym (in_row no_config compact level (le-ltb level 0 (omega arith)));
  same_comment = λ level k h. refl;
  same_indentation = λ level h. nothing_indented (suc level) ∙ sym (nothing_indented level);
}

pub at_any_level : IsAtAnyLevel
at_any_level x zero docs bare n d = refl
at_any_level x (suc level) docs bare n d = same_layout no_config x (λ level. Unit {0}) any d level tt docs bare n ∙ at_any_level x level docs bare n d
