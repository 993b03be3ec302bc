-- How the text of items begins, so that a raw text in it is told from an option: for `ron_ser`, which looks at that beginning.
use Rattle.std.proofs.Common.{◌≡◌, ℕ, Bool, true, false, not, ◌&&◌, ◌||◌, cond, List, [], ◌∷◌, ◌++◌, length, codes, flat_map, drop, inl, inr, refl, sym, ap}
use Rattle.std.proofs.Common.{ap₂, subst, ◌∙◌, append_assoc, arith}
use Rattle.std.specs.List.{flat_map, list_all}
use Rattle.unicode_ident.proofs.Computing.{unicode_ident}
use Rattle.ron_spec_words.specs.Characters.{Text, is_blank, continues_name, continues_word}
use Rattle.ron_spec_words.specs.Runs.{begins, begins_with}
use Rattle.ron_spec_words.specs.Gap.{skip}
use Rattle.ron_spec_words.specs.Directly.{stands}
use Rattle.ron_spec_words.proofs.Gaps.{skip-other, skip-end, skip-append, skip-gap, skip-blank, length-skip}
use Rattle.ron_spec_words.proofs.Direct.{begins-drop}
use Rattle.ron_spec_words.proofs.Classes.{Solid}
use Rattle.ron_value.specs.Tree.{Tree}
use Rattle.ron_value.specs.Tree as tree
use Rattle.ron_spec_grammar.specs.Data.{Data, bool_of, int_of, char_of, str_of, bytes_of, the_unit, the_none, some_of, unit_struct_of, list_of, tuple_of}
use Rattle.ron_spec_grammar.specs.Data.{tuple_struct_of, map_of, struct_of, unit_variant_of, newtype_variant_of, tuple_variant_of, struct_variant_of, value_of}
use Rattle.ron_spec_grammar.specs.Data.{newtype_of, raw_of, Datas, no_datas, data_and}
use Rattle.ron_spec_grammar.specs.Rule.{Extensions}
use Rattle.ron_spec_grammar.specs.Raw.{raw_limit, raw_valid}
use Rattle.ron_spec_grammar.proofs.Raw.Quiet.{Quiet, quiet_begins, quiet_class, name_goes_on}
use Rattle.ron_spec_grammar.proofs.Raw.Moves.{gap_any, solid_some}
use Rattle.ron_spec_grammar.proofs.Raw.Bodies.{value_solid, valid_value, raw_sound}
use Rattle.ron_spec_layout.specs.Brackets.{bracketed, in_some, opens_as_option, behind_name}
use Rattle.ron_spec_layout.specs.Layout.{layout, value_layout, layout_within, item_texts}
use Rattle.ron_spec_layout.specs.Stand.{Ends}
use Rattle.ron_spec_layout.specs.Keeping.{value_keeps, keeps, is_kept, leads, IsValidFirst, tuple_inside}
use Rattle.ron_spec_layout.specs.Config.{Docs, Config, spacing, inner_level, led_by}
use Rattle.ron_spec_layout.proofs.Stands.{ends_delimiter}
use Rattle.ron_spec_layout.proofs.Keeping.{layout-some, some_laid, value_kept, kept}
use Rattle.ron_spec_layout.proofs.Integers.{ends_name}
use Rattle.ron_spec_layout.proofs.Unlike.{not_kept, named_no_option}
use Rattle.ron_spec_layout.proofs.Closed.{skip-closed, AreGaps, IsLast, is_spacing}

-- a word stands or not, whatever quiet text comes behind
stands-quiet : (w s next : Text) → list_all continues_word w ≡ true → Quiet next → stands w (s ++ next) ≡ stands w s
stands-quiet w s next h q = rw (quiet_begins w s next h q) (go (begins_with w s) refl)
  where
    tail : (u : Text) → begins continues_name (u ++ next) ≡ begins continues_name u
    tail [] = quiet_class continues_name name_goes_on next q
    tail (c ∷ u) = refl

    past : (v u : Text) → drop (length v) ((v ++ u) ++ next) ≡ drop (length v) (v ++ u) ++ next
    past [] u = refl
    past (c ∷ v) u = past v u

    go : (b : Bool) → begins_with w s ≡ b
        → (b && not (begins continues_name (drop (length w) (s ++ next)))) ≡ (b && not (begins continues_name (drop (length w) s)))
    go false e = refl
    go true e =
        let split = begins-drop w s e in
        ap not (ap (λ u. begins continues_name (drop (length w) (u ++ next))) split ∙ ap (begins continues_name) (past w (drop (length w) s))
        ∙ ap (λ u. begins continues_name (u ++ next)) (ap (drop (length w)) (sym split)) ∙ tail (drop (length w) s))

words : (list_all continues_word (codes "None") ≡ true) × (list_all continues_word (codes "Some") ≡ true)
unfolding unicode_ident
words = (refl, refl)

-- what begins no gap begins none before another text
solid-front : (s next : Text) → Solid s → skip (s ++ next) ≡ s ++ next
solid-front [] next h = absurd (cc)
solid-front (c ∷ s) next h = go (is_blank c) refl
  where
    go : (b : Bool) → is_blank c ≡ b → skip (c ∷ (s ++ next)) ≡ c ∷ (s ++ next)
    go false e = skip-other c (s ++ next) e h.2
    go true e = absurd (let same : skip s ≡ c ∷ s = sym (skip-blank c s e) ∙ h.1 in let le = length-skip s in let n = ap length same in omega (arith, le, n))

-- a valid raw text begins as an option or not, whatever follows it
pub raw_leads : (t next : Text) → raw_valid t ≡ true → Ends next → opens_as_option (t ++ next) ≡ opens_as_option t
raw_leads t next valid e =
    let v = valid_value t valid in
    let b = raw_sound t v.0 v.1 in
    let solid = value_solid false raw_limit b.before b.core b.after v.0 b.spelled in
    let core : Text = b.core ++ b.after in
    let here : skip t ≡ core = ap skip b.split ∙ skip-append b.before core b.is_before in
    let there : skip (t ++ next) ≡ core ++ next = ap skip (ap (λ u. u ++ next) b.split ∙ append_assoc b.before core next)
    ∙ skip-gap (gap_any b.is_before.is_gap (solid_some core solid) (core ++ next)) ∙ solid-front core next solid in
    rw (here, there) (ap₂ (λ x y. x || y) (stands-quiet (codes "None") core next words.0 e.0) (stands-quiet (codes "Some") core next words.1 e.0))

module _ (x : Extensions) (implicit : x.implicit_some ≡ true) where
  pub some_opens : (t next : Text) → opens_as_option (in_some t ++ next) ≡ true
  unfolding unicode_ident
  some_opens t next = rw (skip-other 83 (codes "ome(" ++ ((t ++ codes ")") ++ next)) refl refl) refl

  pub none_opens : (next : Text) → Ends next → opens_as_option (codes "None" ++ next) ≡ true
  none_opens next e = rw (skip-other 78 (codes "one" ++ next) refl refl, ends_name next e) refl

-- no configuration bears on whether Somes are written out around data that is not bare
pub keeps_same : (c : Config) (x : Extensions) (level : ℕ) (docs : Docs) (d : Data) → keeps c x level docs false d ≡ is_kept x d
keeps_same c x level docs (some_of d) = keeps_same c x level docs d
keeps_same c x level docs (newtype_of name d) = ap (λ b. x.unwrap_newtypes && b) (keeps_same c x level docs d)
keeps_same c x level docs the_none = refl
keeps_same c x level docs (bool_of a) = refl
keeps_same c x level docs (int_of a b) = refl
keeps_same c x level docs (char_of a) = refl
keeps_same c x level docs (str_of a) = refl
keeps_same c x level docs (bytes_of a) = refl
keeps_same c x level docs the_unit = refl
keeps_same c x level docs (unit_struct_of a) = refl
keeps_same c x level docs (list_of a) = refl
keeps_same c x level docs (tuple_of a) = refl
keeps_same c x level docs (tuple_struct_of a b) = refl
keeps_same c x level docs (map_of a) = refl
keeps_same c x level docs (struct_of a b) = refl
keeps_same c x level docs (unit_variant_of a b) = refl
keeps_same c x level docs (newtype_variant_of a b e) = refl
keeps_same c x level docs (tuple_variant_of a b e) = refl
keeps_same c x level docs (struct_variant_of a b e) = refl
keeps_same c x level docs (value_of a) = refl
keeps_same c x level docs (raw_of a) = refl

module _ (c : Config) (gaps : AreGaps c) (x : Extensions) (level : ℕ) (docs : Docs) (implicit : x.implicit_some ≡ true) where
  value_is_kept : (t : Tree) (next : Text) → value_keeps t ≡ true → Ends next → opens_as_option (value_layout c x level false 0 t ++ next) ≡ true
  unfolding value_layout
  value_is_kept tree.none next h e = none_opens x implicit next e
  value_is_kept (tree.some t) next h e = ap (λ s. opens_as_option (s ++ next)) (some_laid c x level docs implicit false 0 t
      ∙ value_kept c x level docs implicit t false 1 h) ∙ some_opens x implicit (value_layout c x level false 0 t) next
  value_is_kept _ next h e = absurd (cc)

  -- the data is neither raw nor a newtype, so what it keeps is what its text begins with
  opens_kept : (d : Data) (next : Text) → (is_kept x d ≡ true → opens_as_option (layout c x level docs false d ++ next) ≡ true) → Ends next
      → opens_as_option (layout c x level docs false d ++ next) ≡ is_kept x d
  opens_kept d next h e = go (is_kept x d) refl
    where
      go : (b : Bool) → is_kept x d ≡ b → opens_as_option (layout c x level docs false d ++ next) ≡ b
      go true k = h k
      go false k = not_kept c gaps x level docs implicit d false next (keeps_same c x level docs d ∙ k) e (λ z. absurd (cc)) (λ z. absurd (cc))

  pub leads_is : (d : Data) (next : Text) → IsValidFirst d → Ends next → opens_as_option (layout c x level docs false d ++ next) ≡ leads x d
  unfolding layout_within
  leads_is (raw_of t) next v e = raw_leads t next v e
  leads_is (newtype_of name d) next v e =
      go x.unwrap_newtypes (leads_is d next v e) (named_no_option (c.struct_names || x.explicit_struct_names) name (layout c x level docs false d) next)
    where
      wrapped : Text
      wrapped = behind_name (c.struct_names || x.explicit_struct_names) false name (bracketed false (layout c x level docs false d))

      go : (b : Bool) → opens_as_option (layout c x level docs false d ++ next) ≡ leads x d → opens_as_option (wrapped ++ next) ≡ false
          → opens_as_option (cond b (layout c x level docs false d) wrapped ++ next) ≡ (b && leads x d)
      go true h k = h
      go false h k = k
  leads_is the_none next v e = none_opens x implicit next e
  leads_is (some_of d) next v e = opens_kept (some_of d) next (λ h. ap (λ t. opens_as_option (t ++ next)) (layout-some c x level docs implicit false 0 d
      ∙ kept c x level docs implicit d false 1 (keeps_same c x level docs d ∙ h)) ∙ some_opens x implicit (layout c x level docs false d) next) e
  leads_is (value_of t) next v e = opens_kept (value_of t) next (λ h. value_is_kept t next h e) e
  leads_is (bool_of a) next v e = opens_kept (bool_of a) next (λ h. absurd (cc)) e
  leads_is (int_of a b) next v e = opens_kept (int_of a b) next (λ h. absurd (cc)) e
  leads_is (char_of a) next v e = opens_kept (char_of a) next (λ h. absurd (cc)) e
  leads_is (str_of a) next v e = opens_kept (str_of a) next (λ h. absurd (cc)) e
  leads_is (bytes_of a) next v e = opens_kept (bytes_of a) next (λ h. absurd (cc)) e
  leads_is the_unit next v e = opens_kept the_unit next (λ h. absurd (cc)) e
  leads_is (unit_struct_of a) next v e = opens_kept (unit_struct_of a) next (λ h. absurd (cc)) e
  leads_is (list_of a) next v e = opens_kept (list_of a) next (λ h. absurd (cc)) e
  leads_is (tuple_of a) next v e = opens_kept (tuple_of a) next (λ h. absurd (cc)) e
  leads_is (tuple_struct_of a b) next v e = opens_kept (tuple_struct_of a b) next (λ h. absurd (cc)) e
  leads_is (map_of a) next v e = opens_kept (map_of a) next (λ h. absurd (cc)) e
  leads_is (struct_of a b) next v e = opens_kept (struct_of a b) next (λ h. absurd (cc)) e
  leads_is (unit_variant_of a b) next v e = opens_kept (unit_variant_of a b) next (λ h. absurd (cc)) e
  leads_is (newtype_variant_of a b d) next v e = opens_kept (newtype_variant_of a b d) next (λ h. absurd (cc)) e
  leads_is (tuple_variant_of a b d) next v e = opens_kept (tuple_variant_of a b d) next (λ h. absurd (cc)) e
  leads_is (struct_variant_of a b d) next v e = opens_kept (struct_variant_of a b d) next (λ h. absurd (cc)) e

-- ---- the text of items begins as an option where the first one's does

module _ (c : Config) (gaps : AreGaps c) (x : Extensions) (level : ℕ) (docs : Docs) (implicit : x.implicit_some ≡ true) where
  pub no_items_open : opens_as_option (tuple_inside c x level docs no_datas) ≡ false
  unfolding layout_within
  no_items_open = rw skip-end refl

  pub items_open : (d : Data) (ds : Datas) → IsValidFirst d → opens_as_option (tuple_inside c x level docs (data_and d ds)) ≡ leads x d
  unfolding layout_within
  items_open d ds v =
      let s = spacing c (not c.separate_tuple_members) level in
      let l = inner_level (not c.separate_tuple_members) level in
      let z = is_spacing c gaps (not c.separate_tuple_members) level in
      let t = layout c x l docs false d in
      let more = flat_map (λ t. codes "," ++ t) (led_by s.between s.between (item_texts c x l docs ds)) in
      let shape : tuple_inside c x level docs (data_and d ds) ≡ s.first ++ (t ++ (more ++ s.last)) =
      ap (λ u. u ++ s.last) (append_assoc s.first t more) ∙ append_assoc s.first (t ++ more) s.last ∙ ap (λ u. s.first ++ u) (append_assoc t more s.last) in
      ap opens_as_option shape ∙ ap (λ u. stands (codes "None") u || stands (codes "Some") u) (skip-closed z.first (t ++ (more ++ s.last)))
      ∙ leads_is c gaps x l docs implicit d (more ++ s.last) v (behind (led_by s.between s.between (item_texts c x l docs ds)) s.last z.last)
    where
      behind : (ts : List Text) (last : Text) → IsLast last → Ends (flat_map (λ t. codes "," ++ t) ts ++ last)
      behind [] last (inl e) = subst Ends (sym e) (refl, skip-end, refl)
      behind [] last (inr h) = subst Ends (sym h.1) (ends_delimiter 44 h.0 refl refl)
      behind (t ∷ ts) last h = ends_delimiter 44 ((t ++ flat_map (λ t. codes "," ++ t) ts) ++ last) refl refl
