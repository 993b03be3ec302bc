-- Options and newtypes stand, behind any gap, for what they are read back as: for `Spelled`.
use Rattle.std.proofs.Common.{◌≡◌, ℕ, ◌-◌, Bool, true, false, ◌&&◌, ◌||◌, cond, List, [], ◌∷◌, ◌++◌, codes, inl, inr, Some, slice_get, refl, sym, ap, subst}
use Rattle.std.proofs.Common.{◌∙◌, append_assoc, arith}
use Rattle.std.proofs.lemmas.Bool.{and_parts}
use Rattle.unicode_ident.proofs.Computing.{unicode_ident}
use Rattle.ron_spec_words.specs.Characters.{Text}
use Rattle.ron_spec_words.specs.Directly.{stands}
use Rattle.ron_spec_words.specs.Gap.{none, skip}
use Rattle.ron_spec_words.specs.Lang.{Lang, done, Means, Group}
use Rattle.ron_spec_words.specs.Name.{is_name}
use Rattle.ron_spec_words.proofs.Gaps.{skip-other}
use Rattle.ron_spec_grammar.specs.Data.{Data, bool_of, int_of, char_of, str_of, bytes_of, the_unit, the_none, some_of, unit_struct_of, list_of, tuple_of}
use Rattle.ron_spec_grammar.specs.Data.{tuple_struct_of, map_of, newtype_of, struct_of, unit_variant_of, newtype_variant_of, tuple_variant_of}
use Rattle.ron_spec_grammar.specs.Data.{struct_variant_of, value_of, raw_of}
use Rattle.ron_spec_grammar.specs.Schema.{Shape, optional, newtype}
use Rattle.ron_spec_grammar.specs.Rule.{Extensions}
use Rattle.ron_spec_grammar.specs.Grammar.{Spells, SpellsAt}
use Rattle.ron_spec_grammar.specs.Shapes.Option.{none_data, some_data, Content, NoneText, SomeText}
use Rattle.ron_spec_grammar.specs.Shapes.Newtype.{newtype_data, NewtypeText, ContentAlone}
use Rattle.ron_spec_layout.specs.Name.{names_ok}
use Rattle.ron_spec_layout.specs.Brackets.{bracketed, in_some, behind_name, opens_as_option}
use Rattle.ron_spec_layout.specs.Config.{Docs, Config}
use Rattle.ron_spec_layout.specs.Layout.{layout_within, layout}
use Rattle.ron_spec_layout.specs.Back.{back}
use Rattle.ron_spec_layout.specs.Keeping.{keeps}
use Rattle.ron_spec_layout.specs.Stand.{StandsFirst, Stands, Ends, MayFollow}
use Rattle.ron_spec_layout.proofs.Stands.{may_follow_ends, stands_as, stands_means, at_once, whole, then_stands, plain_stands}
use Rattle.ron_spec_layout.proofs.Integers.{ends_name}
use Rattle.ron_spec_layout.proofs.Named.{in_round}
use Rattle.ron_spec_layout.proofs.Places.{inner, not_bare, at_shape, at_shape_from, one_below, content_stands, content_follows, clear_of, none_stands}
use Rattle.ron_spec_layout.proofs.Places.{some_stands, implicit_stands}
use Rattle.ron_spec_layout.proofs.Keeping.{kept, dropped, same_bare, layout-some, layout-explicit}
use Rattle.ron_spec_layout.proofs.Unlike.{not_kept}
use Rattle.ron_spec_layout.proofs.Closed.{Closed, skip-closed, led_more, AreGaps}
use Rattle.ron_spec_layout.proofs.Containers.{covers, newtype_place}
use Rattle.ron_spec_layout.proofs.Parts.{Law, any_lead}

module _ (c : Config) (gaps : AreGaps c) (x : Extensions) (schema : List Shape) where
  -- ---- options

  -- what keeps no Somes holds no raw text at its front
  lead_free : (level : ℕ) (docs : Docs) (d : Data) (bare : Bool) (lead : Text) → keeps c x level docs bare d ≡ false → (bare ≡ true → lead ≡ [])
      → back c x level lead d ≡ back c x level [] d
  lead_free level docs (raw_of t) bare lead k b = absurd (cc)
  lead_free level docs (newtype_of name d) bare lead k b =
      go x.unwrap_newtypes (λ e. alone bare x.unwrap_newtypes k e) (λ z. lead_free level docs d false lead z (any_lead c gaps x schema lead))
    where
      alone : (p u : Bool) → ((p || u) && keeps c x level docs false d) ≡ false → u ≡ true → keeps c x level docs false d ≡ false
      alone true u z e = z
      alone false true z e = z
      alone false false z e = absurd (cc)

      go : (u : Bool) → (u ≡ true → keeps c x level docs false d ≡ false) → (keeps c x level docs false d ≡ false → back c x level lead d ≡ back c x level [] d)
          → newtype_of name (back c x level (cond u lead []) d) ≡ newtype_of name (back c x level (cond u [] []) d)
      go false z same = refl
      go true z same = ap (newtype_of name) (same (z refl))
  lead_free level docs (bool_of a) bare lead k b = refl
  lead_free level docs (int_of w n) bare lead k b = refl
  lead_free level docs (char_of a) bare lead k b = refl
  lead_free level docs (str_of t) bare lead k b = refl
  lead_free level docs (bytes_of bs) bare lead k b = refl
  lead_free level docs the_unit bare lead k b = refl
  lead_free level docs the_none bare lead k b = refl
  lead_free level docs (some_of d) bare lead k b = refl
  lead_free level docs (unit_struct_of name) bare lead k b = refl
  lead_free level docs (list_of ds) bare lead k b = refl
  lead_free level docs (tuple_of ds) bare lead k b = refl
  lead_free level docs (tuple_struct_of name ds) bare lead k b = refl
  lead_free level docs (map_of ps) bare lead k b = refl
  lead_free level docs (struct_of name ds) bare lead k b = refl
  lead_free level docs (unit_variant_of name v) bare lead k b = refl
  lead_free level docs (newtype_variant_of name v d) bare lead k b = refl
  lead_free level docs (tuple_variant_of name v ds) bare lead k b = refl
  lead_free level docs (struct_variant_of name v ds) bare lead k b = refl
  lead_free level docs (value_of t) bare lead k b = refl

  module _ (at_start : Bool) (room i : ℕ) (bare : Bool) (next : Text) (f : MayFollow bare next) (j : ℕ) (o : slice_get schema i ≡ Some (optional j)) where
    pub none_led : (lead : Text) → (bare ≡ true → lead ≡ []) → Closed lead
        → Stands (SpellsAt at_start x schema room bare i) (lead ++ codes "None") next the_none
    none_led lead b g = go bare f b
      where
        go : (bare : Bool) → MayFollow bare next → (bare ≡ true → lead ≡ [])
            → Stands (SpellsAt at_start x schema room bare i) (lead ++ codes "None") next the_none
        go true f b = subst (λ u. Stands (SpellsAt at_start x schema room true i) (u ++ codes "None") next the_none) (sym (b refl))
            (none_stands x schema at_start room i true next f j o)
        go false f b =
            let word : Stands (λ _. NoneText) (codes "None") next the_none = stands_means the_none none_data refl
            (at_once (whole (skip-other 78 (codes "one" ++ next) refl refl) f.1 (record { same = refl; ends = ends_name next f; value = refl }))) in
            at_shape_from x schema at_start room i false (optional j) o (stands_as the_none (led_more {L = NoneText} g word) (λ before t n z. inl z))

    pub some_led : (lead : Text) → (bare ≡ true → lead ≡ []) → Closed lead → (t : Text) (d : Data) → Stands (inner x schema room 0 x.unwrap_variant_newtypes j)
        t (41 ∷ next) d → Stands (SpellsAt at_start x schema room bare i) (lead ++ in_some t) next (some_of d)
    unfolding unicode_ident
    some_led lead b g t d h = go bare f b
      where
        v : Bool
        v = x.unwrap_variant_newtypes

        go : (bare : Bool) → MayFollow bare next → (bare ≡ true → lead ≡ [])
            → Stands (SpellsAt at_start x schema room bare i) (lead ++ in_some t) next (some_of d)
        go true f b = subst (λ u. Stands (SpellsAt at_start x schema room true i) (u ++ in_some t) next (some_of d)) (sym (b refl))
            (some_stands x schema at_start room i true next f j o t d h)
        go false f b =
            let L : Text → Lang Data = Content v (inner x schema room 0) j in
            let inside : StandsFirst (Group 40 41 L) (bracketed false t) next d = in_round t next f (content_stands v (inner x schema room 0) j h) in
            let value : Stands (λ _. Means (Group 40 41 L) some_data) (bracketed false t) next (some_of d) =
            stands_means (some_of d) some_data refl (at_once inside) in
            let all : StandsFirst (SomeText v j (inner x schema room 0)) (in_some t) next (some_of d) =
            then_stands (codes "Some") (bracketed false t) next done (record { same = refl; ends = refl; value = refl }) (skip-other 83 _ refl refl) value in
            at_shape_from x schema at_start room i false (optional j) o
            (stands_as (some_of d) (led_more {L = SomeText v j (inner x schema room 0)} g (at_once all)) (λ before t n z. inr (inl z)))

  -- where Somes are written out, the text is the same between the brackets of one
  pub in_one : x.implicit_some ≡ true → (level : ℕ) (docs : Docs) (d : Data) (bare v : Bool) → (bare ≡ true → v ≡ true) → keeps c x level docs bare d ≡ true
      → layout c x level docs bare d ≡ layout c x level docs v d
  in_one e level docs d true true b k = refl
  in_one e level docs d true false b k = absurd (let z = b refl in cc)
  in_one e level docs d false true b k = same_bare c x level docs e d 0 k
  in_one e level docs d false false b k = refl

  pub some_law : (d : Data) → Law c gaps x schema d → Law c gaps x schema (some_of d)
  some_law d h room i level docs bare lead next ends o en ok le b bl g f = by_extension x.implicit_some refl
    where
      v : Bool
      v = x.unwrap_variant_newtypes

      S : Text → Type 0
      S t = Stands (Spells x schema room bare i) (lead ++ t) next (some_of (back c x level [] d))

      written : S (in_some (layout c x level docs v d))
      written = some_led false room i bare next f o.0 o.1 lead bl g (layout c x level docs v d) (back c x level [] d)
          (one_below x schema room o.0 v (omega (arith, le))
          (h (room - 1) o.0 level docs v [] (41 ∷ next) ends o.2 en ok (omega (arith, le)) (λ e. e) (λ e. refl) none (content_follows x schema v next)))

      by_place : x.implicit_some ≡ true → (k : Bool) → keeps c x level docs bare d ≡ k → S (layout_within c x level docs bare 1 d)
      by_place e true k = subst S (sym (kept c x level docs e d bare 1 k ∙ ap in_some (in_one e level docs d bare v b k))) written
      by_place e false k =
          let t = layout c x level docs bare d in
          let z : Stands (Spells x schema (room - 1) bare o.0) (lead ++ t) next (back c x level [] d) =
          subst (λ r. Stands (Spells x schema (room - 1) bare o.0) (lead ++ t) next r) (lead_free level docs d bare lead k bl)
          (h (room - 1) o.0 level docs bare lead next ends o.2 en ok (omega (arith, le)) b bl g f) in
          let clear : bare ≡ true
          → skip (t ++ next) ≡ skip t ++ next = λ q. subst (λ u. skip ((u ++ t) ++ next) ≡ skip (u ++ t) ++ next) (bl q) (clear_of bare f z q) in
          let at : opens_as_option (t ++ next) ≡ false = not_kept c gaps x level docs e d bare next k f clear (λ _. ends) in
          let closed : opens_as_option ((lead ++ t) ++ next) ≡ false =
          ap opens_as_option (append_assoc lead t next) ∙ ap (λ u. stands (codes "None") u || stands (codes "Some") u) (skip-closed g (t ++ next)) ∙ at in
          subst S (sym (dropped c x level docs e d bare 1 k)) (implicit_stands x schema false room i bare next f o.0 o.1 (lead ++ t) (back c x level [] d) e
          closed (one_below x schema room o.0 bare (omega (arith, le)) z))

      by_extension : (s : Bool) → x.implicit_some ≡ s → S (layout c x level docs bare (some_of d))
      by_extension false e = subst S (sym (layout-explicit c x level docs e bare 0 d)) written
      by_extension true e = subst S (sym (layout-some c x level docs e bare 0 d)) (by_place e (keeps c x level docs bare d) refl)

  -- ---- newtypes

  pub newtype_law : (name : Text) (d : Data) → Law c gaps x schema d → Law c gaps x schema (newtype_of name d)
  unfolding layout_within
  newtype_law name d h room i level docs bare lead next ends o en ok le b bl g f = at_shape x schema room i bare (newtype name o.0) o.1 (by_place bare bl f)
    where
      k : (is_name name ≡ true) × (names_ok d ≡ true)
      k = and_parts (is_name name) (names_ok d) ok

      j : ℕ
      j = o.0

      t : Text
      t = layout c x level docs false d

      names : Bool
      names = c.struct_names || x.explicit_struct_names

      content : (g : Text) → Closed g → (next : Text) → Ends next → Stands (inner x schema room 0 false j) (g ++ t) next (back c x level g d)
      content g cg next e = one_below x schema room j false (omega (arith, le))
          (h (room - 1) j level docs false g next ends o.2 en k.1 (omega (arith, le)) (not_bare x schema) (any_lead c gaps x schema g) cg e)

      no_lead : (u : Bool) → back c x level [] d ≡ back c x level (cond u [] []) d
      no_lead true = refl
      no_lead false = refl

      TextOf : Bool → Bool → Text → Lang Data
      TextOf u bare before = NewtypeText x.explicit_struct_names u name j (inner x schema room) (inner x schema room 0) bare before

      wrapped : Text
      wrapped = behind_name names false name (bracketed false t)

      by_unwrap : (u : Bool) → MayFollow false next
          → Stands (TextOf u false) (lead ++ cond u t wrapped) next (newtype_of name (back c x level (cond u lead []) d))
      by_unwrap true f = stands_means (newtype_of name (back c x level lead d)) (newtype_data name) refl (content lead g next f)
      by_unwrap false f = led_more {L = λ u n a. TextOf false false [] u n a} g (newtype_place x schema names x.explicit_struct_names name
          (covers c.struct_names x.explicit_struct_names) k.0 j (inner x schema room) (inner x schema room 0) t next (back c x level [] d) f (content [] none))

      by_place : (bare : Bool) → (bare ≡ true → lead ≡ []) → MayFollow bare next → Stands (TextOf x.unwrap_newtypes bare)
          (lead ++ cond (bare || x.unwrap_newtypes) t wrapped) next (newtype_of name (back c x level (cond x.unwrap_newtypes lead []) d))
      by_place true bl f =
          subst (λ u. Stands (TextOf x.unwrap_newtypes true) (u ++ t) next (newtype_of name (back c x level (cond x.unwrap_newtypes u []) d))) (sym (bl refl))
          (subst (λ r. Stands (TextOf x.unwrap_newtypes true) t next (newtype_of name r)) (no_lead x.unwrap_newtypes)
          (plain_stands {L = λ before. ContentAlone name j (inner x schema room 0) before} true f
          (stands_means (newtype_of name (back c x level [] d)) (newtype_data name) refl (content [] none next (may_follow_ends true next f)))))
      by_place false bl f = by_unwrap x.unwrap_newtypes f
