-- A layout at the very start of a text, where a raw text takes the gap before it, is read back too: for `Whole`.
use Rattle.std.proofs.Common.{◌≡◌, ℕ, ◌-◌, ◌≤◌, Bool, true, false, ◌&&◌, ◌||◌, cond, List, [], ◌∷◌, ◌++◌, Some, slice_get, refl, sym, ap, subst, ◌∙◌, arith}
use Rattle.std.proofs.lemmas.Bool.{and_parts}
use Rattle.ron_spec_words.specs.Characters.{Text}
use Rattle.ron_spec_words.specs.Name.{is_name}
use Rattle.ron_spec_words.specs.Gap.{none}
use Rattle.ron_spec_grammar.specs.Data.{Data, bool_of, int_of, char_of, str_of, bytes_of, the_unit, the_none, some_of, unit_struct_of, list_of, tuple_of}
use Rattle.ron_spec_grammar.specs.Data.{tuple_struct_of, map_of, newtype_of, struct_of, unit_variant_of, newtype_variant_of, tuple_variant_of}
use Rattle.ron_spec_grammar.specs.Data.{struct_variant_of, value_of, raw_of}
use Rattle.ron_spec_grammar.specs.Schema.{Shape, bool, int, char, str, bytes, unit, unit_struct, seq, tuple, tuple_struct, map, struct, enum, any_value}
use Rattle.ron_spec_grammar.specs.Schema.{newtype, any_raw, is_well_formed, OfShape}
use Rattle.ron_spec_grammar.specs.Rule.{Extensions}
use Rattle.ron_spec_grammar.specs.Grammar.{ShapeText, Spells, SpellsAt}
use Rattle.ron_spec_grammar.specs.Shapes.Raw.{raw_data}
use Rattle.ron_spec_grammar.specs.Shapes.Newtype.{newtype_data, NewtypeText}
use Rattle.ron_spec_grammar.proofs.RawTurns.{is_same_anywhere}
use Rattle.ron_spec_layout.specs.Name.{names_ok}
use Rattle.ron_spec_layout.specs.Encodable.{is_encodable}
use Rattle.ron_spec_layout.specs.Brackets.{in_some, opens_as_option, bracketed, behind_name}
use Rattle.ron_spec_layout.specs.Layout.{layout_within, layout}
use Rattle.ron_spec_layout.specs.Keeping.{keeps}
use Rattle.ron_spec_layout.specs.Back.{back, back_first}
use Rattle.ron_spec_layout.proofs.Ample.{ample}
use Rattle.ron_spec_layout.specs.Stand.{Stands, MayFollow}
use Rattle.ron_spec_layout.specs.Config.{Docs, Config}
use Rattle.ron_spec_layout.proofs.Stands.{stands_means}
use Rattle.ron_spec_layout.proofs.Keeping.{kept, dropped, layout-some, layout-explicit}
use Rattle.ron_spec_layout.proofs.Unlike.{not_kept}
use Rattle.ron_spec_layout.proofs.RawBodies.{raw_first}
use Rattle.ron_spec_layout.proofs.Places.{deeper_in, inner, not_bare, at_shape_from, one_below, one_below_from, clear_of, none_stands, implicit_stands}
use Rattle.ron_spec_layout.proofs.Places.{content_follows}
use Rattle.ron_spec_layout.proofs.Spelled.{spelled}
use Rattle.ron_spec_layout.proofs.Closed.{AreGaps, DocsEnd}
use Rattle.ron_spec_layout.proofs.Containers.{covers, newtype_place}
use Rattle.ron_spec_layout.proofs.Options.{some_led, in_one}

module _ (x : Extensions) (schema : List Shape) where
  pub same_text : (room : ℕ) (shape : Shape) → is_same_anywhere shape ≡ true → {t next : Text} {d : Data}
      → Stands (λ before. ShapeText x schema room (deeper_in x schema room) false false before (Some shape)) t next d
      → Stands (λ before. ShapeText x schema room (deeper_in x schema room) true false before (Some shape)) t next d
  same_text room bool e h = h
  same_text room (int w) e h = h
  same_text room char e h = h
  same_text room str e h = h
  same_text room bytes e h = h
  same_text room unit e h = h
  same_text room (unit_struct n) e h = h
  same_text room (seq j) e h = h
  same_text room (tuple js) e h = h
  same_text room (tuple_struct n js) e h = h
  same_text room (map k v) e h = h
  same_text room (struct n l) e h = h
  same_text room (enum n vs) e h = h
  same_text room any_value e h = h
  same_text room _ e h = absurd (cc)

  -- what stands elsewhere stands at the start
  pub other_first : (room i : ℕ) (shape : Shape) → is_same_anywhere shape ≡ true → slice_get schema i ≡ Some shape → {t next : Text} {d : Data}
      → Stands (Spells x schema room false i) t next d → Stands (SpellsAt true x schema room false i) t next d
  unfolding SpellsAt
  other_first room i shape s e {t = t} {next = next} {d = d} h = at_shape_from x schema true room i false shape e
      (same_text room shape s (subst (λ o. Stands (λ before. ShapeText x schema room (deeper_in x schema room) false false before o) t next d) e h))

module _ (c : Config) (gaps : AreGaps c) (x : Extensions) (schema : List Shape) where
  -- where pending Somes are left out, no raw text stands at the start
  first_same : (level : ℕ) (docs : Docs) (d : Data) → keeps c x level docs false d ≡ false → back_first c x level d ≡ back c x level [] d
  first_same level docs (raw_of t) e = absurd (cc)
  first_same level docs (newtype_of name d) e = go x.unwrap_newtypes e (first_same level docs d)
    where
      go : (b : Bool) → (b && keeps c x level docs false d) ≡ false → (keeps c x level docs false d ≡ false → back_first c x level d ≡ back c x level [] d)
          → newtype_of name (cond b (back_first c x level d) (back c x level [] d)) ≡ newtype_of name (back c x level (cond b [] []) d)
      go true k h = ap (newtype_of name) (h k)
      go false k h = refl
  first_same level docs (bool_of a) e = refl
  first_same level docs (int_of a b) e = refl
  first_same level docs (char_of a) e = refl
  first_same level docs (str_of a) e = refl
  first_same level docs (bytes_of a) e = refl
  first_same level docs the_unit e = refl
  first_same level docs the_none e = refl
  first_same level docs (some_of a) e = refl
  first_same level docs (unit_struct_of a) e = refl
  first_same level docs (list_of a) e = refl
  first_same level docs (tuple_of a) e = refl
  first_same level docs (tuple_struct_of a b) e = refl
  first_same level docs (map_of a) e = refl
  first_same level docs (struct_of a b) e = refl
  first_same level docs (unit_variant_of a b) e = refl
  first_same level docs (newtype_variant_of a b c) e = refl
  first_same level docs (tuple_variant_of a b c) e = refl
  first_same level docs (struct_variant_of a b c) e = refl
  first_same level docs (value_of a) e = refl

  abbrev pub IsFirst : Data → Type 0
  IsFirst d = (room i level : ℕ) (docs : Docs) (next : Text) → DocsEnd c docs → OfShape schema i d → is_encodable x.implicit_some d ≡ true → names_ok d ≡ true
      → ample d ≤ room → MayFollow false next → Stands (SpellsAt true x schema room false i) (layout c x level docs false d) next (back_first c x level d)

  module _ (root : ℕ) (well : is_well_formed schema root ≡ true) where
    elsewhere : (d : Data) (room i level : ℕ) (docs : Docs) (next : Text) → DocsEnd c docs → OfShape schema i d → is_encodable x.implicit_some d ≡ true
        → names_ok d ≡ true → ample d ≤ room → MayFollow false next
        → Stands (Spells x schema room false i) (layout c x level docs false d) next (back c x level [] d)
    elsewhere d room i level docs next ends o en ok le f =
        spelled c gaps x schema root well d room i level docs false [] next ends o en ok le (not_bare x schema) (λ e. absurd (cc)) none f

    newtype_first : (name : Text) (d : Data) → IsFirst d → IsFirst (newtype_of name d)
    unfolding layout_within
    newtype_first name d h room i level docs next ends o en ok le f =
        let k = and_parts (is_name name) (names_ok d) ok in
        at_shape_from x schema true room i false (newtype name o.0) o.1 (go x.unwrap_newtypes (one_below_from x schema true room o.0 false (omega (arith, le))
        (h (room - 1) o.0 level docs next ends o.2 en k.1 (omega (arith, le)) f)) (wrapped k.0 k.1))
      where
        names_too : Bool
        names_too = c.struct_names || x.explicit_struct_names

        text : Bool → Text
        text b = cond b (layout c x level docs false d) (behind_name names_too false name (bracketed false (layout c x level docs false d)))

        wrapped : is_name name ≡ true → names_ok d ≡ true → Stands (λ before. NewtypeText x.explicit_struct_names false name o.0 (inner x schema room)
            (inner x schema room 0) false before) (text false) next (newtype_of name (back c x level [] d))
        wrapped named names = newtype_place x schema names_too x.explicit_struct_names name (covers c.struct_names x.explicit_struct_names) named o.0
            (inner x schema room) (inner x schema room 0) (layout c x level docs false d) next (back c x level [] d) f (λ next e.
            one_below x schema room o.0 false (omega (arith, le)) (elsewhere d (room - 1) o.0 level docs next ends o.2 en names (omega (arith, le)) e))

        go : (b : Bool) → Stands (deeper_in x schema room 0 true false o.0) (layout c x level docs false d) next (back_first c x level d)
            → Stands (λ before. NewtypeText x.explicit_struct_names false name o.0 (inner x schema room) (inner x schema room 0) false before) (text false) next
            (newtype_of name (back c x level [] d))
            → Stands (λ before. NewtypeText x.explicit_struct_names b name o.0 (inner x schema room) (deeper_in x schema room 0 true) false before) (text b)
            next (newtype_of name (cond b (back_first c x level d) (back c x level [] d)))
        go true y z = stands_means (newtype_of name (back_first c x level d)) (newtype_data name) refl y
        go false y z = z

    some_first : (d : Data) → IsFirst d → IsFirst (some_of d)
    some_first d h room i level docs next ends o en ok le f = by_extension x.implicit_some refl
      where
        S : Text → Type 0
        S t = Stands (SpellsAt true x schema room false i) t next (some_of (back c x level [] d))

        written : S (in_some (layout c x level docs x.unwrap_variant_newtypes d))
        written = some_led c gaps x schema true room i false next f o.0 o.1 [] (λ e. absurd (cc)) none (layout c x level docs x.unwrap_variant_newtypes d)
            (back c x level [] d)
            (one_below x schema room o.0 x.unwrap_variant_newtypes (omega (arith, le))
            (spelled c gaps x schema root well d (room - 1) o.0 level docs x.unwrap_variant_newtypes [] (41 ∷ next) ends o.2 en ok (omega (arith, le)) (λ e. e)
            (λ e. refl) none (content_follows x schema x.unwrap_variant_newtypes next)))

        by_place : x.implicit_some ≡ true → (k : Bool) → keeps c x level docs false d ≡ k → S (layout_within c x level docs false 1 d)
        by_place e true k = subst S
            (sym (kept c x level docs e d false 1 k ∙ ap in_some (in_one c gaps x schema e level docs d false x.unwrap_variant_newtypes (not_bare x schema) k)))
            written
        by_place e false k =
            let t = layout c x level docs false d in
            let z : Stands (SpellsAt true x schema (room - 1) false o.0) t next (back c x level [] d) =
            subst (λ r. Stands (SpellsAt true x schema (room - 1) false o.0) t next r) (first_same level docs d k)
            (h (room - 1) o.0 level docs next ends o.2 en ok (omega (arith, le)) f) in
            let closed : opens_as_option (t ++ next) ≡ false = not_kept c gaps x level docs e d false next k f (clear_of false f z) (λ _. ends) in
            subst S (sym (dropped c x level docs e d false 1 k)) (implicit_stands x schema true room i false next f o.0 o.1 t (back c x level [] d) e closed
            (one_below_from x schema true room o.0 false (omega (arith, le)) z))

        by_extension : (s : Bool) → x.implicit_some ≡ s → S (layout c x level docs false (some_of d))
        by_extension false e = subst S (sym (layout-explicit c x level docs e false 0 d)) written
        by_extension true e = subst S (sym (layout-some c x level docs e false 0 d)) (by_place e (keeps c x level docs false d) refl)

    pub first : (d : Data) → IsFirst d
    unfolding layout_within
    first (raw_of t) room i level docs next ends o en ok le f = at_shape_from x schema true room i false any_raw o.0
        (stands_means (raw_of t) raw_data refl (raw_first x.unwrap_variant_newtypes room le t o.1 next f.2 f.1))
    first (some_of d) room i level docs next ends o en ok le f = some_first d (first d) room i level docs next ends o en ok le f
    first (newtype_of name d) room i level docs next ends o en ok le f = newtype_first name d (first d) room i level docs next ends o en ok le f
    first the_none room i level docs next ends o en ok le f = none_stands x schema true room i false next f o.0 o.1
    first (bool_of a) room i level docs next ends o en ok le f =
        other_first x schema room i bool refl o (elsewhere (bool_of a) room i level docs next ends o en ok le f)
    first (int_of a b) room i level docs next ends o en ok le f =
        other_first x schema room i (int a) refl o.0 (elsewhere (int_of a b) room i level docs next ends o en ok le f)
    first (char_of a) room i level docs next ends o en ok le f =
        other_first x schema room i char refl o (elsewhere (char_of a) room i level docs next ends o en ok le f)
    first (str_of a) room i level docs next ends o en ok le f =
        other_first x schema room i str refl o (elsewhere (str_of a) room i level docs next ends o en ok le f)
    first (bytes_of a) room i level docs next ends o en ok le f =
        other_first x schema room i bytes refl o (elsewhere (bytes_of a) room i level docs next ends o en ok le f)
    first the_unit room i level docs next ends o en ok le f =
        other_first x schema room i unit refl o (elsewhere the_unit room i level docs next ends o en ok le f)
    first (unit_struct_of a) room i level docs next ends o en ok le f =
        other_first x schema room i (unit_struct a) refl o (elsewhere (unit_struct_of a) room i level docs next ends o en ok le f)
    first (list_of a) room i level docs next ends o en ok le f =
        other_first x schema room i (seq o.0) refl o.1 (elsewhere (list_of a) room i level docs next ends o en ok le f)
    first (tuple_of a) room i level docs next ends o en ok le f =
        other_first x schema room i (tuple o.0) refl o.1 (elsewhere (tuple_of a) room i level docs next ends o en ok le f)
    first (tuple_struct_of a b) room i level docs next ends o en ok le f =
        other_first x schema room i (tuple_struct a o.0) refl o.1 (elsewhere (tuple_struct_of a b) room i level docs next ends o en ok le f)
    first (map_of a) room i level docs next ends o en ok le f =
        other_first x schema room i (map o.0 o.1) refl o.2 (elsewhere (map_of a) room i level docs next ends o en ok le f)
    first (struct_of a b) room i level docs next ends o en ok le f =
        other_first x schema room i (struct a o.0) refl o.1 (elsewhere (struct_of a b) room i level docs next ends o en ok le f)
    first (value_of a) room i level docs next ends o en ok le f =
        other_first x schema room i any_value refl o.0 (elsewhere (value_of a) room i level docs next ends o en ok le f)
    first (unit_variant_of a b) room i level docs next ends o en ok le f =
        other_first x schema room i (enum a o.0) refl o.1 (elsewhere (unit_variant_of a b) room i level docs next ends o en ok le f)
    first (newtype_variant_of a b c) room i level docs next ends o en ok le f =
        other_first x schema room i (enum a o.1.0) refl o.1.1 (elsewhere (newtype_variant_of a b c) room i level docs next ends o en ok le f)
    first (tuple_variant_of a b c) room i level docs next ends o en ok le f =
        other_first x schema room i (enum a o.1.0) refl o.1.1 (elsewhere (tuple_variant_of a b c) room i level docs next ends o en ok le f)
    first (struct_variant_of a b c) room i level docs next ends o en ok le f =
        other_first x schema room i (enum a o.1.0) refl o.1.1 (elsewhere (struct_variant_of a b c) room i level docs next ends o en ok le f)
