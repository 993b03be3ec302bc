-- Where the text of a shape may stand: at its place, some levels down, and as the content of an option, written out or not.
use Rattle.std.proofs.Common.{◌≡◌, ℕ, zero, suc, ◌+◌, ◌-◌, ◌≤◌, Bool, true, false, not, ◌||◌, List, ◌∷◌, ◌++◌, codes, inl, inr, Some, slice_get, refl, sym, ap}
use Rattle.std.proofs.Common.{subst, ◌∙◌, append_assoc, arith}
use Rattle.unicode_ident.proofs.Computing.{unicode_ident}
use Rattle.ron_spec_words.specs.Characters.{Text}
use Rattle.ron_spec_words.specs.Lang.{Lang, Group, done, Means}
use Rattle.ron_spec_words.specs.Gap.{skip}
use Rattle.ron_spec_words.specs.Directly.{stands}
use Rattle.ron_spec_words.proofs.Gaps.{skip-other, skip-gap}
use Rattle.ron_spec_grammar.specs.Data.{Data, char_of, the_none, some_of}
use Rattle.ron_spec_grammar.specs.Schema.{FieldList, Shape, char, optional}
use Rattle.ron_spec_grammar.specs.Rule.{Extensions, Langs, below, inside, Allowed}
use Rattle.ron_spec_grammar.specs.Shapes.Char.{char_data}
use Rattle.ron_spec_grammar.specs.Shapes.Struct.{Item, FieldItem}
use Rattle.ron_spec_grammar.specs.Values.Grammar.{AnyBelow}
use Rattle.ron_spec_grammar.specs.Grammar.{ShapeText, Rule, nothing_spelled, Spells, SpellsAt}
use Rattle.ron_spec_grammar.specs.Shapes.Option.{none_data, some_data, opens_option, Content, NoneText, SomeText}
use Rattle.ron_spec_layout.specs.Literals.{written_char}
use Rattle.ron_spec_layout.specs.Brackets.{bracketed, in_some, opens_as_option}
use Rattle.ron_spec_layout.specs.Stand.{Stands, MayBeBare, MayFollow, StandsFirst}
use Rattle.ron_spec_layout.proofs.Integers.{ends_name}
use Rattle.ron_spec_layout.proofs.Quoted.{char_literal}
use Rattle.ron_spec_layout.proofs.Stands.{ends_delimiter, may_follow_ends, stands_as, stands_means, at_once, then_stands, plain_stands, whole}
use Rattle.ron_spec_layout.proofs.Named.{in_round}
use Rattle.ron_spec_layout.proofs.Guard.{skip-stands, passes_guard}

module _ (x : Extensions) (schema : List Shape) where
  -- what may stand so many levels deeper
  abbrev pub inner : ℕ → ℕ → Langs
  inner room = inside (below (Rule x schema) nothing_spelled room)

  -- the fields of what k levels are taken for, each one level deeper
  abbrev pub FieldsOf : ℕ → ℕ → FieldList → List Item → Text → Lang Item
  FieldsOf room k all seen gap = FieldItem all (inner room k) (AnyBelow x.unwrap_variant_newtypes room k) seen

  -- what may stand so many levels deeper, at the start of the text or not
  abbrev pub deeper_in : ℕ → ℕ → Bool → Langs
  deeper_in room = below (Rule x schema) nothing_spelled room

  pub at_shape_from : (at_start : Bool) (room i : ℕ) (bare : Bool) {t next : Text} {d : Data} (shape : Shape) → slice_get schema i ≡ Some shape → Stands
      (λ before. ShapeText x schema room (deeper_in room) at_start bare before (Some shape)) t next d → Stands (SpellsAt at_start x schema room bare i) t next d
  unfolding SpellsAt
  at_shape_from at_start room i bare {t = t} {next = next} {d = d} shape e h =
      subst (λ o. Stands (λ before. ShapeText x schema room (deeper_in room) at_start bare before o) t next d) (sym e) h

  pub at_shape : (room i : ℕ) (bare : Bool) {t next : Text} {d : Data} (shape : Shape) → slice_get schema i ≡ Some shape
      → Stands (λ before. ShapeText x schema room (deeper_in room) false bare before (Some shape)) t next d → Stands (Spells x schema room bare i) t next d
  at_shape = at_shape_from false

  pub one_below_from : (at_start : Bool) (room i : ℕ) (bare : Bool) {t next : Text} {d : Data} → 1 ≤ room
      → Stands (SpellsAt at_start x schema (room - 1) bare i) t next d → Stands (deeper_in room 0 at_start bare i) t next d
  unfolding SpellsAt
  one_below_from at_start room i bare {t = t} {next = next} {d = d} le h = let e : room ≡ suc (room - 1) = omega arith in
      subst (λ k. Stands (deeper_in k 0 at_start bare i) t next d) (sym e) h

  -- what is not bare may always stand
  pub not_bare : MayBeBare x false
  not_bare e = absurd (cc)

  levels : ℕ → ℕ → ℕ
  levels zero m = suc m
  levels (suc k) m = suc (levels k m)

  levels_are : (k m : ℕ) → levels k m ≡ suc k + m
  unfolding levels
  levels_are zero m = omega arith
  levels_are (suc k) m = omega (arith, levels_are k m)

  at_level : (k m i : ℕ) (bare : Bool) {t next : Text} {d : Data} → Stands (Spells x schema m bare i) t next d → Stands (inner (levels k m) k bare i) t next d
  unfolding SpellsAt levels
  at_level zero m i bare h = h
  at_level (suc k) m i bare h = at_level k m i bare h

  -- k + 1 levels down
  pub deeper : (k room i : ℕ) (bare : Bool) {t next : Text} {d : Data} → suc k ≤ room → Stands (Spells x schema (room - suc k) bare i) t next d
      → Stands (inner room k bare i) t next d
  deeper k room i bare {t = t} {next = next} {d = d} le h =
      let e : levels k (room - suc k) ≡ room = levels_are k (room - suc k) ∙ omega (arith, le) in
      subst (λ n. Stands (inner n k bare i) t next d) e (at_level k (room - suc k) i bare h)

  pub one_below : (room i : ℕ) (bare : Bool) {t next : Text} {d : Data} → 1 ≤ room → Stands (Spells x schema (room - 1) bare i) t next d
      → Stands (inner room 0 bare i) t next d
  unfolding SpellsAt
  one_below room i bare {t = t} {next = next} {d = d} le h = let e : room ≡ suc (room - 1) = omega arith in
      subst (λ k. Stands (inner k 0 bare i) t next d) (sym e) h

  pub two_below : (room i : ℕ) (bare : Bool) {t next : Text} {d : Data} → 2 ≤ room → Stands (Spells x schema (room - 2) bare i) t next d
      → Stands (inner room 1 bare i) t next d
  unfolding SpellsAt
  two_below room i bare {t = t} {next = next} {d = d} le h = let e : room ≡ suc (suc (room - 2)) = omega arith in
      subst (λ k. Stands (inner k 1 bare i) t next d) (sym e) h

  -- ---- a character, a string and bytes

  pub char_stands : (c room i : ℕ) (bare : Bool) (next : Text) → slice_get schema i ≡ Some char → MayFollow bare next
      → Stands (Spells x schema room bare i) (written_char c) next (char_of c)
  char_stands c room i bare next e f =
      at_shape room i bare char e (plain_stands bare f (stands_means (char_of c) char_data refl (char_literal c next (may_follow_ends bare next f))))

-- ---- content between brackets

pub content_stands : (b : Bool) (L : Langs) (j : ℕ) {t rest : Text} {d : Data} → Stands (L b j) t (41 ∷ rest) d
    → Stands (λ before. Content b L j before) t (41 ∷ rest) d
content_stands false L j h = plain_stands {L = λ before. L false j before} true (_, refl) h
content_stands true L j h = h

-- ---- the guard

-- where the text is bare, a gap at its front is one before what follows
pub clear_of : {A : Type 0} {L : Text → Lang A} {t next : Text} {a : A} (bare : Bool) → MayFollow bare next → Stands L t next a → bare ≡ true
    → skip (t ++ next) ≡ skip t ++ next
clear_of false f h e = absurd (cc)
clear_of {L = L} {t = t} {next = next} {a = a} true f h e = subst (λ n. skip (t ++ n) ≡ skip t ++ n) (sym f.1) (skip-stands (subst (λ n. Stands L t n a) f.1 h))

guarded : {A : Type 0} {L : Text → Lang A} {t next : Text} {a : A} (h : Stands L t next a) → opens_as_option (t ++ next) ≡ false
    → opens_option (h.text_from ++ next) ≡ false
guarded {t = t} {next = next} h e =
    let u = h.text_from ++ next in
    let q : skip (t ++ next) ≡ u =
    ap (λ z. skip (z ++ next)) h.split ∙ ap skip (append_assoc h.before h.text_from next) ∙ skip-gap h.is_before ∙ h.from.solid in
    passes_guard u h.from.solid (ap (λ z. stands (codes "None") z || stands (codes "Some") z) (h.from.solid ∙ sym q) ∙ e)

allowed_where : {A : Type 0} (L : Lang A) (t next : Text) (a : A) (b : Bool) → b ≡ true → L t next a → Allowed b L t next a
allowed_where L t next a true e z = z
allowed_where L t next a false e z = absurd (cc)

module _ (x : Extensions) (schema : List Shape) where
  module _ (at_start : Bool) (room i : ℕ) (bare : Bool) (next : Text) (f : MayFollow bare next) (j : ℕ) (s : slice_get schema i ≡ Some (optional j)) where
    pub none_stands : Stands (SpellsAt at_start x schema room bare i) (codes "None") next the_none
    none_stands =
        let e = may_follow_ends bare next f in
        let word : Stands (λ _. NoneText) (codes "None") next the_none = stands_means the_none none_data refl
        (at_once (whole (skip-other 78 (codes "one" ++ next) refl refl) e.1 (record { same = refl; ends = ends_name next e; value = refl }))) in
        at_shape_from x schema at_start room i bare (optional j) s (stands_as the_none (plain_stands {L = λ _. NoneText} bare f word) (λ before t n z. inl z))

    pub some_stands : (t : Text) (d : Data) → Stands (inner x schema room 0 x.unwrap_variant_newtypes j) t (41 ∷ next) d
        → Stands (SpellsAt at_start x schema room bare i) (in_some t) next (some_of d)
    unfolding unicode_ident
    some_stands t d h =
        let v = x.unwrap_variant_newtypes in
        let e = may_follow_ends bare next f in
        let L : Text → Lang Data = Content v (inner x schema room 0) j in
        let inside : StandsFirst (Group 40 41 L) (bracketed false t) next d = in_round t next e (content_stands v (inner x schema room 0) j h) in
        let value : Stands (λ _. Means (Group 40 41 L) some_data) (bracketed false t) next (some_of d) =
        stands_means (some_of d) some_data refl (at_once inside) in
        let all : StandsFirst (SomeText v j (inner x schema room 0)) (in_some t) next (some_of d) =
        then_stands (codes "Some") (bracketed false t) next done (record { same = refl; ends = refl; value = refl }) (skip-other 83 _ refl refl) value in
        at_shape_from x schema at_start room i bare (optional j) s
        (stands_as (some_of d) (plain_stands {L = λ _. SomeText v j (inner x schema room 0)} bare f (at_once all)) (λ before t n z. inr (inl z)))

    -- a Some that is not written
    pub implicit_stands : (t : Text) (d : Data) → x.implicit_some ≡ true → opens_as_option (t ++ next) ≡ false
        → Stands (deeper_in x schema room 0 at_start bare j) t next d → Stands (SpellsAt at_start x schema room bare i) t next (some_of d)
    implicit_stands t d implicit closed h = at_shape_from x schema at_start room i bare (optional j) s (record {
      before = h.before;
      text_from = h.text_from;
      split = h.split;
      is_before = h.is_before;
      from = record {
        stretch = h.from.stretch;
        after = h.from.after;
        split = h.from.split;
        solid = h.from.solid;
        spelled = inr (inr (
          at_stretch,
          allowed_where (Means (deeper_in x schema room 0 at_start bare j h.before) some_data) h.from.stretch (h.from.after ++ next) (some_of d) x.implicit_some
              implicit (record { value = d; spelled = h.from.spelled; meant = refl }),
        ));
        is_after = h.from.is_after;
      };
    })
      where
        same : h.from.stretch ++ (h.from.after ++ next) ≡ h.text_from ++ next
        same = sym (append_assoc h.from.stretch h.from.after next) ∙ ap (λ u. u ++ next) (sym h.from.split)

        at_stretch : not (opens_option (h.from.stretch ++ (h.from.after ++ next))) ≡ true
        at_stretch = ap (λ u. not (opens_option u)) same ∙ ap not (guarded h closed)

  -- ---- a Some

  pub content_follows : (b : Bool) (rest : Text) → MayFollow b (41 ∷ rest)
  content_follows false rest = ends_delimiter 41 rest refl refl
  content_follows true rest = (rest, refl)
