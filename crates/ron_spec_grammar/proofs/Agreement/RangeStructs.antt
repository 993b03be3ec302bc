-- What a range makes of a struct is what its value becomes: for `Agreement.Levels`.
use Rattle.std.proofs.Common.{◌≡◌, ℕ, Bool, true, false, not, ◌||◌, cond, find, List, [], ◌∷◌, Option, Some, None, option_map, codes, slice_get, refl, sym, ap}
use Rattle.std.proofs.Common.{subst, ◌&&◌, ◌∙◌}
use Rattle.std.specs.List.{list_any, list_all}
use lib.Utf8.{encode}
use Rattle.std.proofs.lemmas.Bool.{and_parts, not-true}
use Rattle.std.proofs.Math.Bool.{and-false}
use Rattle.std.proofs.lemmas.Option.{same_Some}
use Rattle.std.specs.Option.{option_and_then}
use Rattle.ron_spec_words.specs.Characters.{Text}
use Rattle.ron_spec_words.specs.Runs.{same_text}
use Rattle.ron_spec_words.specs.Number.{Numeral, numeral_value}
use Rattle.ron_spec_words.specs.Range.{Interval, one, range}
use Rattle.ron_value_number.specs.declared.width.Width.{Width}
use Rattle.ron_value_number.specs.Width.{fits}
use Rattle.ron_value.specs.Tree.{Tree}
use Rattle.ron_value.specs.Tree as tree
use Rattle.ron_spec_grammar.specs.Data.{Data, int_of, value_of, struct_of, no_fields, field_and}
use Rattle.ron_spec_grammar.specs.Schema.{Shape, Field, FieldList, int, any_value, struct, is_named, is_called, range_names, has_whole_range}
use Rattle.ron_spec_grammar.specs.Shapes.Range.{fill, fill_field, filled_one, filled_two, spans, reaches, starts, is_start, is_end, range_fields, range_data}
use Rattle.ron_spec_grammar.specs.Shapes.Struct.{Item, known, target, struct_from}
use Rattle.ron_spec_grammar.specs.Values.Trees.{mapped}
use Rattle.ron_spec_grammar.specs.Values.Grammar.{number_tree, start_key, end_key, interval_value}
use Rattle.ron_spec_grammar.specs.Values.Conversion.{or_itself, number_as, into}
use Rattle.ron_spec_grammar.proofs.Finding.{same_is, same_self, mapped_from, then_from, cond_parts}
use Rattle.ron_spec_grammar.proofs.Agreement.Leaves.{Becomes}
use Rattle.ron_spec_grammar.proofs.Agreement.Fields.{fields_become, has_name, of_key, key_field, missing_field}

module _ (schema : List Shape) where
  -- a number that fills a shape becomes the same data
  pub number_fills : (j : ℕ) (n : Numeral) (d : Data) (v : Tree) → fill (slice_get schema j) n ≡ Some d → number_tree n ≡ Some v → Becomes schema j d v
  number_fills j n d v q r e z = go (slice_get schema j) refl q
    where
      become : (o : Option Shape) → slice_get schema j ≡ o → (w : Width) → tree.number w (numeral_value n) ≡ v
          → or_itself v o (number_as (numeral_value n) o) ≡ Some e
      become o s w m = ap (λ u. or_itself u o (number_as (numeral_value n) o)) (sym m)
          ∙ sym (ap (λ o. or_itself (tree.number w (numeral_value n)) o (number_as (numeral_value n) o)) s) ∙ ap (into schema j) m ∙ z

      go : (o : Option Shape) → slice_get schema j ≡ o → fill o n ≡ Some d → e ≡ d
      go (Some (int w)) s q =
          let m = mapped_from (λ w. tree.number w (numeral_value n)) _ v r in
          let made : cond (fits w (numeral_value n)) (Some (int_of w (numeral_value n))) None ≡ Some d =
          sym (ap (λ o. option_and_then (λ t. cond (fits w (numeral_value n)) (Some (int_of w (numeral_value n))) None) o) r) ∙ q in
          same_Some e d (sym (become (Some (int w)) s m.0 m.2) ∙ made)
      go (Some any_value) s q =
          let m = mapped_from (λ w. tree.number w (numeral_value n)) _ v r in
          let made : Some (value_of v) ≡ Some d = sym (ap (option_map value_of) r) ∙ q in
          same_Some e d (sym (become (Some any_value) s m.0 m.2) ∙ made)
      go _ s q = absurd (cc)

module _ (schema : List Shape) (name : Text) (list : FieldList) (i : ℕ) (s : slice_get schema i ≡ Some (struct name list)) where
  -- both ends, where the value's keys call the fields
  module _ (f g : Field) (fields : list.fields ≡ f ∷ g ∷ []) (first : is_start f ≡ true) (apart : same_text f.name g.name ≡ false)
      (other : is_called (codes "end") f ≡ false) (last : is_called (codes "end") g ≡ true) (a b : Numeral) (c d : Data) (u w : Tree)
      (p : fill_field schema f a ≡ Some c) (q : fill_field schema g b ≡ Some d) (n : number_tree a ≡ Some u) (m : number_tree b ≡ Some w) where
    abbrev xs : List Item
    xs = (f.name, c) ∷ (g.name, d) ∷ []

    start_known : target list [] (codes "start") ≡ Some (known f)
    start_known = rw (fields, first, and-false list.skips_unknown) refl

    end_known : target list ((f.name, c) ∷ []) (codes "end") ≡ Some (known g)
    end_known = rw (fields, other, last, apart, and-false list.skips_unknown) refl

    two : struct_from name (f ∷ g ∷ []) xs ≡ Some (struct_of name (field_and f.name c (field_and g.name d no_fields)))
    two = rw (same_self f.name, apart, same_self g.name) refl

    pub both_become : Becomes schema i (struct_of name (field_and f.name c (field_and g.name d no_fields))) (mapped ((start_key, u) ∷ (end_key, w) ∷ []))
    both_become = fields_become schema list i name s xs ((start_key, u) ∷ (end_key, w) ∷ []) _ (
      (codes "start", refl, refl, known f, start_known, (refl, number_fills schema f.shape a c u p n)),
      ((codes "end", refl, refl, known g, end_known, (refl, number_fills schema g.shape b d w q m)), tt),
    ) (ap (λ fs. struct_from name fs xs) fields ∙ two)

  -- the start alone
  module _ (f : Field) (fields : list.fields ≡ f ∷ []) (first : is_start f ≡ true) (a : Numeral) (c : Data) (u : Tree) (p : fill_field schema f a ≡ Some c)
      (n : number_tree a ≡ Some u) where
    pub start_becomes : Becomes schema i (struct_of name (field_and f.name c no_fields)) (mapped ((start_key, u) ∷ []))
    start_becomes = fields_become schema list i name s ((f.name, c) ∷ []) ((start_key, u) ∷ []) _
        ((codes "start", refl, refl, known f, rw (fields, first, and-false list.skips_unknown) refl, (refl, number_fills schema f.shape a c u p n)), tt)
        (ap (λ fs. struct_from name fs ((f.name, c) ∷ [])) fields ∙ rw (same_self f.name) refl)

  -- the end alone
  module _ (f : Field) (fields : list.fields ≡ f ∷ []) (last : is_called (codes "end") f ≡ true) (a : Numeral) (c : Data) (u : Tree)
      (p : fill_field schema f a ≡ Some c) (n : number_tree a ≡ Some u) where
    pub end_becomes : Becomes schema i (struct_of name (field_and f.name c no_fields)) (mapped ((end_key, u) ∷ []))
    end_becomes = fields_become schema list i name s ((f.name, c) ∷ []) ((end_key, u) ∷ []) _
        ((codes "end", refl, refl, known f, rw (fields, last, and-false list.skips_unknown) refl, (refl, number_fills schema f.shape a c u p n)), tt)
        (ap (λ fs. struct_from name fs ((f.name, c) ∷ [])) fields ∙ rw (same_self f.name) refl)

-- ---- from the text

-- the end isn't called as the start
end_apart : (closed : Bool) (f g : Field) → is_start f ≡ true → is_end closed g ≡ true → same_text f.name g.name ≡ false
end_apart closed f g first e = ap (λ t. same_text t g.name) (same_is f.name (codes "start") first) ∙ go (is_named (codes "end") g) refl e
  where
    go : (b : Bool) → is_named (codes "end") g ≡ b → (b || (closed && is_named (codes "last") g)) ≡ true → same_text (codes "start") g.name ≡ false
    go true k e = ap (same_text (codes "start")) (same_is g.name (codes "end") k)
    go false k e = ap (same_text (codes "start")) (same_is g.name (codes "last") (and_parts closed (is_named (codes "last") g) e).1)

none_of_one : {A : Type 0} (p : A → Bool) (x : A) → p x ≡ false → find p (x ∷ []) ≡ None
none_of_one p x e = rw e refl

none_of_two : {A : Type 0} (p : A → Bool) (x y : A) → p x ≡ false → p y ≡ false → find p (x ∷ y ∷ []) ≡ None
none_of_two p x y e f = rw (e, f) refl

module _ (schema : List Shape) (name : Text) (list : FieldList) (i : ℕ) (s : slice_get schema i ≡ Some (struct name list))
    (whole : has_whole_range (struct name list) ≡ true) where
  -- no field of a range struct may be missing
  all_there : (m : Text) → list_any (same_text m) range_names ≡ true → same_text name m ≡ true → list_all (λ f. not f.may_be_missing) list.fields ≡ true
  all_there m among e = sym
      (ap (λ b. not b || list_all (λ f. not f.may_be_missing) list.fields) (ap (λ n. list_any (same_text n) range_names) (same_is name m e) ∙ among)) ∙ whole

  spans_whole : (closed : Bool) → spans closed name ≡ true → list_all (λ f. not f.may_be_missing) list.fields ≡ true
  spans_whole true = all_there (codes "RangeInclusive") refl
  spans_whole false = all_there (codes "Range") refl

  reaches_whole : (closed : Bool) → reaches closed name ≡ true → list_all (λ f. not f.may_be_missing) list.fields ≡ true
  reaches_whole true = all_there (codes "RangeToInclusive") refl
  reaches_whole false = all_there (codes "RangeTo") refl

  -- a field of the end that no key calls
  module _ (f g : Field) (fields : list.fields ≡ f ∷ g ∷ []) (first : is_start f ≡ true) (apart : same_text f.name g.name ≡ false)
      (needed : g.may_be_missing ≡ false) (none : has_name g.name (find (is_called (codes "end")) (f ∷ g ∷ [])) ≡ false) (d : Data) where
    start_found : find (is_called (codes "start")) (f ∷ g ∷ []) ≡ Some f
    start_found = rw first refl

    end_uncalled : (u w : Tree) → Becomes schema i d (mapped ((start_key, u) ∷ (end_key, w) ∷ []))
    unfolding encode
    end_uncalled u w = missing_field schema list i name g.name g s (ap (find (is_named g.name)) fields ∙ rw (apart, same_self g.name) refl) needed
        ((start_key, u) ∷ (end_key, w) ∷ [])
        (none_of_two (of_key schema list g.name) (end_key, w) (start_key, u)
        (ap (has_name g.name) (key_field schema list (codes "end") refl ∙ ap (find (is_called (codes "end"))) fields) ∙ none)
        (ap (has_name g.name) (key_field schema list (codes "start") refl ∙ ap (find (is_called (codes "start"))) fields ∙ start_found) ∙ apart)) d

  module _ (f : Field) (fields : list.fields ≡ f ∷ []) (needed : f.may_be_missing ≡ false) (none : is_called (codes "end") f ≡ false) (d : Data) where
    none_found : find (is_called (codes "end")) (f ∷ []) ≡ None
    none_found = rw none refl

    only_uncalled : (w : Tree) → Becomes schema i d (mapped ((end_key, w) ∷ []))
    unfolding encode
    only_uncalled w = missing_field schema list i name f.name f s (ap (find (is_named f.name)) fields ∙ rw (same_self f.name) refl) needed ((end_key, w) ∷ [])
        (none_of_one (of_key schema list f.name) (end_key, w)
        (ap (has_name f.name) (key_field schema list (codes "end") refl ∙ ap (find (is_called (codes "end"))) fields ∙ none_found))) d

  both : (f g : Field) → list.fields ≡ f ∷ g ∷ [] → (a b : Numeral) (closed : Bool) (d : Data) (v : Tree) → range_data schema name (f ∷ g ∷ [])
      (range (Some a) closed (Some b)) ≡ Some d → interval_value (range (Some a) closed (Some b)) ≡ Some v → Becomes schema i d v
  both f g fields a b closed d v q r =
      let k = mapped_from (struct_of name) (range_fields schema name (f ∷ g ∷ []) (range (Some a) closed (Some b))) d q in
      let z = cond_parts (spans closed name && (is_start f && is_end closed g)) (filled_two f (fill_field schema f a) g (fill_field schema g b)) k.0 k.1 in
      let named = and_parts (spans closed name) (is_start f && is_end closed g) z.0 in
      let called = and_parts (is_start f) (is_end closed g) named.1 in
      let first =
      then_from (λ c. option_map (λ e. field_and f.name c (field_and g.name e no_fields)) (fill_field schema g b)) (fill_field schema f a) k.0 z.1 in
      let second = mapped_from (λ e. field_and f.name first.0 (field_and g.name e no_fields)) (fill_field schema g b) k.0 first.2 in
      let start = then_from (λ u. option_map (λ w. mapped ((start_key, u) ∷ (end_key, w) ∷ [])) (number_tree b)) (number_tree a) v r in
      let end = mapped_from (λ w. mapped ((start_key, start.0) ∷ (end_key, w) ∷ [])) (number_tree b) v start.2 in
      subst (λ e. Becomes schema i e v) (ap (struct_of name) second.2 ∙ k.2) (subst
      (Becomes schema i (struct_of name (field_and f.name first.0 (field_and g.name second.0 no_fields)))) end.2
      (go (is_called (codes "end") f) (is_called (codes "end") g) refl refl called.0 (end_apart closed f g called.0 called.1) (needed named.0) first.0 second.0
      start.0 end.0 first.1 second.1 start.1 end.1))
    where
      needed : spans closed name ≡ true → g.may_be_missing ≡ false
      needed n =
          let all : (not f.may_be_missing && (not g.may_be_missing && true)) ≡ true =
          sym (ap (list_all (λ f. not f.may_be_missing)) fields) ∙ spans_whole closed n in
          not-true g.may_be_missing (and_parts (not g.may_be_missing) true (and_parts (not f.may_be_missing) (not g.may_be_missing && true) all).1).0

      go : (x y : Bool) → is_called (codes "end") f ≡ x → is_called (codes "end") g ≡ y → is_start f ≡ true → same_text f.name g.name ≡ false
          → g.may_be_missing ≡ false
          → (c e : Data) (u w : Tree) → fill_field schema f a ≡ Some c → fill_field schema g b ≡ Some e → number_tree a ≡ Some u → number_tree b ≡ Some w
          → Becomes schema i (struct_of name (field_and f.name c (field_and g.name e no_fields))) (mapped ((start_key, u) ∷ (end_key, w) ∷ []))
      go false true k m first apart need c e u w p q r t = both_become schema name list i s f g fields first apart k m a b c e u w p q r t
      go true y k m first apart need c e u w p q r t = end_uncalled f g fields first apart need (rw k apart) _ u w
      go false false k m first apart need c e u w p q r t = end_uncalled f g fields first apart need (rw (k, m) refl) _ u w

  from : (f : Field) → list.fields ≡ f ∷ [] → (a : Numeral) (closed : Bool) (d : Data) (v : Tree)
      → range_data schema name (f ∷ []) (range (Some a) closed None) ≡ Some d → interval_value (range (Some a) closed None) ≡ Some v → Becomes schema i d v
  from f fields a closed d v q r =
      let k = mapped_from (struct_of name) (range_fields schema name (f ∷ []) (range (Some a) closed None)) d q in
      let z = cond_parts (starts closed name && is_start f) (filled_one f (fill_field schema f a)) k.0 k.1 in
      let first = mapped_from (λ c. field_and f.name c no_fields) (fill_field schema f a) k.0 z.1 in
      let start = mapped_from (λ u. mapped ((start_key, u) ∷ [])) (number_tree a) v r in
      subst (λ e. Becomes schema i e v) (ap (struct_of name) first.2 ∙ k.2) (subst (Becomes schema i (struct_of name (field_and f.name first.0 no_fields)))
      start.2
      (start_becomes schema name list i s f fields (and_parts (starts closed name) (is_start f) z.0).1 a first.0 start.0 first.1 start.1))

  to : (f : Field) → list.fields ≡ f ∷ [] → (b : Numeral) (closed : Bool) (d : Data) (v : Tree)
      → range_data schema name (f ∷ []) (range None closed (Some b)) ≡ Some d → interval_value (range None closed (Some b)) ≡ Some v → Becomes schema i d v
  to f fields b closed d v q r =
      let k = mapped_from (struct_of name) (range_fields schema name (f ∷ []) (range None closed (Some b))) d q in
      let z = cond_parts (reaches closed name && is_end closed f) (filled_one f (fill_field schema f b)) k.0 k.1 in
      let named = and_parts (reaches closed name) (is_end closed f) z.0 in
      let first = mapped_from (λ c. field_and f.name c no_fields) (fill_field schema f b) k.0 z.1 in
      let end = mapped_from (λ w. mapped ((end_key, w) ∷ [])) (number_tree b) v r in
      subst (λ e. Becomes schema i e v) (ap (struct_of name) first.2 ∙ k.2) (subst (Becomes schema i (struct_of name (field_and f.name first.0 no_fields)))
      end.2
      (go (is_called (codes "end") f) refl (needed named.0) first.0 end.0 first.1 end.1))
    where
      needed : reaches closed name ≡ true → f.may_be_missing ≡ false
      needed n =
          let all : (not f.may_be_missing && true) ≡ true = sym (ap (list_all (λ f. not f.may_be_missing)) fields) ∙ reaches_whole closed n in
          not-true f.may_be_missing (and_parts (not f.may_be_missing) true all).0

      go : (x : Bool) → is_called (codes "end") f ≡ x → f.may_be_missing ≡ false → (c : Data) (w : Tree) → fill_field schema f b ≡ Some c
          → number_tree b ≡ Some w → Becomes schema i (struct_of name (field_and f.name c no_fields)) (mapped ((end_key, w) ∷ []))
      go true k need c w p r = end_becomes schema name list i s f fields k b c w p r
      go false k need c w p r = only_uncalled f fields need k _ w

  by_fields : (fields : List Field) → list.fields ≡ fields → (z : Interval) (d : Data) (v : Tree) → range_data schema name fields z ≡ Some d
      → interval_value z ≡ Some v → Becomes schema i d v
  by_fields [] e z d v q r = absurd (cc)
  by_fields (f ∷ []) e (one n) d v q r = absurd (cc)
  by_fields (f ∷ []) e (range None closed None) d v q r = absurd (cc)
  by_fields (f ∷ []) e (range None closed (Some b)) d v q r = to f e b closed d v q r
  by_fields (f ∷ []) e (range (Some a) closed None) d v q r = from f e a closed d v q r
  by_fields (f ∷ []) e (range (Some a) closed (Some b)) d v q r = absurd (cc)
  by_fields (f ∷ g ∷ []) e (one n) d v q r = absurd (cc)
  by_fields (f ∷ g ∷ []) e (range None closed None) d v q r = absurd (cc)
  by_fields (f ∷ g ∷ []) e (range None closed (Some b)) d v q r = absurd (cc)
  by_fields (f ∷ g ∷ []) e (range (Some a) closed None) d v q r = absurd (cc)
  by_fields (f ∷ g ∷ []) e (range (Some a) closed (Some b)) d v q r = both f g e a b closed d v q r
  by_fields (f ∷ g ∷ h ∷ fields) e z d v q r = absurd (cc)

  pub range_becomes : (z : Interval) (d : Data) (v : Tree) → range_data schema name list.fields z ≡ Some d → interval_value z ≡ Some v → Becomes schema i d v
  range_becomes = by_fields list.fields refl
