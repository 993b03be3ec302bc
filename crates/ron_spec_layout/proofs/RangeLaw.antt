-- The text of a compact range stands for the normal form of its struct, in any room: a range takes no level.
use Rattle.std.proofs.Common.{◌≡◌, ℕ, Bool, true, false, not, ◌&&◌, ◌||◌, cond, List, ◌⊎◌, ◌∷◌, [], ℤ, codes, ◌++◌, inl, Option, inr, None, Some, option_map}
use Rattle.std.proofs.Common.{slice_get, find, refl, sym, ap, ap₂, subst, ◌∙◌}
use Rattle.std.specs.List.{list_any, list_all}
use Rattle.std.specs.Fmt.{signed_decimal}
use Rattle.std.specs.Option.{option_or}
use Rattle.std.proofs.lemmas.Bool.{and_parts, not-true}
use Rattle.ron_spec_words.specs.Characters.{Text}
use Rattle.ron_spec_words.specs.Runs.{same_text}
use Rattle.ron_spec_words.specs.Number.{Numeral, numeral_value}
use Rattle.ron_spec_words.specs.Range.{Interval, range, NumberOrRange}
use Rattle.ron_value_number.specs.declared.width.Width.{Width}
use Rattle.ron_value_number.specs.Width.{fits, width_word}
use Rattle.ron_value.specs.Tree as tree
use Rattle.ron_spec_grammar.specs.Values.Grammar.{number_tree}
use Rattle.ron_spec_grammar.specs.Data.{Data, bool_of, int_of, char_of, str_of, bytes_of, the_unit, the_none, some_of, unit_struct_of, list_of, tuple_of}
use Rattle.ron_spec_grammar.specs.Data.{tuple_struct_of, map_of, newtype_of, struct_of, unit_variant_of, newtype_variant_of, tuple_variant_of}
use Rattle.ron_spec_grammar.specs.Data.{struct_variant_of, value_of, raw_of, Fields, no_fields, field_and}
use Rattle.ron_spec_grammar.specs.Schema.{Field, FieldList, Shape, struct, unit_struct, is_named, in_order, names_of, range_names, has_whole_range}
use Rattle.ron_spec_grammar.specs.Schema.{has_distinct_names, has_no_cycle, is_in_range, is_well_formed, OfShape, OfFields}
use Rattle.ron_spec_grammar.specs.Rule.{Extensions, inside}
use Rattle.ron_spec_grammar.specs.Shapes.Struct.{StructText}
use Rattle.ron_spec_grammar.specs.Shapes.UnitStruct.{UnitStructText}
use Rattle.ron_spec_grammar.specs.Grammar.{Spells}
use Rattle.ron_spec_grammar.specs.Shapes.Range.{fill, fill_field, spans, reaches, starts, is_start, is_end, filled_one, filled_two, range_data, full_data}
use Rattle.ron_spec_grammar.proofs.Finding.{same_is, all_get, cond_parts}
use Rattle.ron_spec_layout.specs.RangeStatement.{AreRangesSpelled}
use Rattle.ron_spec_layout.specs.Normal.{norm_with, norm_fields_with}
use Rattle.ron_spec_layout.specs.Stand.{Stands, MayFollow}
use Rattle.ron_spec_layout.specs.Ranges.{bound_text, dots_text, around_dots, fields_range, range_text}
use Rattle.ron_spec_layout.proofs.Stands.{may_follow_ends, stands_as, stands_means, plain_stands}
use Rattle.ron_spec_layout.proofs.Integers.{plain_numeral, plain_value}
use Rattle.ron_spec_layout.proofs.ValueWords.{number_is}
use Rattle.ron_spec_layout.proofs.Places.{at_shape, deeper_in}
use Rattle.ron_spec_layout.proofs.Ranges.{Bounded, plain_bounded, own_numeral, own_bounded, width_is, two_stand, from_stands, to_stands, full_stands}

-- ---- bounds

-- what is written so fills the shape at an index with the data that is read back
record Bound (suffixes : Bool) (schema : List Shape) (j : ℕ) (d : Data) (t : Text) : Type 0 where
  numeral : Numeral
  bounded : Bounded t numeral
  filled : fill (slice_get schema j) numeral ≡ Some (norm_with suffixes d)

some_text : (s t : Text) → ◌≡◌ {A = Option Text} (Some s) (Some t) → s ≡ t
some_text s t e = cc

own_value : (w : Width) (n : ℤ) → numeral_value (own_numeral w n) ≡ n
own_value w n = plain_value n

pub own_number : (w : Width) (n : ℤ) → fits w n ≡ true → number_tree (own_numeral w n) ≡ Some (tree.number w n)
own_number w n h = rw (plain_value n, width_is w, h) refl

module _ (schema : List Shape) (j : ℕ) (t : Text) where
  bound_is : (suffixes : Bool) (d : Data) → OfShape schema j d → bound_text suffixes d ≡ Some t → Bound suffixes schema j d t
  bound_is false (int_of w n) h e = record {
    numeral = plain_numeral n;
    bounded = subst (λ u. Bounded u (plain_numeral n)) (some_text (signed_decimal n) t e) (plain_bounded w n h.1);
    filled = rw (h.0, number_is w n h.1, plain_value n, h.1) refl;
  }
  bound_is false (value_of (tree.number w n)) h e = record {
    numeral = plain_numeral n;
    bounded = subst (λ u. Bounded u (plain_numeral n)) (some_text (signed_decimal n) t e) (plain_bounded w n h.1.in_width);
    filled = rw (h.0, number_is w n h.1.in_width) refl;
  }
  bound_is true (int_of w n) h e = record {
    numeral = own_numeral w n;
    bounded = subst (λ u. Bounded u (own_numeral w n)) (some_text (signed_decimal n ++ width_word w) t e) (own_bounded w n h.1);
    filled = rw (h.0, own_number w n h.1, own_value w n, h.1) refl;
  }
  bound_is true (value_of (tree.number w n)) h e = record {
    numeral = own_numeral w n;
    bounded = subst (λ u. Bounded u (own_numeral w n)) (some_text (signed_decimal n ++ width_word w) t e) (own_bounded w n h.1.in_width);
    filled = rw (h.0, own_number w n h.1.in_width) refl;
  }
  bound_is suffixes (bool_of b) h e = absurd (cc)
  bound_is suffixes (char_of c) h e = absurd (cc)
  bound_is suffixes (str_of u) h e = absurd (cc)
  bound_is suffixes (bytes_of bs) h e = absurd (cc)
  bound_is suffixes the_unit h e = absurd (cc)
  bound_is suffixes the_none h e = absurd (cc)
  bound_is suffixes (some_of c) h e = absurd (cc)
  bound_is suffixes (unit_struct_of name) h e = absurd (cc)
  bound_is suffixes (list_of ds) h e = absurd (cc)
  bound_is suffixes (tuple_of ds) h e = absurd (cc)
  bound_is suffixes (tuple_struct_of name ds) h e = absurd (cc)
  bound_is suffixes (map_of ps) h e = absurd (cc)
  bound_is suffixes (newtype_of name c) h e = absurd (cc)
  bound_is suffixes (struct_of name ds) h e = absurd (cc)
  bound_is suffixes (unit_variant_of name v) h e = absurd (cc)
  bound_is suffixes (newtype_variant_of name v c) h e = absurd (cc)
  bound_is suffixes (tuple_variant_of name v ds) h e = absurd (cc)
  bound_is suffixes (struct_variant_of name v ds) h e = absurd (cc)
  bound_is suffixes (raw_of u) h e = absurd (cc)
  bound_is suffixes (value_of (tree.boolean b)) h e = absurd (cc)
  bound_is suffixes (value_of (tree.character c)) h e = absurd (cc)
  bound_is suffixes (value_of (tree.mapping ps)) h e = absurd (cc)
  bound_is suffixes (value_of tree.none) h e = absurd (cc)
  bound_is suffixes (value_of (tree.some u)) h e = absurd (cc)
  bound_is suffixes (value_of (tree.text bs)) h e = absurd (cc)
  bound_is suffixes (value_of (tree.bytes bs)) h e = absurd (cc)
  bound_is suffixes (value_of (tree.sequence ts)) h e = absurd (cc)
  bound_is suffixes (value_of tree.unit) h e = absurd (cc)

-- ---- the fields of a range

-- the fields have these names
abbrev SameNames : List Field → List Text → Type 0
SameNames [] [] = Unit {0}
SameNames [] (n ∷ names) = ⊥
SameNames (f ∷ fields) [] = ⊥
SameNames (f ∷ fields) (n ∷ names) = (is_named n f ≡ true) × SameNames fields names

all_there : (fields : List Field) (names : List Text) → list_all (λ f. not f.may_be_missing) fields ≡ true → in_order fields names ≡ true
    → SameNames fields names
all_there [] [] h e = tt
all_there [] (n ∷ names) h e = absurd (cc)
all_there (f ∷ fields) [] h e =
    let k = and_parts (not f.may_be_missing) (list_all (λ f. not f.may_be_missing) fields) h in
    let l = and_parts f.may_be_missing (in_order fields []) e in
    absurd (let x : true ≡ false = sym l.0 ∙ not-true f.may_be_missing k.0 in cc)
all_there (f ∷ fields) (n ∷ names) h e =
    let k = and_parts (not f.may_be_missing) (list_all (λ f. not f.may_be_missing) fields) h in
    go (is_named n f) refl (not-true f.may_be_missing k.0) e (all_there fields names k.1)
  where
    go : (b : Bool) → is_named n f ≡ b → f.may_be_missing ≡ false → cond b (in_order fields names) (f.may_be_missing && in_order fields (n ∷ names)) ≡ true
        → (in_order fields names ≡ true → SameNames fields names) → SameNames (f ∷ fields) (n ∷ names)
    go true s m q ih = (s, ih q)
    go false s m q ih = absurd (let x : true ≡ false = sym (and_parts f.may_be_missing (in_order fields (n ∷ names)) q).0 ∙ m in cc)

whole_is : (name : Text) (fields : List Field) → list_any (same_text name) range_names ≡ true
    → (not (list_any (same_text name) range_names) || list_all (λ f. not f.may_be_missing) fields) ≡ true → list_all (λ f. not f.may_be_missing) fields ≡ true
whole_is name fields r h = ap (λ b. not b || list_all (λ f. not f.may_be_missing) fields) (sym r) ∙ h

-- such names are those of ranges
named : (name w : Text) → list_any (same_text w) range_names ≡ true → same_text name w ≡ true → list_any (same_text name) range_names ≡ true
named name w r e = ap (λ n. list_any (same_text n) range_names) (same_is name w e) ∙ r

spans_named : (closed : Bool) (name : Text) → spans closed name ≡ true → list_any (same_text name) range_names ≡ true
spans_named true name e = named name (codes "RangeInclusive") refl e
spans_named false name e = named name (codes "Range") refl e

reaches_named : (closed : Bool) (name : Text) → reaches closed name ≡ true → list_any (same_text name) range_names ≡ true
reaches_named true name e = named name (codes "RangeToInclusive") refl e
reaches_named false name e = named name (codes "RangeTo") refl e

found_first : (f : Field) (fields : List Field) (a : Text) (z : Field) → is_named a f ≡ true → find (is_named a) (f ∷ fields) ≡ Some z → f ≡ z
found_first f fields a z c e = let k : Some f ≡ Some z = sym (ap (λ b. cond b (Some f) (find (is_named a) fields)) c) ∙ e in cc

found_second : (f g : Field) (b : Text) (z : Field) → is_named b f ≡ false → is_named b g ≡ true → find (is_named b) (f ∷ g ∷ []) ≡ Some z → g ≡ z
found_second f g b z c k e = found_first g [] b z k (sym (ap (λ x. cond x (Some f) (find (is_named b) (g ∷ []))) c) ∙ e)

meant_one : (name : Text) (f : Field) (p : Bool) (o : Option Data) (a : Text) (d : Data) → p ≡ true → o ≡ Some d → f.name ≡ a
    → option_map (struct_of name) (cond p (filled_one f o) None) ≡ Some (struct_of name (field_and a d no_fields))
meant_one name f p o a d h k s = rw (h, k) (ap (λ n. Some (struct_of name (field_and n d no_fields))) s)

meant_two : (name : Text) (f g : Field) (p : Bool) (o q : Option Data) (a b : Text) (d e : Data) → p ≡ true → o ≡ Some d → q ≡ Some e → f.name ≡ a → g.name ≡ b
    → option_map (struct_of name) (cond p (filled_two f o g q) None) ≡ Some (struct_of name (field_and a d (field_and b e no_fields)))
meant_two name f g p o q a b d e h k l s r = rw (h, k, l) (ap₂ (λ m n. Some (struct_of name (field_and m d (field_and n e no_fields)))) s r)

start_is : (f : Field) → f.name ≡ codes "start" → is_start f ≡ true
start_is f s = ap (λ n. same_text n (codes "start")) s

end_is : (closed : Bool) (g : Field) → g.name ≡ codes "end" → is_end closed g ≡ true
end_is closed g s = ap (λ n. same_text n (codes "end") || (closed && is_named (codes "last") g)) s

-- ---- what is written

both_there : (closed : Bool) (o p : Option Text) (t : Text) → around_dots closed o p ≡ Some t
    → (s : Text) × (u : Text) × (o ≡ Some s) × (p ≡ Some u) × (s ++ (dots_text closed ++ u) ≡ t)
both_there closed None p t e = absurd (cc)
both_there closed (Some s) None t e = absurd (cc)
both_there closed (Some s) (Some u) t e = (s, u, refl, refl, cc)

and3 : (a b c : Bool) → a ≡ true → b ≡ true → c ≡ true → (a && (b && c)) ≡ true
and3 a b c h k l = rw (h, k, l) refl

and2 : (a b : Bool) → a ≡ true → b ≡ true → (a && b) ≡ true
and2 a b h k = rw (h, k) refl

module _ (suffixes : Bool) (x : Extensions) (schema : List Shape) (room i : ℕ) (bare : Bool) (next : Text) (f : MayFollow bare next) where
  -- a range at a struct
  at_range : (name : Text) (list : FieldList) (t : Text) (s : Interval) (d : Data) → slice_get schema i ≡ Some (struct name list)
      → Stands (λ before. NumberOrRange) t next s → range_data schema name list.fields s ≡ Some d → Stands (Spells x schema room bare i) t next d
  at_range name list t s d e h m = at_shape x schema room i bare (struct name list) e (go bare f)
    where
      go : (bare : Bool) → MayFollow bare next → Stands (λ before. StructText x schema name list room (inside (deeper_in x schema room)) bare before) t next d
      go true f = stands_as d (plain_stands true f (stands_means d (range_data schema name list.fields) m h)) (λ before t n z. inl z)
      go false f = stands_as d (plain_stands false f (stands_means d (range_data schema name list.fields) m h)) (λ before t n z. inl z)

  full_law : (name : Text) (t : Text) → slice_get schema i ≡ Some (unit_struct name) → range_text suffixes (unit_struct_of name) ≡ Some t
      → Stands (Spells x schema room bare i) t next (unit_struct_of name)
  full_law name t s e = let k = cond_parts (same_text name (codes "RangeFull")) (Some (codes "..")) t e in
      let same : codes ".." ≡ t = let l : Some (codes "..") ≡ Some t = k.1 in cc in
      rw (← same) (at_shape x schema room i bare (unit_struct name) s (go bare f (ap (λ b. cond b (Some (unit_struct_of name)) None) k.0)))
    where
      go : (bare : Bool) → MayFollow bare next → full_data name (range None false None) ≡ Some (unit_struct_of name)
          → Stands (λ before. UnitStructText x.explicit_struct_names name bare) (codes "..") next (unit_struct_of name)
      go true f m = stands_as (unit_struct_of name)
          (plain_stands true f (stands_means (unit_struct_of name) (full_data name) m (full_stands next (may_follow_ends true next f)))) (λ before t n z. inl z)
      go false f m = stands_as (unit_struct_of name) (plain_stands false f
          (stands_means (unit_struct_of name) (full_data name) m (full_stands next (may_follow_ends false next f)))) (λ before t n z. inl z)

  two_law : (name : Text) (list : FieldList) (fields : List Field) (a b t : Text) (d e : Data) (closed : Bool) → list.fields ≡ fields
      → slice_get schema i ≡ Some (struct name list) → SameNames fields (a ∷ b ∷ []) → OfFields schema fields (field_and a d (field_and b e no_fields))
      → fields_range suffixes closed name (field_and a d (field_and b e no_fields)) ≡ Some t
      → Stands (Spells x schema room bare i) t next (struct_of name (field_and a (norm_with suffixes d) (field_and b (norm_with suffixes e) no_fields)))
  two_law name list [] a b t d e closed same s n o q = absurd n
  two_law name list (g ∷ []) a b t d e closed same s n o q = absurd n.1
  two_law name list (g ∷ h ∷ k ∷ fields) a b t d e closed same s n o q = absurd n.1.1
  two_law name list (g ∷ h ∷ []) a b t d e closed same s n o q =
      let c = cond_parts (spans closed name && (same_text a (codes "start") && same_text b (codes "end")))
      (around_dots closed (bound_text suffixes d) (bound_text suffixes e)) t q in
      let l = and_parts (spans closed name) (same_text a (codes "start") && same_text b (codes "end")) c.0 in
      let m = and_parts (same_text a (codes "start")) (same_text b (codes "end")) l.1 in
      let texts = both_there closed (bound_text suffixes d) (bound_text suffixes e) t c.1 in
      let ga : g.name ≡ a = same_is g.name a n.0 in
      let hb : h.name ≡ b = same_is h.name b n.1.0 in
      let is_a : a ≡ codes "start" = same_is a (codes "start") m.0 in
      let be : b ≡ codes "end" = same_is b (codes "end") m.1 in
      let apart : is_named b g ≡ false = ap₂ same_text (ga ∙ is_a) be in
      let first = bound_is schema g.shape texts.0 suffixes d (subst (λ z. OfShape schema z.shape d) (sym (found_first g (h ∷ []) a o.0 n.0 o.1)) o.2) texts.2 in
      let second =
      bound_is schema h.shape texts.1 suffixes e (subst (λ z. OfShape schema z.shape e) (sym (found_second g h b o.3.0 apart n.1.0 o.3.1)) o.3.2) texts.3 in
      let piece = two_stand next (may_follow_ends bare next f) texts.0 texts.1 first.numeral second.numeral closed first.bounded second.bounded in
      let meant = meant_two name g h (spans closed name && (is_start g && is_end closed h)) (fill_field schema g first.numeral)
      (fill_field schema h second.numeral) a b (norm_with suffixes d) (norm_with suffixes e)
      (and3 _ _ _ l.0 (start_is g (ga ∙ is_a)) (end_is closed h (hb ∙ be))) first.filled second.filled ga hb in
      at_range name list t (range (Some first.numeral) closed (Some second.numeral))
      (struct_of name (field_and a (norm_with suffixes d) (field_and b (norm_with suffixes e) no_fields))) s
      (subst (λ u. Stands (λ before. NumberOrRange) u next (range (Some first.numeral) closed (Some second.numeral))) texts.4 piece)
      (subst (λ fs. range_data schema name fs (range (Some first.numeral) closed (Some second.numeral))
      ≡ Some (struct_of name (field_and a (norm_with suffixes d) (field_and b (norm_with suffixes e) no_fields)))) (sym same) meant)

  from_law : (name : Text) (list : FieldList) (g : Field) (a t : Text) (d : Data) → list.fields ≡ g ∷ [] → slice_get schema i ≡ Some (struct name list)
      → is_named a g ≡ true → OfFields schema (g ∷ []) (field_and a d no_fields) → starts false name ≡ true → same_text a (codes "start") ≡ true
      → around_dots false (bound_text suffixes d) (Some []) ≡ Some t
      → Stands (Spells x schema room bare i) t next (struct_of name (field_and a (norm_with suffixes d) no_fields))
  from_law name list g a t d same s n o r m q =
      let texts = both_there false (bound_text suffixes d) (Some []) t q in
      let none : [] ≡ texts.1 = let k : ◌≡◌ {A = Option Text} (Some []) (Some texts.1) = texts.3 in cc in
      let ga : g.name ≡ a = same_is g.name a n in
      let is_a : a ≡ codes "start" = same_is a (codes "start") m in
      let bound = bound_is schema g.shape texts.0 suffixes d (subst (λ z. OfShape schema z.shape d) (sym (found_first g [] a o.0 n o.1)) o.2) texts.2 in
      let z : Interval = range (Some bound.numeral) false None in
      at_range name list t z (struct_of name (field_and a (norm_with suffixes d) no_fields)) s (subst (λ u. Stands (λ before. NumberOrRange) u next z)
      (ap (λ v. texts.0 ++ (codes ".." ++ v)) none ∙ texts.4) (from_stands next (may_follow_ends bare next f) texts.0 bound.numeral bound.bounded))
      (subst (λ fs. range_data schema name fs z ≡ Some (struct_of name (field_and a (norm_with suffixes d) no_fields))) (sym same)
      (meant_one name g (starts false name && is_start g) (fill_field schema g bound.numeral) a (norm_with suffixes d) (and2 _ _ r (start_is g (ga ∙ is_a)))
      bound.filled ga))

  to_law : (name : Text) (list : FieldList) (g : Field) (a t : Text) (d : Data) (closed : Bool) → list.fields ≡ g ∷ []
      → slice_get schema i ≡ Some (struct name list) → is_named a g ≡ true → OfFields schema (g ∷ []) (field_and a d no_fields) → reaches closed name ≡ true
      → same_text a (codes "end") ≡ true
      → around_dots closed (Some []) (bound_text suffixes d) ≡ Some t
      → Stands (Spells x schema room bare i) t next (struct_of name (field_and a (norm_with suffixes d) no_fields))
  to_law name list g a t d closed same s n o r m q =
      let texts = both_there closed (Some []) (bound_text suffixes d) t q in
      let none : [] ≡ texts.0 = let k : ◌≡◌ {A = Option Text} (Some []) (Some texts.0) = texts.2 in cc in
      let ga : g.name ≡ a = same_is g.name a n in
      let is_a : a ≡ codes "end" = same_is a (codes "end") m in
      let bound = bound_is schema g.shape texts.1 suffixes d (subst (λ z. OfShape schema z.shape d) (sym (found_first g [] a o.0 n o.1)) o.2) texts.3 in
      let z : Interval = range None closed (Some bound.numeral) in
      at_range name list t z (struct_of name (field_and a (norm_with suffixes d) no_fields)) s (subst (λ u. Stands (λ before. NumberOrRange) u next z)
      (ap (λ u. u ++ (dots_text closed ++ texts.1)) none ∙ texts.4) (to_stands next (may_follow_ends bare next f) texts.1 bound.numeral closed bound.bounded))
      (subst (λ fs. range_data schema name fs z ≡ Some (struct_of name (field_and a (norm_with suffixes d) no_fields))) (sym same)
      (meant_one name g (reaches closed name && is_end closed g) (fill_field schema g bound.numeral) a (norm_with suffixes d)
      (and2 _ _ r (end_is closed g (ga ∙ is_a))) bound.filled ga))

  -- what is asked of the list of fields of a range struct
  abbrev Whole : Text → List Field → Type 0
  Whole name fields = (not (list_any (same_text name) range_names) || list_all (λ f. not f.may_be_missing) fields) ≡ true

  to_or_none : (name : Text) (list : FieldList) (fields : List Field) (a t : Text) (d : Data) (closed : Bool) → list.fields ≡ fields
      → slice_get schema i ≡ Some (struct name list) → Whole name fields → in_order fields (a ∷ []) ≡ true → OfFields schema fields (field_and a d no_fields)
      → cond (reaches closed name && same_text a (codes "end")) (around_dots closed (Some []) (bound_text suffixes d)) None ≡ Some t
      → Stands (Spells x schema room bare i) t next (struct_of name (field_and a (norm_with suffixes d) no_fields))
  to_or_none name list fields a t d closed same s w n o q =
      let c = cond_parts (reaches closed name && same_text a (codes "end")) (around_dots closed (Some []) (bound_text suffixes d)) t q in
      let l = and_parts (reaches closed name) (same_text a (codes "end")) c.0 in
      go fields same (all_there fields (a ∷ []) (whole_is name fields (reaches_named closed name l.0) w) n) o l.0 l.1 c.1
    where
      go : (fields : List Field) → list.fields ≡ fields → SameNames fields (a ∷ []) → OfFields schema fields (field_and a d no_fields)
          → reaches closed name ≡ true → same_text a (codes "end") ≡ true → around_dots closed (Some []) (bound_text suffixes d) ≡ Some t
          → Stands (Spells x schema room bare i) t next (struct_of name (field_and a (norm_with suffixes d) no_fields))
      go [] same n o r m e = absurd n
      go (g ∷ h ∷ fields) same n o r m e = absurd n.1
      go (g ∷ []) same n o r m e = to_law name list g a t d closed same s n.0 o r m e

  one_law : (name : Text) (list : FieldList) (fields : List Field) (a t : Text) (d : Data) (closed : Bool) → list.fields ≡ fields
      → slice_get schema i ≡ Some (struct name list) → Whole name fields → in_order fields (a ∷ []) ≡ true → OfFields schema fields (field_and a d no_fields)
      → fields_range suffixes closed name (field_and a d no_fields) ≡ Some t
      → Stands (Spells x schema room bare i) t next (struct_of name (field_and a (norm_with suffixes d) no_fields))
  one_law name list fields a t d true same s w n o q = to_or_none name list fields a t d true same s w n o q
  one_law name list fields a t d false same s w n o q = by_start (starts false name && same_text a (codes "start")) refl q
    where
      start_named : starts false name ≡ true → list_any (same_text name) range_names ≡ true
      start_named e = named name (codes "RangeFrom") refl e

      go : (fields : List Field) → list.fields ≡ fields → SameNames fields (a ∷ []) → OfFields schema fields (field_and a d no_fields)
          → starts false name ≡ true → same_text a (codes "start") ≡ true → around_dots false (bound_text suffixes d) (Some []) ≡ Some t
          → Stands (Spells x schema room bare i) t next (struct_of name (field_and a (norm_with suffixes d) no_fields))
      go [] same n o r m e = absurd n
      go (g ∷ h ∷ fields) same n o r m e = absurd n.1
      go (g ∷ []) same n o r m e = from_law name list g a t d same s n.0 o r m e

      by_start : (b : Bool) → (starts false name && same_text a (codes "start")) ≡ b → cond b (around_dots false (bound_text suffixes d) (Some []))
          (cond (reaches false name && same_text a (codes "end")) (around_dots false (Some []) (bound_text suffixes d)) None) ≡ Some t
          → Stands (Spells x schema room bare i) t next (struct_of name (field_and a (norm_with suffixes d) no_fields))
      by_start true h e = let l = and_parts (starts false name) (same_text a (codes "start")) h in
          go fields same (all_there fields (a ∷ []) (whole_is name fields (start_named l.0) w) n) o l.0 l.1 e
      by_start false h e = to_or_none name list fields a t d false same s w n o e

  fields_law : (name : Text) (list : FieldList) (t : Text) (closed : Bool) → slice_get schema i ≡ Some (struct name list) → Whole name list.fields
      → (ds : Fields) → in_order list.fields (names_of ds) ≡ true → OfFields schema list.fields ds
      → fields_range suffixes closed name ds ≡ Some t → Stands (Spells x schema room bare i) t next (struct_of name (norm_fields_with suffixes ds))
  fields_law name list t closed s w no_fields n o q = absurd (cc)
  fields_law name list t closed s w (field_and a d no_fields) n o q = one_law name list list.fields a t d closed refl s w n o q
  fields_law name list t closed s w (field_and a d (field_and b e no_fields)) n o q =
      let c = cond_parts (spans closed name && (same_text a (codes "start") && same_text b (codes "end")))
      (around_dots closed (bound_text suffixes d) (bound_text suffixes e)) t q in
      let l = and_parts (spans closed name) (same_text a (codes "start") && same_text b (codes "end")) c.0 in
      two_law name list list.fields a b t d e closed refl s (all_there list.fields (a ∷ b ∷ []) (whole_is name list.fields (spans_named closed name l.0) w) n) o
      q
  fields_law name list t closed s w (field_and a d (field_and b e (field_and c g ds))) n o q = absurd (cc)

  either_is : (a b : Option Text) (t : Text) → option_or a b ≡ Some t → (a ≡ Some t) ⊎ (b ≡ Some t)
  either_is None b t e = inr e
  either_is (Some s) b t e = inl e

  struct_law : (name : Text) (list : FieldList) (t : Text) → slice_get schema i ≡ Some (struct name list) → Whole name list.fields → (ds : Fields)
      → in_order list.fields (names_of ds) ≡ true → OfFields schema list.fields ds → range_text suffixes (struct_of name ds) ≡ Some t
      → Stands (Spells x schema room bare i) t next (struct_of name (norm_fields_with suffixes ds))
  struct_law name list t s w ds n o e = go (either_is (fields_range suffixes false name ds) (fields_range suffixes true name ds) t e)
    where
      go : (fields_range suffixes false name ds ≡ Some t) ⊎ (fields_range suffixes true name ds ≡ Some t)
          → Stands (Spells x schema room bare i) t next (struct_of name (norm_fields_with suffixes ds))
      go (inl q) = fields_law name list t false s w ds n o q
      go (inr q) = fields_law name list t true s w ds n o q

whole_ranges : (schema : List Shape) (root : ℕ) → is_well_formed schema root ≡ true → list_all has_whole_range schema ≡ true
whole_ranges schema root h =
    let k = and_parts (has_no_cycle schema) (list_all has_distinct_names schema && list_all has_whole_range schema)
    (and_parts (is_in_range schema root) (has_no_cycle schema && (list_all has_distinct_names schema && list_all has_whole_range schema)) h).1 in
    (and_parts (list_all has_distinct_names schema) (list_all has_whole_range schema) k.1).1

pub range_law : AreRangesSpelled
range_law suffixes x schema root i room bare next (struct_of name ds) t well of_shape e f = struct_law suffixes x schema room i bare next f name of_shape.0 t
    of_shape.1 (all_get has_whole_range schema i (struct name of_shape.0) (whole_ranges schema root well) of_shape.1) ds of_shape.2 of_shape.3 e
range_law suffixes x schema root i room bare next (unit_struct_of name) t well of_shape e f = full_law suffixes x schema room i bare next f name t of_shape e
range_law suffixes x schema root i room bare next (bool_of b) t well of_shape e f = absurd (cc)
range_law suffixes x schema root i room bare next (int_of w n) t well of_shape e f = absurd (cc)
range_law suffixes x schema root i room bare next (char_of c) t well of_shape e f = absurd (cc)
range_law suffixes x schema root i room bare next (str_of u) t well of_shape e f = absurd (cc)
range_law suffixes x schema root i room bare next (bytes_of bs) t well of_shape e f = absurd (cc)
range_law suffixes x schema root i room bare next the_unit t well of_shape e f = absurd (cc)
range_law suffixes x schema root i room bare next the_none t well of_shape e f = absurd (cc)
range_law suffixes x schema root i room bare next (some_of c) t well of_shape e f = absurd (cc)
range_law suffixes x schema root i room bare next (list_of ds) t well of_shape e f = absurd (cc)
range_law suffixes x schema root i room bare next (tuple_of ds) t well of_shape e f = absurd (cc)
range_law suffixes x schema root i room bare next (tuple_struct_of name ds) t well of_shape e f = absurd (cc)
range_law suffixes x schema root i room bare next (map_of ps) t well of_shape e f = absurd (cc)
range_law suffixes x schema root i room bare next (newtype_of name c) t well of_shape e f = absurd (cc)
range_law suffixes x schema root i room bare next (unit_variant_of name v) t well of_shape e f = absurd (cc)
range_law suffixes x schema root i room bare next (newtype_variant_of name v c) t well of_shape e f = absurd (cc)
range_law suffixes x schema root i room bare next (tuple_variant_of name v ds) t well of_shape e f = absurd (cc)
range_law suffixes x schema root i room bare next (struct_variant_of name v ds) t well of_shape e f = absurd (cc)
range_law suffixes x schema root i room bare next (value_of u) t well of_shape e f = absurd (cc)
range_law suffixes x schema root i room bare next (raw_of u) t well of_shape e f = absurd (cc)
