-- The reader function of options and of bare content a step at a time: one equation for each case, for code that reads in the same order.
use Rattle.std.proofs.Common.{cond, ◌≡◌, ℕ, suc, ◌==◌, ◌∷◌, Bool, true, false, not, ◌&&◌, ◌||◌, [], List, codes, drop, Option, Some, slice_get, refl, sym, ap}
use Rattle.std.proofs.Common.{ap₂, ◌∙◌, eqb-true, nat_le, if◌then◌else◌, arith}
use Rattle.std.proofs.Math.Bool.{and-true}
use Rattle.std.proofs.lemmas.Bool.{le-leb}
use Rattle.ron_spec_words.specs.Characters.{Text, left_parenthesis, right_parenthesis, slash}
use Rattle.ron_spec_words.specs.Directly.{stands, fixed_word}
use Rattle.ron_spec_words.specs.Gap.{skip, gap_of}
use Rattle.ron_spec_words.specs.Lang.{done}
use Rattle.ron_spec_words.specs.Reader.{deep, bad, Got, got, failed, Reader, mark, means, meant, and_then, group, opt_comma, needs}
use Rattle.ron_spec_words.specs.Runs.{is_at}
use Rattle.ron_spec_words.specs.Range.{opens_interval, number_or_range}
use Rattle.ron_spec_grammar.specs.Shapes.Range.{full_data, range_data, read_range}
use Rattle.ron_spec_words.specs.Turns.{rest_of_group}
use Rattle.ron_spec_words.proofs.Turns.{after_slash, after_other}
use Rattle.ron_spec_grammar.specs.Data.{Data, Datas, no_datas, some_of, struct_of, the_unit, unit_struct_of, tuple_of, tuple_struct_of}
use Rattle.ron_spec_grammar.specs.Schema.{Shape, FieldList, bool, int, char, str, bytes, unit, optional, unit_struct, seq, tuple, tuple_struct, map, newtype}
use Rattle.ron_spec_grammar.specs.Schema.{struct, enum, any_value, any_raw}
use Rattle.ron_spec_grammar.specs.Rule.{Extensions, below, allowed}
use Rattle.ron_spec_grammar.specs.Reading.{rule, too_deep, read, read_at}
use Rattle.ron_spec_grammar.specs.Shapes.Newtype.{newtype_data}
use Rattle.ron_spec_grammar.specs.Shapes.Option.{opens_some, opens_option, none_data, some_data, content}
use Rattle.ron_spec_grammar.specs.Shapes.Struct.{field_items}
use Rattle.ron_spec_grammar.specs.Shapes.Tuple.{tuple_items}
use Rattle.ron_spec_grammar.specs.Shapes.Unit.{unit_data}
use Rattle.ron_spec_grammar.specs.Shapes.UnitStruct.{unit_struct_data}
use Rattle.ron_spec_grammar.specs.Values.Grammar.{read_any_below}
use Rattle.ron_spec_grammar.specs.Turns.{read_below, read_content, read_closed, read_bare, read_bare_below, read_elements, read_bare_items, read_tuple_inside}
use Rattle.ron_spec_grammar.specs.Turns.{read_fields, read_fields_inside}
use Rattle.ron_spec_grammar.proofs.ContentTurns.{closed}

-- the closing bracket behind an answer
abbrev pub bracketed : Got Data → Got Data
bracketed o = and_then o (λ d _. mark right_parenthesis d)

-- the shape has no bare form of its own
abbrev pub is_plain : Shape → Bool
is_plain unit = false
is_plain (unit_struct name) = false
is_plain (optional j) = false
is_plain (tuple js) = false
is_plain (tuple_struct name js) = false
is_plain (newtype name j) = false
is_plain (struct name fields) = false
is_plain any_value = false
is_plain _ = true

-- ---- what is made of an answer, before or behind the closing bracket

pub bracket_meant : (f : Data → Data) (o : Got Data) → bracketed (meant o (λ d. Some (f d))) ≡ meant (bracketed o) (λ d. Some (f d))
bracket_meant f (failed k) = refl
bracket_meant f (got d rest) = behind (is_at slash (skip rest)) refl
  where
    marked : (s : Text) → mark right_parenthesis (f d) s ≡ meant (mark right_parenthesis d s) (λ d. Some (f d))
    marked [] = refl
    marked (c ∷ s) = go (c == right_parenthesis) refl
      where
        go : (b : Bool) → (c == right_parenthesis) ≡ b → mark right_parenthesis (f d) (c ∷ s) ≡ meant (mark right_parenthesis d (c ∷ s)) (λ d. Some (f d))
        go true e = rw e refl
        go false e = rw e refl

    behind : (b : Bool) → is_at slash (skip rest) ≡ b → bracketed (got (f d) rest) ≡ meant (bracketed (got d rest)) (λ d. Some (f d))
    behind true e =
        after_slash (λ _. mark right_parenthesis (f d)) rest e ∙ sym (ap (λ o. meant o (λ d. Some (f d))) (after_slash (λ _. mark right_parenthesis d) rest e))
    behind false e = after_other (λ _. mark right_parenthesis (f d)) rest e ∙ marked (skip rest)
        ∙ sym (ap (λ o. meant o (λ d. Some (f d))) (after_other (λ _. mark right_parenthesis d) rest e))

bracket_needs : (room : ℕ) (r : Reader Data) (s : Text) → bracketed (needs 1 room r s) ≡ needs 1 room (λ t. bracketed (r t)) s
bracket_needs room r s = go (nat_le 1 room)
  where
    go : (b : Bool) → bracketed (if b then r s else failed deep) ≡ (if b then bracketed (r s) else failed deep)
    go true = refl
    go false = refl

pub comma_meant : {A : Type 0} (a : A) (d : Data) (f : A → Option Data) (s : Text) → f a ≡ Some d → meant (opt_comma a s) f ≡ opt_comma d s
comma_meant a d f [] e = rw e refl
comma_meant a d f (c ∷ s) e = go (c == 44) refl
  where
    go : (b : Bool) → (c == 44) ≡ b → meant (opt_comma a (c ∷ s)) f ≡ opt_comma d (c ∷ s)
    go true h = rw (h, e) refl
    go false h = rw (h, e) refl

-- ---- the word `Some` with its bracket

each_true : (a b : Bool) → (a && b) ≡ true → (a ≡ true) × (b ≡ true)
each_true true b e = (refl, e)
each_true false b e = absurd (cc)

pub neither : (a b : Bool) → not (a || b) ≡ true → (a ≡ false) × (b ≡ false)
neither true b e = absurd (cc)
neither false true e = absurd (cc)
neither false false e = (refl, refl)

-- no slash stands where a bracket does
pub no_slash : (s : Text) → is_at left_parenthesis s ≡ true → is_at slash s ≡ false
no_slash [] e = refl
no_slash (c ∷ s) e = rw (eqb-true c 40 e) refl

behind_some : {A : Type 0} (q : Text → Text → Got A) (s : Text) → opens_some s ≡ true
    → and_then (fixed_word (codes "Some") done s) (λ _ gap. q gap) ≡ q (gap_of (drop 4 s)) (skip (drop 4 s))
behind_some q s e = let h = each_true (stands (codes "Some") s) (is_at left_parenthesis (skip (drop 4 s))) e in
    rw h.0 (after_other q (drop 4 s) (no_slash (skip (drop 4 s)) h.1))

module _ (x : Extensions) (schema : List Shape) where
  -- ---- one level deeper

  pub bare_below_here : (room i : ℕ) (before s : Text) → read_bare_below x schema (suc room) i before s ≡ read_bare x schema room i before s
  unfolding read_bare_below read_bare read_at
  bare_below_here room i before s = refl

  pub bare_below_deep : (i : ℕ) (before s : Text) → read_bare_below x schema 0 i before s ≡ failed deep
  unfolding read_bare_below
  bare_below_deep i before s = refl

  pub bare_items_none : (room : ℕ) (make : Datas → Data) (before s : Text)
      → read_bare_items x schema (suc room) make [] before s ≡ bracketed (opt_comma (make no_datas) s)
  unfolding read_bare_items
  bare_items_none room make before s = rw (le-leb 1 (suc room) (omega arith)) refl

  pub bare_items_deep : (make : Datas → Data) (before s : Text) → read_bare_items x schema 0 make [] before s ≡ failed deep
  unfolding read_bare_items
  bare_items_deep make before s = refl

  module _ (room i : ℕ) (before s : Text) where
    -- ---- options

    module _ (j : ℕ) (is : slice_get schema i ≡ Some (optional j)) where
      pub option_none : stands (codes "None") s ≡ true → read x schema room false i before s ≡ meant (fixed_word (codes "None") done s) none_data
      unfolding read_at
      option_none e = rw (is, e) refl

      module _ (not_none : stands (codes "None") s ≡ false) where
        pub option_some : opens_some s ≡ true
            → read x schema room false i before s ≡ meant (read_content x schema room x.unwrap_variant_newtypes j (skip (drop 4 s))) some_data
        unfolding read_at read_content
        option_some e = rw (is, not_none, e) (behind_some (λ _.
            means (group left_parenthesis right_parenthesis (content x.unwrap_variant_newtypes (below (rule x schema) too_deep room 0 false) j)) some_data) s e)

        pub option_implied : opens_some s ≡ false → x.implicit_some ≡ true
            → read x schema room false i before s ≡ meant (read_below x schema room j before s) some_data
        unfolding read_at read_below
        option_implied e k = rw (is, not_none, e, k) refl

        pub option_refused : opens_some s ≡ false → x.implicit_some ≡ false → read x schema room false i before s ≡ failed bad
        unfolding read_at
        option_refused e k = rw (is, not_none, e, k) refl

    -- ---- bare content

    pub bare_plain : (shape : Shape) → slice_get schema i ≡ Some shape → is_plain shape ≡ true
        → read_bare x schema room i before s ≡ read_closed x schema room i before s
    unfolding read_bare read_closed read_at
    bare_plain bool e p = rw e refl
    bare_plain (int w) e p = rw e refl
    bare_plain any_raw e p = rw e refl
    bare_plain char e p = rw e refl
    bare_plain str e p = rw e refl
    bare_plain bytes e p = rw e refl
    bare_plain (seq j) e p = rw e refl
    bare_plain (map k v) e p = rw e refl
    bare_plain (enum name variants) e p = rw e refl
    bare_plain unit e p = absurd (cc)
    bare_plain (unit_struct name) e p = absurd (cc)
    bare_plain (optional j) e p = absurd (cc)
    bare_plain (tuple js) e p = absurd (cc)
    bare_plain (tuple_struct name js) e p = absurd (cc)
    bare_plain (newtype name j) e p = absurd (cc)
    bare_plain (struct name fields) e p = absurd (cc)
    bare_plain any_value e p = absurd (cc)

    pub closed_is : read_closed x schema room i before s ≡ closed (read x schema room false i before s)
    unfolding read_closed
    closed_is = refl

    pub bare_unit : slice_get schema i ≡ Some unit → read_bare x schema room i before s ≡ bracketed (opt_comma the_unit s)
    unfolding read_bare read_at
    bare_unit e = rw e (ap bracketed (comma_meant done the_unit unit_data s refl))

    pub bare_unit_struct : (name : Text) → slice_get schema i ≡ Some (unit_struct name) → opens_interval s ≡ false
        → read_bare x schema room i before s ≡ bracketed (opt_comma (unit_struct_of name) s)
    unfolding read_bare read_at
    bare_unit_struct name e f = rw e (ap (λ b. bracketed (cond b (read_range true (full_data name) s) (means (opt_comma done) (unit_struct_data name) s))) f
        ∙ ap bracketed (comma_meant done (unit_struct_of name) (unit_struct_data name) s refl))

    pub bare_full_range : (name : Text) → slice_get schema i ≡ Some (unit_struct name) → opens_interval s ≡ true
        → read_bare x schema room i before s ≡ closed (meant (number_or_range s) (full_data name))
    unfolding read_bare read_at
    bare_full_range name e f = rw e (ap (λ b. bracketed (cond b (read_range true (full_data name) s) (means (opt_comma done) (unit_struct_data name) s))) f)

    pub bare_newtype : (name : Text) (j : ℕ) → slice_get schema i ≡ Some (newtype name j)
        → read_bare x schema room i before s ≡ closed (meant (read_below x schema room j before s) (newtype_data name))
    unfolding read_bare read_below read_at
    bare_newtype name j e = rw e refl

    pub bare_tuple : (js : List ℕ) → slice_get schema i ≡ Some (tuple js)
        → read_bare x schema room i before s ≡ read_bare_items x schema room tuple_of js before s
    unfolding read_bare read_bare_items read_at
    bare_tuple js e = rw e refl

    pub bare_tuple_struct : (name : Text) (js : List ℕ) → slice_get schema i ≡ Some (tuple_struct name js)
        → read_bare x schema room i before s ≡ read_bare_items x schema room (tuple_struct_of name) js before s
    unfolding read_bare read_bare_items read_at
    bare_tuple_struct name js e = rw e refl

    module _ (make : Datas → Data) where
      pub bare_items_inside : (js : List ℕ) → (js ≡ [] → ⊥) → read_bare_items x schema room make js before s ≡ read_tuple_inside x schema room make js before s
      unfolding read_bare_items read_tuple_inside read_elements rest_of_group
      bare_items_inside [] n = absurd (n refl)
      bare_items_inside (j ∷ js) n = bracket_needs room (tuple_items make (j ∷ js) (below (rule x schema) too_deep room 1 false) before) s

    -- what is read of bare fields
    abbrev bare_fields : Text → FieldList → Got Data
    bare_fields name list =
        needs 1 room (field_items name list (below (rule x schema) too_deep room 1 false) (read_any_below x.unwrap_variant_newtypes room 1) before) s

    pub bare_range : (name : Text) (list : FieldList) → slice_get schema i ≡ Some (struct name list) → opens_interval s ≡ true
        → read_bare x schema room i before s ≡ closed (meant (number_or_range s) (range_data schema name list.fields))
    unfolding read_bare read_at
    bare_range name list e f = rw e (ap (λ b. bracketed (cond b (read_range true (range_data schema name list.fields) s) (bare_fields name list))) f)

    pub bare_struct : (name : Text) (list : FieldList) → slice_get schema i ≡ Some (struct name list) → opens_interval s ≡ false
        → read_bare x schema room i before s ≡ read_fields_inside x schema room (struct_of name) list before s
    unfolding read_bare read_fields_inside read_fields rest_of_group read_at
    bare_struct name list e f = rw e (ap (λ b. bracketed (cond b (read_range true (range_data schema name list.fields) s) (bare_fields name list))) f
        ∙ bracket_needs room (field_items name list (below (rule x schema) too_deep room 1 false) (read_any_below x.unwrap_variant_newtypes room 1) before) s)

    module _ (j : ℕ) (is : slice_get schema i ≡ Some (optional j)) where
      pub bare_option_none : stands (codes "None") s ≡ true → read_bare x schema room i before s ≡ read_closed x schema room i before s
      unfolding read_bare read_closed read_at
      bare_option_none e = rw (is, e) refl

      module _ (not_none : stands (codes "None") s ≡ false) where
        pub bare_option_some : opens_some s ≡ true → read_bare x schema room i before s ≡ read_closed x schema room i before s
        unfolding read_bare read_closed read_at
        bare_option_some e = rw (is, not_none, e) refl

        pub bare_option_implied : opens_some s ≡ false → x.implicit_some ≡ true
            → read_bare x schema room i before s ≡ meant (read_bare_below x schema room j before s) some_data
        unfolding read_bare read_bare_below read_at
        bare_option_implied e k =
            rw (is, not_none, e) (ap (λ b. bracketed (allowed b (means (below (rule x schema) too_deep room 0 false true j before) some_data) s)) k
            ∙ bracket_meant some_of (below (rule x schema) too_deep room 0 false true j before s))

        pub bare_option_refused : opens_some s ≡ false → x.implicit_some ≡ false → read_bare x schema room i before s ≡ read_closed x schema room i before s
        unfolding read_bare read_closed read_at
        bare_option_refused e k = rw (is, not_none, e, k) refl

      -- the content stands alone, or not
      pub bare_option_closed : (x.implicit_some && not (opens_option s)) ≡ false → read_bare x schema room i before s ≡ read_closed x schema room i before s
      bare_option_closed e = by_none (stands (codes "None") s) refl
        where
          by_some : stands (codes "None") s ≡ false → (b : Bool) → opens_some s ≡ b → read_bare x schema room i before s ≡ read_closed x schema room i before s
          by_some n true h = bare_option_some n h
          by_some n false h = bare_option_refused n h (sym (and-true x.implicit_some) ∙ sym (ap₂ (λ a b. x.implicit_some && not (a || b)) n h) ∙ e)

          by_none : (b : Bool) → stands (codes "None") s ≡ b → read_bare x schema room i before s ≡ read_closed x schema room i before s
          by_none true h = bare_option_none h
          by_none false h = by_some h (opens_some s) refl

      pub bare_option_alone : (x.implicit_some && not (opens_option s)) ≡ true
          → read_bare x schema room i before s ≡ meant (read_bare_below x schema room j before s) some_data
      bare_option_alone e = let h = each_true x.implicit_some (not (opens_option s)) e in
          let o = neither (stands (codes "None") s) (opens_some s) h.1 in
          bare_option_implied o.0 o.1 h.0
