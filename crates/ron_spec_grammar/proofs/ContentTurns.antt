-- The reader function of unit structs, newtypes and tuple structs a step at a time: one equation for each case, for code that reads in the same order.
use Rattle.std.proofs.Common.{◌≡◌, ℕ, suc, Bool, true, false, List, ◌∷◌, length, Some, slice_get, refl}
use Rattle.ron_spec_words.specs.Characters.{Text, left_parenthesis, right_parenthesis}
use Rattle.ron_spec_words.specs.Gap.{skip, gap_of}
use Rattle.ron_spec_words.specs.Name.{named}
use Rattle.ron_spec_words.specs.Reader.{deep, bad, Got, failed, mark, in_sequence, means, meant, pick, after_gap, and_then, opt_comma}
use Rattle.ron_spec_words.specs.Runs.{is_at}
use Rattle.ron_spec_words.proofs.Turns.{group_opened}
use Rattle.ron_spec_grammar.specs.Data.{Data, Datas, tuple_of, tuple_struct_of}
use Rattle.ron_spec_grammar.specs.Schema.{Shape, unit_struct, tuple, tuple_struct, newtype}
use Rattle.ron_spec_grammar.specs.Rule.{Extensions, below, without_name, no_gap}
use Rattle.ron_spec_grammar.specs.Reading.{rule, too_deep, read, read_at}
use Rattle.ron_spec_grammar.specs.Shapes.UnitStruct.{read_unit_struct}
use Rattle.ron_spec_grammar.specs.Shapes.Tuple.{as_many, at_shape}
use Rattle.ron_spec_grammar.specs.Shapes.Newtype.{newtype_data}
use Rattle.ron_spec_grammar.specs.Turns.{read_elements, read_tuple_group, read_below, read_content, read_bare_below, read_tuple_inside}
use Rattle.ron_spec_grammar.proofs.ElementTurns.{no_group}

-- what follows content: perhaps a comma, and the closing bracket
abbrev pub closed : Got Data → Got Data
closed o = and_then (and_then o (λ d _. opt_comma d)) (λ d _. mark right_parenthesis d)

module _ (x : Extensions) (schema : List Shape) where
  -- ---- one level deeper

  pub below_here : (room i : ℕ) (before s : Text) → read_below x schema (suc room) i before s ≡ read x schema room false i before s
  unfolding read_below read_at
  below_here room i before s = refl

  pub below_deep : (i : ℕ) (before s : Text) → read_below x schema 0 i before s ≡ failed deep
  unfolding read_below
  below_deep i before s = refl

  module _ (room : ℕ) where
    -- ---- content in brackets

    module _ (unwrap : Bool) (i : ℕ) (s : Text) where
      pub content_not_opened : is_at left_parenthesis s ≡ false → read_content x schema room unwrap i s ≡ failed bad
      unfolding read_content
      content_not_opened e = no_group left_parenthesis s _ e

      pub content_slash : (u : Text) → s ≡ left_parenthesis ∷ u → is_at 47 (skip u) ≡ true → read_content x schema room unwrap i s ≡ failed bad
      unfolding read_content
      content_slash u o e = rw (o, e) refl

    module _ (i : ℕ) (s u : Text) (o : s ≡ left_parenthesis ∷ u) where
      pub content_inside : is_at 47 (skip u) ≡ false → read_content x schema room false i s ≡ closed (read_below x schema room i (gap_of u) (skip u))
      unfolding read_content read_below
      content_inside e = rw (o, e) refl

      pub content_unwrapped : is_at 47 (skip u) ≡ false → read_content x schema room true i s ≡ read_bare_below x schema room i (gap_of u) (skip u)
      unfolding read_content read_bare_below
      content_unwrapped e = rw (o, e) refl

    -- ---- the items of a tuple in brackets

    module _ (make : Datas → Data) (js : List ℕ) (s : Text) where
      pub tuple_group_not_opened : is_at left_parenthesis s ≡ false → read_tuple_group x schema room make js s ≡ failed bad
      unfolding read_tuple_group
      tuple_group_not_opened e = no_group left_parenthesis s _ e

      pub tuple_group_opened : (u : Text) → s ≡ left_parenthesis ∷ u
          → read_tuple_group x schema room make js s ≡ after_gap (λ gap. read_tuple_inside x schema room make js gap) u
      unfolding read_tuple_group read_tuple_inside read_elements
      tuple_group_opened u o = rw o (group_opened (λ seen. at_shape (below (rule x schema) too_deep room 1 false) (slice_get js (length seen)))
          right_parenthesis (as_many make js) left_parenthesis 1 room u)

    -- ---- at an index of the table

    module _ (i : ℕ) (before s : Text) where
      pub read_unit_struct_of : (name : Text) → slice_get schema i ≡ Some (unit_struct name)
          → read x schema room false i before s ≡ read_unit_struct x.explicit_struct_names name false s
      unfolding read_at
      read_unit_struct_of name e = rw e refl

      pub read_tuple_of : (js : List ℕ) → slice_get schema i ≡ Some (tuple js)
          → read x schema room false i before s ≡ read_tuple_group x schema room tuple_of js s
      unfolding read_at read_tuple_group
      read_tuple_of js e = rw e refl

      pub read_tuple_struct_of : (name : Text) (js : List ℕ) → slice_get schema i ≡ Some (tuple_struct name js)
          → read x schema room false i before s
          ≡ pick (is_at left_parenthesis) (without_name x.explicit_struct_names (read_tuple_group x schema room (tuple_struct_of name) js))
          (in_sequence (named name) (λ _ gap. no_gap gap (read_tuple_group x schema room (tuple_struct_of name) js))) s
      unfolding read_at read_tuple_group
      read_tuple_struct_of name js e = rw e refl

      pub read_newtype_alone : (name : Text) (j : ℕ) → slice_get schema i ≡ Some (newtype name j) → x.unwrap_newtypes ≡ true
          → read x schema room false i before s ≡ meant (read_below x schema room j before s) (newtype_data name)
      unfolding read_at read_below
      read_newtype_alone name j e u = rw e (rw u refl)

      pub read_newtype_wrapped : (name : Text) (j : ℕ) → slice_get schema i ≡ Some (newtype name j) → x.unwrap_newtypes ≡ false
          → read x schema room false i before s
          ≡ pick (is_at left_parenthesis) (without_name x.explicit_struct_names (means (read_content x schema room false j) (newtype_data name)))
          (in_sequence (named name) (λ _ _. means (read_content x schema room false j) (newtype_data name))) s
      unfolding read_at read_content
      read_newtype_wrapped name j e u = rw e (rw u refl)
