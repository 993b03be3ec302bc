-- The reader function of fields in brackets, and of structs by them: one equation for each, for code that reads the brackets apart from what stands in them.
use Rattle.std.proofs.Common.{◌≡◌, ℕ, true, false, cond, List, ◌∷◌, Some, slice_get, ap}
use Rattle.ron_spec_words.specs.Characters.{Text, left_parenthesis, right_parenthesis}
use Rattle.ron_spec_words.specs.Name.{named}
use Rattle.ron_spec_words.specs.Reader.{bad, failed, in_sequence, pick, after_gap, meant}
use Rattle.ron_spec_words.specs.Range.{opens_interval, number_or_range}
use Rattle.ron_spec_grammar.specs.Shapes.Range.{range_data, read_range}
use Rattle.ron_spec_words.specs.Runs.{is_at}
use Rattle.ron_spec_words.proofs.Turns.{group_opened}
use Rattle.ron_spec_grammar.specs.Data.{Data, Fields, struct_of}
use Rattle.ron_spec_grammar.specs.Schema.{FieldList, Shape, struct}
use Rattle.ron_spec_grammar.specs.Rule.{Extensions, below, without_name}
use Rattle.ron_spec_grammar.specs.Reading.{rule, too_deep, read, read_at}
use Rattle.ron_spec_grammar.specs.Values.Grammar.{read_any_below}
use Rattle.ron_spec_grammar.specs.Shapes.Struct.{field_item}
use Rattle.ron_spec_grammar.specs.Turns.{with_fields, read_fields, read_fields_inside, read_field_group}
use Rattle.ron_spec_grammar.proofs.ElementTurns.{no_group}

module _ (x : Extensions) (schema : List Shape) (room : ℕ) where
  -- ---- fields in brackets

  module _ (make : Fields → Data) (list : FieldList) (s : Text) where
    pub field_group_not_opened : is_at left_parenthesis s ≡ false → read_field_group x schema room make list s ≡ failed bad
    unfolding read_field_group
    field_group_not_opened e = no_group left_parenthesis s _ e

    pub field_group_opened : (u : Text) → s ≡ left_parenthesis ∷ u
        → read_field_group x schema room make list s ≡ after_gap (λ gap. read_fields_inside x schema room make list gap) u
    unfolding read_field_group read_fields_inside read_fields
    field_group_opened u o = rw o (group_opened (λ seen _. field_item list (below (rule x schema) too_deep room 1 false)
        (read_any_below x.unwrap_variant_newtypes room 1) seen) right_parenthesis (with_fields make list) left_parenthesis 1 room u)

  module _ (i : ℕ) (before s : Text) where
    -- ---- a struct

    pub read_struct_of : (name : Text) (list : FieldList) → slice_get schema i ≡ Some (struct name list) → opens_interval s ≡ false
        → read x schema room false i before s ≡ pick (is_at left_parenthesis) (without_name x.explicit_struct_names
        (read_field_group x schema room (struct_of name) list)) (in_sequence (named name) (λ _ _. read_field_group x schema room (struct_of name) list)) s
    unfolding read_at read_field_group
    read_struct_of name list e f = rw e (ap (λ b. cond b (read_range false (range_data schema name list.fields) s)
        (pick (is_at left_parenthesis) (without_name x.explicit_struct_names (read_field_group x schema room (struct_of name) list))
        (in_sequence (named name) (λ _ _. read_field_group x schema room (struct_of name) list)) s)) f)

    pub read_range_of : (name : Text) (list : FieldList) → slice_get schema i ≡ Some (struct name list) → opens_interval s ≡ true
        → read x schema room false i before s ≡ meant (number_or_range s) (range_data schema name list.fields)
    unfolding read_at read_field_group
    read_range_of name list e f = rw e (ap (λ b. cond b (read_range false (range_data schema name list.fields) s)
        (pick (is_at left_parenthesis) (without_name x.explicit_struct_names (read_field_group x schema room (struct_of name) list))
        (in_sequence (named name) (λ _ _. read_field_group x schema room (struct_of name) list)) s)) f)
