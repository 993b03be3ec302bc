-- Ranges as structs, by the fields that there are and by the numbers that fill them: for the calls of `ranges.rt`.
use Rattle.std.proofs.Common.{◌≡◌, Bool, true, false, cond, ◌&&◌, List, [], ◌∷◌, map, length, inl, inr, Option, Some, None, option_map, refl, ap, ◌∙◌}
use Rattle.std.specs.Option.{option_and_then}
use Rattle.ron_spec_words.specs.Characters.{Text, left_parenthesis}
use Rattle.ron_spec_words.specs.Number.{Numeral, numeral_value}
use Rattle.ron_spec_words.specs.Range.{Interval, one, range, opens_interval, number_or_range}
use Rattle.ron_spec_words.specs.Reader.{Got, got, failed, bad, meant, means, pick}
use Rattle.ron_spec_words.specs.Runs.{is_at}
use Rattle.ron_spec_words.specs.Name.{named}
use Rattle.ron_value_number.specs.Width.{fits}
use Rattle.ron_spec_grammar.specs.Data.{Data, int_of, value_of, struct_of, Fields}
use Rattle.ron_spec_grammar.specs.Schema.{Shape, Field, int, any_value}
use Rattle.ron_spec_grammar.specs.Shapes.Range.{fill, fill_field, filled_one, filled_two, spans, reaches, starts, is_start, is_end, range_fields, range_data}
use Rattle.ron_spec_grammar.specs.Shapes.Range.{full_data, read_range}
use Rattle.ron_spec_grammar.specs.Rule.{without_name}
use Rattle.ron_spec_grammar.specs.Shapes.Unit.{empty_brackets}
use Rattle.ron_spec_grammar.specs.Shapes.UnitStruct.{unit_struct_data, read_unit_struct}
use Rattle.ron_lex.specs.Range.{HasLargeMagnitude, HoldsLarge, RefusesInterval}
use Rattle.ron_data_schema.specs.declared.schema.FieldShape.{FieldShape}
use Rattle.ron_data_schema.specs.Shapes.{field_view}
use Rattle.ron_de_untyped.proofs.NumberLemmas.{no_number}

-- ---- numbers that pass 128 bits fill nothing

no_fill : (o : Option Shape) (n : Numeral) → HasLargeMagnitude n → fill o n ≡ None
no_fill None n h = refl
no_fill (Some (int w)) n h = ap (option_and_then (λ t. cond (fits w (numeral_value n)) (Some (int_of w (numeral_value n))) None)) (no_number n h)
no_fill (Some any_value) n h = ap (option_map value_of) (no_number n h)
no_fill (Some _) n h = refl

if_none : {A : Type 0} (b : Bool) (o : Option A) → o ≡ None → cond b o None ≡ None
if_none true o e = e
if_none false o e = refl

no_second : (f : Field) (a : Option Data) (g : Field) (b : Option Data) → b ≡ None → filled_two f a g b ≡ None
no_second f None g b e = refl
no_second f (Some d) g b e = ap (λ o. filled_two f (Some d) g o) e

module _ (schema : List Shape) (name : Text) where
  large_fields : (fields : List Field) (i : Interval) → HoldsLarge i → range_fields schema name fields i ≡ None
  large_fields [] i h = refl
  large_fields (f ∷ []) (one n) h = refl
  large_fields (f ∷ []) (range None closed None) h = refl
  large_fields (f ∷ []) (range (Some a) closed None) (inl h) = if_none (starts closed name && is_start f) _ (ap (filled_one f) (no_fill _ a h))
  large_fields (f ∷ []) (range (Some a) closed None) (inr h) = absurd h
  large_fields (f ∷ []) (range None closed (Some b)) (inl h) = absurd h
  large_fields (f ∷ []) (range None closed (Some b)) (inr h) = if_none (reaches closed name && is_end closed f) _ (ap (filled_one f) (no_fill _ b h))
  large_fields (f ∷ []) (range (Some a) closed (Some b)) h = refl
  large_fields (f ∷ g ∷ []) (one n) h = refl
  large_fields (f ∷ g ∷ []) (range None closed None) h = refl
  large_fields (f ∷ g ∷ []) (range (Some a) closed None) h = refl
  large_fields (f ∷ g ∷ []) (range None closed (Some b)) h = refl
  large_fields (f ∷ g ∷ []) (range (Some a) closed (Some b)) (inl h) =
      if_none (spans closed name && (is_start f && is_end closed g)) _ (ap (λ o. filled_two f o g (fill_field schema g b)) (no_fill _ a h))
  large_fields (f ∷ g ∷ []) (range (Some a) closed (Some b)) (inr h) =
      if_none (spans closed name && (is_start f && is_end closed g)) _ (no_second f _ g _ (no_fill _ b h))
  large_fields (f ∷ g ∷ k ∷ fields) i h = refl

  -- ---- what is read, by what the cursor's call answers

  pub refuses_range : (fields : List Field) (answer : Got Interval) → RefusesInterval answer → meant answer (range_data schema name fields) ≡ failed bad
  refuses_range fields (got i rest) h = rw (large_fields fields i h) refl
  refuses_range fields (failed f) h = ap failed h

  module _ (fields : List Field) (answer : Got Interval) (i : Interval) (rest : Text) (e : answer ≡ got i rest) where
    pub range_read : (found : Fields) → Some found ≡ range_fields schema name fields i
        → meant answer (range_data schema name fields) ≡ got (struct_of name found) rest
    range_read found k = ap (λ o. meant o (range_data schema name fields)) e ∙ rw (← k) refl

    pub range_none : None ≡ range_fields schema name fields i → meant answer (range_data schema name fields) ≡ failed bad
    range_none k = ap (λ o. meant o (range_data schema name fields)) e ∙ rw (← k) refl

  -- ---- the fields that there are

  module _ (fields : List FieldShape) (closed : Bool) where
    pub not_one_start : (length fields ≡ 1 → ⊥) → (a : Numeral) → range_fields schema name (map field_view fields) (range (Some a) closed None) ≡ None
    not_one_start h a = go fields h
      where
        go : (fields : List FieldShape) → (length fields ≡ 1 → ⊥) → range_fields schema name (map field_view fields) (range (Some a) closed None) ≡ None
        go [] h = refl
        go (f ∷ []) h = absurd (h refl)
        go (f ∷ g ∷ []) h = refl
        go (f ∷ g ∷ k ∷ fields) h = refl

    pub two : (f g : FieldShape) → fields ≡ f ∷ g ∷ [] → (a b : Numeral) → range_fields schema name (map field_view fields) (range (Some a) closed (Some b))
        ≡ cond (spans closed name && (is_start (field_view f) && is_end closed (field_view g)))
        (filled_two (field_view f) (fill_field schema (field_view f) a) (field_view g) (fill_field schema (field_view g) b)) None
    two f g e a b = ap (λ fs. range_fields schema name (map field_view fs) (range (Some a) closed (Some b))) e

-- ---- unit structs

pub full_is : (required : Bool) (name s : Text) → opens_interval s ≡ true → read_unit_struct required name false s ≡ meant (number_or_range s) (full_data name)
full_is required name s f = ap (λ b. cond b (read_range false (full_data name) s)
    (pick (is_at left_parenthesis) (without_name required (means empty_brackets (unit_struct_data name))) (means (named name) (unit_struct_data name)) s)) f
