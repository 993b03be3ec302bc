-- The reader function a turn at a time: one equation for each case, for code that reads in the same order.
use Rattle.std.proofs.Common.{◌≡◌, ℕ, zero, suc, ◌-◌, ◌≤◌, ◌<◌, true, false, List, [], ◌∷◌, Some, None, slice_get, refl, ap, arith}
use Rattle.ron_spec_words.specs.Characters.{Text}
use Rattle.ron_spec_words.specs.Gap.{gap_of, skip}
use Rattle.ron_spec_words.specs.Lang.{done}
use Rattle.ron_spec_words.specs.Reader.{Fault, deep, bad, got, failed, Reader, meant, given, after_gap}
use Rattle.ron_spec_words.specs.Name.{name}
use Rattle.ron_spec_words.specs.Runs.{is_at}
use Rattle.ron_spec_words.specs.Turns.{all_items}
use Rattle.ron_spec_words.specs.AnyInteger.{any_integer}
use Rattle.ron_spec_words.specs.Quoted.{char, string}
use Rattle.ron_spec_words.proofs.Names.{word_name}
use Rattle.ron_spec_words.proofs.Room.{shrinks}
use Rattle.ron_spec_words.proofs.Turns.{Shrinks, behind_no_mark, group_over, group_failed, group_last, group_not_closed, group_more}
use Rattle.ron_value_number.specs.declared.width.Width.{Width}
use Rattle.ron_spec_grammar.specs.Data.{Data, Fields}
use Rattle.ron_spec_grammar.specs.Schema as shape
use Rattle.ron_spec_grammar.specs.Schema.{Field, FieldList, Shape, int}
use Rattle.ron_spec_grammar.specs.Rule.{Extensions, below}
use Rattle.ron_spec_grammar.specs.Reading.{rule, too_deep, read, read_at}
use Rattle.ron_spec_grammar.specs.Shapes.Int.{in_width}
use Rattle.ron_spec_grammar.specs.Shapes.Char.{char_data}
use Rattle.ron_spec_grammar.specs.Shapes.Str.{str_data}
use Rattle.ron_spec_grammar.specs.Values.Grammar.{read_any_below}
use Rattle.ron_spec_grammar.specs.Shapes.Struct.{Item, Target, known, unknown, target, skipped, item_of, field_item}
use Rattle.ron_spec_grammar.proofs.Shapes.Struct.{part_field}
use Rattle.ron_spec_grammar.proofs.Levels.{below_fit}
use Rattle.ron_spec_grammar.proofs.Room.{size, size_within, no_ranks}
use Rattle.ron_spec_grammar.specs.Turns.{with_fields, read_field_value, read_item, read_fields}

module _ (x : Extensions) (schema : List Shape) (room : ℕ) where
  module _ (i : ℕ) (before s : Text) where
    pub read_integer : (w : Width) → slice_get schema i ≡ Some (int w) → read x schema room false i before s ≡ meant (any_integer s) (in_width w)
    unfolding read_at
    read_integer w e = rw e refl

    pub read_character : slice_get schema i ≡ Some shape.char → read x schema room false i before s ≡ meant (char s) char_data
    unfolding read_at
    read_character e = rw e refl

    pub read_text : slice_get schema i ≡ Some shape.str → read x schema room false i before s ≡ meant (string s) str_data
    unfolding read_at
    read_text e = rw e refl

    -- ---- a field's value: two levels below the struct

    pub value_within : 2 ≤ room → read_field_value x schema room i before s ≡ read x schema (room - 2) false i before s
    unfolding read_at read_field_value
    value_within le = let e : room ≡ suc (suc (room - 2)) = omega (arith, le) in ap (λ k. below (rule x schema) too_deep k 1 false false i before s) e

    pub value_deep : room < 2 → read_field_value x schema room i before s ≡ failed deep
    unfolding read_field_value
    value_deep lt = deep_below room lt
      where
        deep_below : (n : ℕ) → n < 2 → below (rule x schema) too_deep n 1 false false i before s ≡ failed deep
        deep_below zero l = refl
        deep_below (suc zero) l = refl
        deep_below (suc (suc n)) l = absurd (omega (arith, l))

  -- ---- an item

  module _ (list : FieldList) (seen : List Item) (s : Text) where
    pub item_without_name : (f : Fault) → name s ≡ failed f → read_item x schema room list seen s ≡ failed bad
    unfolding read_item
    item_without_name deep e = absurd (word_name.calm s e)
    item_without_name bad e = rw e refl

    module _ (n rest : Text) (e : name s ≡ got n rest) where
      pub item_refused : target list seen n ≡ None → read_item x schema room list seen s ≡ failed bad
      unfolding read_item
      item_refused k = rw (e, k) refl

      module _ (t : Target) (k : target list seen n ≡ Some t) where
        pub item_without_colon : is_at 58 (skip rest) ≡ false → read_item x schema room list seen s ≡ failed bad
        unfolding read_item
        item_without_colon h = rw (e, k) (behind_no_mark 58 done rest _ h)

        module _ (u : Text) (h : skip rest ≡ 58 ∷ u) where
          pub item_value : (f : Field) → t ≡ known f → is_at 47 (skip u) ≡ false
              → read_item x schema room list seen s ≡ meant (read_field_value x schema room f.shape (gap_of u) (skip u)) (item_of f)
          unfolding read_item read_field_value
          item_value f is n = rw (e, k, is, h, n) refl

          pub item_skipped : (name : Text) → t ≡ unknown name → is_at 47 (skip u) ≡ false
              → read_item x schema room list seen s ≡ meant (read_any_below x.unwrap_variant_newtypes room 1 (gap_of u) (skip u)) (skipped name)
          unfolding read_item
          item_skipped name is n = rw (e, k, is, h, n) refl

          pub item_slash : is_at 47 (skip u) ≡ true → read_item x schema room list seen s ≡ failed bad
          unfolding read_item
          item_slash n = rw (e, k, h, n) refl

  -- ---- the items, and the bracket that closes them

  module _ (make : Fields → Data) (list : FieldList) (seen : List Item) (before s : Text) where
    abbrev reader : List Item → Text → Reader Item
    reader behind _ = field_item list (below (rule x schema) too_deep room 1 false) (read_any_below x.unwrap_variant_newtypes room 1) behind

    fields_shrink : Shrinks reader
    fields_shrink = record {
      at_most = λ seen' gap t item rest e. shrinks _ _ (part_field schema room 1 _ _ _
          (below_fit x schema (no_ranks schema room) room room 1 (omega arith) (omega arith) false) (size schema (λ i. room) true 0)
          (λ j. size_within schema (no_ranks schema room) 0 j) x.unwrap_variant_newtypes room (omega arith) list seen').exact.sound t item rest e;
    }

    pub fields_over : (u : Text) → s ≡ 41 ∷ u → read_fields x schema room make list seen before s ≡ given (with_fields make list (all_items seen [])) u
    unfolding read_fields
    fields_over = group_over reader 41 (with_fields make list) (refl, refl, refl) fields_shrink seen before s

    module _ (open_still : is_at 41 s ≡ false) where
      pub fields_failed : (f : Fault) → read_item x schema room list seen s ≡ failed f → read_fields x schema room make list seen before s ≡ failed f
      unfolding read_item read_fields
      fields_failed = group_failed reader 41 (with_fields make list) (refl, refl, refl) fields_shrink seen before s open_still

      module _ (item : Item) (rest : Text) (e : read_item x schema room list seen s ≡ got item rest) where
        pub fields_last : (u : Text) → skip rest ≡ 41 ∷ u
            → read_fields x schema room make list seen before s ≡ given (with_fields make list (all_items (item ∷ seen) [])) u
        unfolding read_item read_fields
        fields_last = group_last reader 41 (with_fields make list) (refl, refl, refl) fields_shrink seen before s open_still item rest e

        pub fields_not_closed : is_at 44 (skip rest) ≡ false → is_at 41 (skip rest) ≡ false → read_fields x schema room make list seen before s ≡ failed bad
        unfolding read_item read_fields
        fields_not_closed = group_not_closed reader 41 (with_fields make list) (refl, refl, refl) fields_shrink seen before s open_still item rest e

        pub fields_more : (u : Text) → skip rest ≡ 44 ∷ u
            → read_fields x schema room make list seen before s ≡ after_gap (read_fields x schema room make list (item ∷ seen)) u
        unfolding read_item read_fields
        fields_more = group_more reader 41 (with_fields make list) (refl, refl, refl) fields_shrink seen before s open_still item rest e
