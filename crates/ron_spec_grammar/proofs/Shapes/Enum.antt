-- What the rule of enums owes: a variant's name and what it holds are read exactly.
use Rattle.std.proofs.Common.{◌≡◌, ℕ, ◌+◌, ◌≤◌, Bool, true, false, List, ◌++◌, Option, Some, None, option_map, find, slice_get, refl, sym, ap, ◌∙◌, arith}
use Rattle.std.specs.List.{list_all}
use Rattle.std.proofs.lemmas.Bool.{and_parts}
use Rattle.ron_spec_words.specs.Characters.{Text, left_parenthesis, right_parenthesis}
use Rattle.ron_spec_words.specs.Lang.{Lang, Then, Means}
use Rattle.ron_spec_words.specs.Exact.{FollowsValue}
use Rattle.ron_spec_words.specs.Name.{Name, name}
use Rattle.ron_spec_words.proofs.Words.{First, first_means, first_or}
use Rattle.ron_spec_words.proofs.Classes.{first_solid}
use Rattle.ron_spec_words.proofs.Names.{word_name, name_solid}
use Rattle.ron_spec_words.proofs.Exactly.{Opens, three, first_then}
use Rattle.ron_spec_words.proofs.Values.{AnyValue}
use Rattle.ron_spec_words.proofs.WordsPass.{passes_name}
use Rattle.ron_spec_words.proofs.Parts.{Part, part_weaker, part_fail, part_word, part_means, part_needs, part_then, part_choose, part_group}
use Rattle.ron_spec_grammar.specs.Data.{Data, unit_variant_of, newtype_variant_of, tuple_variant_of, struct_variant_of}
use Rattle.ron_spec_grammar.specs.Schema.{FieldList, Shape, Variant, VariantShape, unit_variant, newtype_variant, tuple_variant, struct_variant, enum}
use Rattle.ron_spec_grammar.specs.Schema.{is_variant, variant_named, variants_differ, variant_has_distinct_names, has_distinct_names, names_differ}
use Rattle.ron_spec_grammar.specs.Rule.{Extensions, Langs, Readers}
use Rattle.ron_spec_grammar.specs.Room.{step}
use Rattle.ron_spec_grammar.specs.Shapes.Enum.{unit_if, holding_if, is_unit, names_unit, newtype_variant_data, VariantText, EnumText, read_variant, read_enum}
use Rattle.ron_spec_grammar.proofs.Finding.{all_get, find_in}
use Rattle.ron_spec_grammar.proofs.Room.{Sizes, size, size_within, size_inside, size_content}
use Rattle.ron_spec_grammar.proofs.Rule.{After, IsDataOf, Fit, part_plain}
use Rattle.ron_spec_grammar.proofs.Shapes.Option.{part_content}
use Rattle.ron_spec_grammar.proofs.Shapes.Tuple.{IsMade, part_tuple_items}
use Rattle.ron_spec_grammar.proofs.Shapes.Struct.{part_fields}

-- ---- variants by their names

unit_is : (enum_name v : Text) (o : Option VariantShape) (d : Data) → unit_if enum_name v o ≡ Some d
    → (o ≡ Some unit_variant) × (unit_variant_of enum_name v ≡ d)
unit_is enum_name v (Some unit_variant) d e = (refl, cc)
unit_is enum_name v None d e = absurd (cc)
unit_is enum_name v (Some (newtype_variant j)) d e = absurd (cc)
unit_is enum_name v (Some (tuple_variant js)) d e = absurd (cc)
unit_is enum_name v (Some (struct_variant fields)) d e = absurd (cc)

holding_is : (v : Text) (o : Option VariantShape) (w : Text) → holding_if v o ≡ Some w → is_unit o ≡ false
holding_is v None w e = absurd (cc)
holding_is v (Some unit_variant) w e = absurd (cc)
holding_is v (Some (newtype_variant j)) w e = refl
holding_is v (Some (tuple_variant js)) w e = refl
holding_is v (Some (struct_variant fields)) w e = refl

module _ (enum_name : Text) (variants : List Variant) where
  abbrev Unit : Lang Data
  Unit = Means Name (λ v. unit_if enum_name v (variant_named v variants))

  abbrev Holding : Lang Text
  Holding = Means Name (λ v. holding_if v (variant_named v variants))

  unit_first : First (λ s. names_unit variants (name s) ≡ true) Unit
  unit_first = record {
    holds = λ t next d z.
        let k = unit_is enum_name z.value (variant_named z.value variants) d z.meant in
        ap (names_unit variants) (word_name.complete t next z.value z.spelled).answer ∙ ap is_unit k.0;
  }

  holding_first : (M : Text → Text → Lang Data) → First (λ s. names_unit variants (name s) ≡ false) (Then Holding M)
  holding_first M = record {
    holds = λ t next d z.
        let f = z.first in
        let k = holding_is f.value (variant_named f.value variants) z.value f.meant in
        ap (λ s. names_unit variants (name s)) (ap (λ u. u ++ next) z.split ∙ three z.left z.gap z.right next)
        ∙ ap (names_unit variants) (word_name.complete z.left (z.gap ++ (z.right ++ next)) f.value f.spelled).answer ∙ k;
  }

-- the fields of a variant of a shape whose names differ
pub fields_differ : (schema : List Shape) (i : ℕ) (enum_name v : Text) (variants : List Variant) (list : FieldList)
    → slice_get schema i ≡ Some (enum enum_name variants) → variant_named v variants ≡ Some (struct_variant list)
    → list_all has_distinct_names schema ≡ true → names_differ list.fields ≡ true
fields_differ schema i enum_name v variants list s n formed =
    let all = (and_parts (variants_differ variants) (list_all (λ v. variant_has_distinct_names v.content) variants)
    (all_get has_distinct_names schema i (enum enum_name variants) formed s)).1 in
    go (find (is_variant v) variants) refl n all
  where
    go : (o : Option Variant) → find (is_variant v) variants ≡ o → option_map (λ w. w.content) o ≡ Some (struct_variant list)
        → list_all (λ v. variant_has_distinct_names v.content) variants ≡ true → names_differ list.fields ≡ true
    go None f e all = absurd (cc)
    go (Some w) f e all = let same : w.content ≡ struct_variant list = cc in
        ap variant_has_distinct_names (sym same) ∙ find_in (is_variant v) (λ v. variant_has_distinct_names v.content) variants w f all

-- ---- the part

module _ {schema : List Shape} {room top : ℕ} {base : ℕ → ℕ} (sizes : Sizes schema top base) (x : Extensions) (m : ℕ) (le : m ≤ room) (q r : ℕ → Readers)
    (L : ℕ → Langs) (h : Fit schema base room 2 (q 1) (r 1) (L 1)) (g : Fit schema base room 3 (q 2) (r 2) (L 2))
    (enum_name : Text) (variants : List Variant) (i : ℕ) (s : slice_get schema i ≡ Some (enum enum_name variants)) where
  is_unit_data : (v : Text) (d : Data) → unit_if enum_name v (variant_named v variants) ≡ Some d → 2 ≤ room → IsDataOf schema room 0 i d
  is_unit_data v d e two = let k = unit_is enum_name v (variant_named v variants) d e in rw (← k.1) (record { of_shape = λ _. (variants, s, k.0) })

  module _ (v : Text) (bare : Bool) where
    is_newtype_data : (j : ℕ) → variant_named v variants ≡ Some (newtype_variant j) → (c d : Data) → IsDataOf schema room 2 j c
        → newtype_variant_data enum_name v c ≡ Some d → 2 ≤ room → IsDataOf schema room 0 i d
    is_newtype_data j n c d p e two = let same : newtype_variant_of enum_name v c ≡ d = cc in
        rw (← same) (record { of_shape = λ formed. (j, (variants, s, n), p.of_shape formed) })

    -- items, three levels down behind a bracket
    wide : (j : ℕ) → size schema base false j + 3 ≤ size schema base true i + 1
    wide j = let w = size_within schema sizes i j in omega (arith, w)

    part_variant : (o : Option VariantShape) → variant_named v variants ≡ o
        → Part room (step schema) false (λ d. 2 ≤ room → IsDataOf schema room 0 i d) (read_variant x enum_name v m q o) (read_variant x enum_name v room r o)
        (VariantText x enum_name v room L o) FollowsValue (size schema base bare i)
    part_variant None n = part_fail
    part_variant (Some unit_variant) n = part_fail
    part_variant (Some (newtype_variant j)) n = part_means (newtype_variant_data enum_name v) (λ c d p e. is_newtype_data j n c d p e)
        (part_group left_parenthesis right_parenthesis (size schema base bare i) refl refl
        (part_content sizes (q 1) (r 1) (L 1) 2 h j x.unwrap_variant_newtypes) (size_content schema sizes bare i j))
    part_variant (Some (tuple_variant js)) n =
        let made : IsMade schema 2 (tuple_variant_of enum_name v) js i = record { of_shape = λ ds z. (js, (variants, s, n), z) } in
        let w = size_inside schema sizes bare i in
        part_group left_parenthesis right_parenthesis (size schema base bare i) refl refl
        (λ gap. part_tuple_items 2 (q 2) (r 2) (L 2) g (size schema base true i + 1) wide js i (tuple_variant_of enum_name v) made gap) (room_left w)
      where
        room_left : size schema base true i ≤ step schema + size schema base bare i → size schema base true i + 1 ≤ step schema + size schema base bare i
        room_left w = let more = size_content schema sizes bare i i in omega (arith, more)
    part_variant (Some (struct_variant list)) n =
        part_group left_parenthesis right_parenthesis (size schema base bare i) refl refl
        (λ gap.
        part_fields schema room 2 (q 2) (r 2) (L 2) g (size schema base true i + 1) wide x.unwrap_variant_newtypes m le list (struct_variant_of enum_name v) i
        (λ formed. (fields_differ schema i enum_name v variants list s n formed, λ ds o z. (list, (variants, s, n), o, z))) gap)
        (let more = size_content schema sizes bare i i in omega (arith, more))

  pub part_enum : (bare : Bool) → Part room (step schema) bare (IsDataOf schema room 0 i) (read_enum x enum_name variants m q bare)
      (read_enum x enum_name variants room r bare) (EnumText x enum_name variants room L bare) (After bare) (size schema base bare i)
  part_enum bare = part_plain bare (part_needs 2 m le (omega arith)
      (part_choose (λ s. names_unit variants (name s)) (unit_first enum_name variants) (holding_first enum_name variants _)
      (part_means (λ v. unit_if enum_name v (variant_named v variants)) (λ v d _ e. is_unit_data v d e)
      (part_word word_name (first_solid name_solid) passes_name))
      (part_then {P = AnyValue}
      (part_means (λ v. holding_if v (variant_named v variants)) (λ v w _ e. tt) (part_word word_name (first_solid name_solid) passes_name))
      (λ v _. part_weaker (λ d p _. p) (part_variant v bare (variant_named v variants) refl)))))

pub enum_opens : (x : Extensions) (enum_name : Text) (variants : List Variant) (room : ℕ) (L : ℕ → Langs) → Opens (EnumText x enum_name variants room L false)
enum_opens x enum_name variants room L =
    record { holds = λ t next d z. (first_or (first_means name_solid) (first_then (first_means name_solid))).holds t next d z.1 }
