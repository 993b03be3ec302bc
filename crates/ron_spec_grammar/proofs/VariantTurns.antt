-- The reader function of enums a step at a time: one equation for each case, for code that reads in the same order.
use Rattle.std.proofs.Common.{◌≡◌, ℕ, suc, true, false, nat_le, if◌then◌else◌, List, Option, Some, None, option_map, slice_get, find, refl, sym, ap, ◌∙◌, arith}
use Rattle.std.proofs.lemmas.Bool.{le-leb}
use Rattle.ron_spec_words.specs.Characters.{Text, left_parenthesis, right_parenthesis, slash}
use Rattle.ron_spec_words.specs.Gap.{skip}
use Rattle.ron_spec_words.specs.Name.{name}
use Rattle.ron_spec_words.specs.Reader.{deep, bad, Got, got, failed, Reader, means, meant, items, group, after_gap}
use Rattle.ron_spec_words.specs.Runs.{is_at}
use Rattle.ron_spec_words.proofs.Names.{word_name}
use Rattle.ron_spec_grammar.specs.Data.{Data, unit_variant_of, tuple_variant_of, struct_variant_of}
use Rattle.ron_spec_grammar.specs.Schema.{Shape, FieldList, Variant, VariantShape, enum, unit_variant, newtype_variant, tuple_variant, struct_variant}
use Rattle.ron_spec_grammar.specs.Schema.{is_variant, variant_named}
use Rattle.ron_spec_grammar.specs.Rule.{Extensions, below}
use Rattle.ron_spec_grammar.specs.Reading.{rule, too_deep, read, read_at}
use Rattle.ron_spec_grammar.specs.Shapes.Enum.{newtype_variant_data}
use Rattle.ron_spec_grammar.specs.Values.Grammar.{read_any_below}
use Rattle.ron_spec_grammar.specs.Shapes.Struct.{field_item}
use Rattle.ron_spec_grammar.specs.Shapes.Tuple.{tuple_items}
use Rattle.ron_spec_grammar.specs.Turns.{with_fields, read_content, read_tuple_group, read_field_group, variant_got, variant_at, read_variant_content}
use Rattle.ron_spec_grammar.proofs.Finding.{same_is, each_any, find_some}

-- a level that is there is not asked for
unasked : (k : ℕ) (r : Text → Reader Data)
    → group left_parenthesis right_parenthesis (λ gap s. if nat_le 1 (suc k) then r gap s else failed deep) ≡ group left_parenthesis right_parenthesis r
unasked k r = ap (λ b. group left_parenthesis right_parenthesis (λ gap s. if b then r gap s else failed deep)) (le-leb 1 (suc k) (omega arith))

-- no variant, or one
none_found : (o : Option Variant) (rest : Text) → option_map {U = Variant × Text} (λ variant. (variant, rest)) o ≡ None
    → option_map (λ (v : Variant). v.content) o ≡ None
none_found None rest e = refl
none_found (Some variant) rest e = absurd (cc)

module _ (x : Extensions) (schema : List Shape) (i : ℕ) (before s enum_name : Text) (variants : List Variant)
    (is : slice_get schema i ≡ Some (enum enum_name variants)) where
  pub enum_deep : read x schema 0 false i before s ≡ failed deep
  unfolding read_at
  enum_deep = rw is refl

  pub enum_deep_within : read x schema 1 false i before s ≡ failed deep
  unfolding read_at
  enum_deep_within = rw is refl

  module _ (k : ℕ) where
    holds : (content : VariantShape) (v rest : Text) → name s ≡ got v rest → variant_named v variants ≡ Some content
        → read x schema (suc (suc k)) false i before s ≡ read_variant_content x schema (suc k) enum_name v content rest
    unfolding read_at read_content read_tuple_group read_field_group read_variant_content read_any_below
    holds unit_variant v rest e h = rw (is, le-leb 2 (suc (suc k)) (omega arith), e, h) refl
    holds (newtype_variant j) v rest e h = rw (is, le-leb 2 (suc (suc k)) (omega arith), e, h, h) refl
    holds (tuple_variant js) v rest e h = rw (is, le-leb 2 (suc (suc k)) (omega arith), e, h, h)
        (ap (λ q. after_gap (λ _. q) rest) (sym (unasked k (tuple_items (tuple_variant_of enum_name v) js (below (rule x schema) too_deep (suc k) 1 false)))))
    holds (struct_variant list) v rest e h = rw (is, le-leb 2 (suc (suc k)) (omega arith), e, h, h)
        (ap (λ q. after_gap (λ _. q) rest) (sym (unasked k (λ gap. means (items (λ seen before. field_item list (below (rule x schema) too_deep (suc k) 1 false)
        (read_any_below x.unwrap_variant_newtypes (suc k) 1) seen) right_parenthesis gap) (with_fields (struct_variant_of enum_name v) list)))))

    unnamed : (v rest : Text) → name s ≡ got v rest → variant_named v variants ≡ None → read x schema (suc (suc k)) false i before s ≡ failed bad
    unfolding read_at
    unnamed v rest e h = rw (is, le-leb 2 (suc (suc k)) (omega arith), e, h) refl

    nameless : name s ≡ failed bad → read x schema (suc (suc k)) false i before s ≡ failed bad
    unfolding read_at
    nameless e = rw (is, le-leb 2 (suc (suc k)) (omega arith), e) refl

    pub enum_none : variant_at variants s ≡ None → read x schema (suc (suc k)) false i before s ≡ failed bad
    enum_none h = go (name s) refl h
      where
        go : (o : Got Text) → name s ≡ o → variant_got variants o ≡ None → read x schema (suc (suc k)) false i before s ≡ failed bad
        go (got v rest) e h = unnamed v rest e (none_found (find (is_variant v) variants) rest h)
        go (failed bad) e h = nameless e
        go (failed deep) e h = absurd (word_name.calm s e)

    pub enum_some : (variant : Variant) (rest : Text) → variant_at variants s ≡ Some (variant, rest)
        → read x schema (suc (suc k)) false i before s ≡ read_variant_content x schema (suc k) enum_name variant.name variant.content rest
    enum_some variant rest h = go (name s) refl h
      where
        found : (o : Option Variant) (t : Text) → option_map {U = Variant × Text} (λ variant. (variant, t)) o ≡ Some (variant, rest)
            → (o ≡ Some variant) × (t ≡ rest)
        found None t e = absurd (cc)
        found (Some w) t e = let same : (w, t) ≡ (variant, rest) = cc in (ap (λ (p : Variant × Text). Some p.0) same, ap (λ (p : Variant × Text). p.1) same)

        go : (o : Got Text) → name s ≡ o → variant_got variants o ≡ Some (variant, rest)
            → read x schema (suc (suc k)) false i before s ≡ read_variant_content x schema (suc k) enum_name variant.name variant.content rest
        go (got v t) e h =
            let f = found (find (is_variant v) variants) t h in
            let named : variant.name ≡ v = same_is variant.name v (find_some (λ _. Unit {0}) (is_variant v) variants variant f.0 (each_any variants)).0 in
            holds variant.content v t e (ap (option_map (λ (w : Variant). w.content)) f.0)
            ∙ ap (λ n. read_variant_content x schema (suc k) enum_name n variant.content t) (sym named)
            ∙ ap (read_variant_content x schema (suc k) enum_name variant.name variant.content) f.1
        go (failed fault) e h = absurd (cc)

-- ---- what stands behind a variant's name

module _ (x : Extensions) (schema : List Shape) (room : ℕ) (enum_name v s : Text) where
  pub variant_unit : read_variant_content x schema room enum_name v unit_variant s ≡ got (unit_variant_of enum_name v) s
  unfolding read_variant_content
  variant_unit = refl

  pub variant_slash : (content : VariantShape) → (content ≡ unit_variant → ⊥) → is_at slash (skip s) ≡ true
      → read_variant_content x schema room enum_name v content s ≡ failed bad
  unfolding read_variant_content
  variant_slash unit_variant n e = absurd (n refl)
  variant_slash (newtype_variant j) n e = rw e refl
  variant_slash (tuple_variant js) n e = rw e refl
  variant_slash (struct_variant list) n e = rw e refl

  module _ (no_slash : is_at slash (skip s) ≡ false) where
    pub variant_newtype : (j : ℕ) → read_variant_content x schema room enum_name v (newtype_variant j) s
        ≡ meant (read_content x schema room x.unwrap_variant_newtypes j (skip s)) (newtype_variant_data enum_name v)
    unfolding read_variant_content
    variant_newtype j = rw no_slash refl

    pub variant_tuple : (js : List ℕ)
        → read_variant_content x schema room enum_name v (tuple_variant js) s ≡ read_tuple_group x schema room (tuple_variant_of enum_name v) js (skip s)
    unfolding read_variant_content
    variant_tuple js = rw no_slash refl

    pub variant_struct : (list : FieldList)
        → read_variant_content x schema room enum_name v (struct_variant list) s ≡ read_field_group x schema room (struct_variant_of enum_name v) list (skip s)
    unfolding read_variant_content
    variant_struct list = rw no_slash refl
