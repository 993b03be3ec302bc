-- Ranges as structs.
use Rattle.std.proofs.Common.{◌≡◌, ℕ, Bool, true, false, ◌&&◌, cond, inl, inr, List, [], ◌∷◌, ◌++◌, Option, Some, None, option_map, slice_get, refl}
use Rattle.ron_spec_words.specs.Characters.{Text}
use Rattle.ron_spec_words.specs.Gap.{skip}
use Rattle.ron_spec_words.specs.Lang.{OptComma}
use Rattle.ron_spec_words.specs.Exact.{Before}
use Rattle.ron_spec_words.specs.Number.{Numeral, numeral_value}
use Rattle.ron_spec_words.specs.Range.{Interval, one, range, opens_interval, NumberOrRange}
use Rattle.ron_spec_words.proofs.Words.{First, first_means}
use Rattle.ron_spec_words.proofs.Classes.{first_solid}
use Rattle.ron_spec_words.proofs.Exactly.{first_then}
use Rattle.ron_spec_words.proofs.Ranges.{word_number_or_range, interval_solid, interval_opens, passes_number_or_range, close_no_interval}
use Rattle.ron_spec_words.proofs.Parts.{Part, part_word, part_means}
use Rattle.ron_spec_words.proofs.Quotes.{with_meaning}
use Rattle.ron_value_number.specs.Width.{fits}
use Rattle.ron_spec_grammar.specs.Data.{Data, int_of, value_of, Fields, no_fields, field_and}
use Rattle.ron_spec_grammar.specs.Schema.{Field, Shape, bool, int, char, str, bytes, unit, optional, unit_struct, seq, tuple, tuple_struct, map, newtype}
use Rattle.ron_spec_grammar.specs.Schema.{struct, enum, any_value, any_raw, names_of, in_order, names_differ, OfShape, OfFields}
use Rattle.ron_spec_grammar.specs.Values.Grammar.{number_tree}
use Rattle.ron_spec_grammar.specs.Shapes.Range.{fill, fill_field, filled_one, filled_two, spans, starts, reaches, is_start, is_end, range_fields, RangeText}
use Rattle.ron_spec_grammar.specs.Shapes.Range.{read_range}
use Rattle.ron_spec_grammar.proofs.Finding.{IsFound, are_found, mapped_from, then_from}
use Rattle.ron_spec_grammar.proofs.Orders.{there_first}
use Rattle.ron_spec_grammar.proofs.Rule.{After, part_plain}
use Rattle.ron_spec_grammar.proofs.Values.Telling.{Starts}
use Rattle.ron_spec_grammar.proofs.Values.Facts.{number_in}

-- ---- what numbers make

module _ (schema : List Shape) (j : ℕ) (n : Numeral) (d : Data) where
  pub fill_is : (o : Option Shape) → slice_get schema j ≡ o → fill o n ≡ Some d → OfShape schema j d
  fill_is None s e = absurd (cc)
  fill_is (Some (int w)) s e = let z = then_from (λ t. cond (fits w (numeral_value n)) (Some (int_of w (numeral_value n))) None) (number_tree n) d e in
      go (fits w (numeral_value n)) refl z.2
    where
      go : (b : Bool) → fits w (numeral_value n) ≡ b → cond b (Some (int_of w (numeral_value n))) None ≡ Some d → OfShape schema j d
      go true k q = let same : int_of w (numeral_value n) ≡ d = cc in rw (← same) (s, k)
      go false k q = absurd (cc)
  fill_is (Some any_value) s e = let z = mapped_from value_of (number_tree n) d e in rw (← z.2) (s, (number_in 0 n z.0 z.1).value)
  fill_is (Some bool) s e = absurd (cc)
  fill_is (Some char) s e = absurd (cc)
  fill_is (Some str) s e = absurd (cc)
  fill_is (Some bytes) s e = absurd (cc)
  fill_is (Some unit) s e = absurd (cc)
  fill_is (Some (optional k)) s e = absurd (cc)
  fill_is (Some (unit_struct name)) s e = absurd (cc)
  fill_is (Some (seq k)) s e = absurd (cc)
  fill_is (Some (tuple js)) s e = absurd (cc)
  fill_is (Some (tuple_struct name js)) s e = absurd (cc)
  fill_is (Some (map k v)) s e = absurd (cc)
  fill_is (Some (newtype name k)) s e = absurd (cc)
  fill_is (Some (struct name list)) s e = absurd (cc)
  fill_is (Some (enum name variants)) s e = absurd (cc)
  fill_is (Some any_raw) s e = absurd (cc)

-- fields in the schema's order, each with data of its shape
abbrev Are : List Shape → List Field → Fields → Type 0
Are schema fields ds = (in_order fields (names_of ds) ≡ true) × OfFields schema fields ds

module _ (schema : List Shape) where
  one_is : (f : Field) (n : Numeral) (ds : Fields) → names_differ (f ∷ []) ≡ true → filled_one f (fill_field schema f n) ≡ Some ds → Are schema (f ∷ []) ds
  unfolding IsFound
  one_is f n ds differ e =
      let z = mapped_from (λ d. field_and f.name d no_fields) (fill_field schema f n) ds e in
      let found = are_found (f ∷ []) differ in
      rw (← z.2) (there_first f [] f.name [] refl refl, (f, found.0, fill_is schema f.shape n z.0 (slice_get schema f.shape) refl z.1, tt))

  two_are : (f g : Field) (a b : Numeral) (ds : Fields) → names_differ (f ∷ g ∷ []) ≡ true
      → filled_two f (fill_field schema f a) g (fill_field schema g b) ≡ Some ds → Are schema (f ∷ g ∷ []) ds
  unfolding IsFound
  two_are f g a b ds differ e =
      let y = then_from (λ d. option_map (λ c. field_and f.name d (field_and g.name c no_fields)) (fill_field schema g b)) (fill_field schema f a) ds e in
      let z = mapped_from (λ c. field_and f.name y.0 (field_and g.name c no_fields)) (fill_field schema g b) ds y.2 in
      let found = are_found (f ∷ g ∷ []) differ in
      rw (← z.2) (
        there_first f (g ∷ []) f.name (g.name ∷ []) refl (there_first g [] g.name [] refl refl),
        (
          f,
          found.0,
          fill_is schema f.shape a y.0 (slice_get schema f.shape) refl y.1,
          (g, found.1.0, fill_is schema g.shape b z.0 (slice_get schema g.shape) refl z.1, tt),
        ),
      )

  pub range_is : (name : Text) (fields : List Field) (s : Interval) (ds : Fields) → names_differ fields ≡ true → range_fields schema name fields s ≡ Some ds
      → Are schema fields ds
  range_is name [] s ds differ e = absurd (cc)
  range_is name (f ∷ []) (one n) ds differ e = absurd (cc)
  range_is name (f ∷ []) (range None closed None) ds differ e = absurd (cc)
  range_is name (f ∷ []) (range None closed (Some b)) ds differ e =
      one_is f b ds differ (with_meaning (reaches closed name && is_end closed f) (filled_one f (fill_field schema f b)) ds e)
  range_is name (f ∷ []) (range (Some a) closed None) ds differ e =
      one_is f a ds differ (with_meaning (starts closed name && is_start f) (filled_one f (fill_field schema f a)) ds e)
  range_is name (f ∷ []) (range (Some a) closed (Some b)) ds differ e = absurd (cc)
  range_is name (f ∷ g ∷ []) (one n) ds differ e = absurd (cc)
  range_is name (f ∷ g ∷ []) (range None closed None) ds differ e = absurd (cc)
  range_is name (f ∷ g ∷ []) (range None closed (Some b)) ds differ e = absurd (cc)
  range_is name (f ∷ g ∷ []) (range (Some a) closed None) ds differ e = absurd (cc)
  range_is name (f ∷ g ∷ []) (range (Some a) closed (Some b)) ds differ e = two_are f g a b ds differ
      (with_meaning (spans closed name && (is_start f && is_end closed g)) (filled_two f (fill_field schema f a) g (fill_field schema g b)) ds e)
  range_is name (f ∷ g ∷ h ∷ fields) s ds differ e = absurd (cc)

-- ---- the text

pub range_first : {P : Text → Type 0} (bare : Bool) (make : Interval → Option Data) → First P NumberOrRange → First P (RangeText bare make)
range_first false make h = first_means h
range_first true make h = first_then (first_means h)

pub range_begins : (bare : Bool) (make : Interval → Option Data) → First (λ s. opens_interval s ≡ true) (RangeText bare make)
range_begins bare make = range_first bare make interval_opens

pub part_range : {room step e : ℕ} {P : Data → Type 0} (bare : Bool) (make : Interval → Option Data) → ((s : Interval) (d : Data) → make s ≡ Some d → P d)
    → Part room step bare P (read_range bare make) (read_range bare make) (RangeText bare make) (After bare) e
part_range bare make k =
    part_plain bare (part_means make (λ s d _ e. k s d e) (part_word word_number_or_range (first_solid interval_solid) passes_number_or_range))

-- no range begins with a comma or nothing, before `)`
pub comma_no_span : {A : Type 0} (a : A) → Starts opens_interval false (OptComma a) (Before 41)
comma_no_span {A} a = record { at = go }
  where
    go : (t next : Text) (b : A) → OptComma a t next b → Before 41 next → skip (t ++ next) ≡ t ++ next → opens_interval (t ++ next) ≡ false
    go t next b (inl z) f n = rw z.0 refl
    go t next b (inr z) f n = rw (← n, z.0) (close_no_interval (skip next) f)
