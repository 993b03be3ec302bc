-- Each shape but raw texts, in texts of the same words, and all levels.
use Rattle.std.proofs.Common.{◌≡◌, ◌≤◌, ℕ, zero, suc, Bool, true, false, List, [], ◌∷◌, ◌++◌, length, Some, None, Option, refl, codes, arith, slice_get}
use Rattle.ron_spec_words.specs.Characters.{Text, colon, left_parenthesis, right_parenthesis, left_bracket, right_bracket, left_brace, right_brace}
use Rattle.ron_spec_words.specs.Lang.{Lang, done, Then, Means, Items, Group, Needs, WithComma}
use Rattle.ron_spec_words.specs.Exact.{Anything, Before as Before', FollowsValue}
use Rattle.ron_spec_words.specs.Name.{Named}
use Rattle.ron_spec_words.specs.Range.{Interval}
use Rattle.ron_spec_words.specs.AnyInteger.{AnyInteger}
use Rattle.ron_spec_words.proofs.Words.{First}
use Rattle.ron_spec_words.proofs.Exactly.{Opens, first_then, first_mark, stops_gap}
use Rattle.ron_spec_words.proofs.Names.{name_solid}
use Rattle.ron_spec_words.proofs.AnyIntegers.{any_integer_solid}
use Rattle.ron_spec_words.proofs.TokenRuns.{value_ends, token_name}
use Rattle.ron_spec_words.proofs.WordsPass.{plain_words}
use Rattle.ron_spec_words.proofs.Words.{first_means}
use Rattle.ron_spec_grammar.specs.Data.{Data, Datas, tuple_of, tuple_struct_of, tuple_variant_of}
use Rattle.ron_spec_grammar.specs.Schema.{Shape, FieldList, VariantShape, unit_variant, newtype_variant, tuple_variant, struct_variant, variant_named}
use Rattle.ron_spec_grammar.specs.Schema.{bool, int, char, str, bytes, unit, optional, unit_struct, seq, tuple, tuple_struct, map, newtype, struct, enum}
use Rattle.ron_spec_grammar.specs.Schema.{any_value, any_raw}
use Rattle.ron_spec_grammar.specs.Rule.{Extensions, Langs, Plain, WithoutName, Allowed, below}
use Rattle.ron_spec_grammar.specs.Grammar.{ShapeText, Rule, nothing_spelled, SpellsAt}
use Rattle.ron_spec_grammar.specs.Shapes.Range.{RangeText}
use Rattle.ron_spec_grammar.specs.Shapes.Bytes.{ByteItem}
use Rattle.ron_spec_grammar.specs.Shapes.Tuple.{AtShape, TupleItems, BareItems}
use Rattle.ron_spec_grammar.specs.Shapes.Map.{PairItem}
use Rattle.ron_spec_grammar.specs.Shapes.Option.{Content}
use Rattle.ron_spec_grammar.specs.Shapes.Struct.{Target, known, unknown, Item, struct_from, FieldValue, FieldItem, FieldItems}
use Rattle.ron_spec_grammar.specs.Shapes.Enum.{VariantText}
use Rattle.ron_spec_grammar.specs.Shapes.Newtype.{newtype_data, NewtypeText}
use Rattle.ron_spec_grammar.specs.Values.Grammar.{AnyBelow}
use Rattle.ron_spec_grammar.proofs.Rule.{After}
use Rattle.ron_spec_grammar.proofs.Room.{no_ranks}
use Rattle.ron_spec_grammar.proofs.Levels.{below_fit}
use Rattle.ron_format_words.specs.Alike.{nowhere}
use Rattle.ron_format_words.specs.Moves.{Moves}
use Rattle.ron_format_words.specs.Near.{MovesWord}
use Rattle.ron_format_words.proofs.Free.{stable_name}
use Rattle.ron_format_words.proofs.Near.{word_token, word_moves, word_means, word_before}
use Rattle.ron_format_words.proofs.Figures.{word_any_integer, word_number_or_range, EndsRun}
use Rattle.ron_format_words.proofs.Closed.{moves_mark, moves_fixed, moves_or, moves_then, moves_on, moves_items, moves_group}
use Rattle.ron_format_words.proofs.Inner.{moves_means, moves_needs, moves_nothing, moves_with_comma, moves_brackets, moves_opt_comma}
use Rattle.ron_format_laws.proofs.Words.{Onward, moves_unless, moves_tight}
use Rattle.ron_format_laws.proofs.Trees.{group_onward, kept, kept_any, moves_name, moves_char, moves_string, moves_byte_string, name_opening}

-- whether a comma may come or go behind it: not behind what is bare, which has its own
abbrev mode : (Text → Bool) → Bool → Text → Bool
mode commas false = commas
mode commas true = nowhere

abbrev KeptAt : (Text → Bool) → Bool → Lang Data → Lang Data → Type 0
KeptAt commas bare L M = Moves commas (mode commas bare) L M (After bare)

-- the shape is no raw text
abbrev NoRaw : Option Shape → Type 0
NoRaw o = o ≡ Some any_raw → ⊥

-- what shapes are owed
record KeptLangs (commas : Text → Bool) (schema : List Shape) (L : Langs) : Type 0 where
  pub at : (bare : Bool) (i : ℕ) (before instead : Text) → KeptAt commas bare (L bare i before) (L bare i instead)
  pub opens : (i : ℕ) (before : Text) → Opens (L false i before)

-- in parentheses
abbrev Round : {A : Type 0} → (Text → Lang A) → Lang A
Round = Group left_parenthesis right_parenthesis

module _ {commas : Text → Bool} where
  plain_kept : (bare : Bool) {L M : Lang Data} → Moves commas commas L M FollowsValue → KeptAt commas bare (Plain bare L) (Plain bare M)
  plain_kept false h = h
  plain_kept true h = moves_with_comma h

  named_word : {F : Text → Type 0} (name : Text) → MovesWord commas (Named name) F
  named_word name = word_means (word_token name_opening (λ t next a z f. token_name t next a z) stable_name)

  without_kept : {A : Type 0} (required : Bool) {m : Text → Bool} {L M : Lang A} {F : Text → Type 0} → Moves commas m L M F
      → Moves commas m (WithoutName required L) (WithoutName required M) F
  without_kept false h = h
  without_kept true h = moves_nothing

  allowed_kept : {A : Type 0} (allow : Bool) {m : Text → Bool} {L M : Lang A} {F : Text → Type 0} → Moves commas m L M F
      → Moves commas m (Allowed allow L) (Allowed allow M) F
  allowed_kept false h = moves_nothing
  allowed_kept true h = h

  range_kept : (bare : Bool) (make : Interval → Option Data) → KeptAt commas bare (RangeText bare make) (RangeText bare make)
  range_kept bare make = plain_kept bare (moves_means (word_moves word_number_or_range))

  integer_kept : {B : Type 0} (f : _ → Option B) → Moves commas commas (Means AnyInteger f) (Means AnyInteger f) FollowsValue
  integer_kept f = moves_means (word_moves (word_before EndsRun FollowsValue value_ends word_any_integer))

  below_any : (unwrap : Bool) (room k : ℕ) (before instead : Text)
      → Moves commas commas (AnyBelow unwrap room k before) (AnyBelow unwrap room k instead) FollowsValue
  unfolding AnyBelow
  below_any unwrap room k before instead = (kept unwrap room k).plain before instead

  module _ (schema : List Shape) (L : Langs) (h : KeptLangs commas schema L) where
    content_kept : (unwrap : Bool) (j : ℕ) (gap instead : Text)
        → Moves commas nowhere (Content unwrap L j gap) (Content unwrap L j instead) (Before' right_parenthesis)
    content_kept false j gap instead = moves_with_comma (h.at false j gap instead)
    content_kept true j gap instead = h.at true j gap instead

    at_shape_kept : (o : Option ℕ) (gap instead : Text) → Moves commas commas (AtShape L o gap) (AtShape L o instead) FollowsValue
    at_shape_kept None gap instead = moves_nothing
    at_shape_kept (Some j) gap instead = h.at false j gap instead

    at_shape_opens : (o : Option ℕ) (gap : Text) → Opens (AtShape L o gap)
    at_shape_opens None gap = record { holds = λ t next d z. absurd z }
    at_shape_opens (Some j) gap = h.opens j gap

    tuple_kept : (make : Datas → Data) (js : List ℕ) (gap instead : Text)
        → Moves commas nowhere (TupleItems make js L gap) (TupleItems make js L instead) (Before' right_parenthesis)
    tuple_kept make js gap instead = moves_means (moves_items item item right_parenthesis refl refl (λ seen g. at_shape_opens (slice_get js (length seen)) g)
        (λ seen g o. at_shape_kept (slice_get js (length seen)) g o) gap instead)
      where
        item : List Data → Text → Lang Data
        item seen = AtShape L (slice_get js (length seen))

    bare_kept : (make : Datas → Data) (js : List ℕ) (gap instead : Text)
        → Moves commas nowhere (BareItems make js L gap) (BareItems make js L instead) (Before' right_parenthesis)
    bare_kept make [] gap instead = moves_opt_comma _
    bare_kept make (j ∷ js) gap instead = tuple_kept make (j ∷ js) gap instead

    pair_kept : (k v : ℕ) (gap instead : Text) → Moves commas commas (PairItem k v L gap) (PairItem k v L instead) FollowsValue
    pair_kept k v gap instead = moves_on {F = FollowsValue} (h.at false k gap instead)
        (λ key _ _. moves_then {F = Anything} (moves_mark colon done refl refl) (λ _ g o. moves_means (h.at false v g o)) (λ _ _ _ _ _ _ _ _. tt))
        (λ a g right next b l z f. stops_gap g (right ++ next) l (rw (z.split, z.first.0) refl))
        (λ n g right next b z. (first_then (first_mark Onward colon done (λ s. (refl, refl)))).holds right next b z)

    field_kept : (unwrap : Bool) (room k : ℕ) (t : Target) (gap instead : Text)
        → Moves commas commas (FieldValue L (AnyBelow unwrap room k) gap t) (FieldValue L (AnyBelow unwrap room k) instead t) FollowsValue
    field_kept unwrap room k (known f) gap instead = moves_means (h.at false f.shape gap instead)
    field_kept unwrap room k (unknown name) gap instead = moves_means (below_any unwrap room k gap instead)

    item_kept : (unwrap : Bool) (room k : ℕ) (list : FieldList) (seen : List Item)
        → Moves commas commas (FieldItem list L (AnyBelow unwrap room k) seen) (FieldItem list L (AnyBelow unwrap room k) seen) FollowsValue
    item_kept unwrap room k list seen = moves_on {F = Anything} (moves_means moves_name)
        (λ t _ _. moves_then {F = Anything} (moves_mark colon done refl refl) (λ _ g o. field_kept unwrap room k t g o) (λ _ _ _ _ _ _ _ _. tt))
        (λ _ _ _ _ _ _ _ _. tt) (λ n g right next b z. (first_then (first_mark Onward colon done (λ s. (refl, refl)))).holds right next b z)

    fields_kept : {A : Type 0} (unwrap : Bool) (room k : ℕ) (list : FieldList) (f : List Item → Option A) (gap instead : Text)
        → Moves commas nowhere (Means (Items (λ seen _. FieldItem list L (AnyBelow unwrap room k) seen) gap) f)
        (Means (Items (λ seen _. FieldItem list L (AnyBelow unwrap room k) seen) instead) f) (Before' right_parenthesis)
    fields_kept unwrap room k list f gap instead = moves_means (moves_items item item right_parenthesis refl refl (λ _ _. first_then (first_means name_solid))
        (λ seen _ _. item_kept unwrap room k list seen) gap instead)
      where
        item : List Item → Text → Lang Item
        item seen _ = FieldItem list L (AnyBelow unwrap room k) seen

    round_kept : {F : Text → Type 0} (make : Datas → Data) (js : List ℕ) (room : ℕ)
        → Moves commas commas (Round (λ gap. Needs 1 room (TupleItems make js L gap))) (Round (λ gap. Needs 1 room (TupleItems make js L gap))) F
    round_kept make js room = moves_group left_parenthesis right_parenthesis refl refl refl (λ g o. moves_needs (tuple_kept make js g o))

  -- behind a name and a gap, a group
  behind_name : {A B : Type 0} {N : Lang A} {F : Text → Type 0} (M : Text → Lang B) {f : B → Option Data} → MovesWord commas N Anything
      → Moves commas commas (Means (Round M) f) (Means (Round M) f) F
      → Moves commas commas (Then N (λ _ _. Means (Round M) f)) (Then N (λ _ _. Means (Round M) f)) F
  behind_name M w h = moves_on {F = Anything} (word_moves w) (λ _ _ _. h) (λ _ _ _ _ _ _ _ _. tt)
      (λ _ g right next b z. (group_onward right_parenthesis M).holds right next z.value z.spelled)

  behind_name_alone : {A : Type 0} {N : Lang A} {F : Text → Type 0} (M : Text → Lang Data) → MovesWord commas N Anything
      → Moves commas commas (Group left_parenthesis right_parenthesis M) (Group left_parenthesis right_parenthesis M) F
      → Moves commas commas (Then N (λ _ _. Group left_parenthesis right_parenthesis M)) (Then N (λ _ _. Group left_parenthesis right_parenthesis M)) F
  behind_name_alone M w h = moves_on {F = Anything} (word_moves w) (λ _ _ _. h) (λ _ _ _ _ _ _ _ _. tt)
      (λ _ g right next b z. (group_onward right_parenthesis M).holds right next b z)

-- ---- variants

module _ {commas : Text → Bool} (schema : List Shape) (x : Extensions) (enum_name : Text) (room : ℕ) (L : ℕ → Langs)
    (h : (k : ℕ) → KeptLangs commas schema (L k)) where
  variant_kept : (v : Text) (o : Option VariantShape)
      → Moves commas commas (VariantText x enum_name v room L o) (VariantText x enum_name v room L o) FollowsValue
  variant_kept v None = moves_nothing
  variant_kept v (Some unit_variant) = moves_nothing
  variant_kept v (Some (newtype_variant j)) =
      moves_means (moves_group left_parenthesis right_parenthesis refl refl refl (λ g o. content_kept schema (L 1) (h 1) x.unwrap_variant_newtypes j g o))
  variant_kept v (Some (tuple_variant js)) =
      moves_group left_parenthesis right_parenthesis refl refl refl (λ g o. tuple_kept schema (L 2) (h 2) (tuple_variant_of enum_name v) js g o)
  variant_kept v (Some (struct_variant list)) =
      moves_group left_parenthesis right_parenthesis refl refl refl (λ g o. fields_kept schema (L 2) (h 2) x.unwrap_variant_newtypes room 2 list _ g o)

  variant_onward : (v : Text) (o : Option VariantShape) → First Onward (VariantText x enum_name v room L o)
  variant_onward v None = record { holds = λ t next d z. absurd z }
  variant_onward v (Some unit_variant) = record { holds = λ t next d z. absurd z }
  variant_onward v (Some (newtype_variant j)) = first_means (group_onward right_parenthesis _)
  variant_onward v (Some (tuple_variant js)) = group_onward right_parenthesis _
  variant_onward v (Some (struct_variant list)) = group_onward right_parenthesis _

byte_opens : (room : ℕ) → Opens (ByteItem room)
byte_opens room = record { holds = λ t next b z. any_integer_solid.holds t next z.1.value z.1.spelled }

-- ---- each shape

module _ {commas : Text → Bool} (x : Extensions) (schema : List Shape) where
  byte_kept : (room : ℕ) → Moves commas commas (ByteItem room) (ByteItem room) FollowsValue
  byte_kept room = moves_needs (integer_kept _)

  shape_kept : (room : ℕ) (L : ℕ → Bool → Langs) → ((k : ℕ) (b : Bool) → KeptLangs commas schema (L k b))
      → (at_start bare : Bool) (before instead : Text) (o : Option Shape) → NoRaw o
      → KeptAt commas bare (ShapeText x schema room L at_start bare before o) (ShapeText x schema room L at_start bare instead o)
  shape_kept room L h at_start bare before instead None n = moves_nothing
  shape_kept room L h at_start bare before instead (Some bool) n =
      plain_kept bare (moves_means (moves_or (moves_fixed (codes "true") true plain_words.0) (moves_fixed (codes "false") false plain_words.1)))
  shape_kept room L h at_start bare before instead (Some (int w)) n = plain_kept bare (integer_kept _)
  shape_kept room L h at_start bare before instead (Some char) n = plain_kept bare (moves_means moves_char)
  shape_kept room L h at_start bare before instead (Some str) n = plain_kept bare (moves_means moves_string)
  shape_kept room L h at_start bare before instead (Some bytes) n = plain_kept bare (moves_or
      (moves_group left_bracket right_bracket refl refl refl (λ g o. moves_needs
      (moves_means (moves_items (λ _ _. ByteItem room) (λ _ _. ByteItem room) right_bracket refl refl (λ _ _. byte_opens room) (λ _ _ _. byte_kept room) g o))))
      (moves_means moves_byte_string))
  shape_kept room L h at_start false before instead (Some unit) n = moves_means (moves_brackets done)
  shape_kept room L h at_start true before instead (Some unit) n = moves_means (moves_opt_comma done)
  shape_kept room L h at_start bare before instead (Some (optional j)) n =
      moves_or (plain_kept bare (moves_means (moves_fixed (codes "None") done plain_words.2)))
      (moves_or (plain_kept bare (moves_on {F = Anything} (moves_fixed (codes "Some") done plain_words.3)
      (λ _ _ _. moves_means
      (moves_group left_parenthesis right_parenthesis refl refl refl (λ g o. content_kept schema (L 0 false) (h 0 false) x.unwrap_variant_newtypes j g o)))
      (λ _ _ _ _ _ _ _ _. tt)
      (λ _ g right next b z. (group_onward right_parenthesis (Content x.unwrap_variant_newtypes (L 0 false) j)).holds right next z.value z.spelled)))
      (moves_unless (allowed_kept x.implicit_some (moves_means ((h 0 at_start).at bare j before instead)))))
  shape_kept room L h at_start false before instead (Some (unit_struct name)) n =
      moves_or (range_kept false _)
      (moves_or (without_kept x.explicit_struct_names (moves_means (moves_brackets done))) (moves_means (word_moves (named_word name))))
  shape_kept room L h at_start true before instead (Some (unit_struct name)) n = moves_or (range_kept true _) (moves_means (moves_opt_comma done))
  shape_kept room L h at_start bare before instead (Some (seq j)) n =
      plain_kept bare (moves_group left_bracket right_bracket refl refl refl (λ g o.
      moves_needs (moves_means (moves_items item item right_bracket refl refl (λ _ gap. (h 1 false).opens j gap) (λ _ a b. (h 1 false).at false j a b) g o))))
    where
      item : List Data → Text → Lang Data
      item _ gap = L 1 false false j gap
  shape_kept room L h at_start false before instead (Some (tuple js)) n = round_kept schema (L 1 false) (h 1 false) tuple_of js room
  shape_kept room L h at_start true before instead (Some (tuple js)) n = moves_needs (bare_kept schema (L 1 false) (h 1 false) tuple_of js before instead)
  shape_kept room L h at_start false before instead (Some (tuple_struct name js)) n =
      moves_or (without_kept x.explicit_struct_names (round_kept schema (L 1 false) (h 1 false) (tuple_struct_of name) js room))
      (moves_tight (named_word name) (round_kept schema (L 1 false) (h 1 false) (tuple_struct_of name) js room)
      (first_then (first_mark _ left_parenthesis done (λ s. refl))))
  shape_kept room L h at_start true before instead (Some (tuple_struct name js)) n =
      moves_needs (bare_kept schema (L 1 false) (h 1 false) (tuple_struct_of name) js before instead)
  shape_kept room L h at_start bare before instead (Some (map k v)) n =
      plain_kept bare (moves_group left_brace right_brace refl refl refl
      (λ g o. moves_needs (moves_means (moves_items item item right_brace refl refl (λ _ gap. first_then ((h 1 false).opens k gap))
      (λ _ a b. pair_kept schema (L 1 false) (h 1 false) k v a b) g o))))
    where
      item : List (Data × Data) → Text → Lang (Data × Data)
      item _ gap = PairItem k v (L 1 false) gap
  shape_kept room L h at_start bare before instead (Some (newtype name j)) n = newtype_kept x.unwrap_newtypes bare
    where
      wrapped : {F : Text → Type 0} → Moves commas commas (Means (Round (λ gap. WithComma (L 0 false false j gap))) (newtype_data name))
          (Means (Round (λ gap. WithComma (L 0 false false j gap))) (newtype_data name)) F
      wrapped = moves_means (moves_group left_parenthesis right_parenthesis refl refl refl (λ g o. moves_with_comma ((h 0 false).at false j g o)))

      newtype_kept : (unwrap bare : Bool)
          → KeptAt commas bare (NewtypeText x.explicit_struct_names unwrap name j (λ k. L k false) (L 0 at_start) bare before)
          (NewtypeText x.explicit_struct_names unwrap name j (λ k. L k false) (L 0 at_start) bare instead)
      newtype_kept unwrap true = moves_with_comma (moves_means ((h 0 at_start).at false j before instead))
      newtype_kept true false = moves_means ((h 0 at_start).at false j before instead)
      newtype_kept false false =
          moves_or (without_kept x.explicit_struct_names wrapped) (behind_name (λ gap. WithComma (L 0 false false j gap)) (named_word name) wrapped)
  shape_kept room L h at_start false before instead (Some (struct name list)) n =
      moves_or (range_kept false _) (moves_or (without_kept x.explicit_struct_names fields) (behind_name_alone inside_them (named_word name) fields))
    where
      inside_them : Text → Lang Data
      inside_them gap = Needs 1 room (FieldItems name list (L 1 false) (AnyBelow x.unwrap_variant_newtypes room 1) gap)

      fields : {F : Text → Type 0}
          → Moves commas commas (Group left_parenthesis right_parenthesis inside_them) (Group left_parenthesis right_parenthesis inside_them) F
      fields = moves_group left_parenthesis right_parenthesis refl refl refl
          (λ a b. moves_needs (fields_kept schema (L 1 false) (h 1 false) x.unwrap_variant_newtypes room 1 list (struct_from name list.fields) a b))
  shape_kept room L h at_start true before instead (Some (struct name list)) n =
      moves_or (range_kept true _) (moves_needs (fields_kept schema (L 1 false) (h 1 false) x.unwrap_variant_newtypes room 1 list _ before instead))
  shape_kept room L h at_start bare before instead (Some (enum name variants)) n =
      plain_kept bare (moves_needs (moves_or (moves_means moves_name)
      (moves_on {F = Anything} (moves_means moves_name)
      (λ v _ _. variant_kept schema x name room (λ k. L k false) (λ k. h k false) v (variant_named v variants))
      (λ _ _ _ _ _ _ _ _. tt)
      (λ v g right next b z. (variant_onward schema x name room (λ k. L k false) (λ k. h k false) v (variant_named v variants)).holds right next b z))))
  shape_kept room L h at_start false before instead (Some any_value) n = moves_means ((kept_any x.unwrap_variant_newtypes room).plain before instead)
  shape_kept room L h at_start true before instead (Some any_value) n = moves_means ((kept_any x.unwrap_variant_newtypes room).bare before instead)
  shape_kept room L h at_start bare before instead (Some any_raw) n = absurd (n refl)

  -- ---- all levels

  module _ (rawless : (i : ℕ) → NoRaw (slice_get schema i)) where
    langs_kept : (n k : ℕ) (b : Bool) → KeptLangs commas schema (below (Rule x schema) nothing_spelled n k b)
    langs_kept zero k b = record { at = λ bare i before instead. moves_nothing; opens = λ i before. record { holds = λ t next d z. absurd z } }
    langs_kept (suc n) zero b = record {
      at = λ bare i before instead.
          shape_kept n (below (Rule x schema) nothing_spelled n) (λ k c. langs_kept n k c) b bare before instead (slice_get schema i) (rawless i);
      opens = (below_fit x schema (no_ranks schema (suc n)) (suc n) (suc n) zero (most (suc n)) (most (suc n)) b).opens;
    }
      where
        most : (m : ℕ) → m ≤ m
        most m = omega arith
    langs_kept (suc n) (suc k) b = langs_kept n k b

    pub spells_kept : (at_start : Bool) (room i : ℕ) (before instead : Text)
        → Moves commas commas (SpellsAt at_start x schema room false i before) (SpellsAt at_start x schema room false i instead) FollowsValue
    unfolding SpellsAt
    spells_kept at_start room i before instead =
        shape_kept room (below (Rule x schema) nothing_spelled room) (λ k c. langs_kept room k c) at_start false before instead (slice_get schema i) (rawless i)
