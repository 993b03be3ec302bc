-- All shapes agree, by an induction on the room: for `Agreement.Laws`.
use Rattle.std.proofs.Common.{◌≡◌, ℕ, zero, suc, ◌++◌, Bool, true, false, List, [], ◌∷◌, codes, Option, Some, None, slice_get, refl, sym, ap, ◌∙◌, arith}
use Rattle.std.specs.List.{list_all}
use Rattle.ron_spec_words.specs.Characters.{Text, left_parenthesis, left_bracket}
use Rattle.ron_spec_words.specs.Runs.{is_at}
use Rattle.ron_spec_words.specs.Lang.{Lang, done, Group}
use Rattle.ron_spec_words.specs.Exact.{FollowsValue}
use Rattle.ron_spec_words.specs.Lookahead.{opens_field}
use Rattle.ron_spec_words.proofs.Words.{First, first_means}
use Rattle.ron_spec_words.proofs.Exactly.{first_then, first_mark}
use Rattle.ron_spec_words.proofs.AnyIntegers.{any_integer_solid}
use Rattle.ron_spec_words.proofs.UntypedWords.{no_field, unnamed_string, unnamed_byte_string, unnamed_any_integer}
use Rattle.ron_base.specs.Extensions.{no_extensions}
use Rattle.ron_value.specs.Tree.{Tree}
use Rattle.ron_spec_grammar.specs.Data.{tuple_struct_of}
use Rattle.ron_spec_grammar.specs.Schema.{Shape, bool, int, char, str, bytes, unit, optional, unit_struct, seq, tuple, tuple_struct, map, newtype, struct, enum}
use Rattle.ron_spec_grammar.specs.Schema.{any_value, any_raw}
use Rattle.ron_spec_grammar.specs.Rule.{Langs, NoGap, inside, below}
use Rattle.ron_spec_grammar.specs.Shapes.Tuple.{TupleGroup}
use Rattle.ron_spec_grammar.specs.Shapes.Range.{range_data}
use Rattle.ron_spec_grammar.specs.Grammar.{ShapeText, Rule, nothing_spelled, SpellsAt}
use Rattle.ron_spec_grammar.specs.Values.Grammar.{Values, OneValue, ValueRule, no_value, AnySpells, AnyBelow}
use Rattle.ron_spec_grammar.specs.Agreement.{agrees}
use Rattle.ron_spec_grammar.proofs.Finding.{all_get}
use Rattle.ron_spec_grammar.proofs.Room.{no_ranks}
use Rattle.ron_spec_grammar.proofs.Levels.{below_fit}
use Rattle.ron_spec_grammar.proofs.Values.Grammar.{below_fit as value_below_fit}
use Rattle.ron_spec_grammar.proofs.Values.Place.{unique}
use Rattle.ron_spec_grammar.proofs.Values.Forms.{marks_unnamed, char_unnamed, fixed_unnamed, bracket_unnamed, value_words}
use Rattle.ron_spec_grammar.proofs.Values.Telling.{Starts, starts_first, starts_or, starts_means, NoColon}
use Rattle.ron_spec_grammar.proofs.Shapes.Units.{first_empty}
use Rattle.ron_spec_grammar.proofs.Agreement.Agree.{Agree, agree_map, agree_left}
use Rattle.ron_spec_grammar.proofs.Agreement.Forms.{named_unnamed}
use Rattle.ron_spec_grammar.proofs.Agreement.Leaves.{Becomes, OneOf, agree_bool, agree_char, agree_str, agree_byte_string, agree_unit, agree_none, agree_int}
use Rattle.ron_spec_grammar.proofs.Agreement.Leaves.{agree_byte, agree_interval}
use Rattle.ron_spec_grammar.proofs.Agreement.Groups.{Deeper, agree_seq, agree_byte_list, agree_some}
use Rattle.ron_spec_grammar.proofs.Agreement.Tuples.{agree_tuple, agree_tuple_struct}
use Rattle.ron_spec_grammar.proofs.Agreement.Named.{agree_unit_struct}
use Rattle.ron_spec_grammar.proofs.Agreement.RangeStructs.{range_becomes}
use Rattle.ron_spec_grammar.proofs.Agreement.Structs.{agree_struct}
use Rattle.ron_spec_grammar.proofs.Raw.Moves.{bracket_first}
use Rattle.ron_spec_words.proofs.Ranges.{unnamed_interval}

nothing_agrees : {A B : Type 0} {M : Lang B} {F : Text → Type 0} {R : A → B → Type 0} {L : Lang A} → ((t next : Text) (a : A) → L t next a → ⊥) → Agree L M F R
nothing_agrees k = record { at = λ t next u other a b e s n z. absurd (k t next a z) }

-- ---- where no field begins

round_unnamed : {A : Type 0} {M : Text → Lang A} → Starts opens_field false (Group 40 41 M) NoColon
round_unnamed = starts_first NoColon (no_field (first_then (first_mark _ left_parenthesis done marks_unnamed.2)))

square_unnamed : {A : Type 0} {M : Text → Lang A} → Starts opens_field false (Group 91 93 M) NoColon
square_unnamed = starts_first NoColon (no_field (first_then (first_mark _ left_bracket done marks_unnamed.0)))

-- a shape begins no field, unless a colon follows
shape_unnamed : (schema : List Shape) (room : ℕ) (sub : ℕ → Bool → Langs) (at_start : Bool) (before : Text) (o : Option Shape)
    → ((s : Shape) → o ≡ Some s → agrees s ≡ true) → Starts opens_field false (ShapeText no_extensions schema room sub at_start false before o) NoColon
shape_unnamed schema room sub at_start before None p = record { at = λ t next d z. absurd z }
shape_unnamed schema room sub at_start before (Some bool) p =
    starts_means (starts_or (fixed_unnamed (codes "true") true value_words.0) (fixed_unnamed (codes "false") false value_words.1))
shape_unnamed schema room sub at_start before (Some (int w)) p = starts_means (starts_first NoColon (no_field unnamed_any_integer))
shape_unnamed schema room sub at_start before (Some char) p = starts_means char_unnamed
shape_unnamed schema room sub at_start before (Some str) p = starts_means (starts_first NoColon (no_field unnamed_string))
shape_unnamed schema room sub at_start before (Some bytes) p = starts_or square_unnamed (starts_means (starts_first NoColon (no_field unnamed_byte_string)))
shape_unnamed schema room sub at_start before (Some unit) p = starts_means (starts_first NoColon (no_field (first_empty _ marks_unnamed.2)))
shape_unnamed schema room sub at_start before (Some (optional j)) p = starts_or (starts_means (fixed_unnamed (codes "None") done value_words.2)) (starts_or
    (bracket_unnamed (fixed_unnamed (codes "Some") done value_words.3) (λ _ _. first_means bracket_first)) (record { at = λ t next d z. absurd z.1 }))
shape_unnamed schema room sub at_start before (Some (unit_struct name)) p = starts_or (starts_means (starts_first NoColon (no_field unnamed_interval)))
    (starts_or (starts_means (starts_first NoColon (no_field (first_empty _ marks_unnamed.2)))) (starts_means (named_unnamed name)))
shape_unnamed schema room sub at_start before (Some (seq j)) p = square_unnamed
shape_unnamed schema room sub at_start before (Some (tuple js)) p = round_unnamed
shape_unnamed schema room sub at_start before (Some (tuple_struct name js)) p =
    starts_or round_unnamed (bracket_unnamed (named_unnamed name) (λ _ gap. directly gap))
  where
    directly : (gap : Text) → First (λ s. is_at 40 s ≡ true) (NoGap gap (TupleGroup (tuple_struct_of name) js room (inside sub)))
    directly [] = bracket_first
    directly (c ∷ gap) = record { holds = λ t next d z. absurd z }
shape_unnamed schema room sub at_start before (Some (map k v)) p = absurd (let x = p (map k v) refl in cc)
shape_unnamed schema room sub at_start before (Some (newtype name j)) p = absurd (let x = p (newtype name j) refl in cc)
shape_unnamed schema room sub at_start before (Some (struct name list)) p = starts_or (starts_means (starts_first NoColon (no_field unnamed_interval)))
    (starts_or round_unnamed (bracket_unnamed (named_unnamed name) (λ _ _. bracket_first)))
shape_unnamed schema room sub at_start before (Some (enum name variants)) p = absurd (let x = p (enum name variants) refl in cc)
shape_unnamed schema room sub at_start before (Some any_value) p = absurd (let x = p any_value refl in cc)
shape_unnamed schema room sub at_start before (Some any_raw) p = absurd (let x = p any_raw refl in cc)

-- ---- one level

module _ (schema : List Shape) (m room : ℕ) (sub : ℕ → Bool → Langs) (V : ℕ → Values) (h : (k l : ℕ) → Deeper schema (sub k false) (V l))
    (unknown : (l : ℕ) (gap : Text) → Agree (AnyBelow false room 1 gap) (V l false gap) FollowsValue (λ _ _. Unit {0}))
    (same : Agree (OneOf m V) (OneOf m V) FollowsValue (λ a b. a ≡ b)) (at_start : Bool) (i : ℕ) (before : Text) where
  shape_agrees : (o : Option Shape) → slice_get schema i ≡ o → ((s : Shape) → o ≡ Some s → agrees s ≡ true)
      → Agree (ShapeText no_extensions schema room sub at_start false before o) (OneValue false m V) FollowsValue (Becomes schema i)
  shape_agrees None s p = nothing_agrees (λ t next a z. z)
  shape_agrees (Some bool) s p = agree_bool m V schema i same s
  shape_agrees (Some (int w)) s p = agree_int m V schema i w s
  shape_agrees (Some char) s p = agree_char m V schema i same s
  shape_agrees (Some str) s p = agree_str m V schema i same s
  shape_agrees (Some bytes) s p = agree_left (agree_byte_list schema m V (sub 0 false) (h 0 1) i room s) (agree_byte_string m V schema i same s)
  shape_agrees (Some unit) s p = agree_unit m V schema i same s
  shape_agrees (Some (optional j)) s p =
      agree_left (agree_none m V schema i same j s) (agree_left (agree_some schema m V (sub 0 false) (h 0 0) i j s) (nothing_agrees (λ t next a z. z.1)))
  shape_agrees (Some (unit_struct name)) s p = agree_unit_struct m V schema i same name s
  shape_agrees (Some (seq j)) s p = agree_seq schema m V (sub 1 false) (h 1 1) i j room s
  shape_agrees (Some (tuple js)) s p = agree_tuple schema m room (sub 1 false) V (λ k. h 1 k) js i s
  shape_agrees (Some (tuple_struct name js)) s p = agree_tuple_struct schema m room (sub 1 false) V (λ k. h 1 k) js i name s
  shape_agrees (Some (map k v)) s p = absurd (let x = p (map k v) refl in cc)
  shape_agrees (Some (newtype name j)) s p = absurd (let x = p (newtype name j) refl in cc)
  shape_agrees (Some (struct name list)) s p =
      agree_left (agree_interval m V (range_data schema name list.fields) (Becomes schema i) (range_becomes schema name list i s (p (struct name list) refl)))
      (agree_struct schema m room (sub 1 false) V (λ k. h 1 k) (AnyBelow false room 1) unknown name list i s)
  shape_agrees (Some (enum name variants)) s p = absurd (let x = p (enum name variants) refl in cc)
  shape_agrees (Some any_value) s p = absurd (let x = p any_value refl in cc)
  shape_agrees (Some any_raw) s p = absurd (let x = p any_raw refl in cc)

-- ---- values without a schema at any level

abbrev ValueAt : ℕ → ℕ → Values
ValueAt = below (ValueRule false) no_value

cancel : (s a b : Text) → s ++ a ≡ s ++ b → a ≡ b
cancel [] a b e = e
cancel (c ∷ s) a b e = cancel s a b (cc)

spelled_at : (n k : ℕ) (before t next : Text) (v : Tree) → ValueAt n k false before t next v → (p : ℕ) × AnySpells false p false before t next v
unfolding AnySpells
spelled_at zero k before t next v z = absurd z
spelled_at (suc n) zero before t next v z = (n, z)
spelled_at (suc n) (suc k) before t next v z = spelled_at n k before t next v z

values_same : (n k m l : ℕ) (before : Text) → Agree (ValueAt n k false before) (ValueAt m l false before) FollowsValue (λ a b. a ≡ b)
values_same n k m l before = record {
  at = λ t next u other a b e _ _ z f y g.
      let p = spelled_at n k before t next a z in
      let q = spelled_at m l before u other b y in
      let w = unique false p.0 q.0 before t next u other a b e p.1 f q.1 g in
      (cancel t next other (e ∙ ap (λ v. v ++ other) (sym w.0)), w.1);
}

unknown_same : (room m l : ℕ) (gap : Text) → Agree (AnyBelow false room 1 gap) (ValueAt m l false gap) FollowsValue (λ _ _. Unit {0})
unfolding AnyBelow
unknown_same room m l gap = agree_map (λ _ _ _. tt) (values_same room 1 m l gap)

one_same : (m : ℕ) → Agree (OneOf m (ValueAt m)) (OneOf m (ValueAt m)) FollowsValue (λ a b. a ≡ b)
unfolding AnySpells
one_same m = values_same (suc m) 0 (suc m) 0 []

by_value : {A : Type 0} {L : Lang A} {F : Text → Type 0} {R : A → Tree → Type 0} → ((m : ℕ) → Agree L (OneValue false m (ValueAt m)) F R)
    → (m l : ℕ) (before : Text) → Agree L (ValueAt m l false before) F R
by_value h zero l before = record { at = λ t next u other a b e s n z f y. absurd y }
by_value h (suc m) zero before = h m
by_value h (suc m) (suc l) before = by_value h m l before

-- ---- all levels

module _ (schema : List Shape) (all : list_all agrees schema ≡ true) where
  abbrev ShapeAt : ℕ → ℕ → Bool → Langs
  ShapeAt = below (Rule no_extensions schema) nothing_spelled

  shape_at : (i : ℕ) (s : Shape) → slice_get schema i ≡ Some s → agrees s ≡ true
  shape_at i s e = all_get agrees schema i s all e

  unnamed_at : (n k : ℕ) (at_start : Bool) (j : ℕ) (before : Text) → Starts opens_field false (ShapeAt n k at_start false j before) NoColon
  unnamed_at zero k at_start j before = record { at = λ t next d z. absurd z }
  unnamed_at (suc n) zero at_start j before = shape_unnamed schema n (ShapeAt n) at_start before (slice_get schema j) (λ s e. shape_at j s e)
  unnamed_at (suc n) (suc k) at_start j before = unnamed_at n k at_start j before

  deeper : (n k m l : ℕ) → ((j : ℕ) (before : Text) → Agree (ShapeAt n k false false j before) (ValueAt m l false before) FollowsValue (Becomes schema j))
      → Deeper schema (ShapeAt n k false) (ValueAt m l)
  deeper n k m l h = record {
    agree = h;
    byte = λ room before. by_value (λ m. agree_byte m (ValueAt m) room) m l before;
    byte_opens = λ room. record { holds = λ t next a z. (first_means any_integer_solid).holds t next a z.1 };
    opens = λ j before. (below_fit no_extensions schema (no_ranks schema n) n n k (omega arith) (omega arith) false).opens j before;
    unnamed = unnamed_at n k false;
    value_opens = λ before. (value_below_fit {step = 6} (omega arith) false m m l (omega arith)).opens before;
    value_unnamed = λ before. (value_below_fit {step = 6} (omega arith) false m m l (omega arith)).unnamed before;
  }

  typed : (n k m l : ℕ) (at_start : Bool) (j : ℕ) (before : Text)
      → Agree (ShapeAt n k at_start false j before) (ValueAt m l false before) FollowsValue (Becomes schema j)
  typed zero k m l at_start j before = nothing_agrees (λ t next a z. z)
  typed (suc n) zero m l at_start j before =
      by_value (λ m. shape_agrees schema m n (ShapeAt n) (ValueAt m) (λ k l. deeper n k m l (λ j before. typed n k m l false j before))
      (λ l gap. unknown_same n m l gap) (one_same m) at_start j before (slice_get schema j) refl (λ s e. shape_at j s e)) m l before
  typed (suc n) (suc k) m l at_start j before = typed n k m l at_start j before

  pub spells_agree : (at_start : Bool) (n m j : ℕ) (before : Text)
      → Agree (SpellsAt at_start no_extensions schema n false j before) (AnySpells false m false before) FollowsValue (Becomes schema j)
  unfolding SpellsAt AnySpells
  spells_agree at_start n m j before = typed (suc n) 0 (suc m) 0 at_start j before
