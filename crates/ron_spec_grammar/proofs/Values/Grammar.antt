-- Values without a schema are read exactly: one expression for each form, and an induction on the room.
use Rattle.std.proofs.Common.{◌≡◌, ℕ, zero, suc, ◌+◌, ◌≤◌, ◌==◌, Bool, true, false, not, ◌++◌, codes, Some, encode_utf8_all, refl, subst, arith, eqb-true}
use Rattle.std.proofs.Common.{eq-eqb}
use Rattle.ron_spec_words.specs.Characters.{Text, left_parenthesis, right_parenthesis, left_bracket, right_bracket, left_brace, right_brace}
use Rattle.ron_spec_words.specs.Runs.{is_at, begins_with}
use Rattle.ron_spec_words.specs.Lang.{Lang, done, Then, Means, Or, When}
use Rattle.ron_spec_words.specs.Reader.{Reader, means, pick}
use Rattle.ron_spec_words.specs.Exact.{Before, FollowsValue}
use Rattle.ron_spec_words.specs.Directly.{FixedWord, stands, fixed_word}
use Rattle.ron_spec_words.specs.Name.{UntypedName, untyped_name}
use Rattle.ron_spec_words.specs.Lookahead.{opens_field, opens_named_group, holds_several}
use Rattle.ron_spec_words.proofs.Words.{First, first_means, first_or, first_when}
use Rattle.ron_spec_words.proofs.Direct.{word_fixed, first_weaker}
use Rattle.ron_spec_words.proofs.Classes.{Solid, solid_mark, first_solid}
use Rattle.ron_spec_words.proofs.Names.{word_untyped_name, untyped_name_solid}
use Rattle.ron_spec_words.proofs.Exactly.{Opens, first_then, first_mark}
use Rattle.ron_spec_words.proofs.Quotes.{word_char}
use Rattle.ron_spec_words.proofs.RawStrings.{word_string, word_byte_string}
use Rattle.ron_spec_words.proofs.Ranges.{word_number_or_range, interval_solid, passes_number_or_range, unnamed_interval}
use Rattle.ron_spec_words.proofs.Values.{AnyValue}
use Rattle.ron_spec_words.proofs.TokenRuns.{is_plain_run}
use Rattle.ron_spec_words.proofs.WordsPass.{passes_fixed, plain_words, passes_char, passes_string, passes_byte_string, passes_untyped_name}
use Rattle.ron_spec_words.proofs.Lookahead.{one_not_several, first_leads}
use Rattle.ron_spec_words.proofs.UntypedWords.{no_field, unnamed_string, unnamed_byte_string, true_no_name, false_no_name, none_no_name, some_no_name}
use Rattle.ron_spec_words.proofs.Parts.{Part, part_more, part_word, part_means, part_needs, part_behind, part_choose, part_with_comma, part_group, part_deep}
use Rattle.ron_spec_words.proofs.Parts.{part_below, part_none}
use Rattle.ron_value.specs.Tree.{Tree}
use Rattle.ron_value.specs.Tree as tree
use Rattle.ron_spec_grammar.specs.Rule.{below}
use Rattle.ron_spec_grammar.specs.Shapes.Unit.{EmptyBrackets}
use Rattle.ron_spec_grammar.specs.Depth.{least_depth}
use Rattle.ron_spec_grammar.specs.Values.Trees.{IsValue, lift}
use Rattle.ron_spec_grammar.specs.Values.Grammar.{Form, a_character, a_string, a_byte_string, a_list, a_map, a_group, a_number, a_word, form, form_place}
use Rattle.ron_spec_grammar.specs.Values.Grammar.{begins_as, some_value, unit_value, interval_value, list_value, several_value, Values, RoundGroup, WordValue}
use Rattle.ron_spec_grammar.specs.Values.Grammar.{OneValue, BareValue, ValueRule, no_value, AnySpells, AnyBelow, ValueReaders, word_value, one_value}
use Rattle.ron_spec_grammar.specs.Values.Grammar.{bare_value, value_rule, value_too_deep, read_any, read_any_below}
use Rattle.ron_spec_grammar.proofs.Rule.{After}
use Rattle.ron_spec_grammar.proofs.Shapes.Option.{part_else, some_solid}
use Rattle.ron_spec_grammar.proofs.Shapes.Units.{word_empty, first_empty, empty_solid, passes_empty}
use Rattle.ron_spec_grammar.proofs.Shapes.Texts.{char_solid, string_solid}
use Rattle.ron_spec_grammar.proofs.Shapes.Bytes.{byte_string_solid}
use Rattle.ron_spec_grammar.proofs.Values.Facts.{IsValueIn, span_in, some_in}
use Rattle.ron_spec_grammar.proofs.Values.Telling.{Starts, starts_first, starts_or, starts_means, starts_needs, starts_then, not_close, part_tell, empty_closes}
use Rattle.ron_spec_grammar.proofs.Values.Telling.{part_give, NoColon, comma_no_colon}
use Rattle.ron_spec_grammar.proofs.Values.Forms.{Is, char_form, string_form, byte_string_form, marks_form, number_form, value_words, fixed_form, name_form}
use Rattle.ron_spec_grammar.proofs.Values.Forms.{marks_unnamed, char_unnamed, name_unnamed, fixed_unnamed, bracket_unnamed, fixed_stands, alone_ungrouped}
use Rattle.ron_spec_grammar.proofs.Values.Contents.{bare_levels, ValueFit, part_fields, part_pairs, part_items_inside, several_list, fields_open, fields_solid}
use Rattle.ron_spec_grammar.proofs.Values.Contents.{items_unnamed, several_tell, several_solid, part_round, part_some_content}

-- ---- words

-- what holds no values
leaf_in : (room : ℕ) (t : Tree) → IsValue t → least_depth (lift t) ≡ 0 → IsValueIn room 0 t
leaf_in room t h e = record { value = h }

module _ {step room : ℕ} where
  -- a fixed word that is this value
  part_fixed : (w : Text) (t : Tree) → First Solid (FixedWord w t) → is_plain_run w ≡ true → IsValueIn room 0 t
      → Part room step false (IsValueIn room 0) (fixed_word w t) (fixed_word w t) (FixedWord w t) FollowsValue 0
  part_fixed w t s p v = go (part_word (word_fixed w t) (first_solid s) (passes_fixed w t p))
    where
      go : Part room step false AnyValue (fixed_word w t) (fixed_word w t) (FixedWord w t) FollowsValue 0
          → Part room step false (IsValueIn room 0) (fixed_word w t) (fixed_word w t) (FixedWord w t) FollowsValue 0
      go h = record {
        exact = h.exact;
        begins = h.begins;
        agrees = h.agrees;
        shallow = h.shallow;
        values = record { are = λ u next b z. subst (IsValueIn room 0) z.value v };
        passes = h.passes;
      }

true_solid : {A : Type 0} (a : A) → First Solid (FixedWord (codes "true") a)
true_solid a = record { holds = λ t next b z. rw z.same (solid_mark 116 (codes "rue" ++ next) refl refl refl) }

false_solid : {A : Type 0} (a : A) → First Solid (FixedWord (codes "false") a)
false_solid a = record { holds = λ t next b z. rw z.same (solid_mark 102 (codes "alse" ++ next) refl refl refl) }

none_solid : {A : Type 0} (a : A) → First Solid (FixedWord (codes "None") a)
none_solid a = record { holds = λ t next b z. rw z.same (solid_mark 78 (codes "one" ++ next) refl refl refl) }

-- a word stands where no other does
fixed_apart : {A : Type 0} (v w : Text) (a : A) → ((s : Text) → stands v (w ++ s) ≡ false) → First (λ s. stands v s ≡ false) (FixedWord w a)
fixed_apart v w a h = record { holds = λ t next b z. rw z.same (h next) }

-- ---- forms in their order

-- the form is this one or a later one
abbrev Beyond : ℕ → Text → Type 0
Beyond n s = n ≤ form_place (form s)

beyond_first : {A : Type 0} {L : Lang A} (f : Form) → First (Is f) L → First (Beyond (form_place f)) L
beyond_first f h = first_weaker (Is f) (Beyond (form_place f)) (λ s e. rw e (omega arith)) h

no_form : (f : Form) (s : Text) → Beyond (suc (form_place f)) s → begins_as f s ≡ false
no_form f s le = go (form_place (form s) == form_place f) refl
  where
    go : (b : Bool) → (form_place (form s) == form_place f) ≡ b → b ≡ false
    go true e = absurd (let k = eqb-true (form_place (form s)) (form_place f) e in omega (arith, k, le))
    go false e = refl

is_form : (f : Form) (s : Text) → Is f s → begins_as f s ≡ true
is_form f s e = rw (e, eq-eqb (form_place f) (form_place f) refl) refl

-- what is spelled from this form on
record From (step room n : ℕ) (q r : Reader Tree) (L : Lang Tree) : Type 0 where
  part : Part room step false (IsValueIn room 0) q r L FollowsValue 0
  beyond : First (Beyond n) L

module _ {step room : ℕ} where
  from_form : (f : Form) {q r g h : Reader Tree} {L M : Lang Tree} → First (Is f) L → Part room step false (IsValueIn room 0) q r L FollowsValue 0
      → From step room (suc (form_place f)) g h M → From step room (form_place f) (pick (begins_as f) q g) (pick (begins_as f) r h) (Or L M)
  from_form f first part later = record {
    part = part_choose (begins_as f) (first_weaker (Is f) (λ s. begins_as f s ≡ true) (is_form f) first)
        (first_weaker (Beyond (suc (form_place f))) (λ s. begins_as f s ≡ false) (no_form f) later.beyond) part later.part;
    beyond = first_or (beyond_first f first) (first_weaker (Beyond (suc (form_place f))) (Beyond (form_place f)) (λ s le. omega (arith, le)) later.beyond);
  }

-- ---- one level

-- a name, a gap and `(`
group_named : (room : ℕ) (V : Values) → First (λ s. opens_named_group s ≡ true) (Then UntypedName (λ _ _. RoundGroup room V))
unfolding opens_named_group
group_named room V = first_leads 40 word_untyped_name (λ _ _. first_then (first_mark _ left_parenthesis done (λ s. refl)))

module _ {step room : ℕ} (wide : 6 ≤ step) (u : Bool) (m : ℕ) (le : m ≤ room) (q r : ℕ → ValueReaders) (V : ℕ → Values)
    (h : (k : ℕ) → ValueFit step room (suc k) (q k) (r k) (V k)) where
  part_name : Part room step false (IsValueIn room 0) (means untyped_name unit_value) (means untyped_name unit_value) (Means UntypedName unit_value)
      FollowsValue 0
  part_name = part_means unit_value (λ n t _ e. let same : tree.unit ≡ t = cc in rw (← same)
      (leaf_in room tree.unit (record { ordered = tt; in_width = tt }) refl)) (part_word word_untyped_name (first_solid untyped_name_solid) passes_untyped_name)

  part_words : Part room step false (IsValueIn room 0) (word_value u m q) (word_value u room r) (WordValue u room V) FollowsValue 0
  part_words =
      part_choose (stands (codes "true")) (fixed_stands (codes "true") (tree.boolean true))
      (first_or (fixed_apart (codes "true") (codes "false") (tree.boolean false) (λ s. refl))
      (first_or (fixed_apart (codes "true") (codes "None") tree.none (λ s. refl))
      (first_or (first_then (fixed_apart (codes "true") (codes "Some") done (λ s. refl))) (first_or (first_then true_no_name) (first_means true_no_name)))))
      (part_fixed (codes "true") (tree.boolean true) (true_solid (tree.boolean true)) plain_words.0
      (leaf_in room (tree.boolean true) (record { ordered = tt; in_width = tt }) refl))
      (part_choose (stands (codes "false")) (fixed_stands (codes "false") (tree.boolean false))
      (first_or (fixed_apart (codes "false") (codes "None") tree.none (λ s. refl))
      (first_or (first_then (fixed_apart (codes "false") (codes "Some") done (λ s. refl))) (first_or (first_then false_no_name) (first_means false_no_name))))
      (part_fixed (codes "false") (tree.boolean false) (false_solid (tree.boolean false)) plain_words.1
      (leaf_in room (tree.boolean false) (record { ordered = tt; in_width = tt }) refl))
      (part_choose (stands (codes "None")) (fixed_stands (codes "None") tree.none)
      (first_or (first_then (fixed_apart (codes "None") (codes "Some") done (λ s. refl))) (first_or (first_then none_no_name) (first_means none_no_name)))
      (part_fixed (codes "None") tree.none (none_solid tree.none) plain_words.2 (leaf_in room tree.none (record { ordered = tt; in_width = tt }) refl))
      (part_choose (stands (codes "Some")) (first_then (fixed_stands (codes "Some") done)) (first_or (first_then some_no_name) (first_means some_no_name))
      (part_behind (word_fixed (codes "Some") done) (first_solid some_solid) (passes_fixed (codes "Some") done plain_words.3)
      (λ _. part_means some_value (λ c t v e. let same : tree.some c ≡ t = cc in rw (← same) (some_in room c v))
      (part_group left_parenthesis right_parenthesis 0 refl refl (part_some_content (q 0) (r 0) (V 0) (h 0) u) (omega (arith, wide)))))
      (part_tell opens_named_group (starts_first FollowsValue (group_named room (V 1)))
      (record { at = λ t next d z. alone_ungrouped.at t next z.value z.spelled })
      (part_behind word_untyped_name (first_solid untyped_name_solid) passes_untyped_name (λ _. part_round (q 1) (r 1) (V 1) (h 1) m le wide))
      part_name))))

  -- what is made of a word is a value that holds no others
  leaf_part : {A : Type 0} {q r : Reader A} {L : Lang A} (make : A → Tree) → ((a : A) → IsValue (make a)) → ((a : A) → least_depth (lift (make a)) ≡ 0)
      → Part room step false AnyValue q r L FollowsValue 0
      → Part room step false (IsValueIn room 0) (means q (λ a. Some (make a))) (means r (λ a. Some (make a))) (Means L (λ a. Some (make a))) FollowsValue 0
  leaf_part make v d p = part_means (λ a. Some (make a)) (λ a t _ e. let same : make a ≡ t = cc in rw (← same) (leaf_in room (make a) (v a) (d a))) p

  group_first : First (Is a_group) (Or (Means EmptyBrackets unit_value) (When (λ s. not (begins_with (codes "()") s)) (RoundGroup room (V 1))))
  group_first = first_or (first_means (first_empty (Is a_group) marks_form.2))
      (first_when (λ s. not (begins_with (codes "()") s)) (first_then (first_mark _ left_parenthesis done marks_form.2)))

  from_words : From step room 7 (word_value u m q) (word_value u room r) (WordValue u room V)
  from_words = record {
    part = part_words;
    beyond = beyond_first a_word
        (first_or (fixed_form (codes "true") (tree.boolean true) value_words.0) (first_or (fixed_form (codes "false") (tree.boolean false) value_words.1)
        (first_or (fixed_form (codes "None") tree.none value_words.2)
        (first_or (first_then (fixed_form (codes "Some") done value_words.3)) (first_or (first_then name_form) (first_means name_form))))));
  }

  pub part_value : Part room step false (IsValueIn room 0) (one_value u m q) (one_value u room r) (OneValue u room V) FollowsValue 0
  part_value = From.part
      (from_form a_character (first_means char_form)
      (leaf_part tree.character (λ c. record { ordered = tt; in_width = tt }) (λ c. refl) (part_word word_char (first_solid char_solid) passes_char))
      (from_form a_string (first_means string_form) (leaf_part (λ t. tree.text (encode_utf8_all t)) (λ t. record { ordered = tt; in_width = tt }) (λ t. refl)
      (part_word word_string (first_solid string_solid) passes_string))
      (from_form a_byte_string (first_means byte_string_form) (leaf_part tree.bytes (λ bs. record { ordered = tt; in_width = tt }) (λ bs. refl)
      (part_word word_byte_string (first_solid byte_string_solid) passes_byte_string))
      (from_form a_list (first_then (first_mark _ left_bracket done marks_form.0))
      (part_group left_bracket right_bracket 0 refl refl (λ gap.
      part_needs 1 m le (omega arith) (part_items_inside (q 1) (r 1) (V 1) (h 1) list_value right_bracket refl refl (λ ts t e. e) gap)) (omega (arith, wide)))
      (from_form a_map (first_then (first_mark _ left_brace done marks_form.1))
      (part_group left_brace right_brace 0 refl refl (λ gap. part_needs 1 m le (omega arith) (part_pairs (q 1) (r 1) (V 1) (h 1) gap)) (omega (arith, wide)))
      (from_form a_group group_first
      (part_else (begins_with (codes "()")) (first_means (record { holds = λ t next a z. rw (z.split, z.spelled.0) refl }))
      (leaf_part (λ _. tree.unit) (λ _. record { ordered = tt; in_width = tt }) (λ _. refl) (part_word word_empty (first_solid empty_solid) passes_empty))
      (part_round (q 1) (r 1) (V 1) (h 1) m le wide))
      (from_form a_number (first_means number_form)
      (part_means interval_value (λ s t _ e. span_in room s t e) (part_word word_number_or_range (first_solid interval_solid) passes_number_or_range))
      from_words)))))))

  pub value_opens : Opens (OneValue u room V)
  value_opens =
      first_or (first_means char_solid) (first_or (first_means string_solid) (first_or (first_means byte_string_solid)
      (first_or (first_then (first_mark Solid left_bracket done (λ s. solid_mark left_bracket s refl refl refl))) (first_or
      (first_then (first_mark Solid left_brace done (λ s. solid_mark left_brace s refl refl refl)))
      (first_or (first_or (first_means empty_solid) (first_when (λ s. not (begins_with (codes "()") s))
      (first_then (first_mark Solid left_parenthesis done (λ s. solid_mark left_parenthesis s refl refl refl)))))
      (first_or (first_means interval_solid)
      (first_or (true_solid (tree.boolean true)) (first_or (false_solid (tree.boolean false)) (first_or (none_solid tree.none)
      (first_or (first_then some_solid) (first_or (first_then untyped_name_solid) (first_means untyped_name_solid))))))))))))

  -- no field begins with a value, unless a colon follows
  pub value_unnamed : Starts opens_field false (OneValue u room V) NoColon
  value_unnamed =
      starts_or (starts_means char_unnamed) (starts_or (starts_means (starts_first NoColon (no_field unnamed_string))) (starts_or
      (starts_means (starts_first NoColon (no_field unnamed_byte_string)))
      (starts_or (starts_first NoColon (no_field (first_then (first_mark _ left_bracket done marks_unnamed.0)))) (starts_or
      (starts_first NoColon (no_field (first_then (first_mark _ left_brace done marks_unnamed.1))))
      (starts_or (starts_first NoColon (no_field (first_or (first_means (first_empty _ marks_unnamed.2))
      (first_when (λ s. not (begins_with (codes "()") s)) (first_then (first_mark _ left_parenthesis done marks_unnamed.2))))))
      (starts_or (starts_means (starts_first NoColon (no_field unnamed_interval)))
      (starts_or (fixed_unnamed (codes "true") (tree.boolean true) value_words.0) (starts_or
      (fixed_unnamed (codes "false") (tree.boolean false) value_words.1) (starts_or (fixed_unnamed (codes "None") tree.none value_words.2)
      (starts_or
      (bracket_unnamed (fixed_unnamed (codes "Some") done value_words.3) (λ _ _. first_means (first_then (first_mark _ left_parenthesis done (λ s. refl)))))
      (starts_or (bracket_unnamed name_unnamed (λ _ _. first_then (first_mark _ left_parenthesis done (λ s. refl)))) (starts_means name_unnamed))))))))))))

  part_bare : (before : Text)
      → Part room step true (IsValueIn room 0) (bare_value u m q before) (bare_value u room r before) (BareValue u room V before) (Before right_parenthesis) 2
  part_bare before =
      part_tell (is_at 41) (empty_closes tree.unit)
      (starts_or (starts_needs (not_close (fields_solid (q 1) (r 1) (V 1) (h 1) before)))
      (starts_or (starts_needs (not_close (several_solid (q 1) (r 1) (V 1) (h 1) before))) (not_close (first_then value_opens))))
      (part_give tree.unit (leaf_in room tree.unit (record { ordered = tt; in_width = tt }) refl))
      (part_tell opens_field (starts_needs (starts_first (Before right_parenthesis) (fields_open (q 1) (r 1) (V 1) (h 1) before)))
      (starts_or (starts_needs (items_unnamed (q 1) (r 1) (V 1) (h 1) several_value before)) (starts_then value_unnamed comma_no_colon))
      (part_needs 1 m le (omega arith) (part_fields (q 1) (r 1) (V 1) (h 1) before))
      (part_tell holds_several (starts_needs (several_tell (q 1) (r 1) (V 1) (h 1) before))
      (record { at = one_not_several (OneValue u room V) part_value.passes })
      (part_needs 1 m le (omega arith)
      (part_items_inside (q 1) (r 1) (V 1) (h 1) several_value right_parenthesis refl refl (several_list (q 1) (r 1) (V 1) (h 1)) before))
      (part_with_comma (part_more part_value (omega arith)))))

  rule_fit : ValueFit step room 0 (value_rule u m q) (value_rule u room r) (ValueRule u room V)
  rule_fit = record { part = both; opens = λ before. value_opens; unnamed = λ before. value_unnamed }
    where
      both : (bare : Bool) (before : Text) → Part room step bare (IsValueIn room 0) (value_rule u m q bare before) (value_rule u room r bare before)
          (ValueRule u room V bare before) (After bare) (bare_levels bare + 0)
      both false before = part_value
      both true before = part_bare before

-- ---- all levels

module _ {step : ℕ} (wide : 6 ≤ step) (u : Bool) where
  fit_below : (n k : ℕ) (q r : ValueReaders) (V : Values) → ValueFit step n k q r V → ValueFit step (suc n) (suc k) q r V
  fit_below n k q r V h = record {
    part = λ bare before. part_below (λ t p. record { value = p.value }) (h.part bare before) (omega arith);
    opens = h.opens;
    unnamed = h.unnamed;
  }

  fit_deep : (n k : ℕ) (q r : ValueReaders) (V : Values) → ValueFit step n k q r V → ValueFit step n k value_too_deep r V
  fit_deep n k q r V h = record { part = λ bare before. part_deep (h.part bare before); opens = h.opens; unnamed = h.unnamed }

  pub below_fit : (m n k : ℕ) → m ≤ n
      → ValueFit step n (suc k) (below (value_rule u) value_too_deep m k) (below (value_rule u) value_too_deep n k) (below (ValueRule u) no_value n k)
  below_fit zero zero k le = record {
    part = λ bare before. part_none (omega arith);
    opens = λ before. record { holds = λ t next d z. absurd z };
    unnamed = λ before. record { at = λ t next d z. absurd z };
  }
  below_fit (suc m) zero k le = absurd (omega arith)
  below_fit zero (suc n) zero le = fit_deep (suc n) 1 _ _ _ (fit_below n 0 _ _ _ (rule_fit wide u n (omega arith) _ _ _ (λ k. below_fit n n k (omega arith))))
  below_fit zero (suc n) (suc k) le = fit_below n (suc k) value_too_deep _ _ (below_fit zero n k (omega arith))
  below_fit (suc m) (suc n) zero le = fit_below n 0 _ _ _ (rule_fit wide u m (omega arith) _ _ _ (λ k. below_fit m n k (omega arith)))
  below_fit (suc m) (suc n) (suc k) le = fit_below n (suc k) _ _ _ (below_fit m n k (omega arith))

  -- reading with less room, reading, and the grammar
  pub any_within : (m n : ℕ) → m ≤ n → ValueFit step n 0 (read_any u m) (read_any u n) (AnySpells u n)
  unfolding read_any AnySpells
  any_within m n le = rule_fit wide u m le _ _ _ (λ k. below_fit m n k le)

  -- the same k + 1 levels deeper
  pub any_below : (m n k : ℕ) → m ≤ n → (gap : Text)
      → Part n step false (IsValueIn n (suc k)) (read_any_below u m k gap) (read_any_below u n k gap) (AnyBelow u n k gap) FollowsValue (suc k)
  unfolding read_any_below AnyBelow
  any_below m n k le gap = part_more ((below_fit m n k le).part false gap) (omega arith)
