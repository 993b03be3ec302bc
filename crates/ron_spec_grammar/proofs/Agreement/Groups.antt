-- Lists, options and what stands in parentheses agree with what is read of them without a schema: for `Agreement.Levels`.
use Rattle.std.proofs.Common.{◌≡◌, ℕ, suc, ◌+◌, ◌==◌, Bool, true, false, List, [], ◌∷◌, ◌++◌, codes, length, Option, Some, None, cond, slice_get, refl, sym, ap}
use Rattle.std.proofs.Common.{subst, ◌∙◌, arith, eqb-true}
use Rattle.std.proofs.lemmas.Bool.{true≢false, false≢true}
use Rattle.ron_spec_words.specs.Characters.{Text, comma, left_parenthesis, right_parenthesis, left_bracket, right_bracket}
use Rattle.ron_spec_words.specs.Runs.{is_at}
use Rattle.ron_spec_words.specs.Gap.{none, skip, ends_value}
use Rattle.ron_spec_words.proofs.Gaps.{skip-other}
use Rattle.ron_spec_words.proofs.Classes.{Solid}
use Rattle.ron_spec_words.specs.Lang.{Lang, Done, done, Empty, Mark, Then, Means, OptComma, WithComma, Items, Group, Needs}
use Rattle.ron_spec_words.specs.Exact.{Before, FollowsValue}
use Rattle.ron_spec_words.specs.Directly.{FixedWord, stands}
use Rattle.ron_spec_words.specs.Lookahead.{opens_field}
use Rattle.ron_spec_words.proofs.Words.{First, first_means}
use Rattle.ron_spec_words.proofs.Direct.{word_fixed, first_weaker}
use Rattle.ron_spec_words.proofs.Exactly.{Opens, first_then, first_mark, comma_follows, is_at_other, not_stop}
use Rattle.ron_spec_words.proofs.UntypedWords.{some_no_name}
use Rattle.ron_value.specs.Tree.{Tree, items_from}
use Rattle.ron_value.specs.Tree as tree
use Rattle.ron_spec_grammar.specs.Data.{Data, Datas, data_and, some_of, list_of, bytes_of, datas}
use Rattle.ron_spec_grammar.specs.Schema.{Shape, optional, seq, bytes}
use Rattle.ron_spec_grammar.specs.Rule.{Langs}
use Rattle.ron_spec_grammar.specs.Values.Grammar.{Values, OneValue, RoundGroup, list_value, some_value, unit_value, a_list, a_word, a_group, form}
use Rattle.ron_spec_grammar.specs.Values.Conversion.{or_itself, some_as, sequence_as, byte_of, bytes_among, into, all_into, each_into, only_into}
use Rattle.ron_spec_grammar.specs.Shapes.Unit.{EmptyBrackets}
use Rattle.ron_spec_grammar.specs.Shapes.Option.{some_data, SomeText}
use Rattle.ron_spec_grammar.specs.Shapes.Seq.{list_data}
use Rattle.ron_spec_grammar.specs.Shapes.Bytes.{ByteItem, ByteList, bytes_data}
use Rattle.ron_spec_grammar.specs.Shapes.Tuple.{as_many, AtShape, TupleItems}
use Rattle.ron_spec_grammar.proofs.Values.Telling.{Starts, starts_first, items_start, items_first, NoColon}
use Rattle.ron_spec_grammar.proofs.Values.Forms.{value_words, marks_form, fixed_form, fixed_stands, close_unnamed}
use Rattle.ron_spec_grammar.proofs.Values.Conversion.{with_both_from}
use Rattle.ron_spec_grammar.proofs.Agreement.Agree.{Agree, Along, agree_word, agree_within, agree_map, agree_both, agree_meant, agree_means, agree_needs}
use Rattle.ron_spec_grammar.proofs.Agreement.Agree.{agree_left, agree_right, agree_then, agree_behind, agree_group, agree_items, agree_marks, agree_empty}
use Rattle.ron_spec_grammar.proofs.Agreement.Agree.{agree_apart, agree_tells}
use Rattle.ron_spec_grammar.proofs.Agreement.Forms.{agree_form, fields_open}
use Rattle.ron_spec_grammar.proofs.Agreement.Leaves.{Becomes}
use Rattle.ron_spec_grammar.proofs.Finding.{mapped_from}

-- what is owed of what stands deeper
pub record Deeper (schema : List Shape) (L : Langs) (V : Values) : Type 0 where
  pub agree : (j : ℕ) (before : Text) → Agree (L false j before) (V false before) FollowsValue (Becomes schema j)
  pub byte : (room : ℕ) (before : Text) → Agree (ByteItem room) (V false before) FollowsValue (λ b v. (c : ℕ) → byte_of v ≡ Some c → c ≡ b)
  pub byte_opens : (room : ℕ) → Opens (ByteItem room)
  pub opens : (j : ℕ) (before : Text) → Opens (L false j before)
  pub unnamed : (j : ℕ) (before : Text) → Starts opens_field false (L false j before) NoColon
  pub value_opens : (before : Text) → Opens (V false before)
  pub value_unnamed : (before : Text) → Starts opens_field false (V false before) NoColon

-- ---- what items become

module _ (schema : List Shape) where
  all_become : (j : ℕ) (seen ds : List Data) (ts : List Tree) → Along (λ _ d v. Becomes schema j d v) seen ds ts → (es : Datas)
      → all_into schema j (items_from ts) ≡ Some es → es ≡ datas ds
  all_become j seen [] [] h es e = cc
  all_become j seen [] (t ∷ ts) h es e = absurd h
  all_become j seen (d ∷ ds) [] h es e = absurd h
  all_become j seen (d ∷ ds) (t ∷ ts) h es e =
      let k = with_both_from data_and (into schema j t) (all_into schema j (items_from ts)) es e in
      let one : k.0 ≡ d = h.0 k.0 k.2 in
      let more : k.1 ≡ datas ds = all_become j (d ∷ seen) ds ts h.1 k.1 k.3 in
      let made = k.4 in
      cc

  bytes_become : (seen bs : List ℕ) (ts : List Tree) → Along (λ _ b v. (c : ℕ) → byte_of v ≡ Some c → c ≡ b) seen bs ts → (cs : List ℕ)
      → bytes_among (items_from ts) ≡ Some cs → cs ≡ bs
  bytes_become seen [] [] h cs e = cc
  bytes_become seen [] (t ∷ ts) h cs e = absurd h
  bytes_become seen (b ∷ bs) [] h cs e = absurd h
  bytes_become seen (b ∷ bs) (t ∷ ts) h cs e =
      let k = with_both_from (λ b bs. b ∷ bs) (byte_of t) (bytes_among (items_from ts)) cs e in
      let one : k.0 ≡ b = h.0 k.0 k.2 in
      let more : k.1 ≡ bs = bytes_become (b ∷ seen) bs ts h.1 k.1 k.3 in
      let made = k.4 in
      cc

  -- an item of the shape whose turn it is
  abbrev pub InTurn : List ℕ → List Data → Data → Tree → Type 0
  InTurn js seen d v = (j : ℕ) × (slice_get js (length seen) ≡ Some j) × Becomes schema j d v

  each_become : (all js : List ℕ) (seen ds : List Data) (ts : List Tree) → ((n : ℕ) → slice_get all (length seen + n) ≡ slice_get js n)
      → Along (InTurn all) seen ds ts → (es : Datas) → each_into schema js (items_from ts) ≡ Some es → es ≡ datas ds
  each_become all [] seen [] [] same h es e = cc
  each_become all (j ∷ js) seen [] [] same h es e = absurd (cc)
  each_become all js seen [] (t ∷ ts) same h es e = absurd h
  each_become all js seen (d ∷ ds) [] same h es e = absurd h
  each_become all [] seen (d ∷ ds) (t ∷ ts) same h es e = absurd (cc)
  each_become all (j ∷ js) seen (d ∷ ds) (t ∷ ts) same h es e =
      let k = with_both_from data_and (into schema j t) (each_into schema js (items_from ts)) es e in
      let turn : length seen ≡ length seen + 0 = omega arith in
      let is : Some h.0.0 ≡ Some j = sym h.0.1 ∙ ap (slice_get all) turn ∙ same 0 in
      let index : j ≡ h.0.0 = cc in
      let one : k.0 ≡ d = h.0.2 k.0 (subst (λ n. into schema n t ≡ Some k.0) index k.2) in
      let more : k.1 ≡ datas ds = each_become all js (d ∷ seen) ds ts (λ n. ap (slice_get all) (omega arith) ∙ same (suc n)) h.1 k.1 k.3 in
      let made = k.4 in
      cc

  pub list_is : (i : ℕ) (o : Option Shape) (ts : List Tree) → slice_get schema i ≡ o
      → into schema i (tree.sequence (items_from ts)) ≡ or_itself (tree.sequence (items_from ts)) o (sequence_as (λ j. all_into schema j (items_from ts))
      (λ js. each_into schema js (items_from ts)) (λ j. only_into schema j (items_from ts)) (bytes_among (items_from ts)) o)
  list_is i o ts s = ap (λ o. or_itself (tree.sequence (items_from ts)) o (sequence_as (λ j. all_into schema j (items_from ts))
      (λ js. each_into schema js (items_from ts)) (λ j. only_into schema j (items_from ts)) (bytes_among (items_from ts)) o)) s

module _ (schema : List Shape) (m : ℕ) (V : ℕ → Values) where
  -- ---- lists

  pub agree_seq : (L : Langs) → Deeper schema L (V 1) → (i j room : ℕ) → slice_get schema i ≡ Some (seq j) → Agree (Group left_bracket right_bracket
      (λ gap. Needs 1 room (Means (Items (λ seen before. L false j before) gap) list_data))) (OneValue false m V) FollowsValue (Becomes schema i)
  agree_seq L h i j room s =
      agree_form m V a_list (first_then (first_mark _ left_bracket done marks_form.0)) (agree_group left_bracket right_bracket (λ gap. agree_needs 1 room 1 m
      (agree_both list_data list_value made
      (agree_items (λ _ before. L false j before) (λ _ gap. V 1 false gap) right_bracket refl refl (λ _ d v. Becomes schema j d v)
      (λ _ _ before. h.agree j before) (λ _ before. h.opens j before) (λ _ before. h.value_opens before) gap))))
    where
      made : (ds : List Data) (ts : List Tree) (d : Data) (v : Tree) → Along (λ _ d v. Becomes schema j d v) [] ds ts → list_data ds ≡ Some d
          → list_value ts ≡ Some v → Becomes schema i d v
      made ds ts d v r q f e g =
          let same : tree.sequence (items_from ts) ≡ v = cc in
          let k = mapped_from list_of (all_into schema j (items_from ts)) e (sym (list_is schema i (Some (seq j)) ts s) ∙ ap (into schema i) same ∙ g) in
          let is : k.0 ≡ datas ds = all_become schema j [] ds ts r k.0 k.1 in
          let one = k.2 in
          cc

  pub agree_byte_list : (L : Langs) → Deeper schema L (V 1) → (i room : ℕ) → slice_get schema i ≡ Some bytes
      → Agree (ByteList room) (OneValue false m V) FollowsValue (Becomes schema i)
  agree_byte_list L h i room s =
      agree_form m V a_list (first_then (first_mark _ left_bracket done marks_form.0)) (agree_group left_bracket right_bracket (λ gap. agree_needs 1 room 1 m
      (agree_both bytes_data list_value made
      (agree_items (λ _ before. ByteItem room) (λ _ gap. V 1 false gap) right_bracket refl refl (λ _ b v. (c : ℕ) → byte_of v ≡ Some c → c ≡ b)
      (λ _ _ before. h.byte room before) (λ _ before. h.byte_opens room) (λ _ before. h.value_opens before) gap))))
    where
      made : (bs : List ℕ) (ts : List Tree) (d : Data) (v : Tree) → Along (λ _ b v. (c : ℕ) → byte_of v ≡ Some c → c ≡ b) [] bs ts → bytes_data bs ≡ Some d
          → list_value ts ≡ Some v → Becomes schema i d v
      made bs ts d v r q f e g =
          let same : tree.sequence (items_from ts) ≡ v = cc in
          let k = mapped_from bytes_of (bytes_among (items_from ts)) e (sym (list_is schema i (Some bytes) ts s) ∙ ap (into schema i) same ∙ g) in
          let is : k.0 ≡ bs = bytes_become schema [] bs ts r k.0 k.1 in
          let one = k.2 in
          cc

-- ---- options

mark_comma : {A : Type 0} (a : A) → Starts (is_at 44) true (Mark comma a) (Before 41)
mark_comma a = record { at = λ t next x z f n. rw z.0 refl }

empty_comma : {A : Type 0} (a : A) → Starts (is_at 44) false (Empty a) (Before 41)
empty_comma a = record { at = λ t next x z f n. is_at_other 41 44 (t ++ next) (ap (is_at 41) (sym n ∙ ap (λ v. skip (v ++ next)) z.0) ∙ f) refl }

module _ {A B : Type 0} {R : A → B → Type 0} (a : A) (b : B) (r : R a b) where
  agree_opt_comma : Agree (OptComma a) (OptComma b) (Before 41) R
  agree_opt_comma = agree_left (agree_right (agree_marks comma a b r) (agree_tells (is_at 44) true false true≢false (mark_comma a) (empty_comma b)))
      (agree_right (agree_tells (is_at 44) false true false≢true (empty_comma a) (mark_comma b)) (agree_empty a b r))

pub agree_with_comma : {A B : Type 0} {L : Lang A} {M : Lang B} {R : A → B → Type 0} → Agree L M FollowsValue R
    → Agree (WithComma L) (WithComma M) (Before 41) R
agree_with_comma h = agree_then h (λ a b _ r. agree_opt_comma a b r) (λ a _. comma_follows a) (λ b _. comma_follows b)

module _ (schema : List Shape) (m : ℕ) (V : ℕ → Values) where
  some_first : {B : Type 0} (M : Text → Lang B) (P : Text → Type 0) → First P (FixedWord (codes "Some") done)
      → First P (Then (FixedWord (codes "Some") done) (λ _ gap. M gap))
  some_first M P h = first_then h

  apart_word : (w : Text) (x : Tree) → ((s : Text) → stands (codes "Some") (w ++ s) ≡ false) → First (λ s. stands (codes "Some") s ≡ false) (FixedWord w x)
  apart_word w x h = record { holds = λ t next b z. rw z.same (h next) }

  some_becomes : (i j : ℕ) → slice_get schema i ≡ Some (optional j) → (c d : Data) (v w : Tree) → Becomes schema j c v → some_data c ≡ Some d
      → some_value v ≡ Some w → Becomes schema i d w
  some_becomes i j s c d v w h q f e g =
      let same : tree.some v ≡ w = cc in
      let k =
      mapped_from some_of (into schema j v) e (sym (ap (λ o. or_itself (tree.some v) o (some_as (λ j. into schema j v) o)) s) ∙ ap (into schema i) same ∙ g) in
      let is : k.0 ≡ c = h k.0 k.1 in
      let one = k.2 in
      cc

  pub agree_some : (L : Langs) → Deeper schema L (V 0) → (i j : ℕ) → slice_get schema i ≡ Some (optional j)
      → Agree (SomeText false j L) (OneValue false m V) FollowsValue (Becomes schema i)
  agree_some L h i j s = agree_form m V a_word (first_then (fixed_form (codes "Some") done value_words.3))
      (agree_right (other (apart_word (codes "true") (tree.boolean true) (λ s. refl)))
      (agree_right (other (apart_word (codes "false") (tree.boolean false) (λ s. refl)))
      (agree_right (other (apart_word (codes "None") tree.none (λ s. refl)))
      (agree_right (agree_behind (agree_word (word_fixed (codes "Some") done)) (λ _ _ _ _. agree_both some_data some_value
      (λ c v d w r q f. some_becomes i j s c d v w r q f) (agree_group left_parenthesis right_parenthesis (λ gap. agree_with_comma (h.agree j gap)))))
      (agree_right (other (first_then some_no_name)) (other (first_means some_no_name)))))))
    where
      other : {M : Lang Tree} → First (λ s. stands (codes "Some") s ≡ false) M → Agree (SomeText false j L) M FollowsValue (Becomes schema i)
      other k = agree_apart (λ s. stands (codes "Some") s ≡ true) (λ s. stands (codes "Some") s ≡ false) (λ s e f. (let x : true ≡ false = sym e ∙ f in cc))
          (first_then (fixed_stands (codes "Some") done)) k

-- ---- nothing in parentheses

pub items_empty : {A : Type 0} (L : List A → Text → Lang A) → ((seen : List A) (before : Text) → Opens (L seen before)) → (before : Text)
    → Agree (Items L before) (Empty done) (Before 41) (λ _ _. Unit {0})
items_empty {A} L o before = record { at = λ t next u other xs b e _ n z f y g. go t next u other xs e n z y.0 g }
  where
    go : (t next u other : Text) (xs : List A) → t ++ next ≡ u ++ other → skip (t ++ next) ≡ t ++ next → Items L before t next xs → u ≡ [] → Before 41 other
        → (next ≡ other) × Unit {0}
    go t next u other [] e n z y g = (sym (ap (λ v. v ++ next) z) ∙ e ∙ ap (λ v. v ++ other) y, tt)
    go t next u other (x ∷ xs) e n z y g =
        let closed : is_at 41 (t ++ next) ≡ true = ap (is_at 41) (sym n ∙ ap skip (e ∙ ap (λ v. v ++ other) y)) ∙ g in
        let opened : is_at 41 (t ++ next) ≡ false = not_stop 41 (t ++ next) refl
        (items_first L (λ s. ends_value s ≡ false) before (first_weaker Solid (λ s. ends_value s ≡ false) (λ s k. k.0) (o [] before)) t next x xs z) in
        absurd (let x : true ≡ false = sym closed ∙ opened in cc)

-- `()` is a group of nothing
pub brackets_group : (t next : Text) (a : Done) → EmptyBrackets t next a → Group left_parenthesis right_parenthesis (λ _. Empty done) t next done
brackets_group t next a z = record {
  value = done;
  left = 40 ∷ [];
  gap = [];
  right = 41 ∷ [];
  split = z.split ∙ ap (λ v. 40 ∷ v) z.spelled.0;
  first = (refl, refl);
  is_gap = record { is_gap = none; longest = skip-other 41 next refl refl };
  second = record {
    value = done;
    left = [];
    gap = [];
    right = 41 ∷ [];
    split = refl;
    first = (refl, refl);
    is_gap = record { is_gap = none; longest = skip-other 41 next refl refl };
    second = (refl, refl);
  };
}

-- what is none of it does not become a group
pub agree_brackets : {A : Type 0} {L : Lang A} {R : A → Tree → Type 0} (m : ℕ) (V : ℕ → Values) → First (λ s. is_at 40 s ≡ true) L → ((a : A) → R a tree.unit)
    → Agree L (Group left_parenthesis right_parenthesis (λ _. Empty done)) FollowsValue (λ _ _. Unit {0}) → Agree L (RoundGroup m (V 1)) FollowsValue R
    → Agree L (OneValue false m V) FollowsValue R
agree_brackets {R = R} m V first none_is empty round = agree_form m V a_group (first_weaker (λ s. is_at 40 s ≡ true) (λ s. form s ≡ a_group) bracket_form first)
    (agree_right (agree_means {R = λ _ _. Unit {0}} unit_value (λ a b v _ e. subst (R a) (unit_is b v e) (none_is a))
    (record { at = λ t next u other a b e s n z f y g. empty.at t next u other a done e s n z f (brackets_group u other b y) g }))
    (agree_within (λ t next a z. z) (λ t next b z. z.1) round))
  where
    unit_is : (b : Done) (v : Tree) → unit_value b ≡ Some v → tree.unit ≡ v
    unit_is b v e = cc

    bracket_form : (s : Text) → is_at 40 s ≡ true → form s ≡ a_group
    bracket_form [] e = absurd (cc)
    bracket_form (c ∷ s) e = let same : c ≡ 40 = eqb-true c 40 e in rw same (marks_form.2 s)

-- ---- tuples

module _ (schema : List Shape) (m room : ℕ) (L : Langs) (V : Values) (h : Deeper schema L V) (make : Datas → Data) (js : List ℕ) where
  at_turn : (o : Option ℕ) (before : Text) → Agree (AtShape L o before) (V false before) FollowsValue (λ d v. (j : ℕ) × (o ≡ Some j) × Becomes schema j d v)
  at_turn None before = record { at = λ t next u other a b e s n z. absurd z }
  at_turn (Some j) before = agree_map (λ d v r. (j, refl, r)) (h.agree j before)

  turn_opens : (o : Option ℕ) (before : Text) → Opens (AtShape L o before)
  turn_opens None before = record { holds = λ t next d z. absurd z }
  turn_opens (Some j) before = h.opens j before

  turn_unnamed : (o : Option ℕ) (before : Text) → Starts opens_field false (AtShape L o before) NoColon
  turn_unnamed None before = record { at = λ t next d z. absurd z }
  turn_unnamed (Some j) before = h.unnamed j before

  abbrev TheItems : Text → Lang (List Data)
  TheItems before = Items (λ seen. AtShape L (slice_get js (length seen))) before

  items_unnamed : (before : Text) → Starts opens_field false (TupleItems make js L before) (Before right_parenthesis)
  items_unnamed before = record { at = λ t next d z f n. go t next z.value z.spelled f n }
    where
      go : (t next : Text) (ds : List Data) → TheItems before t next ds → Before right_parenthesis next → skip (t ++ next) ≡ t ++ next
          → opens_field (t ++ next) ≡ false
      go t next [] z f n = close_unnamed (t ++ next) (ap (is_at 41) (sym n ∙ ap (λ v. skip (v ++ next)) z) ∙ f)
      go t next (x ∷ xs) z f n =
          items_start (λ seen. AtShape L (slice_get js (length seen))) opens_field false before (turn_unnamed (slice_get js 0) before) t next x xs z f n

  -- what items in parentheses make is what the list of values becomes
  abbrev pub TupleMade : Data → Tree → Type 0
  TupleMade d v = (ts : List Tree) × (tree.sequence (items_from ts) ≡ v) × ((es : Datas) → each_into schema js (items_from ts) ≡ Some es → make es ≡ d)

  tuple_made : (ds : List Data) (ts : List Tree) (d : Data) (v : Tree) → Along (InTurn schema js) [] ds ts → as_many make js ds ≡ Some d
      → list_value ts ≡ Some v → TupleMade d v
  tuple_made ds ts d v r q f = (
    ts,
    cc,
    λ es e. (let k : es ≡ datas ds = each_become schema js js [] ds ts (λ n. (let none : 0 + n ≡ n = omega arith in ap (slice_get js) none)) r es e in
        ap make k ∙ go (length ds == length js) q),
  )
    where
      go : (b : Bool) → cond b (Some (make (datas ds))) None ≡ Some d → make (datas ds) ≡ d
      go true e = cc
      go false e = absurd (cc)

  pub agree_tuple_round : {F : Text → Type 0}
      → Agree (Group left_parenthesis right_parenthesis (λ gap. Needs 1 room (TupleItems make js L gap))) (RoundGroup m V) F TupleMade
  agree_tuple_round = agree_group left_parenthesis right_parenthesis (λ gap. agree_needs 1 room 1 m (agree_right
      (agree_tells opens_field false true false≢true (items_unnamed gap) (starts_first (Before right_parenthesis) (fields_open V gap)))
      (agree_both (as_many make js) list_value tuple_made (agree_items (λ seen. AtShape L (slice_get js (length seen))) (λ _ gap. V false gap) right_parenthesis
      refl refl (InTurn schema js) (λ seen _ before. at_turn (slice_get js (length seen)) before)
      (λ seen before. turn_opens (slice_get js (length seen)) before) (λ _ before. h.value_opens before) gap))))

  pub tuple_empty : {F : Text → Type 0} → Agree (Group left_parenthesis right_parenthesis (λ gap. Needs 1 room (TupleItems make js L gap)))
      (Group left_parenthesis right_parenthesis (λ _. Empty done)) F (λ _ _. Unit {0})
  tuple_empty = agree_group left_parenthesis right_parenthesis
      (λ gap. agree_within (λ t next a z. z.1) (λ t next b z. z) (agree_meant {R = λ _ _. Unit {0}} (as_many make js) (λ _ _ _ _ _. tt)
      (items_empty (λ seen. AtShape L (slice_get js (length seen))) (λ seen before. turn_opens (slice_get js (length seen)) before) gap)))

  pub agree_tuple_items : {F : Text → Type 0} → Agree (Group left_parenthesis right_parenthesis (λ gap. Needs 1 room (TupleItems make js L gap)))
      (Group left_parenthesis right_parenthesis (λ gap. Items (λ _ before. V false before) gap)) F (λ _ _. Unit {0})
  agree_tuple_items = agree_group left_parenthesis right_parenthesis (λ gap. agree_within (λ t next a z. z.1) (λ t next b z. z)
      (agree_meant (as_many make js) (λ _ _ _ _ _. tt) (agree_items (λ seen. AtShape L (slice_get js (length seen))) (λ _ gap. V false gap) right_parenthesis
      refl refl (InTurn schema js) (λ seen _ before. at_turn (slice_get js (length seen)) before)
      (λ seen before. turn_opens (slice_get js (length seen)) before) (λ _ before. h.value_opens before) gap)))
