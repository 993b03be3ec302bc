-- A value that is spelled before one text that may follow a value is spelled before any, and where Somes hold bare content too.
use Rattle.std.proofs.Common.{◌≡◌, ℕ, zero, suc, ◌==◌, Bool, true, false, not, List, [], ◌∷◌, ◌++◌, codes, length, encode_utf8_all, inl, inr, Option, refl, sym, ap, ◌∙◌, arith, length-append, eqb-true}
use Rattle.unicode_ident.proofs.Computing.{unicode_ident}
use Rattle.ron_spec_words.specs.Characters.{Text, is_blank, left_parenthesis, left_bracket, left_brace}
use Rattle.ron_spec_words.specs.Runs.{is_at, begins_with}
use Rattle.ron_spec_words.specs.Gap.{Gap, none, piece, last_line, LongGap, skip, is_delimiter, ends_value}
use Rattle.ron_spec_words.specs.Lang.{Lang, Done, done, Mark, Then, Means, Or, At, OptComma, Tail, Items, Group, WithComma, Needs}
use Rattle.ron_spec_words.specs.Exact.{Before, FollowsValue}
use Rattle.ron_spec_words.specs.Directly.{FixedWord}
use Rattle.ron_spec_words.proofs.Gaps.{skip-end, skip-other, skip-append}
use Rattle.ron_spec_words.proofs.Words.{First, first_means, first_or, first_when}
use Rattle.ron_spec_words.proofs.Classes.{Solid, solid_mark}
use Rattle.ron_spec_words.proofs.Names.{name_solid, untyped_name_solid}
use Rattle.ron_spec_words.proofs.Exactly.{Opens, three, first_then, first_mark, stops_gap, tail_stops, comma_follows, closes}
use Rattle.ron_value.specs.Tree.{Tree}
use Rattle.ron_value.specs.Tree as tree
use Rattle.ron_spec_grammar.specs.Rule.{below}
use Rattle.ron_spec_grammar.specs.Values.Trees.{Entry}
use Rattle.ron_spec_grammar.specs.Values.Grammar.{character_value, text_value, bytes_value, some_value, unit_value, list_value, map_value, fields_value}
use Rattle.ron_spec_grammar.specs.Values.Grammar.{entry_with, Values, FieldEntry, PairEntry, FieldsInside, ItemsInside, RoundGroup, SomeContent, WordValue}
use Rattle.ron_spec_grammar.specs.Values.Grammar.{OneValue, ValueRule, no_value, AnySpells}
use Rattle.ron_spec_grammar.proofs.Shapes.Option.{some_solid}
use Rattle.ron_spec_grammar.proofs.Shapes.Units.{empty_solid}
use Rattle.ron_spec_grammar.proofs.Shapes.Texts.{char_solid, string_solid}
use Rattle.ron_spec_grammar.proofs.Shapes.Bytes.{byte_string_solid}
use Rattle.ron_spec_words.specs.Characters.{continues_word}
use Rattle.ron_spec_grammar.proofs.Raw.Quiet.{Quiet, quiet_gap, quiet_value, Settled, steady_char, steady_string, steady_byte_string, steady_empty, settled}
use Rattle.ron_spec_grammar.proofs.Raw.Settled.{settled_name, settled_untyped_name, settled_fixed}
use Rattle.ron_spec_words.proofs.Ranges.{interval_solid}
use Rattle.ron_spec_grammar.proofs.Raw.Points.{interval_moves}

-- ---- gaps

-- what follows a gap may be any other text, where it is not the end
pub gap_any : {g next : Text} → Gap g next → (next ≡ [] → ⊥) → (other : Text) → Gap g other
gap_any none n other = none
gap_any (piece p g next h r) n other = piece p g other h (gap_any r n other)
gap_any (last_line t h) n other = absurd (n refl)

pub carry : {g s : Text} → LongGap g s → (s ≡ [] → ⊥) → (other : Text) → skip other ≡ other → LongGap g other
carry h n other k = record { is_gap = gap_any h.is_gap n other; longest = k }

pub solid_some : (s : Text) → Solid s → s ≡ [] → ⊥
solid_some s h e = let k : true ≡ false = ap ends_value (sym e) ∙ h.0 in cc

before_some : (c : ℕ) (u next : Text) → Before c next → u ++ next ≡ [] → ⊥
before_some c [] [] h e = let k : false ≡ true = ap (is_at c) (sym skip-end) ∙ h in cc
before_some c [] (d ∷ next) h e = cc
before_some c (d ∷ u) next h e = cc

-- what a closing character follows is shorter behind the gap
no_gap_here : (gap s : Text) → skip (gap ++ s) ≡ s → skip (gap ++ s) ≡ gap ++ s → gap ≡ []
no_gap_here [] s e f = refl
no_gap_here (c ∷ gap) s e f = absurd (let k : length s ≡ length ((c ∷ gap) ++ s) = ap length (sym e ∙ f) in omega (arith, k, length-append (c ∷ gap) s))

-- ---- what follows content in brackets, twice: the closing character, and no gap in the one if none in the other
pub record Same (close : ℕ) (next other : Text) : Type 0 where
  pub first : Before close next
  pub second : Before close other
  pub solid : skip next ≡ next → skip other ≡ other

-- the content, and that no gap begins it
abbrev Moved : {A : Type 0} → Lang A → Text → Text → A → Type 0
Moved M t other a = M t other a × (skip (t ++ other) ≡ t ++ other)

-- content of one language is content of the other
record Content {A : Type 0} (close : ℕ) (L M : Lang A) : Type 0 where
  over : (t next other : Text) (a : A) → L t next a → Same close next other → skip (t ++ next) ≡ t ++ next → Moved M t other a

content_means : {A B : Type 0} {close : ℕ} {L M : Lang A} (f : A → Option B) → Content close L M → Content close (Means L f) (Means M f)
content_means f h = record { over = λ t next other b z s n. (let k = h.over t next other z.value z.spelled s n in (record { value = z.value; spelled = k.0; meant = z.meant }, k.1)) }

content_needs : {A : Type 0} {close : ℕ} {L M : Lang A} (k room : ℕ) → Content close L M → Content close (Needs k room L) (Needs k room M)
content_needs k room h = record { over = λ t next other b z s n. (let m = h.over t next other b z.1 s n in ((z.0, m.0), m.1)) }

content_or : {A : Type 0} {close : ℕ} {L M N O : Lang A} → Content close L N → Content close M O → Content close (Or L M) (Or N O)
content_or {A} {close} {L} {M} {N} {O} h k = record { over = go }
  where
    go : (t next other : Text) (a : A) → Or L M t next a → Same close next other → skip (t ++ next) ≡ t ++ next → Moved (Or N O) t other a
    go t next other a (inl z) s n = let m = h.over t next other a z s n in (inl m.0, m.1)
    go t next other a (inr z) s n = let m = k.over t next other a z s n in (inr m.0, m.1)

-- between brackets, whatever follows
module _ {A : Type 0} (o c : ℕ) (not_blank : is_blank c ≡ false) (no_slash : (c == 47) ≡ false) {L M : Text → Lang A} (h : (gap : Text) → Content c (L gap) (M gap)) where
  group_over : (t next other : Text) (a : A) → Group o c L t next a → Group o c M t other a
  group_over t next other a z =
      let y = z.second in
      let close : (s : Text) → skip (y.right ++ s) ≡ y.right ++ s = λ s. rw y.second.0 (skip-other c s not_blank no_slash) in
      let gap : LongGap y.gap (y.right ++ other) = carry y.is_gap (rw y.second.0 (λ e. cc)) (y.right ++ other) (close other) in
      let same : Same c (y.gap ++ (y.right ++ next)) (y.gap ++ (y.right ++ other)) = record {
        first = closes c y.value y.gap y.right next a y.is_gap y.second tt;
        second = closes c y.value y.gap y.right other a gap y.second tt;
        solid = λ e. (let k = no_gap_here y.gap (y.right ++ next) (skip-append y.gap (y.right ++ next) y.is_gap) e in rw k (close other));
      } in
      let n : skip (y.left ++ (y.gap ++ (y.right ++ next))) ≡ y.left ++ (y.gap ++ (y.right ++ next)) = rw (y.split, three y.left y.gap y.right next) at z.is_gap.longest in
      let m = (h z.gap).over y.left (y.gap ++ (y.right ++ next)) (y.gap ++ (y.right ++ other)) y.value y.first same n in
      record {
        value = z.value;
        left = z.left;
        gap = z.gap;
        right = z.right;
        split = z.split;
        first = z.first;
        is_gap = carry z.is_gap (rw (y.split, three y.left y.gap y.right next) (some y.left y.gap (y.right ++ next) (rw y.second.0 (λ e. cc)))) (z.right ++ other) (rw (y.split, three y.left y.gap y.right other) m.1);
        second = record { value = y.value; left = y.left; gap = y.gap; right = y.right; split = y.split; first = m.0; is_gap = gap; second = y.second };
      }
    where
      some : (x y s : Text) → (s ≡ [] → ⊥) → x ++ (y ++ s) ≡ [] → ⊥
      some [] [] s k e = k e
      some [] (d ∷ y) s k e = cc
      some (d ∷ x) y s k e = cc

-- ---- items

module _ {A : Type 0} (L M : List A → Text → Lang A) (close : ℕ) (is_close : is_delimiter close ≡ true) (o : (seen : List A) (before : Text) → Opens (L seen before)) (p : (seen : List A) (before : Text) → Opens (M seen before))
    (h : (seen : List A) (before t next other : Text) (a : A) → L seen before t next a → FollowsValue next → FollowsValue other → M seen before t other a) where
  item_over : (seen : List A) (before : Text) (a : A) (xs : List A)
      → Content {A = Done} close (λ t next u. Tail L (a ∷ seen) t next xs) (λ t next u. Tail M (a ∷ seen) t next xs) → Content {A = Done} close
      (Then (At (L seen before) a) (λ _ _ u n _. Tail L (a ∷ seen) u n xs)) (Then (At (M seen before) a) (λ _ _ u n _. Tail M (a ∷ seen) u n xs))
  item_over seen before a xs more = record {
    over = λ t next other x y s n.
        let ys = more.over y.right next other x y.second s y.is_gap.longest in
        let stops = tail_stops L close is_close (a ∷ seen) y.right next xs y.second s.first y.is_gap.longest in
        let stops' = tail_stops M close is_close (a ∷ seen) y.right other xs ys.0 s.second ys.1 in
        let gap : LongGap y.gap (y.right ++ other) = carry y.is_gap (before_some close y.right next s.first) (y.right ++ other) ys.1 in
        let item = h seen before y.left (y.gap ++ (y.right ++ next)) (y.gap ++ (y.right ++ other)) a y.first (stops_gap y.gap (y.right ++ next) y.is_gap stops) (stops_gap y.gap (y.right ++ other) gap stops') in (
          record { value = y.value; left = y.left; gap = y.gap; right = y.right; split = y.split; first = item; is_gap = gap; second = ys.0 },
          rw (y.split, three y.left y.gap y.right other) ((p seen before).holds y.left (y.gap ++ (y.right ++ other)) a item).1,
        );
  }

  tail_over : (seen : List A) (xs : List A) → Content {A = Done} close (λ t next u. Tail L seen t next xs) (λ t next u. Tail M seen t next xs)
  tail_over seen [] = record { over = go }
    where
      go : (t next other : Text) (x : Done) → Tail L seen t next [] → Same close next other → skip (t ++ next) ≡ t ++ next → Tail M seen t other [] × (skip (t ++ other) ≡ t ++ other)
      go t next other x (inl z) s n = (inl z, rw z.0 (s.solid (rw z.0 at n)))
      go t next other x (inr z) s n = (
        inr (record {
          value = z.value;
          left = z.left;
          gap = z.gap;
          right = z.right;
          split = z.split;
          first = z.first;
          is_gap = carry z.is_gap (before_some close z.right next s.first) (z.right ++ other) (rw z.second.0 (s.solid (rw z.second.0 at z.is_gap.longest)));
          second = z.second;
        }),
        rw (z.split, z.first.0) (skip-other 44 ((z.gap ++ z.right) ++ other) refl refl),
      )
  tail_over seen (a ∷ xs) = record {
    over = λ t next other x z s n.
        let y = z.second in
        let m = (item_over seen z.gap a xs (tail_over (a ∷ seen) xs)).over z.right next other done y s z.is_gap.longest in (
          record { value = z.value; left = z.left; gap = z.gap; right = z.right; split = z.split; first = z.first; is_gap = carry z.is_gap (before_some close z.right next s.first) (z.right ++ other) m.1; second = m.0 },
          rw (z.split, z.first.0) (skip-other 44 ((z.gap ++ z.right) ++ other) refl refl),
        );
  }

  items_over : (before : Text) → Content close (Items L before) (Items M before)
  items_over before = record { over = go }
    where
      go : (t next other : Text) (xs : List A) → Items L before t next xs → Same close next other → skip (t ++ next) ≡ t ++ next → Moved (Items M before) t other xs
      go t next other [] z s n = (z, rw z (s.solid (rw z at n)))
      go t next other (a ∷ xs) z s n = (item_over [] before a xs (tail_over (a ∷ []) xs)).over t next other done z s n

-- ---- a word, and behind it what begins with a character of its own

at_some : (c : ℕ) (s : Text) → is_at c s ≡ true → s ≡ [] → ⊥
at_some c [] e f = cc
at_some c (d ∷ s) e f = cc

at_solid : (c : ℕ) (s : Text) → is_blank c ≡ false → (c == 47) ≡ false → is_at c s ≡ true → skip s ≡ s
at_solid c [] b n e = absurd (cc)
at_solid c (d ∷ s) b n e = let same : d ≡ c = eqb-true d c e in rw same (skip-other c s b n)

at_quiet : (c : ℕ) (s : Text) → continues_word c ≡ false → is_at c s ≡ true → Quiet s
at_quiet c [] b e = refl
at_quiet c (d ∷ s) b e = ap continues_word (eqb-true d c e) ∙ b

module _ (c : ℕ) (b : is_blank c ≡ false) (n : (c == 47) ≡ false) (w : continues_word c ≡ false) {A B : Type 0} {L : Lang A} (l : Settled L)
    {M N : A → Text → Lang B} (o : (a : A) (gap : Text) → First (λ s. is_at c s ≡ true) (M a gap))
    (p : (a : A) (gap : Text) → First (λ s. is_at c s ≡ true) (N a gap)) where
  word_over : (t next other : Text) (x : B) → ((a : A) (gap u : Text) → M a gap u next x → N a gap u other x) → Then L M t next x → Then L N t other x
  word_over t next other x h z =
      let second = h z.value z.gap z.right z.second in
      let at = (o z.value z.gap).holds z.right next x z.second in
      let at' = (p z.value z.gap).holds z.right other x second in
      let gap : LongGap z.gap (z.right ++ other) = carry z.is_gap (at_some c (z.right ++ next) at) (z.right ++ other) (at_solid c (z.right ++ other) b n at') in
      let quiet : (s : Text) → LongGap z.gap s → is_at c s ≡ true → Quiet (z.gap ++ s) = λ s g e. quiet_gap (z.gap ++ s) (rw (skip-append z.gap s g) (at_quiet c s w e)) in
      record {
        value = z.value;
        left = z.left;
        gap = z.gap;
        right = z.right;
        split = z.split;
        first = l.over z.left (z.gap ++ (z.right ++ next)) (z.gap ++ (z.right ++ other)) z.value (quiet (z.right ++ next) z.is_gap at) (quiet (z.right ++ other) gap at') z.first;
        is_gap = gap;
        second = second;
      }

-- ---- one level

-- what values of the one kind are of the other
record Turned (V W : Values) : Type 0 where
  over : (before t next other : Text) (v : Tree) → V false before t next v → FollowsValue next → FollowsValue other → W false before t other v
  opens : (before : Text) → Opens (V false before)
  opens' : (before : Text) → Opens (W false before)
  wraps : (before t next : Text) (v : Tree) → WithComma (W false before) t next v → W true before t next v

-- perhaps with a comma
comma_over : {A : Type 0} {L M : Lang A} → Opens M → ((t next other : Text) (a : A) → L t next a → FollowsValue next → FollowsValue other → M t other a) → Content 41 (WithComma L) (WithComma M)
comma_over {A} {L} {M} o h = record { over = go }
  where
    right_solid : (a : A) (right next other : Text) (b : A) → OptComma a right next b → Same 41 next other → skip (right ++ next) ≡ right ++ next → skip (right ++ other) ≡ right ++ other
    right_solid a right next other b (inl z) s n = rw z.0 (skip-other 44 other refl refl)
    right_solid a right next other b (inr z) s n = rw z.0 (s.solid (rw z.0 at n))

    go : (t next other : Text) (a : A) → WithComma L t next a → Same 41 next other → skip (t ++ next) ≡ t ++ next → Moved (WithComma M) t other a
    go t next other a z s n =
        let gap : LongGap z.gap (z.right ++ other) = carry z.is_gap (before_some 41 z.right next s.first) (z.right ++ other) (right_solid z.value z.right next other a z.second s z.is_gap.longest) in
        let first = h z.left (z.gap ++ (z.right ++ next)) (z.gap ++ (z.right ++ other)) z.value z.first
        (comma_follows z.value z.gap z.right next a z.is_gap z.second s.first) (comma_follows z.value z.gap z.right other a gap z.second s.second) in (
          record { value = z.value; left = z.left; gap = z.gap; right = z.right; split = z.split; first = first; is_gap = gap; second = z.second },
          rw (z.split, three z.left z.gap z.right other) (o.holds z.left (z.gap ++ (z.right ++ other)) z.value first).1,
        )

colon_word : continues_word 58 ≡ false
unfolding unicode_ident
colon_word = refl

bracket_word : continues_word 40 ≡ false
unfolding unicode_ident
bracket_word = refl

colon_first : {A : Type 0} {M : Text → Lang A} → First (λ s. is_at 58 s ≡ true) (Then (Mark 58 done) (λ _ gap. M gap))
colon_first = first_then (first_mark _ 58 done (λ s. refl))

pub bracket_first : {A : Type 0} {L : Text → Lang A} → First (λ s. is_at 40 s ≡ true) (Group 40 41 L)
bracket_first = first_then (first_mark _ 40 done (λ s. refl))

module _ {V W : Values} (h : Turned V W) where
  -- `:` and a value
  colon_over : {A : Type 0} (f : Tree → Option A) (t next other : Text) (x : A) → FollowsValue next → FollowsValue other
      → Then (Mark 58 done) (λ _ gap. Means (V false gap) f) t next x → Then (Mark 58 done) (λ _ gap. Means (W false gap) f) t other x
  colon_over f t next other x fn fo z =
      let v = z.second in
      let moved = h.over z.gap z.right next other v.value v.spelled fn fo in
      record {
        value = z.value;
        left = z.left;
        gap = z.gap;
        right = z.right;
        split = z.split;
        first = z.first;
        is_gap = carry z.is_gap (solid_some (z.right ++ next) ((h.opens z.gap).holds z.right next v.value v.spelled)) (z.right ++ other) ((h.opens' z.gap).holds z.right other v.value moved).1;
        second = record { value = v.value; spelled = moved; meant = v.meant };
      }

  field_over : (t next other : Text) (x : Entry) → FieldEntry V t next x → FollowsValue next → FollowsValue other → FieldEntry W t other x
  field_over t next other x z fn fo = word_over 58 refl refl colon_word settled_name
      {M = λ n _. Then (Mark 58 done) (λ _ gap. Means (V false gap) (entry_with (tree.text (encode_utf8_all n))))}
      {N = λ n _. Then (Mark 58 done) (λ _ gap. Means (W false gap) (entry_with (tree.text (encode_utf8_all n))))}
      (λ _ _. colon_first) (λ _ _. colon_first) t next other x (λ n gap u y. colon_over (entry_with (tree.text (encode_utf8_all n))) u next other x fn fo y) z

  pair_over : (before t next other : Text) (x : Entry) → PairEntry V before t next x → FollowsValue next → FollowsValue other → PairEntry W before t other x
  pair_over before t next other x z fn fo =
      let second = colon_over (entry_with z.value) z.right next other x fn fo z.second in
      let at : is_at 58 (z.right ++ next) ≡ true = rw (z.second.split, z.second.first.0) refl in
      let at' : is_at 58 (z.right ++ other) ≡ true = rw (second.split, second.first.0) refl in
      let gap : LongGap z.gap (z.right ++ other) = carry z.is_gap (at_some 58 (z.right ++ next) at) (z.right ++ other) (at_solid 58 (z.right ++ other) refl refl at') in
      record {
        value = z.value;
        left = z.left;
        gap = z.gap;
        right = z.right;
        split = z.split;
        first = h.over before z.left (z.gap ++ (z.right ++ next)) (z.gap ++ (z.right ++ other)) z.value z.first
            (stops_gap z.gap (z.right ++ next) z.is_gap (stop (z.right ++ next) at)) (stops_gap z.gap (z.right ++ other) gap (stop (z.right ++ other) at'));
        is_gap = gap;
        second = second;
      }
    where
      stop : (s : Text) → is_at 58 s ≡ true → ends_value s ≡ true
      stop [] e = refl
      stop (c ∷ s) e = ap is_delimiter (eqb-true c 58 e)

  list_content : (close : ℕ) → is_delimiter close ≡ true → (f : List Tree → Option Tree) (before : Text) → Content close (ItemsInside f V before) (ItemsInside f W before)
  list_content close s f before = content_means f (items_over (λ _ gap. V false gap) (λ _ gap. W false gap) close s (λ _ gap. h.opens gap) (λ _ gap. h.opens' gap) (λ _ gap. h.over gap) before)

  fields_content : (before : Text) → Content 41 (FieldsInside V before) (FieldsInside W before)
  fields_content before = content_means fields_value (items_over (λ _ _. FieldEntry V) (λ _ _. FieldEntry W) 41 refl (λ _ _. first_then name_solid) (λ _ _. first_then name_solid) (λ _ _. field_over) before)

  pairs_content : (before : Text) → Content 125 (Means (Items (λ _. PairEntry V) before) map_value) (Means (Items (λ _. PairEntry W) before) map_value)
  pairs_content before = content_means map_value (items_over (λ _. PairEntry V) (λ _. PairEntry W) 125 refl (λ _ gap. first_then (h.opens gap)) (λ _ gap. first_then (h.opens' gap)) (λ _ gap. pair_over gap) before)

  round_over : (room : ℕ) (t next other : Text) (v : Tree) → RoundGroup room V t next v → RoundGroup room W t other v
  round_over room = group_over 40 41 refl refl (λ gap. content_needs 1 room (content_or (fields_content gap) (list_content 41 refl list_value gap)))

  some_content : (u : Bool) (gap : Text) → Content 41 (SomeContent false V gap) (SomeContent u W gap)
  some_content false gap = comma_over (h.opens' gap) (h.over gap)
  some_content true gap = record { over = λ t next other a z s n. (let m = (comma_over (h.opens' gap) (h.over gap)).over t next other a z s n in (h.wraps gap t other a m.0, m.1)) }

-- brackets that hold something are not `()`, whatever follows
round_shape : {L : Text → Lang Tree} (t next other : Text) (v : Tree) → Group 40 41 L t next v → begins_with (codes "()") (t ++ other) ≡ begins_with (codes "()") (t ++ next)
round_shape t next other v z = rw (z.split, z.first.0) (two (z.gap ++ z.right) (rw z.second.split (some z.gap z.second.left z.second.gap z.second.right (rw z.second.second.0 (λ e. cc)))))
  where
    some : (g x y r : Text) → (r ≡ [] → ⊥) → g ++ (x ++ (y ++ r)) ≡ [] → ⊥
    some [] [] [] r k e = k e
    some [] [] (d ∷ y) r k e = cc
    some [] (d ∷ x) y r k e = cc
    some (d ∷ g) x y r k e = cc

    two : (u : Text) → (u ≡ [] → ⊥) → begins_with (codes "()") (40 ∷ (u ++ other)) ≡ begins_with (codes "()") (40 ∷ (u ++ next))
    two [] k = absurd (k refl)
    two (c ∷ u) k = refl

-- a word's meaning
word_means : {A B : Type 0} {L : Lang A} (f : A → Option B) → Settled L → (t next other : Text) (b : B) → FollowsValue next → FollowsValue other → Means L f t next b → Means L f t other b
word_means f h t next other b fn fo z = record { value = z.value; spelled = h.over t next other z.value (quiet_value next fn) (quiet_value other fo) z.spelled; meant = z.meant }

word_same : {A : Type 0} {L : Lang A} → Settled L → (t next other : Text) (a : A) → FollowsValue next → FollowsValue other → L t next a → L t other a
word_same h t next other a fn fo z = h.over t next other a (quiet_value next fn) (quiet_value other fo) z

module _ (u : Bool) (room : ℕ) (V W : ℕ → Values) (h : (k : ℕ) → Turned (V k) (W k)) where
  words_over : (t next other : Text) (v : Tree) → WordValue false room V t next v → FollowsValue next → FollowsValue other → WordValue u room W t other v
  words_over t next other v (inl z) fn fo = inl (word_same (settled_fixed (codes "true") (tree.boolean true)) t next other v fn fo z)
  words_over t next other v (inr (inl z)) fn fo = inr (inl (word_same (settled_fixed (codes "false") (tree.boolean false)) t next other v fn fo z))
  words_over t next other v (inr (inr (inl z))) fn fo = inr (inr (inl (word_same (settled_fixed (codes "None") tree.none) t next other v fn fo z)))
  words_over t next other v (inr (inr (inr (inl z)))) fn fo = inr (inr (inr (inl (word_over 40 refl refl bracket_word (settled_fixed (codes "Some") done)
      {M = λ _ _. Means (Group 40 41 (SomeContent false (V 0))) some_value} {N = λ _ _. Means (Group 40 41 (SomeContent u (W 0))) some_value}
      (λ _ _. first_means bracket_first) (λ _ _. first_means bracket_first) t next other v
      (λ _ _ s y. record { value = y.value; spelled = group_over 40 41 refl refl (some_content (h 0) u) s next other y.value y.spelled; meant = y.meant }) z))))
  words_over t next other v (inr (inr (inr (inr (inl z))))) fn fo = inr (inr (inr (inr (inl (word_over 40 refl refl bracket_word settled_untyped_name
      {M = λ _ _. RoundGroup room (V 1)} {N = λ _ _. RoundGroup room (W 1)} (λ _ _. bracket_first) (λ _ _. bracket_first) t next other v (λ _ _ s. round_over (h 1) room s next other v) z)))))
  words_over t next other v (inr (inr (inr (inr (inr z))))) fn fo = inr (inr (inr (inr (inr (word_means unit_value settled_untyped_name t next other v fn fo z)))))

  one_over : (t next other : Text) (v : Tree) → OneValue false room V t next v → FollowsValue next → FollowsValue other → OneValue u room W t other v
  one_over t next other v (inl z) fn fo = inl (word_means character_value (settled steady_char) t next other v fn fo z)
  one_over t next other v (inr (inl z)) fn fo = inr (inl (word_means text_value (settled steady_string) t next other v fn fo z))
  one_over t next other v (inr (inr (inl z))) fn fo = inr (inr (inl (word_means bytes_value (settled steady_byte_string) t next other v fn fo z)))
  one_over t next other v (inr (inr (inr (inl z)))) fn fo = inr (inr (inr (inl (group_over 91 93 refl refl (λ gap. content_needs 1 room (list_content (h 1) 93 refl list_value gap)) t next other v z))))
  one_over t next other v (inr (inr (inr (inr (inl z))))) fn fo = inr (inr (inr (inr (inl (group_over 123 125 refl refl (λ gap. content_needs 1 room (pairs_content (h 1) gap)) t next other v z)))))
  one_over t next other v (inr (inr (inr (inr (inr (inl (inl z))))))) fn fo = inr (inr (inr (inr (inr (inl (inl (word_means unit_value (settled steady_empty) t next other v fn fo z)))))))
  one_over t next other v (inr (inr (inr (inr (inr (inl (inr z))))))) fn fo = inr (inr (inr (inr (inr (inl (inr (ap not (round_shape t next other v z.1) ∙ z.0, round_over (h 1) room t next other v z.1)))))))
  one_over t next other v (inr (inr (inr (inr (inr (inr (inl z))))))) fn fo = inr (inr (inr (inr (inr (inr (inl (record { value = z.value; spelled = interval_moves next other fn fo t z.value z.spelled; meant = z.meant })))))))
  one_over t next other v (inr (inr (inr (inr (inr (inr (inr z))))))) fn fo = inr (inr (inr (inr (inr (inr (inr (words_over t next other v z fn fo)))))))

-- ---- how a value begins

true_solid : First Solid (FixedWord (codes "true") (tree.boolean true))
true_solid = record { holds = λ t next b z. rw z.same (solid_mark 116 (codes "rue" ++ next) refl refl refl) }

false_solid : First Solid (FixedWord (codes "false") (tree.boolean false))
false_solid = record { holds = λ t next b z. rw z.same (solid_mark 102 (codes "alse" ++ next) refl refl refl) }

none_solid : First Solid (FixedWord (codes "None") tree.none)
none_solid = record { holds = λ t next b z. rw z.same (solid_mark 78 (codes "one" ++ next) refl refl refl) }

one_opens : (u : Bool) (room : ℕ) (V : ℕ → Values) → Opens (OneValue u room V)
one_opens u room V =
    first_or (first_means char_solid) (first_or (first_means string_solid) (first_or (first_means byte_string_solid)
    (first_or (first_then (first_mark Solid left_bracket done (λ s. solid_mark left_bracket s refl refl refl))) (first_or (first_then (first_mark Solid left_brace done (λ s. solid_mark left_brace s refl refl refl)))
    (first_or (first_or (first_means empty_solid) (first_when (λ s. not (begins_with (codes "()") s)) (first_then (first_mark Solid left_parenthesis done (λ s. solid_mark left_parenthesis s refl refl refl)))))
    (first_or (first_means interval_solid)
    (first_or true_solid (first_or false_solid (first_or none_solid (first_or (first_then some_solid) (first_or (first_then untyped_name_solid) (first_means untyped_name_solid))))))))))))

-- ---- all levels

rule_turned : (u : Bool) (room : ℕ) (V W : ℕ → Values) → ((k : ℕ) → Turned (V k) (W k)) → Turned (ValueRule false room V) (ValueRule u room W)
rule_turned u room V W h = record {
  over = λ before t next other v z fn fo. one_over u room V W h t next other v z fn fo;
  opens = λ before. one_opens false room V;
  opens' = λ before. one_opens u room W;
  wraps = λ before t next v z. inr (inr (inr z));
}

none_turned : Turned no_value no_value
none_turned = record {
  over = λ before t next other v z fn fo. absurd z;
  opens = λ before. record { holds = λ t next d z. absurd z };
  opens' = λ before. record { holds = λ t next d z. absurd z };
  wraps = λ before t next v z. absurd z.first;
}

below_turned : (u : Bool) (n k : ℕ) → Turned (below (ValueRule false) no_value n k) (below (ValueRule u) no_value n k)
below_turned u zero k = none_turned
below_turned u (suc n) zero = rule_turned u n _ _ (λ k. below_turned u n k)
below_turned u (suc n) (suc k) = below_turned u n k

-- What is spelled under no extensions before what may follow a value is spelled under any before whatever else may follow one.
pub value_moves : (u : Bool) (room : ℕ) (before behind t next other : Text) (v : Tree) → AnySpells false room false before t next v → FollowsValue next → FollowsValue other → AnySpells u room false behind t other v
unfolding AnySpells
value_moves u room before behind t next other v z fn fo = (rule_turned u room _ _ (λ k. below_turned u room k)).over before t next other v z fn fo
