-- Behind whole tokens a look for a name leaves no more than before them.
use Rattle.std.proofs.Common.{◌≡◌, ℕ, suc, ◌==◌, ◌≤◌, ◌<◌, length, length-append, arith, Bool, true, false, not, ◌&&◌, ◌||◌, cond, drop, [], ◌∷◌, ◌++◌, codes}
use Rattle.std.proofs.Common.{Some, inl, inr, eqb-true, refl, sym, ap, ◌∙◌}
use Rattle.std.proofs.lemmas.Bool.{and_parts, or_parts, not-true}
use Rattle.std.proofs.Math.Bool.{or-true}
use Rattle.unicode_ident.proofs.Computing.{unicode_ident}
use Rattle.ron_spec_words.specs.Characters.{Text, is_blank, starts_name, continues_name, in_raw_name}
use Rattle.ron_spec_words.specs.Runs.{begins, is_at, begins_with, run_of, after_run}
use Rattle.ron_spec_words.specs.Gap.{skip}
use Rattle.ron_spec_words.specs.Lang.{Or}
use Rattle.ron_spec_words.specs.Reader.{Got, got, failed, bad, run}
use Rattle.ron_spec_words.specs.Quoted.{QuotedBytes, RawBytes, ByteString, string, byte_string, char, byte}
use Rattle.ron_spec_words.specs.Scan.{starts_gap, is_hash, opens_raw, opens_string, opens_byte_string, opens_raw_name, starts_run, past_gap, raw_name, past_one}
use Rattle.ron_spec_words.specs.Scan.{left_by, token, Walk, here, on}
use Rattle.ron_spec_words.specs.Far.{left_from, left_behind, far, IsFarWalk}
use Rattle.ron_spec_words.proofs.Gaps.{skip-skip, length-skip}
use Rattle.ron_spec_words.proofs.Direct.{begins-drop}
use Rattle.ron_spec_words.proofs.RawStrings.{word_byte_string}
use Rattle.ron_spec_words.proofs.Tokens.{raw_three}
use Rattle.ron_spec_words.proofs.KindSteps.{taken, run_no_gap, gap_is, past_gap_is, stays, some_same}

-- ---- what a look leaves

left_most : (s : Text) → left_from s ≤ length s
left_most s = elim (is_at 47 s) as (λ b. cond b 0 (length s) ≤ length s) [ true ↦ omega arith | false ↦ omega arith ]

pub run_most : (p : ℕ → Bool) (s : Text) → length (after_run p s) ≤ length s
run_most p [] = omega arith
run_most p (c ∷ s) = let k = run_most p s in
    elim (p c) as (λ b. length (cond b (after_run p s) (c ∷ s)) ≤ suc (length s)) [ true ↦ omega (arith, k) | false ↦ omega arith ]

behind_most : (p : ℕ → Bool) (s : Text) → left_behind p s ≤ length s
unfolding left_behind
behind_most p s = omega (arith, left_most (skip (after_run p s)), length-skip (after_run p s), run_most p s)

-- over a character of the run
behind_step : (p : ℕ → Bool) (c : ℕ) (s : Text) → p c ≡ true → left_behind p (c ∷ s) ≡ left_behind p s
unfolding left_behind
behind_step p c s e = ap (λ b. left_from (skip (cond b (after_run p s) (c ∷ s)))) e

-- over the whole run
behind_run : (p : ℕ → Bool) (s : Text) → left_behind p (after_run p s) ≡ left_behind p s
behind_run p [] = refl
behind_run p (c ∷ s) = go (p c) refl (behind_run p s)
  where
    go : (b : Bool) → p c ≡ b → left_behind p (after_run p s) ≡ left_behind p s → left_behind p (cond b (after_run p s) (c ∷ s)) ≡ left_behind p (c ∷ s)
    go true e h = h ∙ sym (behind_step p c s e)
    go false e h = refl

-- where no such run begins
behind_here : (p : ℕ → Bool) (s : Text) → begins p s ≡ false → left_behind p s ≡ left_from (skip s)
unfolding left_behind
behind_here p [] e = refl
behind_here p (c ∷ s) e = ap (λ b. left_from (skip (cond b (after_run p s) (c ∷ s)))) e

-- what goes on with a name begins no gap
pub continues_no_gap : (c : ℕ) → continues_name c ≡ true → starts_gap c ≡ false
continues_no_gap c e = run_no_gap c (rw e (or-true (starts_name c)))

gap_no_run : (c : ℕ) → starts_gap c ≡ true → continues_name c ≡ false
gap_no_run c g = go (continues_name c) refl
  where
    go : (b : Bool) → continues_name c ≡ b → b ≡ false
    go false e = refl
    go true e = absurd (let z : true ≡ false = sym g ∙ continues_no_gap c e in cc)

slash_no_run : (s : Text) → is_at 47 s ≡ true → begins continues_name s ≡ false
slash_no_run [] e = refl
slash_no_run (c ∷ s) e = gap_no_run c (rw e (or-true (is_blank c)))

-- behind a gap no more is left than there
word_most : (s : Text) → skip s ≡ s → left_behind continues_name s ≤ left_from s
word_most s e = go (is_at 47 s) refl
  where
    go : (b : Bool) → is_at 47 s ≡ b → left_behind continues_name s ≤ cond b 0 (length s)
    go false h = behind_most continues_name s
    go true h =
        let none : left_from s ≡ 0 = rw h refl in
        let is : left_behind continues_name s ≡ 0 = behind_here continues_name s (slash_no_run s h) ∙ ap left_from e ∙ none in
        omega (arith, is)

-- ---- marks, which neither a name nor a gap holds

abbrev is_mark : ℕ → Bool
is_mark c = not (continues_name c) && not (starts_gap c)

marks : (is_mark 34 ≡ true) × (is_mark 35 ≡ true) × (is_mark 39 ≡ true)
unfolding unicode_ident
marks = (refl, refl, refl)

-- at a mark a look leaves all
mark_all : (s : Text) → begins is_mark s ≡ true → left_behind continues_name s ≡ length s
mark_all [] e = absurd (cc)
mark_all (c ∷ s) e =
    let k = and_parts (not (continues_name c)) (not (starts_gap c)) e in
    let g = not-true (starts_gap c) k.1 in
    let no_slash : (c == 47) ≡ false = (or_parts (is_blank c) (c == 47) g).1 in
    behind_here continues_name (c ∷ s) (not-true (continues_name c) k.0) ∙ ap left_from (stays c s g) ∙ ap (λ b. cond b 0 (suc (length s))) no_slash

at_class : (p : ℕ → Bool) (n : ℕ) (s : Text) → p n ≡ true → is_at n s ≡ true → begins p s ≡ true
at_class p n [] h e = absurd (cc)
at_class p n (c ∷ s) h e = ap p (eqb-true c n e) ∙ h

-- hashes and a quote, and one of these marks is first
hashes_marked : (s : Text) → is_at 34 (after_run is_hash s) ≡ true → begins is_mark s ≡ true
hashes_marked [] e = absurd (cc)
hashes_marked (c ∷ s) e = go (c == 35) refl e
  where
    go : (b : Bool) → (c == 35) ≡ b → is_at 34 (cond b (after_run is_hash s) (c ∷ s)) ≡ true → is_mark c ≡ true
    go true h k = ap is_mark (eqb-true c 35 h) ∙ marks.1
    go false h k = at_class is_mark 34 (c ∷ s) marks.0 k

-- ---- behind a token that begins with a name's character

-- the token of such a run
over_run : (c : ℕ) (s u : Text) → continues_name c ≡ true → left_by (run starts_run continues_name (c ∷ s)) ≡ Some u
    → left_behind continues_name u ≤ left_behind continues_name (c ∷ s)
over_run c s u e k =
    let starts : starts_run c ≡ true = rw e (or-true (starts_name c)) in
    let rest : after_run continues_name s ≡ u =
    some_same (sym (ap (λ b. left_by (cond b (got (c ∷ run_of continues_name s) (after_run continues_name s)) (failed bad))) starts) ∙ k) in
    omega (arith, ap (left_behind continues_name) rest, behind_run continues_name s, behind_step continues_name c s e)

-- one such character and a mark
over_one : (c : ℕ) (s u : Text) → continues_name c ≡ true → begins is_mark s ≡ true → length u < length (c ∷ s)
    → left_behind continues_name u ≤ left_behind continues_name (c ∷ s)
over_one c s u e m lt = omega (arith, behind_step continues_name c s e, mark_all s m, behind_most continues_name u, lt)

r_continues : continues_name 114 ≡ true
unfolding unicode_ident
r_continues = refl

-- `br` and a mark
over_two : (c : ℕ) (s u : Text) → continues_name c ≡ true → is_at 114 s ≡ true → begins is_mark (drop 1 s) ≡ true → suc (length u) < length (c ∷ s)
    → left_behind continues_name u ≤ left_behind continues_name (c ∷ s)
over_two c [] u e r m lt = absurd (cc)
over_two c (d ∷ s) u e r m lt =
    let d_continues : continues_name d ≡ true = at_class continues_name 114 (d ∷ s) r_continues r in
    omega (arith, behind_step continues_name c (d ∷ s) e, behind_step continues_name d s d_continues, mark_all s m, behind_most continues_name u, lt)

-- a byte string has two characters or more
two_taken : (s u : Text) → left_by (byte_string s) ≡ Some u → suc (length u) < length s
two_taken s u e = go (byte_string s) refl e
  where
    more : (t next a : Text) → Or QuotedBytes RawBytes t next a → 0 < length t
    more t next a (inl y) = omega (arith, ap length y.split)
    more t next a (inr y) = omega (arith, ap length y.split)

    go : (o : Got Text) → byte_string s ≡ o → left_by o ≡ Some u → suc (length u) < length s
    go (failed f) h k = absurd (cc)
    go (got a v) h k =
        let x = word_byte_string.sound s a v h in
        let z : ByteString x.stretch v a = x.spelled in
        omega (arith, ap length x.split, length-append x.stretch v, ap length z.split, more z.rest v a z.spelled, ap length (some_same k))

-- no mark begins a run
mark_no_run : (c n : ℕ) → is_mark n ≡ true → continues_name c ≡ true → (c == n) ≡ false
mark_no_run c n m e = go (c == n) refl
  where
    go : (b : Bool) → (c == n) ≡ b → b ≡ false
    go false h = refl
    go true h = absurd (let z : true ≡ false = sym e ∙ ap continues_name (eqb-true c n h) ∙ not-true (continues_name n) (and_parts _ _ m).0 in cc)

pub second : (b d c : ℕ) (s : Text) → begins_with (b ∷ d ∷ []) (c ∷ s) ≡ true → is_at d s ≡ true
second b d c [] e = absurd (let z = (and_parts (c == b) false e).1 in cc)
second b d c (f ∷ s) e = (and_parts (f == d) true (and_parts (c == b) ((f == d) && true) e).1).0

over_name : (c : ℕ) (s u : Text) → continues_name c ≡ true → token (c ∷ s) ≡ Some u → left_behind continues_name u ≤ left_behind continues_name (c ∷ s)
unfolding token
over_name c s u e k = go (starts_gap c) refl (opens_string (c ∷ s)) refl (opens_byte_string (c ∷ s)) refl (c == 39) refl (begins_with (codes "b'") (c ∷ s)) refl
    (opens_raw_name (c ∷ s)) refl (starts_run c) refl k
  where
    lt : length u < length (c ∷ s)
    lt = let f = taken c s u k in omega (arith, ap length f.split, length-append f.more u)

    Far : Type 0
    Far = left_behind continues_name u ≤ left_behind continues_name (c ∷ s)

    raw_string : opens_raw (c ∷ s) ≡ true → Far
    raw_string h = over_one c s u e (hashes_marked s (and_parts (c == 114) _ h).1) lt

    at_string : opens_string (c ∷ s) ≡ true → Far
    at_string h = raw_string (let z : (c == 34) ≡ false = mark_no_run c 34 marks.0 e in rw z at h)

    bytes : suc (length u) < length (c ∷ s) → (b : Bool) → is_at 34 s ≡ b → (b || opens_raw s) ≡ true → Far
    bytes two true q h = over_one c s u e (at_class is_mark 34 s marks.0 q) lt
    bytes two false q h = let z = and_parts (is_at 114 s) _ h in over_two c s u e z.0 (hashes_marked (drop 1 s) z.1) two

    go : (a : Bool) → starts_gap c ≡ a → (b : Bool) → opens_string (c ∷ s) ≡ b → (d : Bool) → opens_byte_string (c ∷ s) ≡ d → (f : Bool) → (c == 39) ≡ f
        → (g : Bool) → begins_with (codes "b'") (c ∷ s) ≡ g → (h : Bool) → opens_raw_name (c ∷ s) ≡ h → (i : Bool) → starts_run c ≡ i
        → cond a (past_gap (c ∷ s)) (cond b (left_by (string (c ∷ s))) (cond d (left_by (byte_string (c ∷ s))) (cond f (left_by (char (c ∷ s)))
        (cond g (left_by (byte (c ∷ s))) (cond h (left_by (raw_name (c ∷ s))) (cond i (left_by (run starts_run continues_name (c ∷ s))) (past_one (c ∷ s))))))))
        ≡ Some u
        → Far
    go true p b q d r f v g w h x i y z = absurd (let n : true ≡ false = sym p ∙ continues_no_gap c e in cc)
    go false p true q d r f v g w h x i y z = at_string q
    go false p false q true r f v g w h x i y z = bytes (two_taken (c ∷ s) u z) (is_at 34 s) refl (and_parts (c == 98) _ r).1
    go false p false q false r true v g w h x i y z = absurd (let n : true ≡ false = sym v ∙ mark_no_run c 39 marks.2 e in cc)
    go false p false q false r false v true w h x i y z = over_one c s u e (at_class is_mark 39 s marks.2 (second 98 39 c s w)) lt
    go false p false q false r false v false w true x i y z = over_one c s u e (at_class is_mark 35 s marks.1 (second 114 35 c s (and_parts _ _ x).0)) lt
    go false p false q false r false v false w false x true y z = over_run c s u e z
    go false p false q false r false v false w false x false y z = absurd (let n : true ≡ false = sym (rw e (or-true (starts_name c))) ∙ y in cc)

-- ---- behind any token

over_gap : (c : ℕ) (s u : Text) → starts_gap c ≡ true → token (c ∷ s) ≡ Some u → left_behind continues_name u ≤ left_behind continues_name (c ∷ s)
over_gap c s u g k =
    let same : skip (c ∷ s) ≡ u = past_gap_is (c ∷ s) u (sym (gap_is c s g) ∙ k) in
    omega (arith, word_most u (ap skip (sym same) ∙ skip-skip (c ∷ s) ∙ same), ap left_from same, behind_here continues_name (c ∷ s) (gap_no_run c g))

over_mark : (c : ℕ) (s u : Text) → continues_name c ≡ false → starts_gap c ≡ false → token (c ∷ s) ≡ Some u
    → left_behind continues_name u ≤ left_behind continues_name (c ∷ s)
over_mark c s u e g k = let f = taken c s u k in
    omega (arith, mark_all (c ∷ s) (rw (e, g) refl), behind_most continues_name u, ap length f.split, length-append f.more u)

no_token : (u : Text) → token [] ≡ Some u → ⊥
unfolding token
no_token u k = cc

over_token : (s u : Text) → token s ≡ Some u → left_behind continues_name u ≤ left_behind continues_name s
over_token [] u k = absurd (no_token u k)
over_token (c ∷ s) u k = go (starts_gap c) refl (continues_name c) refl
  where
    go : (a : Bool) → starts_gap c ≡ a → (b : Bool) → continues_name c ≡ b → left_behind continues_name u ≤ left_behind continues_name (c ∷ s)
    go true g b e = over_gap c s u g k
    go false g true e = over_name c s u e k
    go false g false e = over_mark c s u e g k

-- ---- raw names

-- a raw name stands here
pub record RawAt (s : Text) : Type 0 where
  pub first : ℕ
  pub more : Text
  pub is : s ≡ 114 ∷ 35 ∷ first ∷ more
  pub in_name : in_raw_name first ≡ true

pub raw_at : (s : Text) → opens_raw_name s ≡ true → RawAt s
raw_at s e = let k = and_parts (begins_with (codes "r#") s) (begins in_raw_name (drop 2 s)) e in go (drop 2 s) (begins-drop (codes "r#") s k.0) k.1
  where
    go : (t : Text) → s ≡ 114 ∷ 35 ∷ t → begins in_raw_name t ≡ true → RawAt s
    go [] h k = absurd (cc)
    go (c ∷ t) h k = record { first = c; more = t; is = h; in_name = k }

-- a look at it leaves less than one that takes it for `r`
raw_less : (s : Text) → RawAt s → left_behind in_raw_name (drop 2 s) ≤ left_behind continues_name s
raw_less s r =
    let as_r : left_behind continues_name s ≡ suc (suc (length r.more)) =
    ap (left_behind continues_name) r.is ∙ behind_step continues_name 114 (35 ∷ r.first ∷ r.more) r_continues ∙ mark_all (35 ∷ r.first ∷ r.more) marks.1 in
    let size : length (drop 2 s) ≡ suc (length r.more) = ap (λ z. length (drop 2 z)) r.is in
    omega (arith, behind_most in_raw_name (drop 2 s), as_r, size)

far_less : (s : Text) → far s ≤ left_behind continues_name s
far_less s = go (opens_raw_name s) refl
  where
    go : (b : Bool) → opens_raw_name s ≡ b → cond b (left_behind in_raw_name (drop 2 s)) (left_behind continues_name s) ≤ left_behind continues_name s
    go true e = raw_less s (raw_at s e)
    go false e = omega arith

-- behind the whole of it no other run goes on
raw_ends : (s : Text) → begins continues_name (after_run in_raw_name s) ≡ false
raw_ends [] = refl
raw_ends (c ∷ s) = go (in_raw_name c) refl (raw_ends s)
  where
    none : in_raw_name c ≡ false → (b : Bool) → continues_name c ≡ b → b ≡ false
    none e false h = refl
    none e true h = absurd (let z : false ≡ true = sym e ∙ rw h (or-true ((c == 46) || (c == 43) || (c == 45))) in cc)

    go : (b : Bool) → in_raw_name c ≡ b → begins continues_name (after_run in_raw_name s) ≡ false
        → begins continues_name (cond b (after_run in_raw_name s) (c ∷ s)) ≡ false
    go true e h = h
    go false e h = none e (continues_name c) refl

raw_left : (s : Text) → left_behind continues_name (after_run in_raw_name s) ≡ left_behind in_raw_name s
unfolding left_behind
raw_left s = behind_here continues_name (after_run in_raw_name s) (raw_ends s)

pub raw_token : (s u : Text) → RawAt s → token s ≡ Some u → u ≡ after_run in_raw_name (drop 2 s)
raw_token s u r k =
    let reads : left_by (raw_name (114 ∷ 35 ∷ r.first ∷ r.more)) ≡ Some (after_run in_raw_name r.more) = rw r.in_name refl in
    let ends : after_run in_raw_name (drop 2 s) ≡ after_run in_raw_name r.more =
    ap (λ z. after_run in_raw_name (drop 2 z)) r.is ∙ ap (λ b. cond b (after_run in_raw_name r.more) (r.first ∷ r.more)) r.in_name in
    some_same (sym k ∙ ap token r.is ∙ raw_three r.first r.more r.in_name ∙ reads) ∙ sym ends

far_token : (s u : Text) → token s ≡ Some u → far u ≤ far s
far_token s u k = go (opens_raw_name s) refl
  where
    go : (b : Bool) → opens_raw_name s ≡ b → far u ≤ cond b (left_behind in_raw_name (drop 2 s)) (left_behind continues_name s)
    go false h = omega (arith, far_less u, over_token s u k)
    go true h = omega (arith, far_less u, ap (left_behind continues_name) (raw_token s u (raw_at s h) k), raw_left (drop 2 s))

pub far_walk : IsFarWalk
far_walk commas d e s u w = go w
  where
    go : {d e : ℕ} {s u : Text} → Walk commas d s e u → far u ≤ far s
    go (here d s) = omega arith
    go (on d c t next e u h k r) = let le = go r in omega (arith, far_token (c ∷ (t ++ next)) next k, le)
