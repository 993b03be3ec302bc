-- Behind whole tokens a look leaves no more bytes than before them.
use Rattle.std.proofs.Common.{◌≡◌, ℕ, zero, suc, ◌==◌, ◌≤◌, ◌||◌, arith, Bool, true, false, cond, drop, [], ◌∷◌, ◌++◌, codes, Some, inl, inr, eqb-true}
use Rattle.std.proofs.Common.{append_assoc, refl, sym, ap, ◌∙◌}
use Rattle.std.proofs.lemmas.Bool.{and_parts}
use Rattle.std.proofs.Math.Bool.{or-true}
use Rattle.unicode_ident.proofs.Computing.{unicode_ident}
use Rattle.ron_spec_words.specs.Characters.{Text, continues_name, in_raw_name}
use Rattle.ron_spec_words.specs.Runs.{is_at, begins_with, run_of, after_run}
use Rattle.ron_spec_words.specs.Gap.{skip}
use Rattle.ron_spec_words.specs.Lang.{Or}
use Rattle.ron_spec_words.specs.Reader.{Got, got, failed, bad, run}
use Rattle.ron_spec_words.specs.Quoted.{hashes, Raw, String, ByteString, QuotedBytes, RawBytes, string, byte_string, char, byte}
use Rattle.ron_spec_words.specs.Scan.{starts_gap, opens_string, opens_byte_string, opens_raw_name, starts_run, past_gap, raw_name, past_one, left_by, token}
use Rattle.ron_spec_words.specs.Scan.{Walk, here, on}
use Rattle.ron_spec_words.specs.Beyond.{bytes_in, in_look, past_words, past_look, beyond, IsBeyondWalk}
use Rattle.ron_spec_words.proofs.Gaps.{skip-skip}
use Rattle.ron_spec_words.proofs.RawStrings.{word_string, word_byte_string}
use Rattle.ron_spec_words.proofs.KindSteps.{taken, past_gap_is, some_same}
use Rattle.ron_spec_words.proofs.Far.{RawAt, raw_at, raw_token, continues_no_gap, second}
use Rattle.ron_spec_words.proofs.Sizes.{size_end, size_one, run_no_more, run_step, run_words, word_stays, look_no_gap, beyond_plain, beyond_raw}
use Rattle.ron_spec_words.proofs.Looks.{letters}

-- ---- characters that begin no gap

-- what no look goes over
mark_whole : (c : ℕ) (s : Text) → in_look c ≡ false → starts_gap c ≡ false → past_look (c ∷ s) ≡ c ∷ s
unfolding past_look
mark_whole c s e g = ap (λ b. past_words (cond b (after_run in_look s) (c ∷ s))) e ∙ word_stays c s g

pub step_less : (c : ℕ) (s : Text) → starts_gap c ≡ false → bytes_in (past_look s) ≤ bytes_in (past_look (c ∷ s))
step_less c s g = go (in_look c) refl
  where
    go : (b : Bool) → in_look c ≡ b → bytes_in (past_look s) ≤ bytes_in (past_look (c ∷ s))
    go true e = omega (arith, ap bytes_in (run_step c s e))
    go false e = omega (arith, ap bytes_in (mark_whole c s e g), run_no_more s, size_one c s)

run_less : (p : ℕ → Bool) → ((c : ℕ) → p c ≡ true → starts_gap c ≡ false) → (s : Text) → bytes_in (past_look (after_run p s)) ≤ bytes_in (past_look s)
run_less p clear [] = omega arith
run_less p clear (c ∷ s) = go (p c) refl (run_less p clear s)
  where
    go : (b : Bool) → p c ≡ b → bytes_in (past_look (after_run p s)) ≤ bytes_in (past_look s)
        → bytes_in (past_look (cond b (after_run p s) (c ∷ s))) ≤ bytes_in (past_look (c ∷ s))
    go true e h = omega (arith, h, step_less c s (clear c e))
    go false e h = omega arith

raw_clear : (c : ℕ) → in_raw_name c ≡ true → starts_gap c ≡ false
raw_clear c e = by (c == 46) refl (c == 43) refl (c == 45) refl e
  where
    by : (x : Bool) → (c == 46) ≡ x → (y : Bool) → (c == 43) ≡ y → (z : Bool) → (c == 45) ≡ z → (((x || y) || z) || continues_name c) ≡ true
        → starts_gap c ≡ false
    by true p y q z r k = rw (eqb-true c 46 p) refl
    by false p true q z r k = rw (eqb-true c 43 q) refl
    by false p false q true r k = rw (eqb-true c 45 r) refl
    by false p false q false r k = continues_no_gap c k

-- ---- quotes

pub quotes : (in_look 34 ≡ false) × (in_look 39 ≡ false)
unfolding unicode_ident
quotes = (refl, refl)

pub mark_behind : (c : ℕ) (t u : Text) → in_look c ≡ false → starts_gap c ≡ false → bytes_in u ≤ bytes_in (past_look (c ∷ (t ++ u)))
mark_behind c t u e g = omega (arith, ap bytes_in (mark_whole c (t ++ u) e g), size_end (c ∷ t) u (c ∷ (t ++ u)) refl)

hashes_over : (n : ℕ) (s : Text) → past_look (hashes n ++ s) ≡ past_look s
hashes_over zero s = refl
hashes_over (suc n) s = run_step 35 (hashes n ++ s) (or-true (starts_run 35)) ∙ hashes_over n s

raw_behind : (t u a : Text) → Raw t u a → bytes_in u ≤ bytes_in (past_look (t ++ u))
raw_behind t u a z =
    let more = a ++ 34 ∷ hashes z.count in
    let split : t ++ u ≡ hashes z.count ++ 34 ∷ (more ++ u) = ap (λ x. x ++ u) z.same ∙ append_assoc (hashes z.count) (34 ∷ more) u in
    omega (arith, ap (λ x. bytes_in (past_look x)) split, ap bytes_in (hashes_over z.count (34 ∷ (more ++ u))), mark_behind 34 more u quotes.0 refl)

string_behind : (t u a : Text) → String t u a → bytes_in u ≤ bytes_in (past_look (t ++ u))
string_behind t u a (inl z) = rw z.split (mark_behind 34 z.rest u quotes.0 refl)
string_behind t u a (inr z) = rw z.split (omega (arith, ap bytes_in (run_step 114 (z.rest ++ u) letters.0), raw_behind z.rest u a z.spelled))

bytes_behind : (t u a : Text) → ByteString t u a → bytes_in u ≤ bytes_in (past_look (t ++ u))
bytes_behind t u a z = rw z.split (omega (arith, ap bytes_in (run_step 98 (z.rest ++ u) letters.1), inner z.spelled))
  where
    inner : Or QuotedBytes RawBytes z.rest u a → bytes_in u ≤ bytes_in (past_look (z.rest ++ u))
    inner (inl y) = rw y.split (mark_behind 34 y.rest u quotes.0 refl)
    inner (inr y) = rw y.split (omega (arith, ap bytes_in (run_step 114 (y.rest ++ u) letters.0), raw_behind y.rest u _ y.spelled.spelled))

string_token : (s u : Text) → left_by (string s) ≡ Some u → bytes_in u ≤ bytes_in (past_look s)
string_token s u e = go (string s) refl e
  where
    go : (o : Got Text) → string s ≡ o → left_by o ≡ Some u → bytes_in u ≤ bytes_in (past_look s)
    go (failed f) h k = absurd (cc)
    go (got a v) h k =
        let y = word_string.sound s a v h in
        omega (arith, ap (λ x. bytes_in (past_look x)) y.split, string_behind y.stretch v a y.spelled, ap bytes_in (some_same k))

bytes_token : (s u : Text) → left_by (byte_string s) ≡ Some u → bytes_in u ≤ bytes_in (past_look s)
bytes_token s u e = go (byte_string s) refl e
  where
    go : (o : Got Text) → byte_string s ≡ o → left_by o ≡ Some u → bytes_in u ≤ bytes_in (past_look s)
    go (failed f) h k = absurd (cc)
    go (got a v) h k =
        let y = word_byte_string.sound s a v h in
        omega (arith, ap (λ x. bytes_in (past_look x)) y.split, bytes_behind y.stretch v a y.spelled, ap bytes_in (some_same k))

-- ---- raw names

raw_less : (s : Text) → RawAt s → bytes_in (past_look (after_run in_raw_name (drop 2 s))) ≤ bytes_in (past_look s)
raw_less s r =
    let inside = r.first ∷ r.more in
    let over : past_look s ≡ past_look inside = ap past_look r.is ∙ run_step 114 (35 ∷ inside) letters.0 ∙ run_step 35 inside (or-true (starts_run 35)) in
    omega (arith, ap bytes_in over, ap (λ x. bytes_in (past_look (after_run in_raw_name (drop 2 x)))) r.is, run_less in_raw_name raw_clear inside)

pub beyond_less : (s : Text) → bytes_in (beyond s) ≤ bytes_in (past_look s)
beyond_less s = go (opens_raw_name s) refl
  where
    go : (b : Bool) → opens_raw_name s ≡ b → bytes_in (beyond s) ≤ bytes_in (past_look s)
    go true e = omega (arith, ap bytes_in (beyond_raw s e), raw_less s (raw_at s e))
    go false e = omega (arith, ap bytes_in (beyond_plain s e))

-- ---- tokens

pub over_skip : (c : ℕ) (s : Text) → starts_gap c ≡ true → bytes_in (past_look (skip (c ∷ s))) ≤ bytes_in (past_look (c ∷ s))
unfolding past_look past_words
over_skip c s g = go (in_look c) refl
  where
    words : past_words (skip (c ∷ s)) ≡ past_words (c ∷ s)
    words = ap (λ x. cond (is_at 47 x) [] x) (skip-skip (c ∷ s))

    go : (b : Bool) → in_look c ≡ b → bytes_in (past_look (skip (c ∷ s))) ≤ bytes_in (past_words (cond b (after_run in_look s) (c ∷ s)))
    go true e = absurd (let z : true ≡ false = sym g ∙ look_no_gap c e in cc)
    go false e = omega (arith, run_words (skip (c ∷ s)), ap bytes_in words)

over_gap : (c : ℕ) (s u : Text) → starts_gap c ≡ true → past_gap (c ∷ s) ≡ Some u → bytes_in (past_look u) ≤ bytes_in (past_look (c ∷ s))
over_gap c s u g k = omega (arith, over_skip c s g, ap (λ x. bytes_in (past_look x)) (past_gap_is (c ∷ s) u k))

first : (b d c : ℕ) (s : Text) → begins_with (b ∷ d ∷ []) (c ∷ s) ≡ true → (c == b) ≡ true
first b d c s e = (and_parts (c == b) (begins_with (d ∷ []) s) e).0

-- a quote stands here, or behind one character of a name
at_quote : (s more u : Text) → is_at 39 s ≡ true → s ≡ more ++ u → bytes_in u ≤ bytes_in (past_look s)
at_quote [] more u e f = absurd (cc)
at_quote (d ∷ s) more u e f =
    let is : d ≡ 39 = eqb-true d 39 e in
    omega (
      arith,
      ap (λ x. bytes_in (past_look (x ∷ s))) is,
      ap bytes_in (mark_whole 39 s quotes.1 refl),
      ap (λ x. bytes_in (x ∷ s)) is,
      size_end more u (d ∷ s) f,
    )

over_token : (s u : Text) → token s ≡ Some u → bytes_in (past_look u) ≤ bytes_in (past_look s)
unfolding token
over_token [] u k = absurd (cc)
over_token (c ∷ s) u k = go (starts_gap c) refl (opens_string (c ∷ s)) refl (opens_byte_string (c ∷ s)) refl (c == 39) refl (begins_with (codes "b'") (c ∷ s))
    refl (opens_raw_name (c ∷ s)) refl (starts_run c) refl k
  where
    Less : Type 0
    Less = bytes_in (past_look u) ≤ bytes_in (past_look (c ∷ s))

    shorter : bytes_in u ≤ bytes_in (past_look (c ∷ s)) → Less
    shorter h = omega (arith, run_no_more u, h)

    split : s ≡ (taken c s u k).more ++ u
    split = (taken c s u k).split

    quoted : (c == 39) ≡ true → bytes_in u ≤ bytes_in (past_look (c ∷ s))
    quoted v = at_quote (c ∷ s) (c ∷ (taken c s u k).more) u v (ap (λ x. c ∷ x) split)

    behind_b : begins_with (codes "b'") (c ∷ s) ≡ true → bytes_in u ≤ bytes_in (past_look (c ∷ s))
    behind_b w =
        let is : c ≡ 98 = eqb-true c 98 (first 98 39 c s w) in
        omega (
          arith,
          ap (λ x. bytes_in (past_look (x ∷ s))) is,
          ap bytes_in (run_step 98 s letters.1),
          at_quote s (taken c s u k).more u (second 98 39 c s w) split,
        )

    raw : opens_raw_name (c ∷ s) ≡ true → Less
    raw x =
        let r = raw_at (c ∷ s) x in
        omega (arith, ap (λ x. bytes_in (past_look x)) (raw_token (c ∷ s) u r k), raw_less (c ∷ s) r)

    word : starts_gap c ≡ false → starts_run c ≡ true → left_by (run starts_run continues_name (c ∷ s)) ≡ Some u → Less
    word p y z =
        let end : after_run continues_name s ≡ u =
        some_same (sym (ap (λ b. left_by (cond b (got (c ∷ run_of continues_name s) (after_run continues_name s)) (failed bad))) y) ∙ z) in
        omega (arith, ap (λ x. bytes_in (past_look x)) end, run_less continues_name continues_no_gap s, step_less c s p)

    one : starts_gap c ≡ false → past_one (c ∷ s) ≡ Some u → Less
    one p z = omega (arith, ap (λ x. bytes_in (past_look x)) (some_same z), step_less c s p)

    go : (a : Bool) → starts_gap c ≡ a → (b : Bool) → opens_string (c ∷ s) ≡ b → (d : Bool) → opens_byte_string (c ∷ s) ≡ d → (f : Bool) → (c == 39) ≡ f
        → (g : Bool) → begins_with (codes "b'") (c ∷ s) ≡ g → (h : Bool) → opens_raw_name (c ∷ s) ≡ h → (i : Bool) → starts_run c ≡ i
        → cond a (past_gap (c ∷ s)) (cond b (left_by (string (c ∷ s))) (cond d (left_by (byte_string (c ∷ s))) (cond f (left_by (char (c ∷ s)))
        (cond g (left_by (byte (c ∷ s))) (cond h (left_by (raw_name (c ∷ s))) (cond i (left_by (run starts_run continues_name (c ∷ s))) (past_one (c ∷ s))))))))
        ≡ Some u
        → Less
    go true p b q d r f v g w h x i y z = over_gap c s u p z
    go false p true q d r f v g w h x i y z = shorter (string_token (c ∷ s) u z)
    go false p false q true r f v g w h x i y z = shorter (bytes_token (c ∷ s) u z)
    go false p false q false r true v g w h x i y z = shorter (quoted v)
    go false p false q false r false v true w h x i y z = shorter (behind_b w)
    go false p false q false r false v false w true x i y z = raw x
    go false p false q false r false v false w false x true y z = word p y z
    go false p false q false r false v false w false x false y z = one p z

pub beyond_token : (s u : Text) → token s ≡ Some u → bytes_in (beyond u) ≤ bytes_in (beyond s)
beyond_token s u k = go (opens_raw_name s) refl
  where
    go : (b : Bool) → opens_raw_name s ≡ b → bytes_in (beyond u) ≤ bytes_in (beyond s)
    go true e = omega (arith, beyond_less u, ap (λ x. bytes_in (past_look x)) (raw_token s u (raw_at s e) k), ap bytes_in (beyond_raw s e))
    go false e = omega (arith, beyond_less u, over_token s u k, ap bytes_in (beyond_plain s e))

pub beyond_walk : IsBeyondWalk
beyond_walk commas d e s u w = go w
  where
    go : {d e : ℕ} {s u : Text} → Walk commas d s e u → bytes_in (beyond u) ≤ bytes_in (beyond s)
    go (here d s) = omega arith
    go (on d c t next e u h k r) = let le = go r in omega (arith, beyond_token (c ∷ (t ++ next)) next k, le)
