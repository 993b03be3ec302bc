-- Texts of the same words, step by step: what a mark leads to, what a word leads to, and what a class of characters sees.
use Rattle.std.proofs.Common.{◌≡◌, ℕ, Bool, true, false, ◌||◌, ◌==◌, [], ◌∷◌, ◌++◌, Some, refl, eqb-true, if◌then◌else◌, ap, subst}
use Rattle.std.proofs.lemmas.Bool.{not-true}
use Rattle.ron_spec_words.specs.Characters.{Text, is_blank, continues_name}
use Rattle.unicode_ident.proofs.Computing.{unicode_ident}
use Rattle.ron_spec_words.specs.Runs.{begins, is_ended}
use Rattle.ron_spec_words.specs.Gap.{Gap, skip}
use Rattle.ron_spec_words.specs.Scan.{token, starts_gap, starts_run}
use Rattle.ron_spec_words.proofs.Gaps.{skip-other, skip-end}
use Rattle.ron_spec_words.proofs.Classes.{apart, no_blank}
use Rattle.ron_spec_words.proofs.Tokens.{gap_starts, starts_clear}
use Rattle.ron_format_words.specs.Alike.{is_mark, is_solid, a_word, mark_before, may_replace, Step, Alike, ended, mark, word}

or_parts : (a b : Bool) → (a || b) ≡ false → (a ≡ false) × (b ≡ false)
or_parts true b e = absurd (cc)
or_parts false b e = (refl, e)

-- ---- no gap begins where a mark or a word stands

pub solid_no_gap : (c : ℕ) (s : Text) → is_solid c ≡ true → skip (c ∷ s) ≡ c ∷ s
solid_no_gap c s h =
    let k = or_parts (starts_gap c) (is_mark c) (not-true _ h) in
    let l = or_parts (is_blank c) (c == 47) k.0 in
    skip-other c s l.0 l.1

pub mark_no_gap : (c : ℕ) (s : Text) → is_mark c ≡ true → skip (c ∷ s) ≡ c ∷ s
mark_no_gap c s h = skip-other c s (blank c h) (apart is_mark 47 c refl h)
  where
    blank : (d : ℕ) → is_mark d ≡ true → is_blank d ≡ false
    blank d k = go (is_blank d) refl
      where
        go : (b : Bool) → is_blank d ≡ b → b ≡ false
        go false e = refl
        go true e =
            let none : is_mark d ≡ false =
            rw (
              apart is_blank 44 d refl e,
              apart is_blank 58 d refl e,
              apart is_blank 41 d refl e,
              apart is_blank 93 d refl e,
              apart is_blank 125 d refl e,
              apart is_blank 40 d refl e,
              apart is_blank 91 d refl e,
              apart is_blank 123 d refl e,
            ) refl in
            absurd (cc)

pub alike_no_gap : {k : Text → Bool} {s u : Text} → Alike k s u → skip u ≡ u
alike_no_gap ended = skip-end
alike_no_gap (mark c s u rest other m g r) = mark_no_gap c u m
alike_no_gap (word c t s u rest other h e f g r) = solid_no_gap c (t ++ u) h

-- what a mark leads to
pub record AfterMark (k : Text → Bool) (c : ℕ) (next v : Text) : Type 0 where
  pub left : Text
  pub rest : Text
  pub other : Text
  pub split : v ≡ c ∷ left
  pub step : Step k (mark_before c) next left rest other
  pub alike : Alike k rest other

pub after_mark : {k : Text → Bool} (c : ℕ) (next v : Text) → is_mark c ≡ true → Alike k (c ∷ next) v → AfterMark k c next v
after_mark c next v m (mark _ _ u rest other h g r) = record { left = u; rest = rest; other = other; split = refl; step = g; alike = r }
after_mark c next v m (word _ t s u rest other h e f g r) = absurd (let k = or_parts (starts_gap c) (is_mark c) (not-true _ h) in cc)

-- what a word leads to
pub record AfterWord (k : Text → Bool) (x next v : Text) : Type 0 where
  pub stretch : Text
  pub left : Text
  pub rest : Text
  pub other : Text
  pub same : x ≡ stretch ++ next
  pub split : v ≡ stretch ++ left
  pub token : token (stretch ++ left) ≡ Some left
  pub step : Step k a_word next left rest other
  pub alike : Alike k rest other

pub after_word : {k : Text → Bool} (x next v : Text) → begins is_solid x ≡ true → token x ≡ Some next → Alike k x v → AfterWord k x next v
after_word _ next v h e ended = absurd (cc)
after_word _ next v h e (mark c s u rest other m g r) = absurd (let k = or_parts (starts_gap c) (is_mark c) (not-true _ h) in cc)
after_word {k = m} _ next v h e (word c t s u rest other k e' f g r) =
    let same : s ≡ next = cc in
    record {
      stretch = c ∷ t;
      left = u;
      rest = rest;
      other = other;
      same = ap (λ x. c ∷ (t ++ x)) same;
      split = refl;
      token = f;
      step = subst (λ x. Step m a_word x u rest other) same g;
      alike = r;
    }

-- ---- what a class of a word's characters sees behind a word

-- a class of which no gap and no mark begins
abbrev pub Within : (ℕ → Bool) → Type 0
Within p = (c : ℕ) → p c ≡ true → is_solid c ≡ true

-- the text has ended, or a mark stands there
abbrev pub stops : Text → Bool
stops s = is_ended s || begins is_mark s

pub solid_no_mark : (c : ℕ) → is_solid c ≡ true → is_mark c ≡ false
solid_no_mark c h = (or_parts (starts_gap c) (is_mark c) (not-true _ h)).1

pub solid_no_start : (c : ℕ) → is_solid c ≡ true → starts_gap c ≡ false
solid_no_start c h = (or_parts (starts_gap c) (is_mark c) (not-true _ h)).0

pub no_stop_within : (p : ℕ → Bool) → Within p → (s : Text) → stops s ≡ true → begins p s ≡ false
no_stop_within p w [] e = refl
no_stop_within p w (c ∷ s) e = go (p c) refl
  where
    go : (b : Bool) → p c ≡ b → b ≡ false
    go false k = refl
    go true k = let n = solid_no_mark c (w c k) in absurd (cc)

pub no_gap_within : (p : ℕ → Bool) → Within p → (c : ℕ) (g next : Text) → Gap (c ∷ g) next → p c ≡ false
no_gap_within p w c g next h = go (p c) refl
  where
    go : (b : Bool) → p c ≡ b → b ≡ false
    go false k = refl
    go true k = let n = solid_no_start c (w c k) in let y = gap_starts c g next h in absurd (cc)

pub stops_both : {k : Text → Bool} {s u : Text} → Alike k s u → stops s ≡ true → stops u ≡ true
stops_both ended e = e
stops_both (mark c s u rest other m g r) e = e
stops_both (word c t s u rest other h e' f g r) e = e

-- a gap that came or went behind a word: a mark stands there, or the end
pub left_gap : (c : ℕ) (g rest : Text) → may_replace a_word (c ∷ g) [] rest ≡ true → stops rest ≡ true
left_gap c g [] e = refl
left_gap c g (d ∷ rest) e = go (d == 40) refl (is_mark d) refl e
  where
    go : (b : Bool) → (d == 40) ≡ b → (m : Bool) → is_mark d ≡ m → (if b then true else if m then true else false) ≡ true → is_mark d ≡ true
    go true k m l q = let same = eqb-true d 40 k in rw same refl
    go false k true l q = l
    go false k false l q = absurd (cc)

pub new_gap : (c : ℕ) (g rest : Text) → may_replace a_word [] (c ∷ g) rest ≡ true → stops rest ≡ true
new_gap c g [] e = refl
new_gap c g (d ∷ rest) e = go (d == 40) (is_mark d) refl e
  where
    go : (b : Bool) → (m : Bool) → is_mark d ≡ m → (if b then false else if m then true else false) ≡ true → is_mark d ≡ true
    go true m l q = absurd (cc)
    go false true l q = l
    go false false l q = absurd (cc)

-- what begins a run, and what goes on with one, is within
pub run_within : Within starts_run
unfolding unicode_ident
run_within c h =
    rw (
      no_blank starts_run starts_clear c h,
      apart starts_run 47 c refl h,
      apart starts_run 44 c refl h,
      apart starts_run 58 c refl h,
      apart starts_run 41 c refl h,
      apart starts_run 93 c refl h,
      apart starts_run 125 c refl h,
      apart starts_run 40 c refl h,
      apart starts_run 91 c refl h,
      apart starts_run 123 c refl h,
    ) refl

or_right : (a b : Bool) → b ≡ true → (a || b) ≡ true
or_right true b e = refl
or_right false b e = e

pub name_within : Within continues_name
name_within c h = run_within c (or_right _ (continues_name c) h)
