-- What the tests of tokens see of a text: the front of it without gaps and marks, which is the same in texts of the same words.
use Rattle.std.proofs.Common.{◌≡◌, ℕ, Bool, true, false, ◌||◌, ◌&&◌, ◌==◌, if◌then◌else◌, drop, [], ◌∷◌, ◌++◌, refl, sym, ap, ◌∙◌, eqb-true}
use Rattle.ron_spec_words.specs.Characters.{Text}
use Rattle.ron_spec_words.specs.Runs.{begins, is_at, begins_with, run_of, after_run}
use Rattle.ron_spec_words.specs.Gap.{Gap}
use Rattle.ron_spec_words.specs.Scan.{is_closing, is_hash, opens_raw, opens_string, opens_byte_string}
use Rattle.ron_format_words.specs.Alike.{is_mark, is_solid, a_word, may_replace, Gapped, Step, plain, added, dropped, OnlyGap, WithLast, Alike, ended, mark}
use Rattle.ron_format_words.specs.Alike.{word}
use Rattle.ron_format_words.proofs.Steps.{Within, stops, no_gap_within, no_stop_within, left_gap, new_gap, stops_both, solid_no_mark}

-- the characters up to the first with which a gap or a mark begins
abbrev pub front : Text → Text
front s = run_of is_solid s

pub same_front : (t s u : Text) → front s ≡ front u → front (t ++ s) ≡ front (t ++ u)
same_front [] s u e = e
same_front (c ∷ t) s u e = ap (λ x. if is_solid c then c ∷ x else []) (same_front t s u e)

solid_itself : Within is_solid
solid_itself c h = h

stopped : (c : ℕ) (s : Text) → is_solid c ≡ false → front (c ∷ s) ≡ []
stopped c s e = rw e refl

no_front : (s : Text) → begins is_solid s ≡ false → front s ≡ []
no_front [] e = refl
no_front (c ∷ s) e = stopped c s e

gap_no_front : (c : ℕ) (g next : Text) → Gap (c ∷ g) next → front ((c ∷ g) ++ next) ≡ []
gap_no_front c g next h = stopped c (g ++ next) (no_gap_within is_solid solid_itself c g next h)

stop_no_front : (s : Text) → stops s ≡ true → front s ≡ []
stop_no_front s e = no_front s (no_stop_within is_solid solid_itself s e)

pub closing_mark : (c : ℕ) → is_closing c ≡ true → is_mark c ≡ true
closing_mark c h = go (c == 41) (c == 93) (c == 125) refl refl refl h
  where
    go : (x y z : Bool) → (c == 41) ≡ x → (c == 93) ≡ y → (c == 125) ≡ z → (x || (y || z)) ≡ true → is_mark c ≡ true
    go true y z a b d k = rw (eqb-true c 41 a) refl
    go false true z a b d k = rw (eqb-true c 93 b) refl
    go false false true a b d k = rw (eqb-true c 125 d) refl
    go false false false a b d k = absurd (cc)

mark_not_solid : (c : ℕ) → is_mark c ≡ true → is_solid c ≡ false
mark_not_solid c m = go (is_solid c) refl
  where
    go : (b : Bool) → is_solid c ≡ b → b ≡ false
    go false e = refl
    go true e = let k = solid_no_mark c e in absurd (cc)

gapped_front : {k : Text → Bool} {s u rest other : Text} → Gapped a_word s u rest other → Alike k rest other → front rest ≡ front other → front s ≡ front u
gapped_front {s = s} {u = u} {rest = rest} {other = other} x r k = go x.gap x.instead x.split x.splits x.is_gap.is_gap x.is_other.is_gap x.may
  where
    go : (g h : Text) → s ≡ g ++ rest → u ≡ h ++ other → Gap g rest → Gap h other → may_replace a_word g h rest ≡ true → front s ≡ front u
    go [] [] e f a b m = ap front e ∙ k ∙ sym (ap front f)
    go [] (d ∷ h) e f a b m = ap front e ∙ stop_no_front rest (new_gap d h rest m) ∙ sym (ap front f ∙ gap_no_front d h other b)
    go (c ∷ g) [] e f a b m = ap front e ∙ gap_no_front c g rest a ∙ sym (ap front f ∙ stop_no_front other (stops_both r (left_gap c g rest m)))
    go (c ∷ g) (d ∷ h) e f a b m = ap front e ∙ gap_no_front c g rest a ∙ sym (ap front f ∙ gap_no_front d h other b)

-- behind a gap before a mark nothing solid stands
gap_stops : (g s : Text) → Gap g s → front s ≡ [] → front (g ++ s) ≡ []
gap_stops [] s h e = e
gap_stops (c ∷ g) s h e = gap_no_front c g s h

pub closing_front : (s : Text) → begins is_closing s ≡ true → front s ≡ []
closing_front [] e = refl
closing_front (c ∷ s) e = stopped c s (mark_not_solid c (closing_mark c e))

pub only_front : {s rest : Text} → OnlyGap s rest → front rest ≡ [] → front s ≡ []
only_front {s} {rest} x e = ap front x.split ∙ gap_stops x.gap rest x.is_gap.is_gap e

pub last_front : {s rest : Text} → WithLast s rest → front s ≡ []
last_front {s} {rest} x = ap front x.split ∙ gap_stops x.gap (44 ∷ (x.second ++ rest)) x.is_gap.is_gap refl

step_front : {k : Text → Bool} {s u rest other : Text} → Step k a_word s u rest other → Alike k rest other → front rest ≡ front other → front s ≡ front u
step_front (plain x) r e = gapped_front x r e
step_front {rest = rest} {other = other} (added c i b x y) r e = only_front x (closing_front rest b) ∙ sym (last_front y)
step_front {rest = rest} {other = other} (dropped c i b x y) r e = last_front x ∙ sym (only_front y (sym e ∙ closing_front rest b))

pub alike_front : {k : Text → Bool} {s u : Text} → Alike k s u → front s ≡ front u
alike_front ended = refl
alike_front (mark c s u rest other m g r) = stopped c s (mark_not_solid c m) ∙ sym (stopped c u (mark_not_solid c m))
alike_front (word c t s u rest other h e f g r) = same_front (c ∷ t) s u (step_front g r (alike_front r))

pub front_behind : {k : Text → Bool} {s u rest other : Text} → Step k a_word s u rest other → Alike k rest other → front s ≡ front u
front_behind g r = step_front g r (alike_front r)

-- ---- the tests

-- the test sees no more than the front
pub record Sees {A : Type 0} (p : Text → A) : Type 0 where
  pub at : (s : Text) → p s ≡ p (front s)

pub seen_same : {A : Type 0} {p : Text → A} → Sees p → {s u : Text} → front s ≡ front u → p s ≡ p u
seen_same {p = p} h {s} {u} e = h.at s ∙ ap p e ∙ sym (h.at u)

pub sees_begins : (p : ℕ → Bool) → Within p → Sees (begins p)
sees_begins p w = record { at = at }
  where
    at : (s : Text) → begins p s ≡ begins p (front s)
    at [] = refl
    at (c ∷ s) = go (is_solid c) refl
      where
        go : (b : Bool) → is_solid c ≡ b → p c ≡ begins p (if b then c ∷ front s else [])
        go true e = refl
        go false e = no (p c) refl
          where
            no : (b : Bool) → p c ≡ b → b ≡ false
            no false k = refl
            no true k = let y = w c k in absurd (cc)

-- all are of the class
abbrev pub All : (ℕ → Bool) → Text → Type 0
All p [] = Unit {0}
All p (c ∷ w) = (p c ≡ true) × All p w

pub sees_with : (w : Text) → All is_solid w → Sees (begins_with w)
sees_with w h = record { at = at w h }
  where
    at : (w : Text) → All is_solid w → (s : Text) → begins_with w s ≡ begins_with w (front s)
    at [] h s = refl
    at (c ∷ w) h [] = refl
    at (c ∷ w) h (d ∷ s) = go (at w h.1 s) (is_solid d) refl
      where
        go : begins_with w s ≡ begins_with w (front s) → (b : Bool) → is_solid d ≡ b
            → ((d == c) && begins_with w s) ≡ begins_with (c ∷ w) (if b then d ∷ front s else [])
        go ih true e = ap (λ x. (d == c) && x) ih
        go ih false e = no (d == c) refl
          where
            no : (b : Bool) → (d == c) ≡ b → (b && begins_with w s) ≡ false
            no false k = refl
            no true k = let y = eqb-true d c k in absurd (let z : is_solid d ≡ true = rw y h.0 in cc)

pub sees_after : (p q : ℕ → Bool) → Within p → Within q → Sees (λ s. begins q (after_run p s))
sees_after p q v w = record { at = at }
  where
    at : (s : Text) → begins q (after_run p s) ≡ begins q (after_run p (front s))
    at [] = refl
    at (c ∷ s) = go (at s) (p c) refl
      where
        go : begins q (after_run p s) ≡ begins q (after_run p (front s)) → (b : Bool) → p c ≡ b
            → begins q (if b then after_run p s else c ∷ s) ≡ begins q (after_run p (front (c ∷ s)))
        go ih true k = rw (v c k, k) ih
        go ih false k = other (is_solid c) refl
          where
            other : (b : Bool) → is_solid c ≡ b → q c ≡ begins q (after_run p (if b then c ∷ front s else []))
            other true e = rw k refl
            other false e = no (q c) refl
              where
                no : (b : Bool) → q c ≡ b → b ≡ false
                no false l = refl
                no true l = let y = w c l in absurd (cc)

-- ---- what opens a token

hash_within : Within is_hash
hash_within c h = let e = eqb-true c 35 h in rw e solid_hash
  where
    solid_hash : is_solid 35 ≡ true
    solid_hash = refl

pub one_within : (d : ℕ) → is_solid d ≡ true → Within (λ c. c == d)
one_within d k c h = let e = eqb-true c d h in rw e k

sees_raw : Sees opens_raw
sees_raw = record { at = at }
  where
    -- behind the first character
    behind : (c : ℕ) (s : Text) → (b : Bool) → is_solid c ≡ b → ((c == 114) && is_at 34 (after_run is_hash s))
        ≡ (is_at 114 (if b then c ∷ front s else []) && is_at 34 (after_run is_hash (drop 1 (if b then c ∷ front s else []))))
    behind c s true e = ap (λ x. (c == 114) && x) ((sees_after is_hash (λ d. d == 34) hash_within (one_within 34 refl)).at s)
    behind c s false e = no (c == 114) refl
      where
        no : (b : Bool) → (c == 114) ≡ b → (b && is_at 34 (after_run is_hash s)) ≡ false
        no false k = refl
        no true k = let y = one_within 114 refl c k in absurd (cc)

    at : (s : Text) → opens_raw s ≡ opens_raw (front s)
    at [] = refl
    at (c ∷ s) = behind c s (is_solid c) refl

pub sees_string : Sees opens_string
sees_string = record { at = λ s. rw (← (sees_begins (λ d. d == 34) (one_within 34 refl)).at s, ← sees_raw.at s) refl }

pub sees_byte_string : Sees opens_byte_string
sees_byte_string = record { at = at }
  where
    behind : (c : ℕ) (s : Text) → (b : Bool) → is_solid c ≡ b
        → ((c == 98) && opens_string s) ≡ (is_at 98 (if b then c ∷ front s else []) && opens_string (drop 1 (if b then c ∷ front s else [])))
    behind c s true e = ap (λ x. (c == 98) && x) (sees_string.at s)
    behind c s false e = no (c == 98) refl
      where
        no : (b : Bool) → (c == 98) ≡ b → (b && opens_string s) ≡ false
        no false k = refl
        no true k = let y = one_within 98 refl c k in absurd (cc)

    at : (s : Text) → opens_byte_string s ≡ opens_byte_string (front s)
    at [] = refl
    at (c ∷ s) = behind c s (is_solid c) refl
