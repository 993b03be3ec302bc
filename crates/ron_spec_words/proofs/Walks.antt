-- Walks over whole tokens, one behind the other, deeper, over one token, a bracket, a comma and a gap: for `Passing`.
use Rattle.std.proofs.Common.{◌≡◌, ℕ, zero, suc, ◌==◌, Bool, true, false, not, ◌||◌, cond, [], ◌∷◌, ◌++◌, Some, ◌⊎◌, inl, inr, refl, eqb-true}
use Rattle.std.proofs.lemmas.Bool.{or_parts, not-true}
use Rattle.std.proofs.Math.Bool.{and-false}
use Rattle.unicode_ident.proofs.Computing.{unicode_ident}
use Rattle.ron_spec_words.specs.Characters.{Text}
use Rattle.ron_spec_words.specs.Runs.{begins}
use Rattle.ron_spec_words.specs.Gap.{LongGap}
use Rattle.ron_spec_words.specs.Scan.{starts_gap, starts_run, token, is_opening, is_closing, level, ends, Walk, here, on}
use Rattle.ron_spec_words.proofs.Classes.{apart}
use Rattle.ron_spec_words.proofs.NumbersWritten.{or_cases}
use Rattle.ron_spec_words.proofs.Tokens.{gap_starts, token_gap}

-- ---- one walk behind the other, and a walk elsewhere

pub walk_on : {b : Bool} {d e f : ℕ} {s u v : Text} → Walk b d s e u → Walk b e u f v → Walk b d s f v
walk_on (here d s) w = w
walk_on (on d c t next e u h k r) w = on d c t next _ _ h k (walk_on r w)

ends_alike : (d c : ℕ) → ends false d c ≡ false → ends true d c ≡ false
ends_alike zero c e = let k = or_parts (is_closing c) (c == 44) e in rw k.0 refl
ends_alike (suc d) c e = refl

-- a walk where commas are not allowed is one where they are
pub walk_any : (b : Bool) {d e : ℕ} {s u : Text} → Walk false d s e u → Walk b d s e u
walk_any false w = w
walk_any true (here d s) = here d s
walk_any true (on d c t next e u h k r) = on d c t next e u (ends_alike d c h) k (walk_any true r)

level-suc : (d c : ℕ) → ends true d c ≡ false → suc (level d c) ≡ level (suc d) c
level-suc zero c e = let k = or_parts (is_closing c) false e in
    rw k.0 (elim (is_opening c) as (λ b. suc (cond b 1 0) ≡ cond b 2 1) [ true ↦ refl | false ↦ refl ])
level-suc (suc d) c e = go (is_opening c) (is_closing c)
  where
    go : (a b : Bool) → suc (cond a (suc (suc d)) (cond b d (suc d))) ≡ cond a (suc (suc (suc d))) (cond b (suc d) (suc (suc d)))
    go true b = refl
    go false true = refl
    go false false = refl

-- a walk is one too within a further bracket, and there commas may stand
pub walk_within : {b : Bool} {d e : ℕ} {s u : Text} → Walk true d s e u → Walk b (suc d) s (suc e) u
walk_within (here d s) = here (suc d) s
walk_within (on d c t next e u h k r) = on (suc d) c t next (suc e) u refl k (rw (← level-suc d c h) (walk_within r))

-- ---- one token

-- neither a bracket nor a comma
abbrev pub is_other : ℕ → Bool
is_other c = not (is_opening c || (is_closing c || (c == 44)))

-- what is of a class without these is none of them
pub other_class : (p : ℕ → Bool) → (p 40 ≡ false) × (p 91 ≡ false) × (p 123 ≡ false) → (p 41 ≡ false) × (p 93 ≡ false) × (p 125 ≡ false) → p 44 ≡ false
    → (c : ℕ) → p c ≡ true → is_other c ≡ true
other_class p o z m c h =
    rw (apart p 40 c o.0 h, apart p 91 c o.1 h, apart p 123 c o.2 h, apart p 41 c z.0 h, apart p 93 c z.1 h, apart p 125 c z.2 h, apart p 44 c m h) refl

pub run_other : (c : ℕ) → starts_run c ≡ true → is_other c ≡ true
unfolding unicode_ident
run_other c h = other_class starts_run (refl, refl, refl) (refl, refl, refl) refl c h

pub gap_other : (c : ℕ) → starts_gap c ≡ true → is_other c ≡ true
gap_other c h = other_class starts_gap (refl, refl, refl) (refl, refl, refl) refl c h

-- what neither closes nor is a comma ends nothing
pub goes_on : (b : Bool) (d c : ℕ) → is_closing c ≡ false → (c == 44) ≡ false → ends b d c ≡ false
goes_on b zero c e f = rw (e, f) (and-false (not b))
goes_on b (suc d) c e f = refl

pub walk_token : (b : Bool) (d : ℕ) (t next : Text) → begins is_other (t ++ next) ≡ true → token (t ++ next) ≡ Some next → Walk b d (t ++ next) d next
walk_token b d [] next h e = here d next
walk_token b d (c ∷ t) next h e =
    let k = or_parts (is_opening c) (is_closing c || (c == 44)) (not-true _ h) in
    let l = or_parts (is_closing c) (c == 44) k.1 in
    on d c t next d next (goes_on b d c l.0 l.1) e (rw (k.0, l.0) (here d next))

-- ---- brackets and commas

-- a character that is a token by itself, whatever follows
abbrev Alone : ℕ → Type 0
Alone c = (s : Text) → token (c ∷ s) ≡ Some s

opens_alone : Alone 40 × Alone 91 × Alone 123
unfolding token unicode_ident
opens_alone = (λ s. refl, λ s. refl, λ s. refl)

closes_alone : Alone 41 × Alone 93 × Alone 125
unfolding token unicode_ident
closes_alone = (λ s. refl, λ s. refl, λ s. refl)

one_of_three : (P : ℕ → Type 0) (a b d c : ℕ) → P a × P b × P d → ((c == a) || ((c == b) || (c == d))) ≡ true → P c
one_of_three P a b d c h e = go (or_cases (c == a) ((c == b) || (c == d)) e)
  where
    at : (x : ℕ) → (c == x) ≡ true → P x → P c
    at x k y = rw (eqb-true c x k) y

    rest : ((c == b) ≡ true) ⊎ ((c == d) ≡ true) → P c
    rest (inl k) = at b k h.1
    rest (inr k) = at d k h.2

    go : ((c == a) ≡ true) ⊎ (((c == b) || (c == d)) ≡ true) → P c
    go (inl k) = at a k h.0
    go (inr k) = rest (or_cases (c == b) (c == d) k)

-- each bracket is a token by itself
pub opening_alone : (c : ℕ) (s : Text) → is_opening c ≡ true → token (c ∷ s) ≡ Some s
opening_alone c s h = one_of_three Alone 40 91 123 c opens_alone h s

pub closing_alone : (c : ℕ) (s : Text) → is_closing c ≡ true → token (c ∷ s) ≡ Some s
closing_alone c s h = one_of_three Alone 41 93 125 c closes_alone h s

pub opening_no_closing : (c : ℕ) → is_opening c ≡ true → is_closing c ≡ false
opening_no_closing c h = rw (apart is_opening 41 c refl h, apart is_opening 93 c refl h, apart is_opening 125 c refl h) refl

pub closing_no_opening : (c : ℕ) → is_closing c ≡ true → is_opening c ≡ false
closing_no_opening c h = rw (apart is_closing 40 c refl h, apart is_closing 91 c refl h, apart is_closing 123 c refl h) refl

pub walk_open : (b : Bool) (d c : ℕ) (s : Text) → is_opening c ≡ true → Walk b d (c ∷ s) (suc d) s
walk_open b d c s h =
    on d c [] s (suc d) s (goes_on b d c (opening_no_closing c h) (apart is_opening 44 c refl h)) (opening_alone c s h) (rw h (here (suc d) s))

pub walk_close : (b : Bool) (d c : ℕ) (s : Text) → is_closing c ≡ true → Walk b (suc d) (c ∷ s) d s
walk_close b d c s h = on (suc d) c [] s d s refl (closing_alone c s h) (rw (closing_no_opening c h, h) (here d s))

pub comma_alone : (s : Text) → token (44 ∷ s) ≡ Some s
unfolding token unicode_ident
comma_alone s = refl

pub colon_alone : (s : Text) → token (58 ∷ s) ≡ Some s
unfolding token unicode_ident
colon_alone s = refl

comma_goes_on : (d : ℕ) → ends true d 44 ≡ false
comma_goes_on zero = refl
comma_goes_on (suc d) = refl

pub walk_comma : (d : ℕ) (s : Text) → Walk true d (44 ∷ s) d s
walk_comma d s = on d 44 [] s d s (comma_goes_on d) (comma_alone s) (here d s)

-- ---- gaps

pub walk_gap : (b : Bool) (d : ℕ) (gap next : Text) → LongGap gap next → Walk b d (gap ++ next) d next
walk_gap b d [] next h = here d next
walk_gap b d (c ∷ gap) next h = walk_token b d (c ∷ gap) next (gap_other c (gap_starts c gap next h.is_gap)) (token_gap c gap next h)
