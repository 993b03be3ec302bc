-- Classes of characters that hold no stop, no blank, no slash and no hash: what a word begins with ends no gap and no value.
use Rattle.std.proofs.Common.{◌≡◌, ℕ, zero, suc, ◌+◌, ◌≤◌, ◌<◌, ◌==◌, ◌||◌, nat_le, Bool, true, false, ◌∷◌, refl, sym, ap, subst, ◌∙◌, arith, eqb-true}
use Rattle.std.proofs.Common.{leb-true}
use Rattle.std.proofs.lemmas.Bool.{eqb-false}
use Rattle.std.specs.Int.{is_in_range}
use Rattle.std.specs.Char.{is_ascii_hexdigit}
use Rattle.std.proofs.lemmas.Bool.{and_parts, or_parts}
use Rattle.unicode_ident.proofs.Computing.{unicode_ident}
use Rattle.ron_spec_words.specs.Characters.{Text, starts_name, is_blank}
use Rattle.ron_spec_words.specs.Runs.{is_at}
use Rattle.ron_spec_words.specs.Gap.{is_delimiter, ends_value, skip}
use Rattle.ron_spec_words.specs.Lang.{Lang}
use Rattle.ron_spec_words.proofs.Gaps.{skip-other}
use Rattle.ron_spec_words.proofs.Words.{First}

-- what is of a class is no character that is not
pub apart : (p : ℕ → Bool) (n c : ℕ) → p n ≡ false → p c ≡ true → (c == n) ≡ false
apart p n c e h = go (c == n) refl
  where
    go : (b : Bool) → (c == n) ≡ b → b ≡ false
    go true k = absurd (let x : true ≡ false = sym h ∙ ap p (eqb-true c n k) ∙ e in cc)
    go false k = refl

-- a fact of each of the n numbers from lo on
abbrev pub AllFrom : (ℕ → Type 0) → ℕ → ℕ → Type 0
AllFrom P zero lo = Unit {0}
AllFrom P (suc n) lo = P lo × AllFrom P n (lo + 1)

pub among : (P : ℕ → Type 0) (n lo c : ℕ) → lo ≤ c → c < lo + n → AllFrom P n lo → P c
among P zero lo c le lt h = absurd (omega (arith, le, lt))
among P (suc n) lo c le lt h = go (c == lo) refl (λ l. among P n (lo + 1) c l (omega (arith, lt)) h.1)
  where
    go : (b : Bool) → (c == lo) ≡ b → (lo + 1 ≤ c → P c) → P c
    go true e k = subst P (sym (eqb-true c lo e)) h.0
    go false e k = k (let d : (c ≡ lo → ⊥) = eqb-false c lo e in omega (arith, le, d))

not_in_range : (p : ℕ → Bool) (n lo hi c : ℕ) → hi + 1 ≡ lo + n → AllFrom (λ k. p k ≡ false) n lo → p c ≡ true → is_in_range lo hi c ≡ false
not_in_range p n lo hi c e h k = go (is_in_range lo hi c) refl
  where
    go : (b : Bool) → is_in_range lo hi c ≡ b → b ≡ false
    go true r =
        let w = and_parts (nat_le lo c) (nat_le c hi) r in
        let f : p c ≡ false = among (λ i. p i ≡ false) n lo c (leb-true lo c w.0) (let m = leb-true c hi w.1 in omega (arith, m, e)) h in
        absurd (let x : true ≡ false = sym k ∙ f in cc)
    go false r = refl

-- a class that holds no stop, no blank, no slash and no hash
pub record Clear (p : ℕ → Bool) : Type 0 where
  pub stop : (p 44 ≡ false) × (p 58 ≡ false) × (p 41 ≡ false) × (p 93 ≡ false) × (p 125 ≡ false)
  pub range : AllFrom (λ k. p k ≡ false) 5 9
  pub blank : (p 0x20 ≡ false) × (p 0x85 ≡ false) × (p 0x200E ≡ false) × (p 0x200F ≡ false) × (p 0x2028 ≡ false) × (p 0x2029 ≡ false)
  pub slash : p 47 ≡ false
  pub hash : p 35 ≡ false

no_stop : (p : ℕ → Bool) → Clear p → (c : ℕ) → p c ≡ true → is_delimiter c ≡ false
no_stop p h c k = rw (apart p 44 c h.stop.0 k, apart p 58 c h.stop.1 k, apart p 41 c h.stop.2 k, apart p 93 c h.stop.3 k, apart p 125 c h.stop.4 k) refl

pub no_blank : (p : ℕ → Bool) → Clear p → (c : ℕ) → p c ≡ true → is_blank c ≡ false
no_blank p h c k = rw (
  not_in_range p 5 9 13 c refl h.range k,
  apart p 0x20 c h.blank.0 k,
  apart p 0x85 c h.blank.1 k,
  apart p 0x200E c h.blank.2 k,
  apart p 0x200F c h.blank.3 k,
  apart p 0x2028 c h.blank.4 k,
  apart p 0x2029 c h.blank.5 k,
) refl

-- neither a stop nor a gap nor a slash nor a hash begins the text
abbrev pub Solid : Text → Type 0
Solid s = (ends_value s ≡ false) × (skip s ≡ s) × (is_at 47 s ≡ false) × (is_at 35 s ≡ false)

-- what begins so begins with no slash
pub first_solid : {A : Type 0} {L : Lang A} → First Solid L → First (λ s. is_at 47 s ≡ false) L
first_solid h = record { holds = λ t next a z. (h.holds t next a z).2 }

pub solid_mark : (c : ℕ) (s : Text) → is_delimiter c ≡ false → is_blank c ≡ false → ((c == 47) || (c == 35)) ≡ false → Solid (c ∷ s)
solid_mark c s e f n = let k = or_parts (c == 47) (c == 35) n in (e, skip-other c s f k.0, k.0, k.1)

pub solid_class : (p : ℕ → Bool) → Clear p → (c : ℕ) (s : Text) → p c ≡ true → Solid (c ∷ s)
solid_class p h c s k = solid_mark c s (no_stop p h c k) (no_blank p h c k) (rw (apart p 47 c h.slash k, apart p 35 c h.hash k) refl)

pub solid_name : (c : ℕ) (s : Text) → starts_name c ≡ true → Solid (c ∷ s)
unfolding unicode_ident
solid_name c s k = solid_class starts_name (record {
  stop = (refl, refl, refl, refl, refl);
  range = (refl, (refl, (refl, (refl, (refl, tt)))));
  blank = (refl, refl, refl, refl, refl, refl);
  slash = refl;
  hash = refl;
}) c s k

pub solid_hexdigit : (c : ℕ) (s : Text) → is_ascii_hexdigit c ≡ true → Solid (c ∷ s)
solid_hexdigit c s k = solid_class is_ascii_hexdigit (record {
  stop = (refl, refl, refl, refl, refl);
  range = (refl, (refl, (refl, (refl, (refl, tt)))));
  blank = (refl, refl, refl, refl, refl, refl);
  slash = refl;
  hash = refl;
}) c s k

-- `(` begins no name
pub starts_bracket : starts_name 40 ≡ false
unfolding unicode_ident
starts_bracket = refl
