-- What is kept of a gap is a gap, and leaves no line comment open.
use Rattle.std.proofs.Common.{◌≡◌, ℕ, ◌==◌, Bool, true, false, not, cond, [], ◌∷◌, ◌++◌, ◌⊎◌, inl, inr, refl, sym, ap, ◌∙◌, length, drop, append_assoc}
use Rattle.std.proofs.Common.{append-nil, subst}
use Rattle.std.proofs.Math.Seq.{drop-append_seam}
use Rattle.std.specs.Char.{is_whitespace}
use Rattle.ron_spec_words.specs.Characters.{Text}
use Rattle.ron_spec_words.specs.Runs.{Every, is_at}
use Rattle.ron_spec_words.specs.Gap.{in_line, Piece, blank, line, block, Gap, none, piece, last_line, skip}
use Rattle.ron_spec_words.proofs.Gaps.{skip-gap, skip-other, skip_to_end}
use Rattle.ron_spec_words.proofs.TokenRuns.{every_append}
use Rattle.ron_spec_grammar.specs.Raw.{trim_front, or_nothing, trim_back, leaves_open, through_line, kept}
use Rattle.ron_spec_grammar.proofs.Raw.Moves.{gap_any}

-- a gap before which another stands, which is not at the end of the text
pub gap_append : {a b n next : Text} → Gap a n → (n ≡ [] → ⊥) → Gap b next → Gap (a ++ b) next
gap_append none k h = h
gap_append {b = b} {next = next} (piece p g n r s) k h = subst (λ t. Gap t next) (sym (append_assoc p g b)) (piece p (g ++ b) next r (gap_append s k h))
gap_append (last_line t r) k h = absurd (k refl)

-- ---- white space at the start

pub front_gap : {g next : Text} → Gap g next → Gap (trim_front g) next
front_gap none = none
front_gap {next = next} (piece p g n (blank c e) r) = go (is_whitespace c) (front_gap r)
  where
    go : (b : Bool) → Gap (trim_front g) next → Gap (cond b (trim_front g) (c ∷ g)) next
    go true k = k
    go false k = piece (c ∷ []) g next (blank c e) r
front_gap (piece p g n (line t h) r) = piece _ g n (line t h) r
front_gap (piece p g n (block t h) r) = piece _ g n (block t h) r
front_gap (last_line t h) = last_line t h

-- ---- white space at the end

-- what is trimmed, and the white space behind it
record Trims (t : Text) : Type 0 where
  white : Text
  split : t ≡ trim_back t ++ white
  every : Every is_whitespace white

trims : (t : Text) → Trims t
trims [] = record { white = []; split = refl; every = tt }
trims (c ∷ t) = go (trims t)
  where
    one : (b : Bool) → is_whitespace c ≡ b → (w : Text) → t ≡ w → Every is_whitespace w
        → (white : Text) × (c ∷ t ≡ cond b [] (c ∷ []) ++ white) × Every is_whitespace white
    one true e w k h = (c ∷ w, ap (λ u. c ∷ u) k, (e, h))
    one false e w k h = (w, ap (λ u. c ∷ u) k, h)

    rest : (u w : Text) → t ≡ u ++ w → Every is_whitespace w → (white : Text) × (c ∷ t ≡ or_nothing c u ++ white) × Every is_whitespace white
    rest [] w k h = one (is_whitespace c) refl w k h
    rest (d ∷ u) w k h = (w, ap (λ v. c ∷ v) k, h)

    go : Trims t → Trims (c ∷ t)
    go h = let k = rest (trim_back t) h.white h.split h.every in record { white = k.0; split = k.1; every = k.2 }

-- two ways to cut one text: the second cut is within the first part, or not
record Within (p g t w : Text) : Type 0 where
  mark : ℕ
  more : Text
  first : p ≡ t ++ mark ∷ more
  second : w ≡ mark ∷ (more ++ g)

record Past (p g t w : Text) : Type 0 where
  more : Text
  first : t ≡ p ++ more
  second : g ≡ more ++ w

cut_cut : (p g t w : Text) → p ++ g ≡ t ++ w → Within p g t w ⊎ Past p g t w
cut_cut [] g t w e = inr (record { more = t; first = refl; second = e })
cut_cut (c ∷ p) g [] w e = inl (record { mark = c; more = p; first = refl; second = sym e })
cut_cut (c ∷ p) g (d ∷ t) w e = let same : c ≡ d = cc in go same (cut_cut p g t w (cc))
  where
    go : c ≡ d → Within p g t w ⊎ Past p g t w → Within (c ∷ p) g (d ∷ t) w ⊎ Past (c ∷ p) g (d ∷ t) w
    go s (inl h) = inl (record { mark = h.mark; more = h.more; first = rw s (ap (λ u. d ∷ u) h.first); second = h.second })
    go s (inr h) = inr (record { more = h.more; first = rw s (ap (λ u. d ∷ u) h.first); second = h.second })

every_first : (p : ℕ → Bool) (t u : Text) → Every p (t ++ u) → Every p t × Every p u
every_first p [] u h = (tt, h)
every_first p (c ∷ t) u h = let k = every_first p t u h.1 in ((h.0, k.0), k.1)

one_is : (c d : ℕ) (t u : Text) → c ∷ [] ≡ t ++ d ∷ u → (t ≡ []) × (c ≡ d) × (u ≡ [])
one_is c d [] u e = (refl, cc, cc)
one_is c d (b ∷ []) u e = absurd (cc)
one_is c d (b ∷ a ∷ t) u e = absurd (cc)

slash_white : is_whitespace 47 ≡ true → ⊥
slash_white e = cc

-- what ends with a slash ends with no white space
slash_last : (x t : Text) (c : ℕ) (w : Text) → x ++ 47 ∷ [] ≡ t ++ c ∷ w → Every is_whitespace (c ∷ w) → ⊥
slash_last x t c w e h = go (cut_cut x (47 ∷ []) t (c ∷ w) e)
  where
    go : Within x (47 ∷ []) t (c ∷ w) ⊎ Past x (47 ∷ []) t (c ∷ w) → ⊥
    go (inl k) = let all : Every is_whitespace ((k.mark ∷ k.more) ++ 47 ∷ []) = subst (Every is_whitespace) k.second h in
        slash_white (every_first is_whitespace (k.mark ∷ k.more) (47 ∷ []) all).1.0
    go (inr k) = let o = one_is 47 c k.more w k.second in slash_white (ap is_whitespace o.1 ∙ h.0)

-- What is left of a gap without the white space at its end is a gap, or it ends in a line comment, whose LF was white space.
record OpenLine (t w : Text) : Type 0 where
  gap : Text
  words : Text
  rest : Text
  more : Text
  is_gap : Gap gap (44 ∷ [])
  first : t ≡ gap ++ 47 ∷ 47 ∷ words
  every : Every in_line words
  second : w ≡ rest ++ 10 ∷ more
  within : Every in_line rest

behind_gap : (p t u w : Text) → Piece p → t ≡ p ++ u → Gap u (44 ∷ []) ⊎ OpenLine u w → Gap t (44 ∷ []) ⊎ OpenLine t w
behind_gap p t u w h e (inl k) = inl (subst (λ v. Gap v (44 ∷ [])) (sym e) (piece p u (44 ∷ []) h k))
behind_gap p t u w h e (inr k) = inr (record {
  gap = p ++ k.gap;
  words = k.words;
  rest = k.rest;
  more = k.more;
  is_gap = piece p k.gap (44 ∷ []) h k.is_gap;
  first = e ∙ ap (λ v. p ++ v) k.first ∙ sym (append_assoc p k.gap (47 ∷ 47 ∷ k.words));
  every = k.every;
  second = k.second;
  within = k.within;
})

-- a cut within a line comment
line_cut : (u t g : Text) (c : ℕ) (w : Text) → Every in_line u → 47 ∷ 47 ∷ (u ++ 10 ∷ []) ≡ t ++ c ∷ w → Every is_whitespace (c ∷ w) → OpenLine t (c ∷ (w ++ g))
line_cut u [] g c w h e k = absurd (let same : c ≡ 47 = cc in slash_white (ap is_whitespace (sym same) ∙ k.0))
line_cut u (a ∷ []) g c w h e k = absurd (let same : c ≡ 47 = cc in slash_white (ap is_whitespace (sym same) ∙ k.0))
line_cut u (a ∷ b ∷ t) g c w h e k = let p : a ≡ 47 = cc in let q : b ≡ 47 = cc in go p q (cut_cut u (10 ∷ []) t (c ∷ w) (cc))
  where
    go : a ≡ 47 → b ≡ 47 → Within u (10 ∷ []) t (c ∷ w) ⊎ Past u (10 ∷ []) t (c ∷ w) → OpenLine (a ∷ b ∷ t) (c ∷ (w ++ g))
    go p q (inl z) = let all = every_first in_line t (z.mark ∷ z.more) (subst (Every in_line) z.first h) in record {
      gap = [];
      words = t;
      rest = z.mark ∷ z.more;
      more = g;
      is_gap = none;
      first = rw (p, q) refl;
      every = all.0;
      second = ap (λ v. v ++ g) z.second ∙ append_assoc (z.mark ∷ z.more) (10 ∷ []) g;
      within = all.1;
    }
    go p q (inr z) = let o = one_is 10 c z.more w z.second in record {
      gap = [];
      words = u;
      rest = [];
      more = g;
      is_gap = none;
      first = rw (p, q) (ap (λ v. 47 ∷ 47 ∷ v) (z.first ∙ ap (λ v. u ++ v) o.0 ∙ append-nil u));
      every = h;
      second = rw (← o.1, o.2) refl;
      within = tt;
    }

piece_cut : (p t g : Text) (c : ℕ) (w : Text) → Piece p → p ≡ t ++ c ∷ w → Every is_whitespace (c ∷ w) → Gap t (44 ∷ []) ⊎ OpenLine t (c ∷ (w ++ g))
piece_cut p t g c w (blank d e) k h = inl (let o = one_is d c t w k in rw o.0 none)
piece_cut p t g c w (line u e) k h = inr (line_cut u t g c w e k h)
piece_cut p t g c w (block inner e) k h =
    absurd (slash_last (47 ∷ 42 ∷ (inner ++ 42 ∷ [])) t c w (ap (λ v. 47 ∷ 42 ∷ v) (append_assoc inner (42 ∷ []) (47 ∷ [])) ∙ k) h)

gap_cut : {g next : Text} → Gap g next → next ≡ 44 ∷ [] → (t w : Text) → g ≡ t ++ w → Every is_whitespace w → Gap t (44 ∷ []) ⊎ OpenLine t w
gap_cut none n [] w e h = inl none
gap_cut none n (c ∷ t) w e h = absurd (cc)
gap_cut (last_line u k) n t w e h = absurd (cc)
gap_cut (piece p g next k r) n t w e h = go (cut_cut p g t w e) (λ u f. gap_cut r n u w f h)
  where
    go : Within p g t w ⊎ Past p g t w → ((u : Text) → g ≡ u ++ w → Gap u (44 ∷ []) ⊎ OpenLine u w) → Gap t (44 ∷ []) ⊎ OpenLine t w
    go (inl z) more = subst (λ v. Gap t (44 ∷ []) ⊎ OpenLine t v) (sym z.second)
        (piece_cut p t g z.mark z.more k z.first (every_first is_whitespace (z.mark ∷ z.more) g (subst (Every is_whitespace) z.second h)).0)
    go (inr z) more = behind_gap p t z.more w k z.first (more z.more z.second)

through : (t more : Text) → Every in_line t → through_line (t ++ 10 ∷ more) ≡ t ++ 10 ∷ []
through [] more h = refl
through (c ∷ t) more h = go (c == 10) h.0 (through t more h.1)
  where
    go : (b : Bool) → not b ≡ true → through_line (t ++ 10 ∷ more) ≡ t ++ 10 ∷ []
        → ◌≡◌ {A = Text} (cond b (c ∷ []) (c ∷ through_line (t ++ 10 ∷ more))) (c ∷ (t ++ 10 ∷ []))
    go true k e = absurd (cc)
    go false k e = ap (λ u. c ∷ u) e

-- what is kept leaves no line comment open
pub kept_gap : (g : Text) → Gap g (44 ∷ []) → Gap (kept g) (44 ∷ [])
unfolding kept leaves_open
kept_gap g h = let z = trims g in go z (gap_cut h refl (trim_back g) z.white z.split z.every)
  where
    T : Text
    T = trim_back g

    go : (z : Trims g) → Gap (trim_back g) (44 ∷ []) ⊎ OpenLine (trim_back g) z.white
        → Gap (cond (not (is_at 44 (skip (trim_back g ++ 44 ∷ [])))) (trim_back g ++ through_line (drop (length (trim_back g)) g)) (trim_back g)) (44 ∷ [])
    go z (inl k) = rw (skip-gap k, skip-other 44 [] refl refl) k
    go z (inr k) =
        let all : Every in_line (k.words ++ 44 ∷ []) = every_append in_line k.words (44 ∷ []) k.every (refl, tt) in
        let ends : trim_back g ++ 44 ∷ [] ≡ k.gap ++ 47 ∷ 47 ∷ (k.words ++ 44 ∷ []) =
        ap (λ u. u ++ 44 ∷ []) k.first ∙ append_assoc k.gap (47 ∷ 47 ∷ k.words) (44 ∷ []) in
        let swallows : skip (trim_back g ++ 44 ∷ []) ≡ [] = ap skip ends ∙ skip-gap (gap_any k.is_gap (λ e. cc) (47 ∷ 47 ∷ (k.words ++ 44 ∷ [])))
        ∙ skip_to_end (47 ∷ 47 ∷ (k.words ++ 44 ∷ [])) (last_line (k.words ++ 44 ∷ []) all) in
        let behind : drop (length (trim_back g)) g ≡ k.rest ++ 10 ∷ k.more =
        ap (drop (length (trim_back g))) z.split ∙ drop-append_seam (trim_back g) z.white ∙ k.second in
        let lines : trim_back g ++ (k.rest ++ 10 ∷ []) ≡ k.gap ++ 47 ∷ 47 ∷ ((k.words ++ k.rest) ++ 10 ∷ []) =
        ap (λ u. u ++ (k.rest ++ 10 ∷ [])) k.first ∙ append_assoc k.gap (47 ∷ 47 ∷ k.words) (k.rest ++ 10 ∷ [])
        ∙ ap (λ u. k.gap ++ 47 ∷ 47 ∷ u) (sym (append_assoc k.words k.rest (10 ∷ []))) in
        let last : Gap (47 ∷ 47 ∷ ((k.words ++ k.rest) ++ 10 ∷ [])) (44 ∷ []) = subst (λ u. Gap u (44 ∷ [])) (append-nil _) (piece
        (47 ∷ 47 ∷ ((k.words ++ k.rest) ++ 10 ∷ [])) [] (44 ∷ []) (line (k.words ++ k.rest) (every_append in_line k.words k.rest k.every k.within)) none) in
        rw (swallows, behind, through k.rest k.more k.within, lines) (gap_append k.is_gap (λ e. cc) last)
