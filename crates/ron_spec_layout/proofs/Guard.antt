-- What begins like an option, and what stands before a bracket: for layouts whose Somes are written out or not.
use Rattle.std.proofs.Common.{◌≡◌, ℕ, suc, ◌≤◌, ◌<◌, ◌==◌, Bool, true, false, cond, [], ◌∷◌, ◌++◌, length, codes, ◌⊎◌, inl, inr, refl, sym, ap, ◌∙◌, arith}
use Rattle.std.proofs.Common.{append_assoc, append-nil, length-append}
use Rattle.std.proofs.lemmas.Bool.{or_parts}
use Rattle.unicode_ident.proofs.Computing.{unicode_ident}
use Rattle.ron_spec_words.specs.Characters.{Text, line_feed, continues_name}
use Rattle.ron_spec_words.specs.Runs.{Every, run_of, same_text}
use Rattle.ron_spec_words.specs.Gap.{Piece, blank, line, block, Gap, none, piece, last_line, skip, after_line, after_comment, gap_of}
use Rattle.ron_spec_words.specs.Lang.{Lang}
use Rattle.ron_spec_words.specs.Statement.{CutsAtGap}
use Rattle.ron_spec_words.specs.Directly.{stands}
use Rattle.ron_spec_words.proofs.Gaps.{skip-past, skip-gap, length-skip, cut}
use Rattle.ron_spec_words.proofs.Direct.{stands-run}
use Rattle.ron_spec_grammar.specs.Shapes.Option.{opens_option}
use Rattle.ron_spec_layout.specs.Brackets.{opens_as_option}
use Rattle.ron_spec_layout.specs.Stand.{Stands}

-- ---- where no gap begins at a text and what follows it, none begins at the text

after_line-shorter : (s : Text) → length (after_line s) ≤ length s
after_line-shorter [] = omega arith
after_line-shorter (c ∷ s) = go (c == line_feed) (after_line-shorter s)
  where
    go : (b : Bool) → length (after_line s) ≤ length s → length (cond b s (after_line s)) ≤ suc (length s)
    go true le = omega arith
    go false le = omega arith

some_characters : {p : Text} → Piece p → 1 ≤ length p
some_characters (blank c h) = omega arith
some_characters (line t h) = omega arith
some_characters (block inner h) = omega arith

-- a gap at the front is none, or is passed over at least in part
passed : {g next : Text} → Gap g next → (w : Text) → (g ≡ []) ⊎ (length (skip (g ++ (next ++ w))) < length (g ++ (next ++ w)))
unfolding after_comment
passed none w = inl refl
passed (piece p g next h k) w =
    let one : Gap (p ++ []) (g ++ (next ++ w)) = piece p [] (g ++ (next ++ w)) h none in
    let same : skip (p ++ (g ++ (next ++ w))) ≡ skip (g ++ (next ++ w)) = ap (λ q. skip (q ++ (g ++ (next ++ w)))) (sym (append-nil p)) ∙ skip-gap one in
    inr (rw (append_assoc p g (next ++ w), same)
    (let le = length-skip (g ++ (next ++ w)) in let some = some_characters h in omega (arith, le, some, length-append p (g ++ (next ++ w)))))
passed (last_line t h) w =
    let same : skip (47 ∷ 47 ∷ (t ++ w)) ≡ skip (after_line (t ++ w)) = skip-past (47 ∷ 47 ∷ (t ++ w)) (after_line (t ++ w)) refl refl in
    inr (rw same (let le = length-skip (after_line (t ++ w)) in let shorter = after_line-shorter (t ++ w) in omega (arith, le, shorter)))

pub skip-front : (u w : Text) → skip (u ++ w) ≡ u ++ w → skip u ≡ u
skip-front u w h = go (passed k.is_gap.is_gap w)
  where
    k : CutsAtGap u
    k = cut u

    whole : u ++ w ≡ gap_of u ++ (skip u ++ w)
    whole = ap (λ t. t ++ w) k.split ∙ append_assoc (gap_of u) (skip u) w

    go : (gap_of u ≡ []) ⊎ (length (skip (gap_of u ++ (skip u ++ w))) < length (gap_of u ++ (skip u ++ w))) → skip u ≡ u
    go (inl e) = sym (k.split ∙ ap (λ g. g ++ skip u) e)
    go (inr lt) = absurd (let same = ap length (ap skip (sym whole) ∙ h ∙ whole) in omega (arith, lt, same))

-- a gap that something follows is a gap before anything
gap_before : {g n : Text} → Gap g n → (c : ℕ) (rest s : Text) → n ≡ c ∷ rest → Gap g s
gap_before none c rest s e = none
gap_before (piece p g next h k) c rest s e = piece p g s h (gap_before k c rest s e)
gap_before (last_line t h) c rest s e = absurd (cc)

-- so a gap at the front of what stands there is the same before the bracket
pub skip-stands : {A : Type 0} {L : Text → Lang A} {t rest : Text} {a : A} → Stands L t (41 ∷ rest) a → skip (t ++ 41 ∷ rest) ≡ skip t ++ 41 ∷ rest
skip-stands {t = t} {rest = rest} h =
    let closed : (s : Text) → Gap h.before s = closed_at h.text_from h.is_before in
    let front : skip h.text_from ≡ h.text_from = skip-front h.text_from (41 ∷ rest) h.from.solid in
    ap (λ u. skip (u ++ 41 ∷ rest)) h.split ∙ ap skip (append_assoc h.before h.text_from (41 ∷ rest)) ∙ skip-gap (closed (h.text_from ++ 41 ∷ rest))
    ∙ h.from.solid
    ∙ ap (λ u. u ++ 41 ∷ rest) (sym (ap skip h.split ∙ skip-gap (closed h.text_from) ∙ front))
  where
    closed_at : {g : Text} (u : Text) → Gap g (u ++ 41 ∷ rest) → (s : Text) → Gap g s
    closed_at [] k s = gap_before k _ _ s refl
    closed_at (c ∷ u) k s = gap_before k _ _ s refl

-- ---- the words `None` and `Some`

pub none_every : Every continues_name (codes "None")
unfolding unicode_ident
none_every = (refl, (refl, (refl, (refl, tt))))

pub some_every : Every continues_name (codes "Some")
unfolding unicode_ident
some_every = (refl, (refl, (refl, (refl, tt))))

run-bracket : (u s : Text) → run_of continues_name (u ++ 41 ∷ s) ≡ run_of continues_name u
unfolding unicode_ident
run-bracket [] s = refl
run-bracket (c ∷ u) s = elim (continues_name c) as (λ b. cond b (c ∷ run_of continues_name (u ++ 41 ∷ s)) []
    ≡ cond b (c ∷ run_of continues_name u) []) [ true ↦ ap (λ z. c ∷ z) (run-bracket u s) | false ↦ refl ]

word-bracket : (w u s : Text) → Every continues_name w → stands w (u ++ 41 ∷ s) ≡ stands w u
word-bracket w u s h = stands-run w (u ++ 41 ∷ s) h ∙ ap (λ r. same_text r w) (run-bracket u s) ∙ sym (stands-run w u h)

-- a bracket behind a text does not make it an option
pub option-bracket : (t s : Text) → skip (t ++ 41 ∷ s) ≡ skip t ++ 41 ∷ s → opens_as_option (t ++ 41 ∷ s) ≡ opens_as_option t
option-bracket t s h = rw (h, word-bracket (codes "None") (skip t) s none_every, word-bracket (codes "Some") (skip t) s some_every) refl

-- what begins with neither word passes the guard
pub passes_guard : (s : Text) → skip s ≡ s → opens_as_option s ≡ false → opens_option s ≡ false
passes_guard s e h =
    let k = or_parts (stands (codes "None") (skip s)) (stands (codes "Some") (skip s)) h in
    let no_none : stands (codes "None") s ≡ false = ap (stands (codes "None")) (sym e) ∙ k.0 in
    let no_some : stands (codes "Some") s ≡ false = ap (stands (codes "Some")) (sym e) ∙ k.1 in
    rw (no_none, no_some) refl

-- what begins with another character than theirs, and with no gap
pub other_mark : (c : ℕ) (s : Text) → skip (c ∷ s) ≡ c ∷ s → (c == 78) ≡ false → (c == 83) ≡ false → opens_as_option (c ∷ s) ≡ false
other_mark c s e n o = rw (e, n, o) refl
