-- What code finds of an edge and of a wish, in the words of the permission.
use Rattle.std.proofs.Common.{◌≡◌, ℕ, Bool, true, false, if◌then◌else◌, cond, ◌==◌, length, length-append, nat_lt, ltb-true, drop, [], ◌∷◌, ◌++◌, ◌⊎◌, inl, inr}
use Rattle.std.proofs.Common.{Some, None, refl, sym, ap, subst, ◌∙◌, append_assoc, arith}
use Rattle.std.proofs.lemmas.Slice.Eq.{bytes_eq-Decides}
use Rattle.std.proofs.lemmas.List.{append_cancel_right}
use Rattle.ron_spec_words.specs.Characters.{Text}
use Rattle.ron_spec_words.specs.Runs.{begins, after_run}
use Rattle.ron_spec_words.specs.Gap.{Gap, opens_line, opens_block, after_line, after_block, after_comment, skip, gap_of}
use Rattle.ron_spec_words.specs.Scan.{token, starts_gap}
use Rattle.ron_spec_words.proofs.Comments.{Line, line_found, Block, block_found}
use Rattle.ron_spec_words.proofs.Direct.{begins-drop}
use Rattle.ron_spec_words.proofs.Gaps.{cut, skip-gap, skip-other, take-front}
use Rattle.ron_format_words.specs.Comments.{without_last_blanks, comments_of}
use Rattle.ron_format_words.specs.Edge.{holds_comma, is_closed, is_closed_edge}
use Rattle.ron_format_words.proofs.Comments.{comments-other, comments-comment}
use Rattle.ron_format_words.proofs.Edges.{gap_anywhere, closed_gap, alone_holds_none}

-- where no gap goes on, the token is none
pub no_gap_token : (s rest : Text) → skip s ≡ s → token s ≡ Some rest → begins starts_gap s ≡ false
unfolding token
no_gap_token s rest n e = go (begins starts_gap s) refl
  where
    none : (x : Bool) → nat_lt (length (skip s)) (length s) ≡ x → cond x (Some (skip s)) None ≡ Some rest → ⊥
    none true h k = let less = ltb-true (length (skip s)) (length s) h in absurd (omega (arith, less, ap length n))
    none false h k = absurd (cc)

    go : (x : Bool) → begins starts_gap s ≡ x → x ≡ false
    go false h = refl
    go true h = absurd (none (nat_lt (length (skip s)) (length s)) refl (rw h at e))

-- ---- a wish behind which a comma was put

closed : (g : Text) → skip (g ++ 44 ∷ []) ≡ 44 ∷ [] → is_closed g ≡ true
closed g e = (bytes_eq-Decides (skip (g ++ 44 ∷ [])) (44 ∷ [])).1 e

-- it is a gap
pub wish_alone : (wish : Text) → skip (wish ++ 44 ∷ []) ≡ 44 ∷ [] → (holds_comma wish ≡ false) × (is_closed_edge wish ≡ true)
wish_alone wish e =
    let none : holds_comma wish ≡ false = alone_holds_none wish (44 ∷ []) (closed_gap wish (closed wish e) (44 ∷ [])) in
    (none, rw none (closed wish e))

-- it is a gap, a comma and a gap
pub wish_separated : (wish second : Text) → skip (wish ++ 44 ∷ []) ≡ (44 ∷ second) ++ 44 ∷ [] → skip (second ++ 44 ∷ []) ≡ 44 ∷ []
    → (holds_comma wish ≡ true) × (is_closed_edge wish ≡ true)
wish_separated wish second e f =
    let c = cut (wish ++ 44 ∷ []) in
    let gap : Text = gap_of (wish ++ 44 ∷ []) in
    let is_gap : Gap gap (44 ∷ (second ++ 44 ∷ [])) = subst (λ x. Gap gap x) e c.is_gap.is_gap in
    let split : wish ≡ gap ++ 44 ∷ second =
    append_cancel_right wish (gap ++ 44 ∷ second) (44 ∷ []) (c.split ∙ ap (λ x. gap ++ x) e ∙ sym (append_assoc gap (44 ∷ second) (44 ∷ []))) in
    let behind : skip wish ≡ 44 ∷ second =
    ap skip split ∙ skip-gap (gap_anywhere {next = 44 ∷ (second ++ 44 ∷ [])} (44 ∷ second) (λ z. cc) is_gap) ∙ skip-other 44 second refl refl in
    (rw behind refl, rw behind (closed second f))

-- ---- comments, one after the other

-- what holds no slash holds no comment
pub comments-run : (p : ℕ → Bool) → ((c : ℕ) → p c ≡ true → (c == 47) ≡ false) → (s : Text) → comments_of s ≡ comments_of (after_run p s)
unfolding after_comment
comments-run p h [] = refl
comments-run p h (c ∷ s) = go (comments-run p h s) (p c) refl
  where
    none : (c == 47) ≡ false → after_comment (c ∷ s) ≡ None
    none e = rw e refl

    go : comments_of s ≡ comments_of (after_run p s) → (x : Bool) → p c ≡ x → comments_of (c ∷ s) ≡ comments_of (if x then after_run p s else c ∷ s)
    go ih true e = comments-other c s (none (h c e)) ∙ ih
    go ih false e = refl

-- a comment is not empty
not_itself : (s : Text) → after_comment s ≡ Some s → ⊥
unfolding after_comment
not_itself s e = go (opens_line s) refl (opens_block s) refl e
  where
    of_line : opens_line s ≡ true → after_line (drop 2 s) ≡ s → Line (drop 2 s) → ⊥
    of_line k z h = ends h.ends
      where
        whole : s ≡ 47 ∷ 47 ∷ drop 2 s
        whole = begins-drop (47 ∷ 47 ∷ []) s k

        ends : (drop 2 s ≡ h.line ++ 10 ∷ after_line (drop 2 s)) ⊎ ((drop 2 s ≡ h.line) × (after_line (drop 2 s) ≡ [])) → ⊥
        ends (inl x) = absurd (omega (arith, ap length whole, ap length x, ap length z, length-append h.line (10 ∷ after_line (drop 2 s))))
        ends (inr (x, y)) = absurd (let none : [] ≡ 47 ∷ 47 ∷ drop 2 s = sym y ∙ z ∙ whole in cc)

    of_block : opens_block s ≡ true → Block (drop 2 s) s → ⊥
    of_block k h =
        let whole : s ≡ 47 ∷ 42 ∷ drop 2 s = begins-drop (47 ∷ 42 ∷ []) s k in
        absurd (omega (arith, ap length whole, ap length h.split, length-append h.inner (42 ∷ 47 ∷ s)))

    go : (a : Bool) → opens_line s ≡ a → (b : Bool) → opens_block s ≡ b
        → cond a (Some (after_line (drop 2 s))) (cond b (after_block 0 (drop 2 s)) None) ≡ Some s → ⊥
    go true k b l q = let z : after_line (drop 2 s) ≡ s = cc in of_line k z (line_found (drop 2 s))
    go false k true l q = of_block l (block_found (drop 2 s) s q)
    go false k false l q = absurd (cc)

-- the comment that stands here, and those behind it
pub comments-taken : (s t rest : Text) → s ≡ t ++ rest → after_comment s ≡ Some rest → comments_of s ≡ without_last_blanks t ∷ comments_of rest
comments-taken s [] rest e f = absurd (not_itself s (f ∙ ap Some (sym e)))
comments-taken s (c ∷ t) rest e f =
    ap comments_of e ∙ comments-comment c t rest (subst (λ x. after_comment x ≡ Some rest) e f)
    ∙ ap (λ x. without_last_blanks x ∷ comments_of rest) (take-front (c ∷ t) rest)
