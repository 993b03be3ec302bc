-- Laws of gaps: the longest one is one, nothing of a gap follows it, and a text behind it changes nothing. For every rule with gaps.
use Rattle.std.proofs.Common.{◌≡◌, ℕ, zero, suc, Bool, true, false, cond, [], ◌∷◌, ◌++◌, ◌⊎◌, inl, inr, Option, Some, None, refl, sym, ap, ◌∙◌, ◌-◌, ◌≤◌, ◌==◌}
use Rattle.std.proofs.Common.{length, drop, take, take_at, length-append, append_assoc, append-nil, subst, arith}
use Rattle.ron_spec_words.specs.Characters.{Text, is_blank}
use Rattle.ron_spec_words.specs.Runs.{begins, Every}
use Rattle.ron_spec_words.specs.Gap.{in_line, opens_line, opens_block, Piece, blank, line, block, Gap, none, piece, last_line, after_line, after_block}
use Rattle.ron_spec_words.specs.Gap.{after_comment, skip_from, skip, LongGap, gap_of}
use Rattle.ron_spec_words.specs.Statement.{CutsAtGap}
use Rattle.ron_spec_words.proofs.Comments.{line-end, line-last, Line, line_found, inside-end, Block, block_found}
use Rattle.ron_spec_words.proofs.Direct.{begins-drop}

-- ---- a step

pub skip-end : skip [] ≡ []
unfolding skip skip_from
skip-end = refl

pub skip-blank : (c : ℕ) (s : Text) → is_blank c ≡ true → skip (c ∷ s) ≡ skip s
unfolding skip skip_from
skip-blank c s e = rw e refl

no_comment : (c : ℕ) (s : Text) → (c == 47) ≡ false → after_comment (c ∷ s) ≡ None
unfolding after_comment
no_comment c s e = rw e refl

-- where no comment begins that ends
skip-stay : (c : ℕ) (s : Text) → is_blank c ≡ false → after_comment (c ∷ s) ≡ None → skip (c ∷ s) ≡ c ∷ s
unfolding skip skip_from
skip-stay c s e h = rw (e, h) refl

-- what is neither a blank nor a slash begins no gap
pub skip-other : (c : ℕ) (s : Text) → is_blank c ≡ false → (c == 47) ≡ false → skip (c ∷ s) ≡ c ∷ s
skip-other c s e f = skip-stay c s e (no_comment c s f)

-- past the characters that were counted
skip-counted : (t s : Text) → skip_from (length t) (t ++ s) ≡ skip s
unfolding skip skip_from
skip-counted [] s = refl
skip-counted (c ∷ t) s = skip-counted t s

skip-comment : (c : ℕ) (t s : Text) → is_blank c ≡ false → after_comment (c ∷ (t ++ s)) ≡ Some s → skip (c ∷ (t ++ s)) ≡ skip s
unfolding skip skip_from
skip-comment c t s e h =
    let n : length (t ++ s) - length s ≡ length t = omega (arith, length-append t s) in
    rw (e, h, n) (skip-counted t s)

-- ---- what is a gap is passed

skip-piece : {p : Text} → Piece p → (s : Text) → skip (p ++ s) ≡ skip s
unfolding after_comment
skip-piece (blank c e) s = skip-blank c s e
skip-piece (line t h) s = skip-comment 47 (47 ∷ (t ++ 10 ∷ [])) s refl (ap Some (ap after_line (append_assoc t (10 ∷ []) s) ∙ line-end t s h))
skip-piece (block inner h) s =
    skip-comment 47 (42 ∷ (inner ++ 42 ∷ 47 ∷ [])) s refl (ap (after_block 0) (append_assoc inner (42 ∷ 47 ∷ []) s) ∙ inside-end h 0 s)

skip-last_line : (t : Text) → Every in_line t → skip (47 ∷ 47 ∷ t) ≡ []
unfolding after_comment
skip-last_line t h =
    let e : after_comment (47 ∷ 47 ∷ (t ++ [])) ≡ Some [] = ap Some (ap after_line (append-nil t) ∙ line-last t h) in
    ap (λ x. skip (47 ∷ 47 ∷ x)) (sym (append-nil t)) ∙ skip-comment 47 (47 ∷ t) [] refl e ∙ skip-end

pub skip-gap : {gap next : Text} → Gap gap next → skip (gap ++ next) ≡ skip next
skip-gap none = refl
skip-gap {next = next} (piece p g next' h r) = rw append_assoc (skip-piece h (g ++ next') ∙ skip-gap r)
skip-gap (last_line t h) = ap skip (append-nil (47 ∷ 47 ∷ t)) ∙ skip-last_line t h ∙ sym skip-end

-- ---- what is passed is a gap

-- a comment was found, which goes on to rest; with a gap behind it, it is a gap
record Found (c : ℕ) (s rest : Text) : Type 0 where
  more : Text
  split : s ≡ more ++ rest
  joins : (g next : Text) → rest ≡ g ++ next → Gap g next → Gap (c ∷ (more ++ g)) next

last_joins : (t g next : Text) → Every in_line t → [] ≡ g ++ next → Gap (47 ∷ 47 ∷ (t ++ g)) next
last_joins t [] [] h e = subst (λ (x : Text). Gap (47 ∷ 47 ∷ x) []) (sym (append-nil t)) (last_line t h)
last_joins t [] (c ∷ next) h e = absurd (cc)
last_joins t (c ∷ g) next h e = absurd (cc)

found_line : (u : Text) → Found 47 (47 ∷ u) (after_line u)
found_line u = go (line_found u)
  where
    go : Line u → Found 47 (47 ∷ u) (after_line u)
    go h = ends h.ends
      where
        ends : (u ≡ h.line ++ 10 ∷ after_line u) ⊎ ((u ≡ h.line) × (after_line u ≡ [])) → Found 47 (47 ∷ u) (after_line u)
        ends (inl e) = record {
          more = 47 ∷ (h.line ++ 10 ∷ []);
          split = ap (λ x. 47 ∷ x) (e ∙ sym (append_assoc h.line (10 ∷ []) (after_line u)));
          joins = λ g next k r. piece (47 ∷ 47 ∷ (h.line ++ 10 ∷ [])) g next (line h.line h.every) r;
        }
        ends (inr (e, f)) = record {
          more = 47 ∷ u;
          split = rw f (sym (append-nil (47 ∷ u)));
          joins = λ g next k r. last_joins u g next (subst (Every in_line) (sym e) h.every) (sym f ∙ k);
        }

found_block : (u rest : Text) → Block u rest → Found 47 (42 ∷ u) rest
found_block u rest h = record {
  more = 42 ∷ (h.inner ++ 42 ∷ 47 ∷ []);
  split = ap (λ x. 42 ∷ x) (h.split ∙ sym (append_assoc h.inner (42 ∷ 47 ∷ []) rest));
  joins = λ g next k r. piece (47 ∷ 42 ∷ (h.inner ++ 42 ∷ 47 ∷ [])) g next (block h.inner h.is_inside) r;
}

comment_found : (c : ℕ) (s rest : Text) → after_comment (c ∷ s) ≡ Some rest → Found c s rest
unfolding after_comment
comment_found c s rest e = go (opens_line (c ∷ s)) refl (opens_block (c ∷ s)) refl e
  where
    put : (d : ℕ) → ◌≡◌ {A = Text} (c ∷ s) (47 ∷ d ∷ drop 2 (c ∷ s)) → Found 47 (d ∷ drop 2 (c ∷ s)) rest → Found c s rest
    put d k h = let a : c ≡ 47 = cc in let b : s ≡ d ∷ drop 2 (c ∷ s) = cc in subst (λ n. Found n s rest) (sym a) (subst (λ x. Found 47 x rest) (sym b) h)

    go : (a : Bool) → opens_line (c ∷ s) ≡ a → (b : Bool) → opens_block (c ∷ s) ≡ b
        → cond a (Some (after_line (drop 2 (c ∷ s)))) (cond b (after_block 0 (drop 2 (c ∷ s))) None) ≡ Some rest → Found c s rest
    go true k b l q = let z : after_line (drop 2 (c ∷ s)) ≡ rest = cc in
        put 47 (begins-drop (47 ∷ 47 ∷ []) (c ∷ s) k) (subst (λ r. Found 47 (47 ∷ drop 2 (c ∷ s)) r) z (found_line (drop 2 (c ∷ s))))
    go false k true l q = put 42 (begins-drop (47 ∷ 42 ∷ []) (c ∷ s) l) (found_block (drop 2 (c ∷ s)) rest (block_found (drop 2 (c ∷ s)) rest q))
    go false k false l q = absurd (cc)

pass-comment : (c : ℕ) (s rest : Text) → is_blank c ≡ false → after_comment (c ∷ s) ≡ Some rest → skip (c ∷ s) ≡ skip rest
pass-comment c s rest e f =
    let k = comment_found c s rest f in
    ap (λ x. skip (c ∷ x)) k.split ∙ skip-comment c k.more rest e (ap (λ x. after_comment (c ∷ x)) (sym k.split) ∙ f)

-- where no blank stands: past a comment, or nothing is passed
pub skip-past : (s rest : Text) → begins is_blank s ≡ false → after_comment s ≡ Some rest → skip s ≡ skip rest
unfolding after_comment
skip-past [] rest e f = absurd (cc)
skip-past (c ∷ s) rest e f = pass-comment c s rest e f

pub skip-nothing : (s : Text) → begins is_blank s ≡ false → after_comment s ≡ None → skip s ≡ s
skip-nothing [] e f = skip-end
skip-nothing (c ∷ s) e f = skip-stay c s e f

record Skipped (s : Text) : Type 0 where
  pub gap : Text
  pub split : s ≡ gap ++ skip s
  pub is_gap : Gap gap (skip s)

skipped_turn : (c : ℕ) (s : Text) → ((u : Text) → length u ≤ length s → Skipped u) → Skipped (c ∷ s)
skipped_turn c s further = go (is_blank c) refl (after_comment (c ∷ s)) refl
  where
    past : is_blank c ≡ false → (rest : Text) → after_comment (c ∷ s) ≡ Some rest → Found c s rest → Skipped rest → Skipped (c ∷ s)
    past e rest f k h =
        let same = pass-comment c s rest e f in
        record {
          gap = c ∷ (k.more ++ h.gap);
          split = rw same (ap (λ x. c ∷ x) (k.split ∙ ap (λ x. k.more ++ x) h.split ∙ sym (append_assoc k.more h.gap (skip rest))));
          is_gap = rw same (k.joins h.gap (skip rest) h.split h.is_gap);
        }

    go : (b : Bool) → is_blank c ≡ b → (o : Option Text) → after_comment (c ∷ s) ≡ o → Skipped (c ∷ s)
    go true e o f = let h = further s (omega arith) in
        record {
          gap = c ∷ h.gap;
          split = rw (skip-blank c s e) (ap (λ x. c ∷ x) h.split);
          is_gap = rw (skip-blank c s e) (piece (c ∷ []) h.gap (skip s) (blank c e) h.is_gap);
        }
    go false e None f = record { gap = []; split = sym (skip-stay c s e f); is_gap = none }
    go false e (Some rest) f = let k = comment_found c s rest f in past e rest f k (further rest (omega (arith, ap length k.split, length-append k.more rest)))

-- a text of at most n characters
skipped_within : (n : ℕ) (s : Text) → length s ≤ n → Skipped s
skipped_within n [] l = record { gap = []; split = sym skip-end; is_gap = none }
skipped_within zero (c ∷ s) l = absurd (omega arith)
skipped_within (suc n) (c ∷ s) l = skipped_turn c s (λ u k. skipped_within n u (omega arith))

skipped : (s : Text) → Skipped s
skipped s = skipped_within (length s) s (omega arith)

-- ---- the longest gap

pub skip-skip : (s : Text) → skip (skip s) ≡ skip s
skip-skip s = let k = skipped s in sym (skip-gap k.is_gap) ∙ ap skip (sym k.split)

pub length-skip : (s : Text) → length (skip s) ≤ length s
length-skip s = let k = skipped s in omega (arith, ap length k.split, length-append k.gap (skip s))

pub take-front : (g s : Text) → take (length (g ++ s) - length s) (g ++ s) ≡ g
take-front g s = take_at g s (length (g ++ s) - length s) (omega (arith, length-append g s))

pub gap_of-append : (g s : Text) → LongGap g s → gap_of (g ++ s) ≡ g
unfolding gap_of
gap_of-append g s h = rw (skip-gap h.is_gap, h.longest) (take-front g s)

pub skip-append : (g s : Text) → LongGap g s → skip (g ++ s) ≡ s
skip-append g s h = skip-gap h.is_gap ∙ h.longest

pub cut : (s : Text) → CutsAtGap s
cut s =
    let k = skipped s in
    let h : LongGap k.gap (skip s) = record { is_gap = k.is_gap; longest = skip-skip s } in
    let e : gap_of s ≡ k.gap = ap gap_of k.split ∙ gap_of-append k.gap (skip s) h in
    record { split = rw e k.split; is_gap = rw e h }

pub skip_to_end : (g : Text) → Gap g [] → skip g ≡ []
skip_to_end g h = ap skip (sym (append-nil g)) ∙ skip-gap h ∙ skip-end

pub gap_to_end : (s : Text) → skip s ≡ [] → Gap s []
gap_to_end s e = let r = cut s in rw (r.split ∙ ap (λ z. gap_of s ++ z) e ∙ append-nil (gap_of s)) (rw e at r.is_gap.is_gap)
