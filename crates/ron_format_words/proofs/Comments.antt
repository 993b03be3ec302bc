-- Laws of comments: those of a gap are those of its pieces, whatever follows it, and a comma between two gaps adds none.
use Rattle.std.proofs.Common.{◌≡◌, ℕ, ◌-◌, true, false, ◌==◌, length, length-append, [], ◌∷◌, ◌++◌, Some, None, refl, sym, ap, ◌∙◌, append_assoc, append-nil}
use Rattle.std.proofs.Common.{arith}
use Rattle.ron_spec_words.specs.Characters.{Text, is_blank}
use Rattle.ron_spec_words.specs.Gap.{Piece, blank, line, block, Gap, none, piece, last_line, after_line, after_block, after_comment}
use Rattle.ron_spec_words.proofs.Gaps.{take-front}
use Rattle.ron_spec_words.proofs.Comments.{line-end, inside-end}
use Rattle.ron_spec_words.proofs.Classes.{apart}
use Rattle.ron_format_words.specs.Comments.{without_last_blanks, comment_before, comments_from, comments_of}

-- ---- a step

-- past the characters that were counted
comments-counted : (t s : Text) → comments_from (length t) (t ++ s) ≡ comments_of s
unfolding comments_of comments_from
comments-counted [] s = refl
comments-counted (c ∷ t) s = comments-counted t s

-- where no comment begins
pub comments-other : (c : ℕ) (s : Text) → after_comment (c ∷ s) ≡ None → comments_of (c ∷ s) ≡ comments_of s
unfolding comments_of comments_from
comments-other c s e = rw e refl

-- where one begins that ends before s
pub comments-comment : (c : ℕ) (t s : Text) → after_comment (c ∷ (t ++ s)) ≡ Some s
    → comments_of (c ∷ (t ++ s)) ≡ comment_before s (c ∷ (t ++ s)) ∷ comments_of s
unfolding comments_of comments_from
comments-comment c t s e =
    let n : length (t ++ s) - length s ≡ length t = omega (arith, length-append t s) in
    rw (e, n) (ap (λ x. comment_before s (c ∷ (t ++ s)) ∷ x) (comments-counted t s))

no_comment : (c : ℕ) (s : Text) → (c == 47) ≡ false → after_comment (c ∷ s) ≡ None
unfolding after_comment
no_comment c s e = rw e refl

pub comments-blank : (c : ℕ) (s : Text) → is_blank c ≡ true → comments_of (c ∷ s) ≡ comments_of s
comments-blank c s e = comments-other c s (no_comment c s (apart is_blank 47 c refl e))

pub comments-comma : (s : Text) → comments_of (44 ∷ s) ≡ comments_of s
comments-comma s = comments-other 44 s (no_comment 44 s refl)

pub comments-nil : comments_of [] ≡ []
unfolding comments_of comments_from
comments-nil = refl

-- ---- pieces

-- a comment that ends before whatever follows it says the same before each of them
comment_alone : (c : ℕ) (t s : Text) → ((x : Text) → after_comment (c ∷ (t ++ x)) ≡ Some x) → comments_of ((c ∷ t) ++ s) ≡ comments_of (c ∷ t) ++ comments_of s
comment_alone c t s ends = whole s ∙ ap (λ x. x ++ comments_of s) (sym alone)
  where
    whole : (x : Text) → comments_of (c ∷ (t ++ x)) ≡ without_last_blanks (c ∷ t) ∷ comments_of x
    whole x = comments-comment c t x (ends x) ∙ ap (λ y. without_last_blanks y ∷ comments_of x) (take-front (c ∷ t) x)

    alone : comments_of (c ∷ t) ≡ without_last_blanks (c ∷ t) ∷ []
    alone = ap (λ x. comments_of (c ∷ x)) (sym (append-nil t)) ∙ whole [] ∙ ap (λ x. without_last_blanks (c ∷ t) ∷ x) comments-nil

-- the pieces of a gap say the same whatever follows them
comments-piece : {p : Text} → Piece p → (s : Text) → comments_of (p ++ s) ≡ comments_of p ++ comments_of s
unfolding after_comment
comments-piece (blank c e) s = comments-blank c s e ∙ ap (λ x. x ++ comments_of s) (sym (comments-blank c [] e ∙ comments-nil))
comments-piece (line t h) s =
    comment_alone 47 (47 ∷ (t ++ 10 ∷ [])) s (λ x. ap (λ y. Some (after_line y)) (append_assoc t (10 ∷ []) x) ∙ ap Some (line-end t x h))
comments-piece (block inner h) s =
    comment_alone 47 (42 ∷ (inner ++ 42 ∷ 47 ∷ [])) s (λ x. ap (after_block 0) (append_assoc inner (42 ∷ 47 ∷ []) x) ∙ inside-end h 0 x)

-- the comments of a gap, and of what follows it, where that is not the end of the text
pub comments-gap : {g next : Text} → Gap g next → (next ≡ [] → ⊥) → (s : Text) → comments_of (g ++ s) ≡ comments_of g ++ comments_of s
comments-gap none k s = ap (λ x. x ++ comments_of s) (sym comments-nil)
comments-gap (piece p g next h r) k s =
    ap comments_of (append_assoc p g s) ∙ comments-piece h (g ++ s) ∙ ap (λ x. comments_of p ++ x) (comments-gap r k s)
    ∙ sym (append_assoc (comments_of p) (comments_of g) (comments_of s)) ∙ ap (λ x. x ++ comments_of s) (sym (comments-piece h g))
comments-gap (last_line t h) k s = absurd (k refl)

-- the comments of a gap, a comma and a gap
pub comments-separated : (g h next : Text) → Gap g (44 ∷ next) → comments_of (g ++ 44 ∷ h) ≡ comments_of g ++ comments_of h
comments-separated g h next a = comments-gap a (λ e. cc) (44 ∷ h) ∙ ap (λ x. comments_of g ++ x) (comments-comma h)
