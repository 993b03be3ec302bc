-- Comments of a stretch of text, one after another: for `gap.rt` and the comparison in `grant.rt`.
use Rattle.std.proofs.Common.{◌≡◌, ℕ, Bool, true, false, cond, ◌==◌, drop, [], ◌∷◌, ◌++◌, Some, None, refl, sym, ap, subst, ◌∙◌, append_assoc}
use Rattle.std.proofs.lemmas.List.{append_cancel_right}
use Rattle.ron_spec_words.specs.Characters.{Text, is_blank}
use Rattle.ron_spec_words.specs.Runs.{after_run}
use Rattle.ron_spec_words.specs.Gap.{after_line, after_block, after_comment, opens_line, opens_block}
use Rattle.ron_spec_words.proofs.Comments.{block_found}
use Rattle.ron_spec_words.proofs.Direct.{begins-drop}
use Rattle.ron_spec_words.proofs.Gaps.{take-front}
use Rattle.ron_format_words.specs.Comments.{without_last_blanks, comments_of}
use Rattle.ron_format_words.proofs.Comments.{comments-other, comments-blank, comments-comment, comments-nil}
use Rattle.ron_lex_text.specs.Stretch.{IsSuffix, in_class}
use Rattle.ron_lex_text.specs.declared.text.Class.TheVariants.{Blank}

-- what follows the end of a line ends the text
line_end : (u : Text) → IsSuffix (after_line u) u
line_end [] = record { front = []; is = refl }
line_end (c ∷ u) = go (c == 10) (line_end u)
  where
    go : (b : Bool) → IsSuffix (after_line u) u → IsSuffix (cond b u (after_line u)) (c ∷ u)
    go true h = record { front = c ∷ []; is = refl }
    go false h = record { front = c ∷ h.front; is = ap (λ x. c ∷ x) h.is }

-- a comment has a first character
pub comment_front : (s rest : Text) → after_comment s ≡ Some rest → (c : ℕ) × (t : Text) × (s ≡ c ∷ (t ++ rest))
unfolding after_comment
comment_front s rest e = go (opens_line s) refl (opens_block s) refl e
  where
    go : (a : Bool) → opens_line s ≡ a → (b : Bool) → opens_block s ≡ b
        → cond a (Some (after_line (drop 2 s))) (cond b (after_block 0 (drop 2 s)) None) ≡ Some rest → (c : ℕ) × (t : Text) × (s ≡ c ∷ (t ++ rest))
    go true k b l q =
        let h = line_end (drop 2 s) in
        let z : after_line (drop 2 s) ≡ rest = cc in
        (47, 47 ∷ h.front, begins-drop (47 ∷ 47 ∷ []) s k ∙ ap (λ x. 47 ∷ 47 ∷ x) (h.is ∙ ap (λ x. h.front ++ x) z))
    go false k true l q =
        let h = block_found (drop 2 s) rest q in
        (47, 42 ∷ (h.inner ++ 42 ∷ 47 ∷ []), begins-drop (47 ∷ 42 ∷ []) s l ∙ ap (λ x. 47 ∷ 42 ∷ x) (h.split ∙ sym (append_assoc h.inner (42 ∷ 47 ∷ []) rest)))
    go false k false l q = absurd (cc)

pub comment_end : (s rest : Text) → after_comment s ≡ Some rest → IsSuffix rest s
comment_end s rest e = let h = comment_front s rest e in record { front = h.0 ∷ h.1; is = h.2 }

-- the comment that stands first, and those behind it
pub comment_first : (s comment rest : Text) → after_comment s ≡ Some rest → s ≡ comment ++ rest → comments_of s ≡ without_last_blanks comment ∷ comments_of rest
comment_first s comment rest e split =
    let h = comment_front s rest e in
    let whole : comment ≡ h.0 ∷ h.1 = append_cancel_right comment (h.0 ∷ h.1) rest (sym split ∙ h.2) in
    ap comments_of h.2 ∙ comments-comment h.0 h.1 rest (subst (λ x. after_comment x ≡ Some rest) h.2 e)
    ∙ ap (λ x. without_last_blanks x ∷ comments_of rest) (take-front (h.0 ∷ h.1) rest ∙ sym whole)

-- where none stands here, they stand behind the first character
pub comment_later : (s : Text) (c : ℕ) (after : Text) → s ≡ c ∷ after → after_comment s ≡ None → comments_of after ≡ comments_of s
comment_later s c after e n = sym (ap comments_of e ∙ comments-other c after (sym (ap after_comment e) ∙ n))

-- blanks hold none
no_blank : (s : Text) → comments_of (after_run is_blank s) ≡ comments_of s
no_blank [] = refl
no_blank (c ∷ s) = go (is_blank c) refl (no_blank s)
  where
    go : (b : Bool) → is_blank c ≡ b → comments_of (after_run is_blank s) ≡ comments_of s
        → comments_of (cond b (after_run is_blank s) (c ∷ s)) ≡ comments_of (c ∷ s)
    go true k h = h ∙ sym (comments-blank c s k)
    go false k h = refl

pub blanks_gone : (s rest : Text) → rest ≡ after_run (in_class Blank) s → comments_of rest ≡ comments_of s
blanks_gone s rest e = ap comments_of e ∙ no_blank s

pub no_comments : (s : Text) → s ≡ [] → comments_of s ≡ []
no_comments s e = ap comments_of e ∙ comments-nil
