-- The longest gap a step at a time, by the comment or blank that stands next: for the calls of `gap.rt` and the cursor.
use Rattle.std.proofs.Common.{◌≡◌, ℕ, zero, suc, ◌==◌, Bool, true, false, not, ◌||◌, cond, List, [], ◌∷◌, ◌++◌, Some, None, refl, sym, ap, ◌∙◌, ◌+◌, ◌-◌, arith}
use Rattle.std.proofs.lemmas.Bool.{or_parts, eqb-true, not-false}
use Rattle.ron_spec_words.proofs.Words.{after-run}
use Rattle.std.proofs.lemmas.List.{append_cancel_right}
use Rattle.ron_spec_words.specs.Characters.{Text, is_blank, slash}
use Rattle.ron_spec_words.specs.Runs.{begins, is_at, after_run}
use Rattle.ron_spec_words.specs.Gap.{in_line, after_line, after_block, after_comment, skip, skip_from, gap_of}
use Rattle.ron_spec_words.proofs.Gaps.{cut, skip-blank, skip-other}
use Rattle.ron_lex_text.specs.Stretch.{IsSuffix, in_class, opens_with}
use Rattle.ron_lex_text.specs.declared.text.Class.TheVariants.{Blank, Comment}
use Rattle.ron_lex.specs.declared.gap.Mark.TheVariants.{Opens, Closes, Other}
use Rattle.ron_lex.specs.Gap.{behind_mark}

-- a run of blanks is passed
pub blanks_pass : (s : Text) → skip (after_run is_blank s) ≡ skip s
blanks_pass [] = refl
blanks_pass (c ∷ s) = go (is_blank c) refl (blanks_pass s)
  where
    go : (b : Bool) → is_blank c ≡ b → skip (after_run is_blank s) ≡ skip s → skip (cond b (after_run is_blank s) (c ∷ s)) ≡ skip (c ∷ s)
    go true e h = h ∙ sym (skip-blank c s e)
    go false e h = refl

-- a line ends with its LF, or with the text
pub line_ends : (s : Text) → after_run in_line s ≡ [] → after_line s ≡ []
line_ends [] e = refl
line_ends (c ∷ s) e = go (c == 10) e (line_ends s)
  where
    go : (b : Bool) → cond (not b) (after_run in_line s) (c ∷ s) ≡ [] → (after_run in_line s ≡ [] → after_line s ≡ []) → cond b s (after_line s) ≡ []
    go true k h = absurd (cc)
    go false k h = h k

pub line_goes_on : (s rest : Text) (c : ℕ) → after_run in_line s ≡ c ∷ rest → after_line s ≡ rest
line_goes_on [] rest c e = absurd (cc)
line_goes_on (d ∷ s) rest c e = go (d == 10) e (line_goes_on s rest c)
  where
    go : (b : Bool) → cond (not b) (after_run in_line s) (d ∷ s) ≡ c ∷ rest → (after_run in_line s ≡ c ∷ rest → after_line s ≡ rest)
        → cond b s (after_line s) ≡ rest
    go true k h = let z : s ≡ rest = cc in z
    go false k h = h k

-- ---- comments

pub comment_line : (s : Text) → after_comment (47 ∷ 47 ∷ s) ≡ Some (after_line s)
unfolding after_comment
comment_line s = refl

pub comment_block : (s : Text) → after_comment (47 ∷ 42 ∷ s) ≡ after_block 0 s
unfolding after_comment
comment_block s = refl

-- neither a second slash nor a star
pub comment_none : (s : Text) → is_at 47 s ≡ false → is_at 42 s ≡ false → after_comment (47 ∷ s) ≡ None
unfolding after_comment
comment_none [] e f = refl
comment_none (c ∷ s) e f = rw (e, f) refl

pub comment_other : (s : Text) → is_at 47 s ≡ false → after_comment s ≡ None
unfolding after_comment
comment_other [] e = refl
comment_other (c ∷ s) e = rw e refl

-- ---- marks of block comments

pub mark_opens : (n : ℕ) (s : Text) → after_block n (47 ∷ 42 ∷ s) ≡ behind_mark n Opens s
mark_opens zero s = refl
mark_opens (suc n) s = refl

pub mark_closes : (n : ℕ) (s : Text) → after_block n (42 ∷ 47 ∷ s) ≡ behind_mark n Closes s
mark_closes zero s = refl
mark_closes (suc n) s = refl

pub star_alone : (n : ℕ) (s : Text) → is_at 47 s ≡ false → after_block n (42 ∷ s) ≡ behind_mark n Other s
star_alone n [] e = refl
star_alone zero (d ∷ s) e = rw e refl
star_alone (suc n) (d ∷ s) e = rw e refl

pub slash_alone : (n : ℕ) (s : Text) → is_at 42 s ≡ false → after_block n (47 ∷ s) ≡ behind_mark n Other s
slash_alone n [] e = refl
slash_alone zero (d ∷ s) e = rw e refl
slash_alone (suc n) (d ∷ s) e = rw e refl

pub no_mark : (n c : ℕ) (s : Text) → (c == 42) ≡ false → (c == 47) ≡ false → after_block n (c ∷ s) ≡ behind_mark n Other s
no_mark n c [] e f = refl
no_mark zero c (d ∷ s) e f = rw (e, f) refl
no_mark (suc n) c (d ∷ s) e f = rw (e, f) refl

-- what follows the end of the comment is what follows it from the next mark on
from_mark : (n : ℕ) (s : Text) → after_block n (after_run (in_class Comment) s) ≡ after_block n s
from_mark n [] = refl
from_mark n (c ∷ s) = go ((c == 42) || (c == 47)) refl (from_mark n s)
  where
    go : (b : Bool) → ((c == 42) || (c == 47)) ≡ b → after_block n (after_run (in_class Comment) s) ≡ after_block n s
        → after_block n (cond (not b) (after_run (in_class Comment) s) (c ∷ s)) ≡ after_block n (c ∷ s)
    go true e h = refl
    go false e h = h ∙ sym (no_mark n c s (or_parts (c == 42) (c == 47) e).0 (or_parts (c == 42) (c == 47) e).1)

-- a mark that is no star is a slash
pub slash_stands : (s rest : Text) (c : ℕ) → after_run (in_class Comment) s ≡ c ∷ rest → (c == 42) ≡ false → c ≡ 47
slash_stands s rest c e f =
    let n : not ((c == 42) || (c == 47)) ≡ false = sym (ap (begins (in_class Comment)) e) ∙ after-run (in_class Comment) s in
    eqb-true c 47 (not-false (c == 47) (rw f at n))

pub to_mark : (n : ℕ) (s mark : Text) → mark ≡ after_run (in_class Comment) s → after_block n s ≡ after_block n mark
to_mark n s mark e = sym (ap (after_block n) e ∙ from_mark n s)

pub opens_one : (n : ℕ) (s : Text) → behind_mark n Opens s ≡ after_block (n + 1) s
opens_one n s = let e : suc n ≡ n + 1 = omega arith in ap (λ k. after_block k s) e

pub closes_one : (n : ℕ) (s : Text) → (n ≡ 0 → ⊥) → behind_mark n Closes s ≡ after_block (n - 1) s
closes_one zero s h = absurd (h refl)
closes_one (suc n) s h = let e : n ≡ suc n - 1 = omega arith in ap (λ k. after_block k s) e

-- ---- where the longest gap ends

-- the longest gap is passed
pub gap_end : (s behind : List ℕ) → behind ≡ skip s → IsSuffix behind s
gap_end s behind e = record { front = gap_of s; is = (cut s).split ∙ ap (λ x. gap_of s ++ x) (sym e) }

-- what stands before the end of the longest gap is that gap
pub gap_is_front : (s front rest : List ℕ) → rest ≡ skip s → s ≡ front ++ rest → front ≡ gap_of s
gap_is_front s front rest e h = append_cancel_right front (gap_of s) rest (sym h ∙ (cut s).split ∙ ap (λ x. gap_of s ++ x) (sym e))

-- where neither a blank nor a slash stands, no gap does
pub no_gap : (s : List ℕ) → (opens_with Blank s || is_at slash s) ≡ false → skip s ≡ s
unfolding skip skip_from
no_gap [] h = refl
no_gap (c ∷ s) h = skip-other c s (or_parts (is_blank c) (c == slash) h).0 (or_parts (is_blank c) (c == slash) h).1

pub no_slash : (s : List ℕ) → (opens_with Blank s || is_at slash s) ≡ false → is_at slash (skip s) ≡ false
no_slash s h = rw (no_gap s h) (or_parts (opens_with Blank s) (is_at slash s) h).1

pub no_gap_of : (s : List ℕ) → (opens_with Blank s || is_at slash s) ≡ false → [] ≡ gap_of s
no_gap_of s h = gap_is_front s [] s (sym (no_gap s h)) refl
