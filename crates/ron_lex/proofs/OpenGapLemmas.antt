-- Gaps with a comma behind the text, which tells whether they leave a line comment open (for `skip_closed_gap`).
use Rattle.std.proofs.Common.{◌≡◌, ℕ, zero, suc, ◌==◌, Bool, true, false, not, ◌&&◌, cond, [], ◌∷◌, ◌++◌, drop, Option, Some, None, option_map, refl, sym, ap}
use Rattle.std.proofs.Common.{◌∙◌}
use Rattle.std.proofs.lemmas.Bool.{eqb-true}
use Rattle.ron_spec_words.specs.Characters.{Text, is_blank}
use Rattle.ron_spec_words.specs.Runs.{begins, after_run}
use Rattle.ron_spec_words.specs.Gap.{in_line, opens_line, opens_block, closes_block, after_line, after_block, after_comment, skip}
use Rattle.ron_spec_words.proofs.Gaps.{skip-blank, skip-other, skip-past, skip-nothing, skip-end}
use Rattle.ron_spec_words.proofs.Direct.{begins-drop}
use Rattle.ron_lex_text.specs.Stretch.{is_ended}
use Rattle.ron_lex.specs.Gap.{opens_open_line}
use Rattle.ron_lex.proofs.GapLemmas.{line_ends, comment_line, comment_block}

-- with a comma behind it
abbrev and_comma : Text → Text
and_comma s = s ++ 44 ∷ []

-- a run of blanks is passed
pub blanks_pass_before : (s : Text) → skip (and_comma (after_run is_blank s)) ≡ skip (and_comma s)
blanks_pass_before [] = refl
blanks_pass_before (c ∷ s) = go (is_blank c) refl (blanks_pass_before s)
  where
    go : (b : Bool) → is_blank c ≡ b → skip (and_comma (after_run is_blank s)) ≡ skip (and_comma s)
        → skip (and_comma (cond b (after_run is_blank s) (c ∷ s))) ≡ skip (and_comma (c ∷ s))
    go true e h = h ∙ sym (skip-blank c (and_comma s) e)
    go false e h = refl

-- a line that an LF ends
line_before : (s : Text) → is_ended (after_run in_line s) ≡ false → after_line (and_comma s) ≡ and_comma (after_line s)
line_before [] e = absurd (cc)
line_before (c ∷ s) e = go (c == 10) e (line_before s)
  where
    go : (b : Bool) → is_ended (cond (not b) (after_run in_line s) (c ∷ s)) ≡ false → (is_ended (after_run in_line s) ≡ false
        → after_line (and_comma s) ≡ and_comma (after_line s)) → cond b (and_comma s) (after_line (and_comma s)) ≡ and_comma (cond b s (after_line s))
    go true k h = refl
    go false k h = h k

-- a line that none ends
line_open : (s : Text) → is_ended (after_run in_line s) ≡ true → after_line (and_comma s) ≡ []
line_open [] e = refl
line_open (c ∷ s) e = go (c == 10) e (line_open s)
  where
    go : (b : Bool) → is_ended (cond (not b) (after_run in_line s) (c ∷ s)) ≡ true → (is_ended (after_run in_line s) ≡ true → after_line (and_comma s) ≡ [])
        → cond b (and_comma s) (after_line (and_comma s)) ≡ []
    go true k h = absurd (cc)
    go false k h = h k

-- a comma ends no block comment, and belongs to none that ends
one_before : (n c : ℕ) → after_block n (c ∷ 44 ∷ []) ≡ None
one_before zero c = go (c == 42) (c == 47)
  where
    go : (a b : Bool) → cond (a && false) (Some []) (cond (b && false) (after_block 1 []) None) ≡ None
    go true true = refl
    go true false = refl
    go false true = refl
    go false false = refl
one_before (suc n) c = go (c == 42) (c == 47)
  where
    go : (a b : Bool) → cond (a && false) (after_block n []) (cond (b && false) (after_block (suc (suc n)) []) None) ≡ None
    go true true = refl
    go true false = refl
    go false true = refl
    go false false = refl

-- a turn inside a block comment, with the comma and without
block_turn : (p q : Bool) (a b c d e f : Option Text) → a ≡ option_map and_comma d → b ≡ option_map and_comma e → c ≡ option_map and_comma f
    → cond p a (cond q b c) ≡ option_map and_comma (cond p d (cond q e f))
block_turn true q a b c d e f k l m = k
block_turn false true a b c d e f k l m = l
block_turn false false a b c d e f k l m = m

pub block_before : (n : ℕ) (s : Text) → after_block n (and_comma s) ≡ option_map and_comma (after_block n s)
block_before n [] = refl
block_before n (c ∷ []) = one_before n c
block_before zero (c ∷ d ∷ s) = block_turn (closes_block (c ∷ d ∷ s)) (opens_block (c ∷ d ∷ s)) _ _ _ (Some s) (after_block 1 s) (after_block 0 (d ∷ s)) refl
    (block_before 1 s) (block_before 0 (d ∷ s))
block_before (suc n) (c ∷ d ∷ s) = block_turn (closes_block (c ∷ d ∷ s)) (opens_block (c ∷ d ∷ s)) _ _ _ (after_block n s) (after_block (suc (suc n)) s)
    (after_block (suc n) (d ∷ s)) (block_before n s) (block_before (suc (suc n)) s) (block_before (suc n) (d ∷ s))

-- ---- comments

-- what a comment is, by what opens it
comment_is : (s : Text) → after_comment s ≡ cond (opens_line s) (Some (after_line (drop 2 s))) (cond (opens_block s) (after_block 0 (drop 2 s)) None)
unfolding after_comment
comment_is s = refl

-- two characters stand there
two_before : (a b : ℕ) (s : Text) → s ≡ a ∷ b ∷ drop 2 s → and_comma s ≡ a ∷ b ∷ and_comma (drop 2 s)
two_before a b s e = ap and_comma e

-- it ends where it ends without the comma, if no line comment is left open
pub comment_before : (s after : Text) → after_comment s ≡ Some after → (is_ended after && opens_open_line s) ≡ false
    → after_comment (and_comma s) ≡ Some (and_comma after)
comment_before s after e f = go (opens_line s) refl (opens_block s) refl (sym (comment_is s) ∙ e)
  where
    line : s ≡ 47 ∷ 47 ∷ drop 2 s → opens_line s ≡ true → (b : Bool) → is_ended (after_run in_line (drop 2 s)) ≡ b → after_line (drop 2 s) ≡ after
        → after_comment (and_comma s) ≡ Some (and_comma after)
    line k l false m h = ap after_comment (two_before 47 47 s k) ∙ comment_line (and_comma (drop 2 s)) ∙ ap Some (line_before (drop 2 s) m ∙ ap and_comma h)
    line k l true m h = absurd (ended (after_run in_line (drop 2 s)) refl m)
      where
        ended : (r : Text) → after_run in_line (drop 2 s) ≡ r → is_ended r ≡ true → ⊥
        ended [] p q =
            let z : after ≡ [] = sym h ∙ line_ends (drop 2 s) p in
            let y : (is_ended [] && opens_open_line s) ≡ false = ap (λ t. is_ended t && opens_open_line s) (sym z) ∙ f in
            let x : opens_open_line s ≡ true = ap (λ b. b && is_ended (after_run in_line (drop 2 s))) l ∙ m in
            cc
        ended (c ∷ r) p q = absurd (cc)

    go : (a : Bool) → opens_line s ≡ a → (b : Bool) → opens_block s ≡ b
        → cond a (Some (after_line (drop 2 s))) (cond b (after_block 0 (drop 2 s)) None) ≡ Some after → after_comment (and_comma s) ≡ Some (and_comma after)
    go true k b l h = let z : after_line (drop 2 s) ≡ after = cc in line (begins-drop (47 ∷ 47 ∷ []) s k) k (is_ended (after_run in_line (drop 2 s))) refl z
    go false k true l h = ap after_comment (two_before 47 42 s (begins-drop (47 ∷ 42 ∷ []) s l)) ∙ comment_block (and_comma (drop 2 s))
        ∙ block_before 0 (drop 2 s) ∙ ap (option_map and_comma) h
    go false k false l h = absurd (cc)

-- an open line comment takes the comma in
pub comment_open : (s : Text) → opens_open_line s ≡ true → after_comment (and_comma s) ≡ Some []
comment_open s e = go (opens_line s) refl e
  where
    go : (a : Bool) → opens_line s ≡ a → (a && is_ended (after_run in_line (drop 2 s))) ≡ true → after_comment (and_comma s) ≡ Some []
    go true k h =
        ap after_comment (two_before 47 47 s (begins-drop (47 ∷ 47 ∷ []) s k)) ∙ comment_line (and_comma (drop 2 s)) ∙ ap Some (line_open (drop 2 s) h)
    go false k h = absurd (cc)

none_at_slash : (u : Text) → after_comment (47 ∷ u) ≡ None → after_comment (47 ∷ and_comma u) ≡ None
unfolding after_comment
none_at_slash [] e = refl
none_at_slash (c ∷ u) e = go (c == 47) (c == 42) e
  where
    go : (a b : Bool) → cond (a && true) (Some (after_line u)) (cond (b && true) (after_block 0 u) None) ≡ None
        → cond (a && true) (Some (after_line (and_comma u))) (cond (b && true) (after_block 0 (and_comma u)) None) ≡ None
    go true b h = absurd (cc)
    go false true h = block_before 0 u ∙ ap (option_map and_comma) h
    go false false h = refl

-- where none begins that ends, the comma ends none
pub nothing_before : (s : Text) → begins is_blank s ≡ false → after_comment s ≡ None → skip (and_comma s) ≡ and_comma s
nothing_before [] e f = skip-other 44 [] refl refl
nothing_before (c ∷ s) e f = go (c == 47) refl
  where
    go : (b : Bool) → (c == 47) ≡ b → skip (and_comma (c ∷ s)) ≡ and_comma (c ∷ s)
    go true k = let same : c ≡ 47 = eqb-true c 47 k in
        rw same (skip-nothing (47 ∷ and_comma s) refl (none_at_slash s (ap (λ d. after_comment (d ∷ s)) (sym same) ∙ f)))
    go false k = skip-other c (and_comma s) e k

-- no blank stands there with the comma either
no_blank_before : (s : Text) → begins is_blank s ≡ false → begins is_blank (and_comma s) ≡ false
no_blank_before [] e = refl
no_blank_before (c ∷ s) e = e

pub past_before : (s after : Text) → begins is_blank s ≡ false → after_comment s ≡ Some after → (is_ended after && opens_open_line s) ≡ false
    → skip (and_comma s) ≡ skip (and_comma after)
past_before s after e f g = skip-past (and_comma s) (and_comma after) (no_blank_before s e) (comment_before s after f g)

pub open_before : (s : Text) → begins is_blank s ≡ false → opens_open_line s ≡ true → skip (and_comma s) ≡ []
open_before s e f = skip-past (and_comma s) [] (no_blank_before s e) (comment_open s f) ∙ skip-end

-- none is left open, for the text goes on, or for none stands there
pub not_open : (after rest : Text) → opens_open_line rest ≡ false → (is_ended after && opens_open_line rest) ≡ false
not_open after rest e = rw e (go (is_ended after))
  where
    go : (b : Bool) → (b && false) ≡ false
    go true = refl
    go false = refl
