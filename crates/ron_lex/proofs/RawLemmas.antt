-- The reader function of raw strings: the hashes before it, and the place of its ending.
use Rattle.std.specs.Prelude.{◌==◌}
use Rattle.std.proofs.Common.{◌≡◌, ℕ, Bool, true, false, not, cond, drop, length, [], ◌∷◌, ◌++◌, Some, None, refl, sym, ap, ap₂, ◌∙◌, eqb-true}
use Rattle.std.proofs.lemmas.List.{append_cancel_right}
use Rattle.std.proofs.Math.Seq.{drop-append_seam}
use Rattle.ron_spec_words.specs.Characters.{Text}
use Rattle.ron_spec_words.specs.Runs.{begins, is_at, begins_with, run_of, after_run}
use Rattle.ron_spec_words.specs.Reader.{bad, got, failed, meant, behind}
use Rattle.ron_spec_words.specs.Directly.{and_directly}
use Rattle.ron_spec_words.specs.Quoted.{hashes, one_more, count_hashes, upto, raw}
use Rattle.ron_spec_words.proofs.Direct.{begins-append}
use Rattle.ron_spec_words.proofs.RawStrings.{ending_at, upto-from_place, upto-no_place}
use Rattle.ron_lex_text.proofs.StretchLemmas.{run_joined, run_front}
use Rattle.ron_lex.proofs.SplitLemmas.{behind_other}

-- ---- hashes

abbrev pub is_hash : ℕ → Bool
is_hash c = c == 35

run-hashes : (s : Text) → run_of is_hash s ≡ hashes (length (run_of is_hash s))
run-hashes [] = refl
run-hashes (c ∷ s) = go (c == 35) refl (run-hashes s)
  where
    go : (b : Bool) → (c == 35) ≡ b → run_of is_hash s ≡ hashes (length (run_of is_hash s))
        → cond b (c ∷ run_of is_hash s) [] ≡ hashes (length (cond b (c ∷ run_of is_hash s) []))
    go true e h = ap₂ (λ x y. x ∷ y) (eqb-true c 35 e) h
    go false e h = refl

run_all : (s : Text) → after_run is_hash (run_of is_hash s) ≡ []
run_all [] = refl
run_all (c ∷ s) = go (c == 35) refl (run_all s)
  where
    go : (b : Bool) → (c == 35) ≡ b → after_run is_hash (run_of is_hash s) ≡ [] → after_run is_hash (cond b (c ∷ run_of is_hash s) []) ≡ []
    go true e h = rw e h
    go false e h = refl

-- what stands before the opening quote is nothing but hashes
pub all_hashes : (s opening front : Text) → opening ≡ after_run is_hash s → s ≡ front ++ opening → after_run is_hash front ≡ []
all_hashes s opening front e g = ap (after_run is_hash) (run_front is_hash s front opening e g) ∙ run_all s

-- of these none is left where none stands first
pub none_left : (s : Text) → after_run is_hash s ≡ [] → is_at 35 s ≡ false → s ≡ []
none_left [] e f = refl
none_left (c ∷ s) e f = absurd (let k : c ∷ s ≡ [] = rw f at e in cc)

pub hash_stops : (s : Text) → is_at 35 s ≡ false → after_run is_hash s ≡ s
hash_stops [] f = refl
hash_stops (c ∷ s) f = rw f refl

pub hash_missing : (v more s : Text) → v ≡ 35 ∷ more → is_at 35 s ≡ false → begins_with v s ≡ false
hash_missing v more [] e f = rw e refl
hash_missing v more (c ∷ s) e f = rw (e, f) refl

count-run : (s : Text) → count_hashes s ≡ got (length (run_of is_hash s)) (after_run is_hash s)
count-run [] = refl
count-run (c ∷ s) = go (c == 35) (count-run s)
  where
    go : (b : Bool) → count_hashes s ≡ got (length (run_of is_hash s)) (after_run is_hash s)
        → cond b (meant (count_hashes s) one_more) (got 0 (c ∷ s)) ≡ got (length (cond b (c ∷ run_of is_hash s) [])) (cond b (after_run is_hash s) (c ∷ s))
    go true h = ap (λ o. meant o one_more) h
    go false h = refl

-- behind the hashes a quote, and the text up to such an ending
pub raw-opening : (s opening : Text) → opening ≡ after_run is_hash s → raw s ≡ behind 34 (upto (34 ∷ run_of is_hash s)) opening
unfolding raw
raw-opening s opening e =
    ap (λ o. and_directly o (λ n. behind 34 (upto (34 ∷ hashes n)))) (count-run s)
    ∙ ap₂ (λ h u. behind 34 (upto (34 ∷ h)) u) (sym (run-hashes s)) (sym e)

pub raw_unopened : (s opening : Text) → opening ≡ after_run is_hash s → is_at 34 opening ≡ false → raw s ≡ failed bad
raw_unopened s opening e f = raw-opening s opening e ∙ behind_other 34 (upto (34 ∷ run_of is_hash s)) opening f

-- the hashes are what stands before the quote
pub raw_opened : (s opening content front : Text) → opening ≡ after_run is_hash s → opening ≡ 34 ∷ content → s ≡ front ++ opening
    → raw s ≡ upto (34 ∷ front) content
raw_opened s opening content front e f g =
    let same : front ≡ run_of is_hash s =
    append_cancel_right front (run_of is_hash s) opening (sym g ∙ run_joined is_hash s ∙ ap (λ x. run_of is_hash s ++ x) (sym e)) in
    raw-opening s opening e ∙ rw (f, same) refl

-- ---- the place of the ending

abbrev pub unquoted : ℕ → Bool
unquoted c = not (c == 34)

-- no quote stands among hashes
pub hashes_unquoted : (s : Text) → after_run unquoted (after_run is_hash s) ≡ after_run unquoted s
hashes_unquoted [] = refl
hashes_unquoted (c ∷ s) = go (c == 35) refl (hashes_unquoted s)
  where
    go : (b : Bool) → (c == 35) ≡ b → after_run unquoted (after_run is_hash s) ≡ after_run unquoted s
        → after_run unquoted (cond b (after_run is_hash s) (c ∷ s)) ≡ after_run unquoted (c ∷ s)
    go true e h = rw (eqb-true c 35 e) h
    go false e h = refl

module _ (v : Text) where
  abbrev ending : Text
  ending = 34 ∷ v

  pub place-run : (s : Text) → ending_at ending s ≡ ending_at ending (after_run unquoted s)
  place-run [] = refl
  place-run (c ∷ s) = go (c == 34) refl (place-run s)
    where
      go : (b : Bool) → (c == 34) ≡ b → ending_at ending s ≡ ending_at ending (after_run unquoted s)
          → ending_at ending (c ∷ s) ≡ ending_at ending (cond (not b) (after_run unquoted s) (c ∷ s))
      go true e h = refl
      go false e h = rw e h

  -- no ending at this quote
  pub place_past : (s t : Text) → s ≡ 34 ∷ t → begins_with v t ≡ false → ending_at ending s ≡ ending_at ending (after_run unquoted t)
  place_past s t e f = rw (e, f) (place-run t)

  pub place_here : (s t rest : Text) → s ≡ 34 ∷ t → t ≡ v ++ rest → ending_at ending s ≡ Some s
  place_here s t rest e f = rw (e, f, begins-append v rest) refl

  pub no_place : (s : Text) → begins unquoted s ≡ false → is_at 34 s ≡ false → ending_at ending s ≡ None
  no_place [] e f = refl
  no_place (c ∷ s) e f = absurd (let k : true ≡ false = rw f at e in cc)

  -- the text before the place, and what follows the ending there
  pub upto_place : (s a u t rest : Text) → ending_at ending s ≡ ending_at ending u → s ≡ a ++ u → u ≡ 34 ∷ t → t ≡ v ++ rest → upto ending s ≡ got a rest
  upto_place s a u t rest e f g h =
      upto-from_place ending s a u (e ∙ place_here u t rest g h) f
      ∙ ap (λ x. got a (drop (length ending) x)) (g ∙ ap (λ x. 34 ∷ x) h) ∙ ap (λ x. got a x) (drop-append_seam v rest)

  pub upto_nowhere : (s u : Text) → ending_at ending s ≡ ending_at ending u → begins unquoted u ≡ false → is_at 34 u ≡ false → upto ending s ≡ failed bad
  upto_nowhere s u e f g = upto-no_place ending s (e ∙ no_place u f g)
