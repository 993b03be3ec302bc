-- The reader function of names, by the form of the identifier: for the calls of `identifier.rt`.
use Rattle.std.proofs.Common.{◌≡◌, ◌==◌, ◌||◌, ℕ, ◌≤◌, arith, Bool, true, false, cond, List, [], ◌∷◌, ◌++◌, codes, refl, sym, ap, ◌∙◌}
use Rattle.ron_spec_words.specs.Characters.{Text, starts_name, continues_name, in_raw_name}
use Rattle.ron_spec_words.specs.Runs.{is_ended, begins_with, run_of, after_run}
use Rattle.ron_spec_words.specs.Reader.{got, failed, bad, run}
use Rattle.ron_spec_words.specs.Name.{name, opens_literal}
use Rattle.ron_lex_text.specs.Stretch.{IsProperSuffix}
use Rattle.ron_spec_words.specs.Beyond.{bytes_in}
use Rattle.ron_spec_words.proofs.Sizes.{size_append, size_nothing}
use Rattle.ron_lex.specs.Turns.{passed}
use Rattle.ron_lex.specs.Identifier.{raw_name_behind_mark, plain_name, past_name_run}

pub name_raw : (s : List ℕ) → begins_with (codes "r#") s ≡ true → name s ≡ raw_name_behind_mark s
unfolding name
name_raw s e = rw e refl

pub name_literal : (s : List ℕ) → begins_with (codes "r#") s ≡ false → opens_literal s ≡ true → name s ≡ failed bad
unfolding name
name_literal s e l = let m = rw e at l in rw (e, m) refl

pub name_plain : (s : List ℕ) → begins_with (codes "r#") s ≡ false → opens_literal s ≡ false → name s ≡ plain_name s
unfolding name
name_plain s e l = let m = rw e at l in rw (e, m) refl

-- a raw identifier is past its mark
pub past_mark : (s marked text t rest : List ℕ) → s ≡ 114 ∷ marked → marked ≡ 35 ∷ text → text ≡ t ++ rest → IsProperSuffix rest s
past_mark s marked text t rest e f g = record { first = 114; front = 35 ∷ t; is = e ∙ ap (λ x. 114 ∷ x) (f ∙ ap (λ x. 35 ∷ x) g) }

-- ---- how far it is gone over to find that no name is read

-- a raw name goes on with all that a plain one does
in_both_names : (c : ℕ) → continues_name c ≡ true → in_raw_name c ≡ true
in_both_names c e = last (c == 46) (c == 43) (c == 45) (continues_name c) e
  where
    last : (a b d x : Bool) → x ≡ true → (a || b || d || x) ≡ true
    last true b d x h = refl
    last false true d x h = refl
    last false false true x h = refl
    last false false false x h = h

raw_behind_run : (s : Text) → after_run in_raw_name (after_run continues_name s) ≡ after_run in_raw_name s
raw_behind_run [] = refl
raw_behind_run (c ∷ s) = go (continues_name c) refl (raw_behind_run s)
  where
    go : (b : Bool) → continues_name c ≡ b → after_run in_raw_name (after_run continues_name s) ≡ after_run in_raw_name s
        → after_run in_raw_name (cond b (after_run continues_name s) (c ∷ s)) ≡ after_run in_raw_name (c ∷ s)
    go true e h = h ∙ sym (ap (λ b. cond b (after_run in_raw_name s) (c ∷ s)) (in_both_names c e))
    go false e h = refl

pub run_past_word : (s n rest : Text) → run starts_name continues_name s ≡ got n rest → after_run in_raw_name rest ≡ past_name_run s
run_past_word [] n rest e = absurd (cc)
run_past_word (c ∷ s) n rest e = go (starts_name c) e
  where
    go : (b : Bool) → cond b (got (c ∷ run_of continues_name s) (after_run continues_name s)) (failed bad) ≡ got n rest
        → after_run in_raw_name rest ≡ after_run in_raw_name (cond b s (c ∷ s))
    go true h = let same : after_run continues_name s ≡ rest = cc in ap (after_run in_raw_name) (sym same) ∙ raw_behind_run s
    go false h = absurd (cc)

pub run_past_none : (s : Text) → run starts_name continues_name s ≡ failed bad → after_run in_raw_name s ≡ past_name_run s
run_past_none [] e = refl
run_past_none (c ∷ s) e = go (starts_name c) e
  where
    go : (b : Bool) → cond b (got (c ∷ run_of continues_name s) (after_run continues_name s)) (failed bad) ≡ failed bad
        → after_run in_raw_name (c ∷ s) ≡ after_run in_raw_name (cond b s (c ∷ s))
    go true h = absurd (cc)
    go false h = refl

-- nothing was gone over
pub ended_whole : (text end : Text) → is_ended text ≡ true → passed text end ≤ 0
ended_whole [] end e = omega (arith, size_nothing)
ended_whole (c ∷ text) end e = absurd (cc)

pub ended_front : (front rest text : Text) → is_ended front ≡ true → text ≡ front ++ rest → passed text rest ≤ 0
ended_front [] rest text e h = omega (arith, ap bytes_in h)
ended_front (c ∷ front) rest text e h = absurd (cc)

pub front_all : (front rest text : Text) → text ≡ front ++ rest → passed text rest ≤ bytes_in front
front_all front rest text h = omega (arith, ap bytes_in h, size_append front rest)
