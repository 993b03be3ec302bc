-- Names and integers where no type is given, by the form that stands there: for the calls of `untyped.rt`.
use Rattle.std.specs.Prelude.{◌==◌}
use Rattle.std.proofs.Common.{◌≡◌, ℕ, suc, ltb-true, lt-ltb, ◌<◌, arith, Bool, ◌||◌, true, false, nat_lt, cond, length, [], ◌∷◌, ◌++◌, codes, Some, None, refl}
use Rattle.std.proofs.Common.{ap, ◌∙◌}
use Rattle.std.proofs.Math.Bool.{and-false}
use Rattle.std.specs.List.{list_any}
use Rattle.std.specs.Cmp.{both_ways}
use Rattle.ron_spec_words.specs.Characters.{Text, starts_name, continues_name}
use Rattle.ron_spec_words.specs.Runs.{begins_with, same_text, run_of, after_run}
use Rattle.ron_spec_words.specs.Reader.{got, failed, bad, meant, run}
use Rattle.ron_spec_words.specs.Name.{untyped_name, opens_literal, value_words, if_no_value_word}
use Rattle.ron_spec_words.specs.Number.{in_number}
use Rattle.ron_spec_words.specs.AnyInteger.{untyped_integer, any_integer, is_float, in_float, before_dots}
use Rattle.ron_lex.specs.Identifier.{raw_name_behind_mark}
use Rattle.ron_lex_text.specs.Stretch.{IsProperSuffix}
use Rattle.ron_lex.specs.Untyped.{passes_digits, in_both}

-- ---- names

pub untyped_raw : (s : Text) → begins_with (codes "r#") s ≡ true → untyped_name s ≡ raw_name_behind_mark s
unfolding untyped_name
untyped_raw s e = rw e refl

pub untyped_literal : (s : Text) → begins_with (codes "r#") s ≡ false → opens_literal s ≡ true → untyped_name s ≡ failed bad
unfolding untyped_name
untyped_literal s e l = let m = rw e at l in rw (e, m) refl

pub untyped_plain : (s : Text) → begins_with (codes "r#") s ≡ false → opens_literal s ≡ false
    → untyped_name s ≡ meant (run starts_name continues_name s) if_no_value_word
unfolding untyped_name
untyped_plain s e l = let m = rw e at l in rw (e, m) refl

pub untyped_refused : (s : Text) → begins_with (codes "r#") s ≡ false → opens_literal s ≡ false → run starts_name continues_name s ≡ failed bad
    → untyped_name s ≡ failed bad
untyped_refused s e l f = untyped_plain s e l ∙ ap (λ o. meant o if_no_value_word) f

pub untyped_word : (s n rest : Text) → begins_with (codes "r#") s ≡ false → opens_literal s ≡ false → run starts_name continues_name s ≡ got n rest
    → list_any (same_text n) value_words ≡ true → untyped_name s ≡ failed bad
untyped_word s n rest e l f w =
    untyped_plain s e l ∙ ap (λ o. meant o if_no_value_word) f ∙ ap (λ b. meant {A = Text} (got n rest) (λ _. cond b None (Some n))) w

pub untyped_got : (s n rest : Text) → begins_with (codes "r#") s ≡ false → opens_literal s ≡ false → run starts_name continues_name s ≡ got n rest
    → list_any (same_text n) value_words ≡ false → untyped_name s ≡ got n rest
untyped_got s n rest e l f w =
    untyped_plain s e l ∙ ap (λ o. meant o if_no_value_word) f ∙ ap (λ b. meant {A = Text} (got n rest) (λ _. cond b None (Some n))) w

-- a run is not empty
pub run_past : (s n rest : Text) → run starts_name continues_name s ≡ got n rest → s ≡ n ++ rest → IsProperSuffix rest s
run_past [] n rest f g = absurd (cc)
run_past (c ∷ s) n rest f g = go (starts_name c) f
  where
    go : (b : Bool) → cond b (got (c ∷ run_of continues_name s) (after_run continues_name s)) (failed bad) ≡ got n rest → IsProperSuffix rest (c ∷ s)
    go true h = let same : n ≡ c ∷ run_of continues_name s = cc in record { first = c; front = run_of continues_name s; is = g ∙ ap (λ x. x ++ rest) same }
    go false h = absurd (cc)

-- ---- integers

pub integer_plain : (s : Text) → is_float s ≡ false → untyped_integer s ≡ any_integer s
unfolding untyped_integer
integer_plain s e = rw e refl

-- ---- floats, a character at a time

-- two dots stand in a float's run where they stand in the text
no_dots : (c : ℕ) (t : Text) → begins_with (codes "..") (c ∷ t) ≡ false → begins_with (codes "..") (c ∷ run_of in_float t) ≡ false
no_dots c [] h = h
no_dots c (b ∷ t) h = go (in_float b) h
  where
    go : (x : Bool) → begins_with (codes "..") (c ∷ b ∷ t) ≡ false → begins_with (codes "..") (c ∷ cond x (b ∷ run_of in_float t) []) ≡ false
    go true k = k
    go false k = and-false (c == 46)

one_more : (m n : ℕ) → nat_lt m n ≡ nat_lt (suc m) (suc n)
one_more m n = both_ways _ _
    (λ t. let lt = ltb-true m n t in lt-ltb (suc m) (suc n) (let z : suc m < suc n = omega (arith, lt) in z))
    (λ t. let lt = ltb-true (suc m) (suc n) t in lt-ltb m n (let z : m < n = omega (arith, lt) in z))

less_than_more : (n : ℕ) → nat_lt 0 (suc n) ≡ true
less_than_more n = lt-ltb 0 (suc n) (let z : 0 < suc n = omega arith in z)

-- no digit stands here, and a float's run goes on
pub float_goes_on : (c : ℕ) (s t : Text) → s ≡ c ∷ t → begins_with (codes "..") s ≡ false → in_float c ≡ true → in_number c ≡ false → passes_digits s ≡ true
float_goes_on c s t e d f n =
    rw (e, n, f) (ap (λ b. nat_lt 0 (length (cond b [] (c ∷ before_dots (run_of in_float t))))) (no_dots c t (rw e at d))
    ∙ less_than_more (length (before_dots (run_of in_float t))))

-- ---- what an integer and a float may both hold

pub both_stops : (c : ℕ) (s t : Text) → s ≡ c ∷ t → in_both c ≡ false → after_run in_both s ≡ s
both_stops c s t e f = rw (e, f) refl

pub both_goes_on : (c : ℕ) (s t : Text) → s ≡ c ∷ t → in_both c ≡ true → after_run in_both t ≡ after_run in_both s
both_goes_on c s t e f = rw (e, f) refl

-- ---- how far a look for a name goes

pub raw_opens : (s : Text) → begins_with (codes "r#") s ≡ true → opens_literal s ≡ true
raw_opens s e =
    last (begins_with (codes "b\"") s) (begins_with (codes "b'") s) (begins_with (codes "br#") s) (begins_with (codes "br\"") s) (begins_with (codes "r\"") s)
    (begins_with (codes "r#") s) e
  where
    last : (a b c d x y : Bool) → y ≡ true → ((a || b || c || d) || (x || y)) ≡ true
    last true b c d x y h = refl
    last false true c d x y h = refl
    last false false true d x y h = refl
    last false false false true x y h = refl
    last false false false false true y h = refl
    last false false false false false y h = h
