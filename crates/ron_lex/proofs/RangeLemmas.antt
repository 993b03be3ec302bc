-- Numbers and ranges of them, by what stands there, and what is answered where code refuses a number: for the calls of `ranges.rt`.
use Rattle.std.proofs.Common.{◌≡◌, ℕ, ◌==◌, Bool, true, false, not, cond, [], ◌∷◌, codes, Option, Some, None, inl, inr, refl}
use Rattle.ron_spec_words.specs.Characters.{Text}
use Rattle.ron_spec_words.specs.Runs.{is_at, begins_with}
use Rattle.ron_spec_words.specs.Reader.{Got, got, failed, deep, bad, Reader, fail, give, behind, meant, means, pick}
use Rattle.ron_spec_words.specs.Directly.{and_directly}
use Rattle.ron_spec_words.specs.Number.{Numeral}
use Rattle.ron_spec_words.specs.AnyInteger.{opens_integer, any_integer, untyped_integer}
use Rattle.ron_spec_words.specs.Range.{Interval, one, up_to, is_open, opens_points, points, behind_number, number_or_range}
use Rattle.ron_spec_words.proofs.AnyIntegers.{word_untyped_integer, begins_one}
use Rattle.ron_lex.specs.AnyInteger.{RefusesAnyInteger}
use Rattle.ron_lex.specs.Untyped.{RefusesUntyped}
use Rattle.ron_lex.specs.Range.{HasLargeMagnitude, RefusesInterval}
use Rattle.ron_lex.specs.declared.numeral.NumeralFault.TheVariants.{OutOfBounds}
use Rattle.ron_lex.specs.declared.any_integer.AnyIntegerFault as any
use Rattle.ron_lex.specs.declared.any_integer.AnyIntegerFault.TheVariants as any_
use Rattle.ron_lex.specs.declared.untyped.UntypedIntegerFault.{UntypedIntegerFault}
use Rattle.ron_lex.specs.declared.untyped.UntypedIntegerFault.TheVariants.{UnsupportedFloat, Integer}

-- ---- a number that is refused

-- a number that passes 128 bits was read, or none was
abbrev RefusesNumber : Got Numeral → Type 0
RefusesNumber (got n rest) = HasLargeMagnitude n
RefusesNumber (failed f) = f ≡ bad

-- whatever its fault is
number_refused : (s : Text) (fault : UntypedIntegerFault) (rest : Text) → RefusesUntyped s fault rest → RefusesNumber (untyped_integer s)
unfolding untyped_integer
number_refused s UnsupportedFloat rest h = rw h.0 refl
number_refused s (Integer fault) rest h = rw h.0 (among fault h.1)
  where
    among : (fault : any.AnyIntegerFault) → RefusesAnyInteger (any_integer s) fault rest → RefusesNumber (any_integer s)
    among (any_.Integer OutOfBounds) k = rw k.is k.large
    among _ k = rw k refl

-- ---- behind two points

end_refused : (start : Option Numeral) (closed : Bool) (o : Got Numeral) → RefusesNumber o → RefusesInterval (meant o (up_to start closed))
end_refused start closed (got n rest) h = inr h
end_refused start closed (failed f) h = h

pub closed_end_refused : (start : Option Numeral) (s t : Text) (fault : UntypedIntegerFault) (rest : Text) → s ≡ 46 ∷ 46 ∷ 61 ∷ t → RefusesUntyped t fault rest
    → RefusesInterval (points start s)
closed_end_refused start s t fault rest e h = rw e (end_refused start true (untyped_integer t) (number_refused t fault rest h))

pub open_end_refused : (start : Option Numeral) (s t : Text) (fault : UntypedIntegerFault) (rest : Text) → s ≡ 46 ∷ 46 ∷ t → begins_with (codes "..=") s ≡ false
    → opens_integer t ≡ true → RefusesUntyped t fault rest → RefusesInterval (points start s)
open_end_refused start s t fault rest e no_equals opens h =
    let m = begins_one 61 t (rw e at no_equals) in
    rw (e, m, opens) (end_refused start false (untyped_integer t) (number_refused t fault rest h))

-- ---- behind a number that passes 128 bits

behind_refused : (c : ℕ) (r : Reader Interval) → ((s : Text) → RefusesInterval (r s)) → (s : Text) → RefusesInterval (behind c r s)
behind_refused c r h [] = refl
behind_refused c r h (d ∷ s) = elim (d == c) as (λ b. RefusesInterval (cond b (r s) (failed bad))) [ true ↦ h s | false ↦ refl ]

pick_refused : (p : Text → Bool) (q r : Reader Interval) → ((s : Text) → RefusesInterval (q s)) → ((s : Text) → RefusesInterval (r s)) → (s : Text)
    → RefusesInterval (pick p q r s)
pick_refused p q r h k s = elim (p s) as (λ b. RefusesInterval (cond b (q s) (r s))) [ true ↦ h s | false ↦ k s ]

start_refused : (n : Numeral) → HasLargeMagnitude n → (closed : Bool) (s : Text) → RefusesInterval (means untyped_integer (up_to (Some n) closed) s)
start_refused n h closed s = go (untyped_integer s) refl
  where
    go : (o : Got Numeral) → untyped_integer s ≡ o → RefusesInterval (meant o (up_to (Some n) closed))
    go (got m rest) e = inl h
    go (failed deep) e = absurd (word_untyped_integer.calm s e)
    go (failed bad) e = refl

points_refused : (n : Numeral) → HasLargeMagnitude n → (s : Text) → RefusesInterval (points (Some n) s)
points_refused n h =
    behind_refused 46 _ (behind_refused 46 _
    (pick_refused (is_at 61) _ _ (behind_refused 61 _ (start_refused n h true))
    (pick_refused opens_integer _ _ (start_refused n h false)
    (pick_refused is_open _ _ (λ s. inl h) (λ s. refl)))))

number_first_refused : (o : Got Numeral) → RefusesNumber o → RefusesInterval (and_directly o behind_number)
number_first_refused (got n rest) h =
    pick_refused opens_points _ _ (points_refused n h)
    (pick_refused (λ s. not (opens_points s)) (give (one n)) (fail bad) (λ s. h) (λ s. refl)) rest
number_first_refused (failed f) h = h

-- ---- a number or a range, by what stands there

pub points_first : (s : Text) → opens_points s ≡ true → number_or_range s ≡ points None s
unfolding number_or_range
points_first s e = rw e refl

pub first_refused : (s : Text) (fault : UntypedIntegerFault) (rest : Text) → opens_points s ≡ false → RefusesUntyped s fault rest
    → RefusesInterval (number_or_range s)
unfolding number_or_range
first_refused s fault rest e h = rw e (number_first_refused (untyped_integer s) (number_refused s fault rest h))

pub points_behind : (s : Text) (n : Numeral) (rest : Text) → opens_points s ≡ false → untyped_integer s ≡ got n rest → opens_points rest ≡ true
    → number_or_range s ≡ points (Some n) rest
unfolding number_or_range
points_behind s n rest e f b = rw (e, f, b) refl

pub nothing_behind : (s : Text) (n : Numeral) (rest : Text) → opens_points s ≡ false → untyped_integer s ≡ got n rest → opens_points rest ≡ false
    → number_or_range s ≡ got (one n) rest
unfolding number_or_range
nothing_behind s n rest e f b = rw (e, f, b) refl
