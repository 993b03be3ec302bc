-- Numbers and ranges over one text: for the agreement of numbers, and of the structs that ranges spell.
use Rattle.std.proofs.Common.{◌≡◌, true, false, ◌++◌, inl, inr, None, Some, refl, sym, ap, ◌∙◌, append_assoc}
use Rattle.std.specs.Char.{is_ascii_digit}
use Rattle.ron_spec_words.specs.Characters.{Text}
use Rattle.ron_spec_words.specs.Number.{Numeral}
use Rattle.ron_spec_words.specs.AnyInteger.{AnyInteger, any_integer}
use Rattle.ron_spec_words.specs.Range.{Interval, one, opens_points, BehindNumber, NumberOrRange}
use Rattle.ron_spec_words.specs.Exact.{FollowsValue}
use Rattle.ron_spec_words.proofs.Words.{First}
use Rattle.ron_spec_words.proofs.AnyIntegers.{word_any_integer}
use Rattle.ron_spec_words.proofs.UntypedWords.{first_any_integer}
use Rattle.ron_spec_words.proofs.Classes.{apart}
use Rattle.ron_spec_words.proofs.Ranges.{first_points}
use Rattle.ron_spec_grammar.proofs.Agreement.Agree.{Agree, got_both}
use Rattle.ron_spec_grammar.proofs.Raw.Points.{on_ends, no_points_there}

integer_no_points : First (λ s. opens_points s ≡ false) AnyInteger
integer_no_points = first_any_integer _ (λ s. refl) (λ s. refl) (λ s. refl) (λ c s e. rw (apart is_ascii_digit 46 c refl e) refl)

-- behind an integer that a value may follow stand no points
behind : (a n : Numeral) (right next other : Text) (z : Interval) → next ≡ right ++ other → a ≡ n → FollowsValue next → BehindNumber n right other z
    → (next ≡ other) × (z ≡ one a)
behind a n right next other z p q f (inl w) =
    let there = (first_points (λ s. opens_points s ≡ true) (Some n) (λ s. refl)).holds right other z w in
    absurd (let x : true ≡ false = sym there ∙ ap opens_points (sym p) ∙ no_points_there next (on_ends next f) in cc)
behind a n right next other z p q f (inr w) = (p ∙ ap (λ r. r ++ other) w.1.0, sym w.1.1 ∙ ap one (sym q))

-- an integer by a schema, and a number or a range without one
pub agree_one : Agree AnyInteger NumberOrRange FollowsValue (λ n z. z ≡ one n)
agree_one = record { at = λ t next u other a b e s n z f y o. go t next u other a b e z f y }
  where
    go : (t next u other : Text) (a : Numeral) (b : Interval) → t ++ next ≡ u ++ other → AnyInteger t next a → FollowsValue next → NumberOrRange u other b
        → (next ≡ other) × (b ≡ one a)
    go t next u other a b e z f (inl y) =
        let there = (first_points (λ s. opens_points s ≡ true) None (λ s. refl)).holds u other b y in
        absurd (let x : true ≡ false = sym there ∙ ap opens_points (sym e) ∙ integer_no_points.holds t next a z in cc)
    go t next u other a b e z f (inr y) =
        let same = got_both a y.value next (y.right ++ other)
        (sym (word_any_integer.complete t next a z).answer ∙ ap any_integer (e ∙ ap (λ v. v ++ other) y.split ∙ append_assoc y.left y.right other)
        ∙ (word_any_integer.complete y.left (y.right ++ other) y.value y.first.1).answer) in
        behind a y.value y.right next other b same.0 same.1 f y.second
