-- No width holds what passes 128 bits: for `read_interval`, which refuses it.
use Rattle.std.proofs.Common.{rules, ◌≡◌, ℕ, ◌^◌, ◌≤◌, Bool, true, false, inl, inr, Option, Some, None, option_map, Result, Ok, Err, MatchResult, refl, ap, ◌∙◌}
use Rattle.ron_spec_words.specs.Characters.{Text}
use Rattle.ron_spec_words.specs.Number.{Numeral as N, Suffix}
use Rattle.ron_spec_words.specs.Range.{Interval, one, range}
use Rattle.ron_spec_words.specs.Reader.{Got, got, bad, failed, meant}
use Rattle.ron_value_number.specs.declared.width.Width.{Width}
use Rattle.ron_value_number.specs.declared.width.Width.TheVariants.{I8, I16, I32, I64, I128, U8, U16, U32, U64, U128}
use Rattle.ron_value_number.specs.Number.{signed}
use Rattle.ron_value_number.specs.Smallest.{smallest_width, written_width}
use Rattle.ron_value_number.specs.Width.{fits}
use Rattle.ron_spec_grammar.specs.Shapes.Int.{suffix_width}
use Rattle.ron_value.specs.Tree.{Tree}
use Rattle.ron_spec_grammar.specs.Values.Grammar.{number_tree, from_start, to_end, from_to, interval_value}
use Rattle.ron_base.specs.declared.error.Error.{Error}
use Rattle.ron_base.specs.Class.{class_of}
use Rattle.ron_value.specs.declared.value.Value.{Value}
use Rattle.ron_value.specs.View.{tree_of}
use Rattle.ron_lex.specs.Range.{HoldsLarge, RefusesInterval}
use Rattle.ron_de_steps.specs.Errors.{IsMemoryOr}
use Rattle.ron_de_steps.specs.Reads.{Reads}
use Rattle.ron_de_steps.proofs.ErrorLemmas.{is_fault, memory_or_more}

too_large : (w : Width) (b : Bool) (m : ℕ) → 2 ^ 128 ≤ m → fits w (signed b m) ≡ false
too_large I8 true m h = search rules
too_large I16 true m h = search rules
too_large I32 true m h = search rules
too_large I64 true m h = search rules
too_large I128 true m h = search rules
too_large U8 true m h = search rules
too_large U16 true m h = search rules
too_large U32 true m h = search rules
too_large U64 true m h = search rules
too_large U128 true m h = search rules
too_large I8 false m h = search rules
too_large I16 false m h = search rules
too_large I32 false m h = search rules
too_large I64 false m h = search rules
too_large I128 false m h = search rules
too_large U8 false m h = search rules
too_large U16 false m h = search rules
too_large U32 false m h = search rules
too_large U64 false m h = search rules
too_large U128 false m h = search rules

no_width : (x : Option Suffix) (b : Bool) (m : ℕ) → 2 ^ 128 ≤ m → written_width (option_map suffix_width x) b (signed b m) ≡ None
unfolding smallest_width
no_width (Some x) b m h = rw (too_large (suffix_width x) b m h) refl
no_width None true m h = rw (too_large I8 true m h, too_large I16 true m h, too_large I32 true m h, too_large I64 true m h, too_large I128 true m h) refl
no_width None false m h = rw (too_large U8 false m h, too_large U16 false m h, too_large U32 false m h, too_large U64 false m h, too_large U128 false m h) refl

pub no_number : (n : N) → 2 ^ 128 ≤ n.magnitude → number_tree n ≡ None
no_number n h = ap (option_map _) (no_width n.suffix n.minus n.magnitude h)

-- nor is what holds such a number a value
no_interval : (i : Interval) → HoldsLarge i → interval_value i ≡ None
no_interval (one n) h = no_number n h
no_interval (range None closed None) (inl h) = absurd h
no_interval (range None closed None) (inr h) = absurd h
no_interval (range (Some a) closed None) (inl h) = ap from_start (no_number a h)
no_interval (range (Some a) closed None) (inr h) = absurd h
no_interval (range None closed (Some b)) (inl h) = absurd h
no_interval (range None closed (Some b)) (inr h) = ap to_end (no_number b h)
no_interval (range (Some a) closed (Some b)) (inl h) = ap (λ u. from_to u (number_tree b)) (no_number a h)
no_interval (range (Some a) closed (Some b)) (inr h) = ap (from_to (number_tree a)) (no_number b h) ∙ nothing_behind (number_tree a)
  where
    nothing_behind : (o : Option Tree) → from_to o None ≡ None
    nothing_behind None = refl
    nothing_behind (Some u) = refl

-- where code refuses, no value is read
pub refuses_interval : (answer : Got Interval) → RefusesInterval answer → meant answer interval_value ≡ failed bad
refuses_interval (got i rest) h = rw (no_interval i h) refl
refuses_interval (failed f) h = ap failed h

-- what is read where a value is made, and where none is
pub interval_fault : (answer : Got Interval) (i : Interval) (rest : Text) → answer ≡ got i rest → interval_value i ≡ None
    → meant answer interval_value ≡ failed bad
interval_fault answer i rest e v = ap (λ o. meant o interval_value) e ∙ rw v refl

pub interval_reads : (result : Result Value Error) (answer : Got Interval) (i : Interval) (rest : Text) → answer ≡ got i rest → MatchResult result
    (λ v. interval_value i ≡ Some (tree_of v)) (IsMemoryOr (interval_value i ≡ None)) → Reads tree_of result (meant answer interval_value) rest
interval_reads (Ok v) answer i rest e h = ap (λ o. meant o interval_value) e ∙ rw h refl
interval_reads (Err error) answer i rest e h = is_fault (class_of error) _ (memory_or_more error (interval_fault answer i rest e) h)
