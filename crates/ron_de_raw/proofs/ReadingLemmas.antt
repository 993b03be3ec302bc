-- Raw texts within a text, beside the steps of the code.
use Rattle.std.proofs.Common.{◌≡◌, ℕ, ◌-◌, Result, subst, Bool, true, false, cond, ◌++◌, length, take, take_at, length-append, arith, Some, None, refl, sym, ap}
use Rattle.std.proofs.Common.{ap₂, ◌∙◌}
use Rattle.std.proofs.lemmas.List.{append_cancel_right}
use Rattle.ron_spec_words.specs.Characters.{Text}
use Rattle.ron_spec_words.specs.Gap.{gap_of, skip}
use Rattle.ron_spec_words.specs.Lang.{done}
use Rattle.ron_spec_words.specs.Reader.{Fault, bad, Got, got, failed, and_then, give, means, meant}
use Rattle.ron_spec_words.specs.Runs.{is_at}
use Rattle.ron_spec_words.specs.Stretch.{passed}
use Rattle.ron_spec_words.proofs.Gaps.{cut}
use Rattle.ron_de_raw.specs.Reading.{taken_before, taken_behind}
use Rattle.ron_de_raw.proofs.StretchLemmas.{between, raw_text_is}
use Rattle.ron_value.specs.Tree.{Tree}
use Rattle.ron_spec_grammar.specs.Raw.{raw_text, raw_valid}
use Rattle.ron_spec_grammar.specs.Shapes.Raw.{taken, raw_part}
use Rattle.ron_spec_grammar.specs.Values.Grammar.{read_any}
use Rattle.ron_spec_grammar.specs.Values.Statement.{enough_for_value}
use Rattle.ron_value.specs.View.{tree_of}
use Rattle.ron_value.specs.declared.value.Value.{Value}
use Rattle.ron_base.specs.declared.error.Error.{Error}
use Rattle.ron_lex.specs.Place.{Place}
use Rattle.ron_lex.specs.Turns.{Stays}
use Rattle.ron_de_steps.specs.Conditions.{Conditions}
use Rattle.ron_de_steps.specs.Reads.{Reads}
use Rattle.ron_de_steps.specs.Room.{IsRoom}
use Rattle.ron_de_untyped.specs.Values.{ReadsAny, unwraps}

-- the raw text, where it is valid
abbrev pub valid_or_bad : Text → Text → Got Text
valid_or_bad t rest = cond (raw_valid t) (got t rest) (failed bad)

module _ (unwrap : Bool) (room : ℕ) (at_start : Bool) (before s : Text) where
  pub part_failed : (f : Fault) → read_any unwrap room false before s ≡ failed f → raw_part unwrap room at_start before s ≡ failed f
  part_failed f e = ap (λ o. and_then (passed s o) (λ core after. means (give done) (taken at_start before core after))) e

  module _ (v : Tree) (core rest : Text) (e : read_any unwrap room false before s ≡ got v rest) (h : s ≡ core ++ rest) where
    core_here : take (length s - length rest) s ≡ core
    core_here = ap (λ t. take (length t - length rest) t) h ∙ take_at core rest (length (core ++ rest) - length rest) (omega (arith, length-append core rest))

    behind_gap : raw_part unwrap room at_start before s
        ≡ cond (is_at 47 (skip rest)) (failed bad) (means (give done) (taken at_start before core (gap_of rest)) (skip rest))
    behind_gap = ap (λ o. and_then (passed s o) (λ core after. means (give done) (taken at_start before core after))) e
        ∙ ap (λ c. cond (is_at 47 (skip rest)) (failed bad) (means (give done) (taken at_start before c (gap_of rest)) (skip rest))) core_here

    pub part_taken : is_at 47 (skip rest) ≡ false
        → raw_part unwrap room at_start before s ≡ valid_or_bad (raw_text before core (gap_of rest) at_start) (skip rest)
    part_taken k = behind_gap ∙ ap (λ b. cond b (failed bad) (means (give done) (taken at_start before core (gap_of rest)) (skip rest))) k
        ∙ go (raw_text before core (gap_of rest) at_start)
      where
        go : (t : Text) → meant (got done (skip rest)) (λ u. cond (raw_valid t) (Some t) None) ≡ valid_or_bad t (skip rest)
        go t = elim (raw_valid t)
            as (λ b. meant (got done (skip rest)) (λ u. cond b (Some t) None) ≡ cond b (got t (skip rest)) (failed bad)) [ true ↦ refl | false ↦ refl ]

    module _ (no_slash : is_at 47 (skip rest) ≡ false) (t : Text) (is : t ≡ raw_text before core (gap_of rest) at_start) where
      pub part_valid : (next : Text) → raw_valid t ≡ true → next ≡ skip rest → raw_part unwrap room at_start before s ≡ got t next
      part_valid next k n =
          part_taken no_slash ∙ ap (λ u. valid_or_bad u (skip rest)) (sym is) ∙ ap (λ b. cond b (got t (skip rest)) (failed bad)) k ∙ ap (got t) (sym n)

      pub part_invalid : raw_valid t ≡ false → raw_part unwrap room at_start before s ≡ failed bad
      part_invalid k = part_taken no_slash ∙ ap (λ u. valid_or_bad u (skip rest)) (sym is) ∙ ap (λ b. cond b (got t (skip rest)) (failed bad)) k

-- what the code cuts out is the raw text
pub cut_out : (at_start : Bool) (before here core rest gap next start end : Text) → start ≡ taken_before at_start before ++ here → here ≡ core ++ rest
    → gap ≡ gap_of rest → next ≡ skip rest → gap ++ next ≡ taken_behind at_start core gap ++ end → start ≡ raw_text before core (gap_of rest) at_start ++ end
cut_out at_start before here core rest gap next start end e f g h k =
    between (taken_before at_start before) core (taken_behind at_start core gap) here rest gap next start end e f
    ((cut rest).split ∙ ap₂ (λ a b. a ++ b) (sym g) (sym h)) k
    ∙ ap (λ t. t ++ end)
    (ap (λ a. taken_before at_start before ++ (core ++ taken_behind at_start core a)) g ∙ sym (raw_text_is before core (gap_of rest) at_start))

-- and where it is cut at the end, it is exactly that
pub cut_text : (at_start : Bool) (before here core rest gap next start end text : Text) → start ≡ taken_before at_start before ++ here → here ≡ core ++ rest
    → gap ≡ gap_of rest → next ≡ skip rest → gap ++ next ≡ taken_behind at_start core gap ++ end → start ≡ text ++ end
    → text ≡ raw_text before core (gap_of rest) at_start
cut_text at_start before here core rest gap next start end text e f g h k is =
    append_cancel_right text _ end (sym is ∙ cut_out at_start before here core rest gap next start end e f g h k)

-- a value that is read at the same place
pub any_stays : (x : Conditions) (old begun : Place) (result : Result Value Error) (rest : Text) → Stays old begun → ReadsAny x false begun result rest
    → ReadsAny x false old result rest
any_stays x old begun result rest s h = subst (λ (gap : Text). At gap old.rest) s.gap (subst (At begun.gap) s.rest h)
  where
    At : Text → Text → Type 0
    At gap text = (room : ℕ) → IsRoom x.limit (enough_for_value false (length text)) room → Reads tree_of result (read_any (unwraps x) room false gap text) rest
