use Rattle.std.proofs.Common.{rules, arith, inl, inr, refl, sym, ap, ◌∙◌}
use Rattle.std.proofs.lemmas.Result.{err_from_is_err_and}
use Rattle.ron_spec_words.specs.Reader.{got}
use Rattle.ron_de_steps.proofs.ErrorLemmas.{fault_of}
use Rattle.ron_de_parts.proofs.SliceLemmas.{sliced-str}
use Rattle.ron_de_parts.proofs.KeptLemmas.{ends_here, string_here, string_read, kept_string}
use Rattle.ron_de_steps.proofs.NearLemmas.{string_nears}
use Rattle.ron_de_parts.proofs.TurnLemmas.{leaf_read, leaf_refused}
use Rattle.ron_de_parts.proofs.leaves.read_str.Goals as goal

pub returns-in_err-text-clause-value : goal.returns-in_err-text-clause-value
returns-in_err-text-clause-value c =
    let p = err_from_is_err_and c.from_residual.result c.from_residual.ensures.1 in
    rw (p.1, p.2) (fault_of _ _ _ (λ fault f. rw f refl) c.in_err-text.ensures.value)

pub returns-in_err-text-clause-refused : goal.returns-in_err-text-clause-refused
returns-in_err-text-clause-refused c source =
    let p = err_from_is_err_and c.from_residual.result c.from_residual.ensures.1 in
    rw p.1 (elim c.in_err-text.ensures.refused [ inl escaped ↦ inl escaped | inr none ↦ inr (rw none refl) ])

pub returns-in_err-text-clause-turns : goal.returns-in_err-text-clause-turns
returns-in_err-text-clause-turns c =
    let p = err_from_is_err_and c.from_residual.result c.from_residual.ensures.1 in
    rw (p.1, p.2) (leaf_refused 2 (omega arith) c.args.cursor.now c.read_string.new.cursor _ c.in_err-text.ensures.turns.most)

-- ---- what was read isn't kept, for want of memory

pub returns-in_err-kept-clause-value : goal.returns-in_err-kept-clause-value
returns-in_err-kept-clause-value c =
    let p = err_from_is_err_and c.from_residual-in_err-kept.result c.from_residual-in_err-kept.ensures.1 in
    rw (p.1, p.2, c.in_err-kept.ensures.same) tt

pub returns-in_err-kept-clause-refused : goal.returns-in_err-kept-clause-refused
returns-in_err-kept-clause-refused c source =
    let place = c.rest-start.ensures in
    let read = c.in_ok-text.ensures in
    absurd (c.in_err-kept.ensures.slice (ends_here _ _ _ _ place.rest place.end source) (string_here _ _ _ c.in_ok-text.text place.rest read.value read.slice))

pub returns-in_err-kept-clause-turns : goal.returns-in_err-kept-clause-turns
returns-in_err-kept-clause-turns c =
    let p = err_from_is_err_and c.from_residual-in_err-kept.result c.from_residual-in_err-kept.ensures.1 in
    rw (p.1, p.2) (leaf_refused 2 (omega arith) c.args.cursor.now c.read_string.new.cursor _ c.in_ok-text.ensures.turns.most)

-- ---- what is kept

pub returns-clause-value : goal.returns-clause-value
returns-clause-value c = string_read _ _ c.in_ok-text.text c.in_ok-kept.kept c.in_ok-kept.ensures.same c.in_ok-text.ensures.value

pub returns-clause-slice : goal.returns-clause-slice
returns-clause-slice c source =
    let place = c.rest-start.ensures in
    let read = c.in_ok-text.ensures in
    let slice =
    c.in_ok-kept.ensures.slice (ends_here _ _ _ _ place.rest place.end source) (string_here _ _ _ c.in_ok-text.text place.rest read.value read.slice) in
    kept_string c.args.cursor.now.rest c.read_string.new.cursor.rest c.in_ok-text.text c.in_ok-kept.kept c.in_ok-kept.ensures.same slice
    (read.slice, read.between)

pub returns-clause-advance : goal.returns-clause-advance
returns-clause-advance c = record {
  text = search rules;
  no_longer = search rules;
  holds = λ source. sliced-str _ c.args.cursor.now.rest c.read_string.new.cursor.rest c.in_ok-kept.kept c.in_ok-text.ensures.end
      (c.in_ok-text.ensures.value ∙ ap (λ t. got t c.read_string.new.cursor.rest) (sym c.in_ok-kept.ensures.same)) (returns-clause-slice c source);
  fault = search rules;
}

pub returns-clause-turns : goal.returns-clause-turns
returns-clause-turns c = leaf_read 2 (omega arith) c.args.cursor.now c.read_string.new.cursor _ c.in_ok-text.ensures.turns.moved
    (string_nears _ c.args.cursor.now c.read_string.new.cursor c.in_ok-text.ensures.value)
