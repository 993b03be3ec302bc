use Rattle.std.proofs.Common.{chars, drop, sym, ap, ◌∙◌, arith}
use Rattle.std.proofs.lemmas.Str.{IsCharBoundary-from_drop}
use Rattle.ron_spec_words.specs.Characters.{colon}
use Rattle.ron_spec_words.specs.Runs.{is_at}
use Rattle.ron_lex_text.specs.Stretch.{stands_called, parting}
use Rattle.ron_lex_text.proofs.CalledLemmas.{both_pass, parted, ended, joined, stands_here, stands_nowhere}
use Rattle.ron_lex_text.proofs.text.strip_called.Goals.{then-place-bytes-via-then-place-bytes, then-place-bytes-via-else-place-bytes+then-bytes-place}
use Rattle.ron_lex_text.proofs.text.strip_called.Goals.{then-place-bytes-via-else-place-bytes+else-bytes-place+then-not-is_name_byte}
use Rattle.ron_lex_text.proofs.text.strip_called.Goals as goal

pub range_from-requires : goal.range_from-requires
range_from-requires c _ = IsCharBoundary-from_drop _ _ c.loop-place.invariant.1 c.loop-place.invariant.3

pub range_from-end-requires : goal.range_from-end-requires
range_from-end-requires c _ = IsCharBoundary-from_drop _ _ c.loop-place.invariant.1 c.loop-place.invariant.3

pub returns-then-place-bytes-clause-value : goal.returns-then-place-bytes-clause-value
returns-then-place-bytes-clause-value c =
    sym c.loop-place.invariant.4 ∙ (parted c.as_bytes-wanted.ensures.value c.as_bytes-bytes.ensures.value c.loop-place-test.true c.loop-place.invariant.2
    c.loop-place.invariant.3 (elim c.then-place-bytes.branch [
      | then-place-bytes-via-then-place-bytes w ↦ λ lt same. absurd (omega (arith, lt, w.if-place-bytes.true))
      | then-place-bytes-via-else-place-bytes+then-bytes-place w ↦ λ lt same. absurd (w.if-bytes-place.true same)
      | then-place-bytes-via-else-place-bytes+else-bytes-place+then-not-is_name_byte w ↦ λ lt same. sym w.is_name_byte.ensures ∙ w.if-not-is_name_byte.true
    ])).0

pub returns-then-place-bytes-clause-end : goal.returns-then-place-bytes-clause-end
returns-then-place-bytes-clause-end c =
    ap chars c.range_from.ensures.value ∙ sym (parted c.as_bytes-wanted.ensures.value c.as_bytes-bytes.ensures.value c.loop-place-test.true
    c.loop-place.invariant.2 c.loop-place.invariant.3 (elim c.then-place-bytes.branch [
      | then-place-bytes-via-then-place-bytes w ↦ λ lt same. absurd (omega (arith, lt, w.if-place-bytes.true))
      | then-place-bytes-via-else-place-bytes+then-bytes-place w ↦ λ lt same. absurd (w.if-bytes-place.true same)
      | then-place-bytes-via-else-place-bytes+else-bytes-place+then-not-is_name_byte w ↦ λ lt same. sym w.is_name_byte.ensures ∙ w.if-not-is_name_byte.true
    ])).1 ∙ c.loop-place.invariant.5

pub loop-place-preserved : goal.loop-place-preserved
loop-place-preserved c =
    let next = both_pass c.as_bytes-wanted.ensures.value c.as_bytes-bytes.ensures.value c.loop-place-test.true c.if-place-bytes.false c.if-bytes-place.false
    c.loop-place.invariant.2 c.loop-place.invariant.3 (sym c.is_name_byte.ensures ∙ c.if-not-is_name_byte.false) in
    (next.0, next.1, next.2, next.3, next.4 ∙ c.loop-place.invariant.4, next.5 ∙ c.loop-place.invariant.5)

pub returns-in-Some-clause-value : goal.returns-in-Some-clause-value
returns-in-Some-clause-value c =
    let nothing = ended c.as_bytes-wanted.ensures.value c.loop-place-test.false in
    let here = chars (drop c.loop-place.place c.args.text.now) in
    let is = sym (ap chars c.range_from-end.ensures.value) ∙ c.in-Some.ensures in
    joined (chars c.args.name.now) (chars c.args.text.now) _ (sym c.loop-place.invariant.4 ∙ ap (λ n. stands_called n here) nothing ∙ stands_here here _ is)
    (sym c.loop-place.invariant.5 ∙ ap (λ n. parting n here) nothing ∙ is)

pub returns-in-Some-clause-stands : goal.returns-in-Some-clause-stands
returns-in-Some-clause-stands c =
    let here = chars (drop c.loop-place.place c.args.text.now) in
    sym c.loop-place.invariant.4 ∙ ap (λ n. stands_called n here) (ended c.as_bytes-wanted.ensures.value c.loop-place-test.false)
    ∙ stands_here here _ (sym (ap chars c.range_from-end.ensures.value) ∙ c.in-Some.ensures)

pub returns-in-None-clause-value : goal.returns-in-None-clause-value
returns-in-None-clause-value c =
    let here = chars (drop c.loop-place.place c.args.text.now) in
    sym c.loop-place.invariant.4 ∙ ap (λ n. stands_called n here) (ended c.as_bytes-wanted.ensures.value c.loop-place-test.false)
    ∙ stands_nowhere here (sym (ap (λ l. is_at colon (chars l)) c.range_from-end.ensures.value) ∙ c.in-None.ensures)

pub returns-in-None-clause-end : goal.returns-in-None-clause-end
returns-in-None-clause-end c =
    ap chars c.range_from-end.ensures.value ∙ sym (ap (λ n. parting n (chars (drop c.loop-place.place c.args.text.now)))
    (ended c.as_bytes-wanted.ensures.value c.loop-place-test.false)) ∙ c.loop-place.invariant.5
