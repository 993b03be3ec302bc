use Rattle.std.proofs.Common.{◌≤◌, arith, length, ◌∙◌}
use Rattle.std.proofs.lemmas.Str.{IsCharBoundary-from_drop}
use Rattle.ron_lex_text.proofs.BlankLemmas.{four_pass}
use Rattle.ron_lex_text.proofs.text.skip_fours.Goals as goal

pub range_from-rest-requires : goal.range_from-rest-requires
range_from-rest-requires c _ =
    let passed = four_pass c.as_bytes.ensures.value c.loop-four.invariant.0 c.loop-four.invariant.1 c.in-Some.ensures.cases c.from_ne_bytes.ensures
    c.if-from_ne_bytes-ne-FOUR_SPACES.false in
    IsCharBoundary-from_drop _ _ passed.0 passed.1

pub loop-four-preserved : goal.loop-four-preserved
loop-four-preserved c =
    let passed = four_pass c.as_bytes.ensures.value c.loop-four.invariant.0 c.loop-four.invariant.1 c.in-Some.ensures.cases c.from_ne_bytes.ensures
    c.if-from_ne_bytes-ne-FOUR_SPACES.false in
    let shorter : length c.range_from-rest.result.now ≤ length c.args.text.now = omega (arith, c.range_from-rest.ensures.len, c.loop-four.invariant.2) in
    (c.range_from-rest.utf8, rw c.range_from-rest.ensures.value passed.2, shorter, rw c.range_from-rest.ensures.value (passed.3 ∙ c.loop-four.invariant.3))
