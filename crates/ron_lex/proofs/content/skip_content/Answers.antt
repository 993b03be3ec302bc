use Rattle.std.proofs.Common.{chars, ap, sym, arith, length, ◌∙◌}
use Rattle.ron_spec_words.proofs.Words.{after-run}
use Rattle.ron_spec_words.proofs.Far.{run_most}
use Rattle.ron_lex.proofs.SplitLemmas.{stripped, not_stripped}
use Rattle.ron_lex.proofs.StringLemmas.{plain, piece_shorter}
use Rattle.ron_lex.proofs.SkipLemmas.{skip_starts, skip_turns, skip_refused, skip_ends}
use Rattle.ron_lex.proofs.content.skip_content.Goals as goal

pub loop-rest-init : goal.loop-rest-init
loop-rest-init g c = (
  c.skip_to_quote_or_escape-rest.utf8,
  rw c.skip_to_quote_or_escape-rest.ensures.value (after-run plain (chars c.args.text.now)),
  skip_starts g.C.Content.is_content (chars c.args.text.now) _ c.skip_to_quote_or_escape-rest.ensures.value,
)

pub returns-in_default : goal.returns-in_default
returns-in_default g c =
    let here = stripped 92 (chars c.loop-rest.rest.now) _ c.strip_char.ensures (sym c.is_some.ensures ∙ c.loop-rest-test.true) in
    sym c.loop-rest.invariant.2 ∙ skip_refused g.C.Content.is_content (chars c.loop-rest.rest.now) here c.in_default.ensures.value

pub loop-rest-smaller : goal.loop-rest-smaller
loop-rest-smaller g c =
    let here = stripped 92 (chars c.loop-rest.rest.now) _ c.strip_char.ensures (sym c.is_some.ensures ∙ c.loop-rest-test.true) in
    omega (
      arith,
      ap length c.skip_to_quote_or_escape-rest-in-loop-rest.ensures.value,
      run_most plain (chars c.in-Ok.after.now),
      piece_shorter g.C.Content.is_content (chars c.loop-rest.rest.now) (chars c.in-Ok.after.now) _ here c.in-Ok.ensures.value,
    )

pub loop-rest-preserved : goal.loop-rest-preserved
loop-rest-preserved g c =
    let here = stripped 92 (chars c.loop-rest.rest.now) _ c.strip_char.ensures (sym c.is_some.ensures ∙ c.loop-rest-test.true) in
    let run = c.skip_to_quote_or_escape-rest-in-loop-rest.ensures.value in (
      c.skip_to_quote_or_escape-rest-in-loop-rest.utf8,
      rw run (after-run plain (chars c.in-Ok.after.now)),
      skip_turns g.C.Content.is_content (chars c.loop-rest.rest.now) (chars c.in-Ok.after.now) _ _ here c.in-Ok.ensures.value run ∙ c.loop-rest.invariant.2,
    )

pub returns : goal.returns
returns g c =
    let no_escape = not_stripped 92 (chars c.loop-rest.rest.now) _ c.strip_char.ensures (sym c.is_some.ensures ∙ c.loop-rest-test.false) in
    skip_ends g.C.Content.is_content (chars c.loop-rest.rest.now) (chars c.args.text.now) _ c.loop-rest.invariant.1 no_escape c.loop-rest.invariant.2
    c.strip_char-2.ensures
