use Rattle.std.proofs.Common.{chars, ap, sym, rules, arith, refl, length, flat_map, ◌++◌, append_assoc, ◌∙◌}
use Rattle.ron_lex_text.proofs.StretchLemmas.{run_end, end_of_end, end_whole}
use Rattle.ron_lex.proofs.SplitLemmas.{failed_refusal, failed_err, refused_end, stripped, not_stripped}
use Rattle.ron_spec_words.proofs.Words.{after-run}
use Rattle.ron_lex.proofs.StringLemmas.{plain, content_starts, content_turns, piece_end, piece_shorter, content_refused, content_closed, content_unclosed}
use Rattle.ron_spec_words.specs.Beyond.{bytes_in}
use Rattle.ron_spec_words.proofs.Sizes.{size_one}
use Rattle.ron_spec_words.proofs.Far.{run_most}
use Rattle.ron_lex.proofs.CoverLemmas.{gains_on}
use Rattle.ron_lex.proofs.content.split_escaped.Goals as goal

pub before-requires : goal.before-requires
before-requires g c = run_end plain _ _ c.requires

pub loop-place-init : goal.loop-place-init
loop-place-init g c = (
  c.utf8.escape,
  c.utf8.text,
  run_end plain _ _ c.requires,
  end_whole _,
  rw c.requires (after-run plain (chars c.args.text.now)),
  (omega arith, omega arith),
  content_starts g.C.Content.is_content (chars c.args.text.now) (chars c.before-2.result.now) _ _ _ (g.C.Content.made c.in_ok-content.content) refl c.requires
      c.before-2.ensures c.in_ok-push_plain.ensures c.in_ok-content.ensures,
)

pub returns-in_err-given-clause-err_end : goal.returns-in_err-given-clause-err_end
returns-in_err-given-clause-err_end g c =
    refused_end _ _ _ c.from_residual-in_err-given.ensures.1 (end_of_end _ _ _ c.in_err-given.ensures.err_end c.loop-place.invariant.2)

pub before-requires-in-loop-place : goal.before-requires-in-loop-place
before-requires-in-loop-place g c = run_end _ _ _ c.plain-rest.ensures.value

pub loop-place-smaller : goal.loop-place-smaller
loop-place-smaller g c =
    let here = stripped 92 (chars c.loop-place.rest.now) _ c.strip_char.ensures (sym c.is_some.ensures ∙ c.loop-place-test.true) in
    omega (
      arith,
      ap length c.plain-rest.ensures.value,
      run_most plain (chars c.in_ok-given.after.now),
      piece_shorter g.C.Content.is_content (chars c.loop-place.rest.now) (chars c.in_ok-given.after.now) (g.C.Content.piece c.in_ok-given.given) here
          c.in_ok-given.ensures.value,
    )

pub loop-place-preserved : goal.loop-place-preserved
loop-place-preserved g c =
    let here = stripped 92 (chars c.loop-place.rest.now) _ c.strip_char.ensures (sym c.is_some.ensures ∙ c.loop-place-test.true) in
    let past = end_of_end _ _ _ (piece_end g.C.Content.is_content _ _ _ here c.in_ok-given.ensures.value) c.loop-place.invariant.2 in
    let run = c.plain-rest.ensures.value in
    let made = c.in_ok-push_plain-2.ensures ∙ ap (λ x. x ++ flat_map g.C.Content.gives (chars c.before-in-loop-place.result.now)) c.in_ok-push_given.ensures
    ∙ append_assoc (g.C.Content.made c.loop-place.content) (g.C.Content.piece c.in_ok-given.given) _ in (
      c.plain-rest.utf8,
      search rules,
      end_of_end _ _ _ (run_end _ _ _ run) past,
      past,
      rw run (after-run plain (chars c.in_ok-given.after.now)),
      (
        omega (arith, c.loop-place.invariant.5.0, c.pass.ensures.most, c.plain-rest.ensures.covers.most),
        gains_on _ _ _ _ _ _ (gains_on _ _ _ _ _ _ c.loop-place.invariant.5.1 c.pass.ensures) c.plain-rest.ensures.covers,
      ),
      content_turns g.C.Content.is_content (chars c.args.text.now) (chars c.loop-place.rest.now) (chars c.in_ok-given.after.now) _ _
          (chars c.plain-rest.result.now) _ _ (g.C.Content.piece c.in_ok-given.given) refl c.loop-place.invariant.6 here c.in_ok-given.ensures.value run
          c.before-in-loop-place.ensures made,
    )

pub returns-in_err-given-clause-value : goal.returns-in_err-given-clause-value
returns-in_err-given-clause-value g c =
    let here = stripped 92 (chars c.loop-place.rest.now) _ c.strip_char.ensures (sym c.is_some.ensures ∙ c.loop-place-test.true) in
    failed_refusal _ _ _ c.from_residual-in_err-given.ensures.0
    (content_refused g.C.Content.is_content (chars c.args.text.now) (chars c.loop-place.rest.now) _ c.loop-place.invariant.6 here c.in_err-given.ensures.value)

pub returns-in-Some-clause-value : goal.returns-in-Some-clause-value
returns-in-Some-clause-value g c = content_closed g.C.Content.is_content _ _ _ _ c.loop-place.invariant.6 c.in-Some.ensures

pub returns-clause-value : goal.returns-clause-value
returns-clause-value g c =
    let no_escape = not_stripped 92 (chars c.loop-place.rest.now) _ c.strip_char.ensures (sym c.is_some.ensures ∙ c.loop-place-test.false) in
    failed_err g.C.Content.made c.into.result _ (content_unclosed g.C.Content.is_content (chars c.args.text.now) (chars c.loop-place.rest.now) _
    c.loop-place.invariant.6 c.loop-place.invariant.4 no_escape c.in-None.ensures)

pub pass-requires : goal.pass-requires
pass-requires g c =
    piece_end g.C.Content.is_content _ _ _ (stripped 92 (chars c.loop-place.rest.now) _ c.strip_char.ensures (sym c.is_some.ensures ∙ c.loop-place-test.true))
    c.in_ok-given.ensures.value

pub returns-in-Some-clause-covered : goal.returns-in-Some-clause-covered
returns-in-Some-clause-covered g c = omega (arith, c.loop-place.invariant.5.0, ap bytes_in c.in-Some.ensures, size_one 34 (chars c.in-Some.behind.now))

pub returns-in-Some-clause-least : goal.returns-in-Some-clause-least
returns-in-Some-clause-least g c = omega (arith, c.loop-place.invariant.5.1, ap bytes_in c.in-Some.ensures)
