use Rattle.std.proofs.Common.{chars, ap, length, refl, rules, arith, ◌∙◌}
use Rattle.ron_lex_text.proofs.StretchLemmas.{run_end, end_of_end, end_past_char}
use Rattle.ron_spec_words.specs.Runs.{after_run}
use Rattle.ron_spec_words.proofs.Words.{after-run}
use Rattle.ron_spec_words.proofs.Far.{run_most}
use Rattle.ron_lex.proofs.RawLemmas.{unquoted, hashes_unquoted, place-run, place_past, upto_place, upto_nowhere}
use Rattle.ron_lex.proofs.raw.split_at_ending.Goals as goal

pub loop-behind-init : goal.loop-behind-init
loop-behind-init c =
    let e = c.skip_to_quote-quote.ensures.value in
    (search rules, run_end _ _ _ e, rw e (after-run unquoted (chars c.args.text.now)), place-run (chars c.args.hashes.now) (chars c.args.text.now) ∙ rw e refl)

pub returns-in-Ok : goal.returns-in-Ok
returns-in-Ok c =
    upto_place (chars c.args.hashes.now) (chars c.args.text.now) _ _ _ _ c.loop-behind.invariant.3 c.before-in-Ok.ensures c.in-Some.ensures
    c.in-Ok.ensures.value

pub loop-behind-smaller : goal.loop-behind-smaller
loop-behind-smaller c =
    let e = c.skip_to_quote-quote-in-Err.ensures.value ∙ ap (after_run unquoted) c.in-Err.ensures.end ∙ hashes_unquoted (chars c.in-Some.behind.now) in
    omega (arith, ap length c.in-Some.ensures, ap length e, run_most unquoted (chars c.in-Some.behind.now))

pub loop-behind-preserved : goal.loop-behind-preserved
loop-behind-preserved c =
    let e = c.skip_to_quote-quote-in-Err.ensures.value ∙ ap (after_run unquoted) c.in-Err.ensures.end ∙ hashes_unquoted (chars c.in-Some.behind.now) in
    let past = place_past (chars c.args.hashes.now) (chars c.loop-behind.quote.now) (chars c.in-Some.behind.now) c.in-Some.ensures c.in-Err.ensures.value in (
      search rules,
      end_of_end _ _ _ (end_past_char _ _ _ _ c.in-Some.ensures (run_end _ _ _ e)) c.loop-behind.invariant.1,
      rw e (after-run unquoted (chars c.in-Some.behind.now)),
      c.loop-behind.invariant.3 ∙ past ∙ rw e refl,
    )

pub returns : goal.returns
returns c = upto_nowhere (chars c.args.hashes.now) (chars c.args.text.now) (chars c.loop-behind.quote.now) c.loop-behind.invariant.3 c.loop-behind.invariant.2
    c.in_default.ensures
