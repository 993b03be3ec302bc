use Rattle.std.proofs.Common.{chars, sym, ap, ◌∙◌}
use Rattle.ron_lex_text.specs.Stretch.{is_ended}
use Rattle.ron_lex_text.specs.Parsed.{parsed_text}
use Rattle.ron_lex_text.proofs.StretchLemmas.{run_end}
use Rattle.ron_lex.proofs.SplitLemmas.{failed_err, refusal_because}
use Rattle.ron_lex.specs.Content.{string_is}
use Rattle.ron_lex.proofs.StringLemmas.{itself_given, content_plain, content_endless, quote_or_escape}
use Rattle.ron_lex.proofs.CoverLemmas.{slice_covered, escaped_covered, slice_gains, escaped_gains}
use Rattle.ron_lex.proofs.string.split_quoted.Goals as goal

pub before-requires : goal.before-requires
before-requires c = run_end _ _ _ c.plain-end.ensures.value

pub returns-in-Some-clause-value : goal.returns-in-Some-clause-value
returns-in-Some-clause-value c = content_plain string_is (chars c.args.text.now) _ _ _ _ (itself_given (chars c.before-in-Some.result.now))
    c.plain-end.ensures.value c.before-in-Some.ensures c.in-Some.ensures

pub returns-then-is_ended-clause-value : goal.returns-then-is_ended-clause-value
returns-then-is_ended-clause-value c =
    failed_err parsed_text c.into.result _ (content_endless string_is (chars c.args.text.now) _ c.plain-end.ensures.value
    (ap is_ended (sym c.quote-quote.ensures.value) ∙ sym c.is_ended.ensures ∙ c.if-is_ended.true))

pub returns-in_err-content-clause-memory : goal.returns-in_err-content-clause-memory
returns-in_err-content-clause-memory c =
    refusal_because _ _ (quote_or_escape (chars c.args.text.now) _ c.plain-end.ensures.value c.in_default.ensures
    (ap is_ended (sym c.quote-quote.ensures.value) ∙ sym c.is_ended.ensures ∙ c.if-is_ended.false))

pub returns-in-Some-clause-covered : goal.returns-in-Some-clause-covered
returns-in-Some-clause-covered c = slice_covered _ _ _ _ _ _ c.plain-end.ensures.value c.in-Some.ensures c.plain-end.ensures.covers c.pass.ensures

pub returns-clause-covered : goal.returns-clause-covered
returns-clause-covered c =
    escaped_covered _ _ _ _ _ _ _ _ c.plain-end.ensures.value c.quote-quote.ensures.value c.in_ok-content.ensures.closed c.plain-end.ensures.covers
    c.quote-quote.ensures.covers c.in_ok-content.ensures.covered

pub returns-in-Some-clause-least : goal.returns-in-Some-clause-least
returns-in-Some-clause-least c = slice_gains _ _ _ _ _ _ c.plain-end.ensures.value c.in-Some.ensures c.plain-end.ensures.covers c.pass.ensures

pub returns-clause-least : goal.returns-clause-least
returns-clause-least c =
    escaped_gains _ _ _ _ _ _ _ _ c.plain-end.ensures.value c.in_default.ensures c.quote-quote.ensures.value c.plain-end.ensures.covers
    c.quote-quote.ensures.covers c.in_ok-content.ensures.least

pub pass-requires : goal.pass-requires
pass-requires c = run_end _ _ _ c.plain-end.ensures.value
