use Rattle.std.proofs.Common.{chars, sym, ◌∙◌}
use Rattle.ron_lex.proofs.GapLemmas.{line_ends, line_goes_on}
use Rattle.ron_lex.proofs.gap.skip_line.Goals as goal

pub returns-in-Some-clause-value : goal.returns-in-Some-clause-value
returns-in-Some-clause-value c =
    sym (line_goes_on (chars c.args.text.now) (chars c.in-Some.rest.now) _ (sym c.skip_to_line_end-end.ensures.value ∙ c.in-Some.ensures.chars))

pub returns-in-None-clause-value : goal.returns-in-None-clause-value
returns-in-None-clause-value c =
    c.in-None.ensures.chars ∙ sym (line_ends (chars c.args.text.now) (sym c.skip_to_line_end-end.ensures.value ∙ c.in-None.ensures.chars))
