use Rattle.ron_lex_text.proofs.StretchLemmas.{end_past_char, run_end}
use Rattle.ron_lex.proofs.numeral.no_digits.Goals as goal

pub returns-in-Some-clause-end : goal.returns-in-Some-clause-end
returns-in-Some-clause-end c = end_past_char _ _ _ _ c.in-Some.ensures (run_end _ _ _ c.skip_run.ensures.value)
