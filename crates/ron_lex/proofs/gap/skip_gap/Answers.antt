use Rattle.std.proofs.Common.{sym, ◌∙◌}
use Rattle.ron_lex.proofs.GapLemmas.{no_gap}
use Rattle.ron_lex.proofs.gap.skip_gap.Goals as goal

pub returns-then-not-opens_gap : goal.returns-then-not-opens_gap
returns-then-not-opens_gap c = record { value = sym (no_gap _ (sym c.opens_gap.ensures ∙ c.if-not-opens_gap.true)) }
