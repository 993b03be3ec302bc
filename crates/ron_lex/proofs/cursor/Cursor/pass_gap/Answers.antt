use Rattle.std.proofs.Common.{sym, ◌∙◌}
use Rattle.std.proofs.lemmas.Str.{chars-nil}
use Rattle.ron_lex_text.proofs.StretchLemmas.{end_of_end, end_whole, end_alone}
use Rattle.ron_lex.proofs.GapLemmas.{no_gap, no_gap_of, no_slash}
use Rattle.ron_lex.proofs.cursor.Cursor.pass_gap.Goals as goal

pub invariant_of-self : goal.invariant_of-self
invariant_of-self c = let start = end_of_end _ _ _ c.self.invariant.1 c.self.invariant.0 in
    (start, end_whole _, end_alone start, c.self.invariant.3, c.self.invariant.4)

pub returns-then-not-opens_gap-clause-slash : goal.returns-then-not-opens_gap-clause-slash
returns-then-not-opens_gap-clause-slash c = rw (← c.self.view_is) (no_slash _ (sym c.opens_gap.ensures ∙ c.if-not-opens_gap.true))

pub returns-then-not-opens_gap-clause-rest : goal.returns-then-not-opens_gap-clause-rest
returns-then-not-opens_gap-clause-rest c = rw (← c.self.view_is) (sym (no_gap _ (sym c.opens_gap.ensures ∙ c.if-not-opens_gap.true)))

pub returns-then-not-opens_gap-clause-token_start : goal.returns-then-not-opens_gap-clause-token_start
returns-then-not-opens_gap-clause-token_start c = rw (← c.self.view_is) (sym (no_gap _ (sym c.opens_gap.ensures ∙ c.if-not-opens_gap.true)))

pub returns-then-not-opens_gap-clause-gap : goal.returns-then-not-opens_gap-clause-gap
returns-then-not-opens_gap-clause-gap c = rw (← c.self.view_is) (chars-nil ∙ no_gap_of _ (sym c.opens_gap.ensures ∙ c.if-not-opens_gap.true))
