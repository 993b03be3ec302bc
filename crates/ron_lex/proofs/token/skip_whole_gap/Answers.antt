use Rattle.std.proofs.Common.{chars, sym, ap, ◌++◌, ◌∙◌}
use Rattle.ron_lex.proofs.GapLemmas.{gap_end}
use Rattle.ron_lex.proofs.TokenLemmas.{gap_empty, gap_whole}
use Rattle.ron_lex.proofs.token.skip_whole_gap.Goals as goal

pub before-requires : goal.before-requires
before-requires c = gap_end _ _ c.skip_gap-rest.ensures.value

pub returns-then-is_ended : goal.returns-then-is_ended
returns-then-is_ended c =
    gap_empty (chars c.args.text.now) (chars c.before-2.result.now)
    (c.before-2.ensures ∙ ap (λ x. chars c.before-2.result.now ++ x) c.skip_gap-rest.ensures.value) (sym c.is_ended.ensures ∙ c.if-is_ended.true)

pub returns : goal.returns
returns c =
    rw c.skip_gap-rest.ensures.value (gap_whole (chars c.args.text.now) (chars c.before-2.result.now)
    (c.before-2.ensures ∙ ap (λ x. chars c.before-2.result.now ++ x) c.skip_gap-rest.ensures.value) (sym c.is_ended.ensures ∙ c.if-is_ended.false))
