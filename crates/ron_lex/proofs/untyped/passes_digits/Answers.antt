use Rattle.std.proofs.Common.{chars, sym, ◌∙◌}
use Rattle.ron_lex_text.proofs.StretchLemmas.{literals}
use Rattle.ron_lex.proofs.UntypedLemmas.{float_goes_on}
use Rattle.ron_lex.proofs.untyped.passes_digits.Goals as goal

pub returns-then-not-contains-clause-value : goal.returns-then-not-contains-clause-value
unfolding literals
returns-then-not-contains-clause-value c =
    sym (float_goes_on _ (chars c.loop-first.rest.now) _ c.in-Some.ensures.chars (sym c.begins_with.ensures ∙ c.if-begins_with.false)
    (sym c.in_float.ensures ∙ c.if-not-in_float.false) (sym c.contains.ensures ∙ c.if-not-contains.true)) ∙ c.loop-first.invariant.1
