use Rattle.std.proofs.Common.{rules, ◌∙◌}
use Rattle.ron_lex_text.proofs.StretchLemmas.{end_of_end, past_is_end}
use Rattle.ron_lex.proofs.plain.split_decimals.Goals as goal

pub digits-preserved : goal.digits-preserved
digits-preserved c = record {
  utf8 = search rules;
  end = end_of_end _ _ _ (past_is_end _ _ c.in-Some.ensures.past) c.digits.invariant.end;
  value = c.in-Some.ensures.value c.digits.value ∙ c.digits.invariant.value;
  float = c.in-Some.ensures.float ∙ c.digits.invariant.float;
  both = c.in-Some.ensures.both ∙ c.digits.invariant.both;
}
