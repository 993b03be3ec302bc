use Rattle.std.proofs.Common.{chars, ap, sym, not, ◌∙◌}
use Rattle.ron_lex.proofs.TokenLemmas.{several_behind, several_none}
use Rattle.ron_lex.proofs.lookahead.separates.Goals as goal

pub returns-in-Some : goal.returns-in-Some
returns-in-Some c = ap not c.leads_to.ensures.value ∙ sym (several_behind _ _ c.in-Some.ensures)

pub returns-in-None : goal.returns-in-None
returns-in-None c = sym (several_none (chars c.args.text.now) c.in-None.ensures)
