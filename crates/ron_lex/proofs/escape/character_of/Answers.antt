use Rattle.std.proofs.Common.{sym, ap, chars, ◌∙◌}
use Rattle.ron_lex.proofs.EscapeLemmas.{no_character, character_one}
use Rattle.ron_lex.proofs.escape.character_of.Goals as goal

pub returns-in_default : goal.returns-in_default
returns-in_default c = sym (no_character _ c.in_default.ensures.cases.0)

pub returns-then-is_ended : goal.returns-then-is_ended
returns-then-is_ended c =
    sym (character_one _ _ _ c.in-Ok.ensures.cases.1 (ap chars (sym c.in-Ok.ensures.cases.0) ∙ c.in_ok-first.ensures.chars)
    (sym c.is_ended.ensures ∙ c.if-is_ended.true))
