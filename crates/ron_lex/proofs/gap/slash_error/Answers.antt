use Rattle.ron_lex_text.proofs.StretchLemmas.{end_behind_char, end_of_end}
use Rattle.ron_lex.proofs.gap.slash_error.Goals as goal

pub returns-in-None : goal.returns-in-None
returns-in-None c = record { end = end_behind_char _ _ _ c.in-Some.ensures.chars }

pub returns-in-Some-split_first : goal.returns-in-Some-split_first
returns-in-Some-split_first c =
    record { end = end_of_end _ _ _ (end_behind_char _ _ _ c.in-Some-split_first.ensures.chars) (end_behind_char _ _ _ c.in-Some.ensures.chars) }
