use Rattle.std.proofs.Common.{refl}
use Rattle.ron_lex_text.proofs.StretchLemmas.{end_whole, end_of_end}
use Rattle.ron_lex.proofs.numeral.with_sign.Goals as goal

pub returns-in_default : goal.returns-in_default
returns-in_default c = record { fault = refl; rest = refl; start = end_whole _; end = end_of_end _ _ _ c.requires.end c.requires.start }
