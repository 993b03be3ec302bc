use Rattle.ron_format_words.proofs.Closed.{keeps_lists}
use Rattle.ron_format_words.proofs.RoundBrackets.{keeps_units, keeps_names}
use Rattle.ron_format_words.proofs.same_words_spell_the_same.Goals as goal

pub returns : goal.returns
returns c = record { lists = keeps_lists; units = keeps_units; names = keeps_names }
