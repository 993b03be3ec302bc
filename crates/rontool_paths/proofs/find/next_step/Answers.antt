use Rattle.std.proofs.Common.{rules, chars}
use Rattle.ron_lex_text.proofs.StretchLemmas.{end_whole, past_is_end}
use Rattle.ron_lex.proofs.GapLemmas.{gap_end}
use Rattle.rontool_paths.proofs.StretchLemmas.{end_on, past_on, end_past, behind_word, word_on, stretch_on, some_stretch_on, behind_value, put_joined}
use Rattle.rontool_paths.proofs.find.next_step.Goals as goal

pub before-word-requires : goal.before-word-requires
before-word-requires c = past_is_end _ _ c.in_ok-after.ensures.past
