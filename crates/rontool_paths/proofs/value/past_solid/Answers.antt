use Rattle.std.proofs.Common.{rules, chars}
use Rattle.ron_lex_text.proofs.StretchLemmas.{end_whole, past_is_end}
use Rattle.ron_lex.proofs.GapLemmas.{gap_end}
use Rattle.rontool_paths.proofs.StretchLemmas.{end_on, past_on, end_past, behind_word, word_on, stretch_on, some_stretch_on, behind_value, put_joined}
use Rattle.rontool_paths.proofs.value.past_solid.Goals as goal

pub past_group-requires : goal.past_group-requires
past_group-requires c = end_on (chars c.args.word.from.now) (chars c.args.word.after.now) (chars c.in-Some.inside.now) c.requires c.in-Some.ensures
