use Rattle.std.proofs.Common.{rules, chars}
use Rattle.ron_lex_text.proofs.StretchLemmas.{end_whole, past_is_end}
use Rattle.ron_lex.proofs.GapLemmas.{gap_end}
use Rattle.rontool_paths.proofs.StretchLemmas.{end_on, past_on, end_past, behind_word, word_on, stretch_on, some_stretch_on, behind_value, put_joined}
use Rattle.rontool_paths.proofs.value.next_value.Goals as goal

pub returns-in-Opening : goal.returns-in-Opening
returns-in-Opening c =
    some_stretch_on (chars c.args.text.now) (chars c.in_ok-word.word.from.now) c.past_group.result c.in_ok-word.ensures.begins c.past_group.ensures

pub returns-in-Solid : goal.returns-in-Solid
returns-in-Solid c =
    some_stretch_on (chars c.args.text.now) (chars c.in_ok-word.word.from.now) c.past_solid.result c.in_ok-word.ensures.begins c.past_solid.ensures
