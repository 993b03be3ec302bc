use Rattle.std.proofs.Common.{rules, chars}
use Rattle.ron_lex_text.proofs.StretchLemmas.{end_whole, past_is_end}
use Rattle.ron_lex.proofs.GapLemmas.{gap_end}
use Rattle.rontool_paths.proofs.StretchLemmas.{end_on, past_on, end_past, behind_word, word_on, stretch_on, some_stretch_on, behind_value, put_joined}
use Rattle.rontool_paths.proofs.value.past_attribute.Goals as goal

pub returns : goal.returns
returns c = end_on (chars c.args.text.now) (chars c.in_ok-inside.inside.now) (chars c.in_ok-value.value.behind.now) c.in_ok-inside.ensures
    (behind_value (chars c.in_ok-inside.inside.now) c.in_ok-value.value c.in_ok-value.ensures)
