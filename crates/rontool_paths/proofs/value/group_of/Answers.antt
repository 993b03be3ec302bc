use Rattle.std.proofs.Common.{rules, chars}
use Rattle.ron_lex_text.proofs.StretchLemmas.{end_whole, past_is_end}
use Rattle.ron_lex.proofs.GapLemmas.{gap_end}
use Rattle.rontool_paths.proofs.StretchLemmas.{end_on, past_on, end_past, behind_word, word_on, stretch_on, some_stretch_on, behind_value, put_joined}
use Rattle.rontool_paths.proofs.value.group_of.Goals as goal

pub returns-in-Opening : goal.returns-in-Opening
returns-in-Opening c = behind_word (chars c.args.text.now) c.in_ok-word.word c.in_ok-word.ensures

pub returns-in-Some : goal.returns-in-Some
returns-in-Some c = end_on (chars c.args.text.now) (chars c.in_ok-word.word.after.now) (chars c.in-Some.inside.now)
    (behind_word (chars c.args.text.now) c.in_ok-word.word c.in_ok-word.ensures) c.in-Some.ensures
