use Rattle.std.proofs.Common.{rules, chars}
use Rattle.ron_lex_text.proofs.StretchLemmas.{end_whole, past_is_end}
use Rattle.ron_lex.proofs.GapLemmas.{gap_end}
use Rattle.rontool_paths.proofs.StretchLemmas.{end_on, past_on, end_past, behind_word, word_on, stretch_on, some_stretch_on, behind_value, put_joined}
use Rattle.rontool_paths.proofs.value.past_hash.Goals as goal

pub returns-then-eq : goal.returns-then-eq
returns-then-eq c = behind_word (chars c.args.text.now) c.in_ok-mark.mark c.in_ok-mark.ensures

pub returns : goal.returns
returns c = word_on (chars c.args.text.now) (chars c.in_ok-mark.mark.after.now) c.in_ok-second.second
    (behind_word (chars c.args.text.now) c.in_ok-mark.mark c.in_ok-mark.ensures) c.in_ok-second.ensures
