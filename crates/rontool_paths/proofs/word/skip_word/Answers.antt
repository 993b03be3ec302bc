use Rattle.std.proofs.Common.{rules, chars}
use Rattle.ron_lex_text.proofs.StretchLemmas.{end_whole, past_is_end}
use Rattle.ron_lex.proofs.GapLemmas.{gap_end}
use Rattle.rontool_paths.proofs.StretchLemmas.{end_on, past_on, end_past, behind_word, word_on, stretch_on, some_stretch_on, behind_value, put_joined}
use Rattle.rontool_paths.proofs.word.skip_word.Goals as goal

pub returns-then-eq : goal.returns-then-eq
returns-then-eq c =
    end_past (chars c.args.text.now) (chars c.in_ok-after.after.now) (chars c.skip_solids.result.now) c.in_ok-after.ensures.past c.skip_solids.ensures
