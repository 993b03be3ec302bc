use Rattle.std.proofs.Common.{rules, chars}
use Rattle.ron_lex_text.proofs.StretchLemmas.{end_whole, past_is_end}
use Rattle.ron_lex.proofs.GapLemmas.{gap_end}
use Rattle.rontool_paths.proofs.StretchLemmas.{end_on, past_on, end_past, behind_word, word_on, stretch_on, some_stretch_on, behind_value, put_joined}
use Rattle.rontool_paths.proofs.put.put.Goals as goal

pub returns : goal.returns
returns c = put_joined (chars c.args.text.now) c.args.old c.before-front.result.now c.args.new.now c.joined.result (search rules) (search rules)
    c.before-front.ensures c.joined.ensures
