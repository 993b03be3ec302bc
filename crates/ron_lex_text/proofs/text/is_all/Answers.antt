use Rattle.std.proofs.Common.{refl, ◌++◌, chars}
use Rattle.ron_lex_text.proofs.StretchLemmas.{end_is_shorter, end_of_end, all_of_it}
use Rattle.ron_lex_text.proofs.text.is_all.Goals as goal

pub overflow_sub-result : goal.overflow_sub-result
overflow_sub-result c = end_is_shorter _ _ c.utf8.text c.utf8.rest (end_of_end (chars c.args.rest.now) (chars c.args.gap.now ++ chars c.args.rest.now)
    (chars c.args.text.now) (record { front = chars c.args.gap.now; is = refl }) c.requires)

pub returns : goal.returns
returns c = all_of_it _ _ _ c.utf8.text c.utf8.gap c.utf8.rest c.requires
