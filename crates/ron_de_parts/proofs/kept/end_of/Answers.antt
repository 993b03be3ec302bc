use Rattle.ron_lex_text.proofs.StretchLemmas.{end_is_shorter}
use Rattle.ron_de_parts.proofs.KeptLemmas.{got_end}
use Rattle.ron_de_parts.proofs.kept.end_of.Goals as goal

pub returns-in_err-start : goal.returns-in_err-start
returns-in_err-start c suffix = absurd (c.in_err-start.ensures (end_is_shorter _ _ c.utf8.text c.utf8.end suffix))

pub returns : goal.returns
returns c suffix =
    got_end c.args.text.now c.args.end.now c.in_ok-start.start c.get.result c.utf8.text c.utf8.end c.in_ok-start.ensures.1 c.get.ensures.cases suffix
