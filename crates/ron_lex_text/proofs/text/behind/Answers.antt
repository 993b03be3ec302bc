use Rattle.ron_lex_text.proofs.StretchLemmas.{front_is_boundary, chars_behind_front}
use Rattle.ron_lex_text.proofs.text.behind.Goals as goal

pub range_from-requires : goal.range_from-requires
range_from-requires c _ = front_is_boundary _ _ c.utf8.text c.utf8.front c.requires

pub returns : goal.returns
returns c = chars_behind_front _ _ _ c.utf8.text c.utf8.front c.requires c.range_from.ensures.value
