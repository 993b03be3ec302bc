use Rattle.std.proofs.Common.{◌≡◌, ◌++◌, length, chars, map, reverse}
use denote.Text.{Utf8}
use denote.Shadow.{shadow}
use Rattle.ron_spec_words.specs.KindTable.{fill_from, kind_table}
use Rattle.ron_spec_words.specs.Openings.{insides, content_place}
use Rattle.ron_lex.specs.Kinds.{kind_view, stage_view}
use Rattle.ron_lex.proofs.kinds.Kinds.of_text.Given as goal

-- what the pass finds from here on is what it finds from the start
abbrev pub invariant-loop-after : goal.invariant-loop-after
invariant-loop-after l = shadow (Utf8 l.rest)
    × (fill_from 0 (stage_view l.filling.stage) (reverse l.filling.groups.items) (map kind_view l.filling.found.kinds.items) (chars l.rest)
    ≡ kind_table (chars l.fn.text))
    × (l.filling.found.places.items ++ map (content_place (chars l.fn.text)) (insides (chars l.rest))
    ≡ map (content_place (chars l.fn.text)) (insides (chars l.fn.text)))

abbrev pub decreases-loop-after : goal.decreases-loop-after
decreases-loop-after l = length l.rest
