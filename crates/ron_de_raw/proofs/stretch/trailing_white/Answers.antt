use Rattle.std.proofs.Common.{rules}
use Rattle.ron_de_raw.proofs.StretchLemmas.{none_seen, white_more, mark_seen, all_seen}
use Rattle.ron_de_raw.proofs.stretch.trailing_white.Goals as goal

pub loop-first-init : goal.loop-first-init
loop-first-init c = (search rules, search rules, none_seen _)

pub loop-first-preserved-then-not-is_whitespace : goal.loop-first-preserved-then-not-is_whitespace
loop-first-preserved-then-not-is_whitespace c =
    (search rules, search rules, mark_seen _ _ _ _ c.in-Some.first c.loop-first.invariant.2 c.in-Some.ensures.chars (search rules))

pub loop-first-preserved : goal.loop-first-preserved
loop-first-preserved c = (search rules, search rules, white_more _ _ _ _ c.in-Some.first c.loop-first.invariant.2 c.in-Some.ensures.chars (search rules))

pub returns : goal.returns
returns c = all_seen _ _ (rw c.in_default.ensures.chars at c.loop-first.invariant.2)
