use Rattle.std.proofs.Common.{sym, ap, ◌∙◌, map-id}
use Rattle.std.proofs.lemmas.Iterator.{YieldsList-from_chars}
use Rattle.std.proofs.lemmas.Iterator.Consumers.{YieldsList-end}
use Rattle.ron_spec_words.specs.Position.{line_after, column_after}
use Rattle.ron_base.proofs.error.place.position_after.Goals as goal

pub returns-clause-line : goal.returns-clause-line
returns-clause-line c =
    let end =
    YieldsList-end (YieldsList-from_chars c.args.front.now c.utf8.front cc) c.loop-c.yielded _ c.loop-c.yielded_by _ _ c.in-None.is c.next.ensures.steps in
    c.loop-c.invariant.0 ∙ ap line_after (sym (map-id c.loop-c.yielded) ∙ end.0)

pub returns-clause-col : goal.returns-clause-col
returns-clause-col c =
    let end =
    YieldsList-end (YieldsList-from_chars c.args.front.now c.utf8.front cc) c.loop-c.yielded _ c.loop-c.yielded_by _ _ c.in-None.is c.next.ensures.steps in
    c.loop-c.invariant.1 ∙ ap column_after (sym (map-id c.loop-c.yielded) ∙ end.0)
