use Rattle.std.proofs.Common.{chars}
use Rattle.ron_format.proofs.LayLemmas.{begins_with_gap, begins_with_two}
use Rattle.ron_format.proofs.formatting.skip_edge.Goals as goal

pub returns-in-Some : goal.returns-in-Some
returns-in-Some c = begins_with_two (chars c.args.rest.now) (chars c.skip_gap-end.result.now) (chars c.in-Some.second.now) (chars c.skip_gap.result.now)
    c.skip_gap-end.ensures.value c.in-Some.ensures c.skip_gap.ensures.value

pub returns-in_default : goal.returns-in_default
returns-in_default c = begins_with_gap (chars c.args.rest.now) (chars c.skip_gap-end.result.now) c.skip_gap-end.ensures.value

pub returns-else-ends_item : goal.returns-else-ends_item
returns-else-ends_item c = begins_with_gap (chars c.args.rest.now) (chars c.skip_gap-end.result.now) c.skip_gap-end.ensures.value
