use Rattle.std.proofs.Common.{rules, chars}
use Rattle.rontool_faults.proofs.CaretLemmas.{drop_next}
use Rattle.rontool_faults.proofs.carets.behind.Goals as goal

pub loop-i-preserved : goal.loop-i-preserved
loop-i-preserved c = (
  drop_next c.loop-i.i c.in-Some.field-0-0 (chars c.in-Some.after.now) (chars c.args.text.now) (chars c.loop-i.rest.now) c.loop-i.invariant.0 c.in-Some.ensures,
  search rules,
)
