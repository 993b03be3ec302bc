use Rattle.std.proofs.Common.{chars, IsUtf8, rules}
use Rattle.ron_format.proofs.BlankLemmas.{trimmed_on}
use Rattle.ron_format.proofs.gap.trim_blanks.Goals as goal

pub loop-first-preserved : goal.loop-first-preserved
loop-first-preserved c =
    let u : IsUtf8 c.in-Some.after.now = search rules in (
      c.end_behind-end.utf8,
      u,
      trimmed_on (chars c.args.text.now) (chars c.loop-first.end.now) (chars c.loop-first.rest.now) (chars c.in-Some.after.now)
          (chars c.end_behind-end.result.now) c.in-Some.first c.in-Some.ensures.chars c.end_behind-end.ensures c.loop-first.invariant.2,
    )
