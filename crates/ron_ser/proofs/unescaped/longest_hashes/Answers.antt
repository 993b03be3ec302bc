use Rattle.std.proofs.Common.{chars, arith, rules}
use Rattle.ron_spec_layout.specs.Unescaped.{longest_hashes}
use Rattle.ron_ser.proofs.UnescapedLemmas.{longest_first, longest_more, longest_other}
use Rattle.ron_ser.proofs.unescaped.longest_hashes.Goals.{then-c-eq35+else-prove, else-c-eq35}
use Rattle.ron_ser.proofs.unescaped.longest_hashes.Goals as goal

pub loop-c-init : goal.loop-c-init
loop-c-init c = (search rules, omega arith, (omega arith, longest_first (chars c.args.text.now)))

pub loop-c-preserved : goal.loop-c-preserved
loop-c-preserved c =
    let n = longest_hashes (chars c.args.text.now) in
    let k = c.in-Some.ensures.shorter in
    elim c.if-c-eq35.branch [
      | then-c-eq35+else-prove w ↦ (
        search rules,
        (let m = w.run-is in omega (arith, m, k)),
        longest_more n c.loop-c.longest c.loop-c.run c.if-c-eq35.run c.max-longest.result c.in-Some.c (chars c.loop-c.rest.now) (chars c.in-Some.after.now)
            c.loop-c.invariant.2 c.in-Some.ensures.chars w.if-c-eq35.true w.run-is c.max-longest.ensures,
      )
      | else-c-eq35 w ↦ (
        search rules,
        (let m = w.run-is in omega (arith, m, k)),
        longest_other n c.loop-c.longest c.loop-c.run c.if-c-eq35.run c.max-longest.result c.in-Some.c (chars c.loop-c.rest.now) (chars c.in-Some.after.now)
            c.loop-c.invariant.2 c.in-Some.ensures.chars w.if-c-eq35.false w.run-is c.max-longest.ensures,
      )
    ]
