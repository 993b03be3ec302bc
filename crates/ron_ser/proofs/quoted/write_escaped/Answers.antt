use Rattle.std.proofs.Common.{sym, ◌∙◌, arith, rules}
use Rattle.ron_ser.proofs.Pieces.{one, piece}
use Rattle.ron_ser.proofs.RunLemmas.{run_past, run_is_end, run_text, char_text}
use Rattle.ron_ser.proofs.quoted.write_escaped.Goals as goal

pub before-requires : goal.before-requires
before-requires g c =
    run_is_end _ _ (run_past _ _ _ _ _ (sym c.stands_as_it_is.ensures ∙ c.if-stands_as_it_is.true) c.in-Some.ensures.chars c.skip_standing-end.ensures.value)

pub loop-c-smaller-then-stands_as_it_is : goal.loop-c-smaller-then-stands_as_it_is
loop-c-smaller-then-stands_as_it_is g c = let k = c.in-Some.ensures.shorter in let n = c.skip_standing-end.ensures.shorter in omega (arith, k, n)

pub loop-c-preserved-then-stands_as_it_is : goal.loop-c-preserved-then-stands_as_it_is
loop-c-preserved-then-stands_as_it_is g c =
    let took = g.O.Output.puts in
    let end = run_past _ _ _ _ _ (sym c.stands_as_it_is.ensures ∙ c.if-stands_as_it_is.true) c.in-Some.ensures.chars c.skip_standing-end.ensures.value in (
      c.skip_standing-end.utf8,
      λ v h. c.loop-c.invariant.1 v (piece took _ _ _ _ _ _ (run_text c.loop-c.rest.now c.before-then-stands_as_it_is.result.now c.skip_standing-end.result.now
          c.before-then-stands_as_it_is.utf8 end c.before-then-stands_as_it_is.ensures) (one took _ _ _ (c.put.ensures)) h),
    )

pub loop-c-preserved : goal.loop-c-preserved
loop-c-preserved g c =
    let took = g.O.Output.puts in
    (search rules, λ v h. c.loop-c.invariant.1 v (piece took _ _ _ _ _ _ (char_text _ _ _ c.in-Some.ensures.chars) c.write_escape.ensures h))
