use Rattle.std.proofs.Common.{sym, ap, ◌∙◌, length, arith}
use Rattle.ron_base.specs.Escape.{escaped_bytes}
use Rattle.ron_ser.proofs.Pieces.{piece}
use Rattle.ron_ser.proofs.RunLemmas.{run_past, run_shorter, run_stands, run_bytes}
use Rattle.ron_ser.proofs.quoted.write_escaped_bytes.Goals as goal

pub slice_bounds-write_run-count : goal.slice_bounds-write_run-count
slice_bounds-write_run-count g c = run_shorter _ _
    (run_past _ _ _ _ _ (sym c.byte_stands_as_it_is.ensures ∙ c.if-byte_stands_as_it_is.true) c.in-Some.ensures.cases.0 c.skip_standing_bytes-end.ensures)

pub write_run-requires : goal.write_run-requires
write_run-requires g c = run_stands _ _
    (run_past _ _ _ _ _ (sym c.byte_stands_as_it_is.ensures ∙ c.if-byte_stands_as_it_is.true) c.in-Some.ensures.cases.0 c.skip_standing_bytes-end.ensures)

pub loop-byte-smaller-then-byte_stands_as_it_is : goal.loop-byte-smaller-then-byte_stands_as_it_is
loop-byte-smaller-then-byte_stands_as_it_is g c =
    let n = run_shorter _ _ c.skip_standing_bytes-end.ensures in
    let k = ap length c.in-Some.ensures.cases.0 in omega (arith, n, k)

pub loop-byte-preserved-then-byte_stands_as_it_is : goal.loop-byte-preserved-then-byte_stands_as_it_is
loop-byte-preserved-then-byte_stands_as_it_is g c v h =
    let end =
    run_past _ _ _ _ _ (sym c.byte_stands_as_it_is.ensures ∙ c.if-byte_stands_as_it_is.true) c.in-Some.ensures.cases.0 c.skip_standing_bytes-end.ensures in
    c.loop-byte.invariant v (piece g.O.Output.puts _ _ _ _ _ _ (run_bytes _ _ end) c.write_run.ensures h)

pub loop-byte-preserved : goal.loop-byte-preserved
loop-byte-preserved g c v h =
    c.loop-byte.invariant v (piece g.O.Output.puts _ _ _ _ _ _ (ap escaped_bytes c.in-Some.ensures.cases.0) c.write_byte_escape.ensures h)
