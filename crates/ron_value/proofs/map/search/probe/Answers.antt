use Rattle.std.proofs.Common.{◌+◌, ◌-◌, ◌/◌, length, Less, Greater, Equal, sym, arith}
use Rattle.ron_value.proofs.DigitLemmas.{binary_digits-halved, binary_digits-fit}
use Rattle.ron_value.proofs.SearchLemmas.{seen, found, missing, below_before, above_behind}
use Rattle.ron_value.proofs.map.search.probe.Goals as goal

pub overflow_add-probes : goal.overflow_add-probes
overflow_add-probes c =
    let i = c.loop-low.invariant in
    omega (
      arith,
      i.probes,
      binary_digits-halved 0 (c.loop-low.high - c.loop-low.low) (omega arith) (omega arith),
      binary_digits-fit (length c.args.pairs.now) i.in_memory,
    )

pub loop-low-preserved-in-Less : goal.loop-low-preserved-in-Less
loop-low-preserved-in-Less c =
    let i = c.loop-low.invariant in
    let size = c.loop-low.high - c.loop-low.low in
    record {
      in_order = omega arith;
      in_range = i.in_range;
      in_memory = i.in_memory;
      probes = omega (arith, i.probes, binary_digits-halved (c.loop-low.high - (c.loop-low.low + size / 2 + 1)) size (omega arith) (omega arith));
      before = λ ordered. below_before c.args.key.now c.args.pairs.now _ ordered (omega arith)
          (seen c.args.key.now Less c.args.pairs.now _ _ (omega arith) (sym c.in-Less.ensures));
      behind = i.behind;
    }

pub loop-low-preserved : goal.loop-low-preserved
loop-low-preserved c =
    let i = c.loop-low.invariant in
    let size = c.loop-low.high - c.loop-low.low in
    record {
      in_order = omega arith;
      in_range = omega arith;
      in_memory = i.in_memory;
      probes = omega (arith, i.probes, binary_digits-halved (c.loop-low.low + size / 2 - c.loop-low.low) size (omega arith) (omega arith));
      before = i.before;
      behind = λ ordered. above_behind c.args.key.now c.args.pairs.now _ ordered (omega arith)
          (seen c.args.key.now Greater c.args.pairs.now _ _ (omega arith) (sym c.in-Greater.ensures));
    }

pub returns-in-Equal-clause-place : goal.returns-in-Equal-clause-place
returns-in-Equal-clause-place c ordered =
    found c.args.key.now c.args.pairs.now _ ordered (omega arith) (seen c.args.key.now Equal c.args.pairs.now _ _ (omega arith) (sym c.in-Equal.ensures))

pub returns-in-Equal-clause-probes : goal.returns-in-Equal-clause-probes
returns-in-Equal-clause-probes c =
    omega (arith, c.loop-low.invariant.probes, binary_digits-halved 0 (c.loop-low.high - c.loop-low.low) (omega arith) (omega arith))

pub returns-clause-place : goal.returns-clause-place
returns-clause-place c ordered =
    let i = c.loop-low.invariant in
    missing c.args.key.now c.args.pairs.now c.loop-low.low (omega arith) (i.before ordered) (λ j d low high. i.behind ordered j d (omega arith) high)
