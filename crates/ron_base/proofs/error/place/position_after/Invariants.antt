use Rattle.std.proofs.Common.{◌≡◌, ◌==◌, ◌+◌, length}
use Rattle.std.specs.List.{count_by, after_last}
use Rattle.ron_base.proofs.error.place.position_after.Given as goal

abbrev pub invariant-loop-c : goal.invariant-loop-c
invariant-loop-c l = (l.line ≡ count_by (λ c. c == 10) l.yielded + 1) × (l.col ≡ length (after_last (λ c. c == 10) l.yielded) + 1)
