use Rattle.std.proofs.Common.{◌≡◌, List, ℕ, ◌++◌, length}
use Rattle.std.specs.Io.KnownBytes.{Appends}
use Rattle.ron_base_device.proofs.sink.push_all.Given as goal

-- the sink took what stands before `rest`, and no push failed
abbrev pub invariant-loop-rest : goal.invariant-loop-rest
invariant-loop-rest g l = record {
  front : List ℕ;
  whole : l.fn.piece ≡ front ++ l.rest;
  taken : Appends (g.S.Sink.contents l.initial.sink) (g.S.Sink.contents l.sink) front;
  same : g.S.Sink.device l.sink ≡ g.S.Sink.device l.initial.sink;
  kept : g.S.Sink.failed l.sink ≡ g.S.Sink.failed l.initial.sink;
}

abbrev pub decreases-loop-rest : goal.decreases-loop-rest
decreases-loop-rest g l = length l.rest
