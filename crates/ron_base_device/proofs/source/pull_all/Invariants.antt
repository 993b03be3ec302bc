use Rattle.std.proofs.Common.{◌≡◌, ◌-◌, ◌^◌, vec_len}
use Rattle.std.specs.Io.KnownBytes.{Consumes}
use Rattle.ron_base_device.proofs.source.pull_all.Given as goal

-- the source gave what is held, and no pull failed
abbrev pub invariant-loop-refused : goal.invariant-loop-refused
invariant-loop-refused g l = record {
  given : Consumes (g.S.Source.remaining l.initial.source) (g.S.Source.remaining l.source) l.bytes.items;
  same : g.S.Source.device l.source ≡ g.S.Source.device l.initial.source;
  kept : g.S.Source.failed l.source ≡ g.S.Source.failed l.initial.source;
}

-- each turn holds more, and a text in memory has an end
abbrev pub decreases-loop-refused : goal.decreases-loop-refused
decreases-loop-refused g l = 2 ^ 64 - vec_len l.bytes
