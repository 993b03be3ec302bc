use Rattle.std.proofs.Common.{◌≡◌, length}
use Rattle.ron_spec_words.specs.Runs.{after_run}
use Rattle.ron_base.specs.Escape.{byte_stands_as_it_is}
use Rattle.ron_ser.proofs.quoted.skip_standing_bytes.Given as goal

-- the run ends behind the place where it ends behind the start
abbrev pub invariant-loop-byte : goal.invariant-loop-byte
invariant-loop-byte l = after_run byte_stands_as_it_is l.rest ≡ after_run byte_stands_as_it_is l.bytes

abbrev pub decreases-loop-byte : goal.decreases-loop-byte
decreases-loop-byte l = length l.rest
