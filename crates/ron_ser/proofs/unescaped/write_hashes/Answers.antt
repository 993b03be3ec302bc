use Rattle.std.proofs.Common.{subst}
use Rattle.std.specs.Fmt.{WritesInCalls}
use Rattle.ron_ser.proofs.LineLemmas.{times_hashes}
use Rattle.ron_ser.proofs.unescaped.write_hashes.Goals as goal

pub returns : goal.returns
returns g c = subst (λ bs. WritesInCalls g.O.Output.puts c.args.out.now bs c.write_times.new.out) (times_hashes c.args.n) c.write_times.ensures
