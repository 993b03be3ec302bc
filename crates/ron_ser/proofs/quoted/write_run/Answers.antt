use Rattle.std.proofs.Common.{subst}
use Rattle.std.specs.Fmt.{WritesInCalls}
use Rattle.std.proofs.lemmas.Str.{IsUtf8-from_ascii}
use Rattle.ron_base.proofs.ByteLemmas.{standing_ascii}
use Rattle.ron_ser.proofs.Pieces.{one}
use Rattle.ron_ser.proofs.quoted.write_run.Goals as goal

-- it is ASCII
pub unreachable-requires : goal.unreachable-requires
unreachable-requires g c = c.in-Err.ensures.cases.0 (IsUtf8-from_ascii _ (standing_ascii c.args.run.now c.requires))

pub returns : goal.returns
returns g c =
    let took = g.O.Output.puts in
    subst (λ bs. WritesInCalls took c.args.out.now bs c.put.new.self) c.in-Ok.ensures.cases.0 ((one took _ _ _ (c.put.ensures)))
