use Rattle.std.proofs.Common.{sym, subst, ◌∙◌}
use Rattle.std.specs.Fmt.{WritesInCalls}
use Rattle.ron_ser.proofs.LineLemmas.{four_bytes}
use Rattle.ron_ser.proofs.lines.write_times.Goals as goal

pub returns-then-is_same : goal.returns-then-is_same
returns-then-is_same g c = subst (λ bs. WritesInCalls g.O.Output.puts c.args.out.now bs c.write_spaces.new.out)
    (four_bytes c.args.n c.args.text.now (sym c.is_same.ensures ∙ c.if-is_same.true)) c.write_spaces.ensures
