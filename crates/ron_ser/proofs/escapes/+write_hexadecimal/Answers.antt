use Rattle.std.proofs.Common.{subst, sym}
use Rattle.std.specs.Fmt.{WritesInCalls}
use Rattle.ron_ser.proofs.Pieces.{one}
use Rattle.ron_ser.proofs.EscapeLemmas.{last_digit, digits_put}
use Rattle.ron_ser.proofs.escapes.+write_hexadecimal.Goals as goal

pub returns-then-n-lt16 : goal.returns-then-n-lt16
returns-then-n-lt16 g t c k h =
    let took = g.O.Output.puts in
    let digit = subst (λ bs. WritesInCalls took c.args.out.now bs c.put.new.self) c.hexadecimal_digit.ensures (one took _ _ _ c.put.ensures) in
    subst (λ bs. WritesInCalls took c.args.out.now bs c.put.new.self) (sym (last_digit k c.args.n c.if-n-lt16.true)) digit

pub returns : goal.returns
returns g t c k h =
    let took = g.O.Output.puts in
    let digit =
    subst (λ bs. WritesInCalls took c.write_hexadecimal.new.out bs c.put-2.new.self) c.hexadecimal_digit-2.ensures (one took _ _ _ c.put-2.ensures) in
    digits_put took c.args.n _ _ _ c.if-n-lt16.false c.write_hexadecimal.ensures digit k h
