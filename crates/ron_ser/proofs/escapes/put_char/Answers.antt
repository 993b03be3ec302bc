use Rattle.std.proofs.Common.{encode_utf8, append-nil, subst, sym, ◌∙◌}
use Rattle.std.specs.Fmt.{WritesInCalls}
use Rattle.ron_ser.proofs.Pieces.{one}
use Rattle.ron_ser.proofs.escapes.put_char.Goals as goal

pub returns : goal.returns
returns g c =
    let took = g.O.Output.puts in
    subst (λ bs. WritesInCalls took c.args.out.now bs c.put.new.self) (c.encode_utf8.ensures.value ∙ sym (append-nil (encode_utf8 c.args.c)))
    (one took _ _ _ c.put.ensures)
