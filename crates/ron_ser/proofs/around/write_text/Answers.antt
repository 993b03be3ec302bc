use Rattle.std.proofs.Common.{subst, sym, ◌∙◌}
use Rattle.std.specs.Fmt.{WritesInCalls}
use Rattle.std.proofs.lemmas.Str.{encodes-chars}
use Rattle.ron_ser.proofs.Pieces.{nothing, one}
use Rattle.ron_ser.proofs.AroundLemmas.{nothing_left}
use Rattle.ron_ser.proofs.around.write_text.Goals as goal

pub returns-then-not-is_empty : goal.returns-then-not-is_empty
returns-then-not-is_empty g c =
    let took = g.O.Output.puts in
    subst (λ bs. WritesInCalls took c.args.out.now bs c.put.new.self) (sym (encodes-chars _ c.utf8.text)) (one took _ _ _ c.put.ensures)

pub returns-else-not-is_empty : goal.returns-else-not-is_empty
returns-else-not-is_empty g c =
    let took = g.O.Output.puts in
    subst (λ bs. WritesInCalls took c.args.out.now bs c.args.out.now)
    (sym (encodes-chars _ c.utf8.text ∙ nothing_left c.args.text.now (sym c.is_empty.ensures ∙ c.if-not-is_empty.false))) (nothing took c.args.out.now)
