use Rattle.std.proofs.Common.{subst, sym, ◌∙◌}
use Rattle.std.specs.Fmt.{WritesInCalls}
use Rattle.ron_ser.proofs.Pieces.{one, both}
use Rattle.ron_ser.proofs.RunLemmas.{escaped_char_bytes, plain_char_bytes}
use Rattle.ron_ser.proofs.quoted.write_character.Goals as goal

pub returns-then-takes_backslash : goal.returns-then-takes_backslash
returns-then-takes_backslash g c =
    let took = g.O.Output.puts in
    subst (λ bs. WritesInCalls took c.args.out.now bs c.put-then-takes_backslash.new.self)
    (sym (escaped_char_bytes c.args.c (sym c.takes_backslash.ensures ∙ c.if-takes_backslash.true)))
    (both took _ _ _ _ _ (one took _ _ _ c.put.ensures) (both took _ _ _ _ _ c.put_char.ensures (one took _ _ _ c.put-then-takes_backslash.ensures)))

pub returns-else-takes_backslash : goal.returns-else-takes_backslash
returns-else-takes_backslash g c =
    let took = g.O.Output.puts in
    subst (λ bs. WritesInCalls took c.args.out.now bs c.put-else-takes_backslash-2.new.self)
    (sym (plain_char_bytes c.args.c (sym c.takes_backslash.ensures ∙ c.if-takes_backslash.false)))
    (both took _ _ _ _ _ (one took _ _ _ c.put-else-takes_backslash.ensures)
    (both took _ _ _ _ _ c.put_char-else-takes_backslash.ensures (one took _ _ _ c.put-else-takes_backslash-2.ensures)))
