use Rattle.std.proofs.Common.{◌≡◌, ◌%◌, false, [], ◌∷◌, ap, subst, ◌∙◌, rules}
use Rattle.std.specs.Fmt.{WritesInCalls, digit_glyph}
use Rattle.ron_ser.proofs.Pieces.{one, both}
use Rattle.ron_ser.proofs.EscapeLemmas.{byte_by_number}
use Rattle.ron_ser.proofs.escapes.write_byte_escape.Goals as goal

pub returns-in-Some : goal.returns-in-Some
returns-in-Some g c =
    let took = g.O.Output.puts in
    subst (λ bs. WritesInCalls took c.args.out.now bs c.put.new.self) c.in-Some.ensures (one took _ _ _ c.put.ensures)

pub returns-in-None : goal.returns-in-None
returns-in-None g c =
    let took = g.O.Output.puts in
    let low : c.from.result ≡ c.args.byte % 16 = search rules in
    let first = subst (λ bs. WritesInCalls took c.args.out.now bs c.put-in-None.new.self) c.high_digit.ensures (one took _ _ _ c.put-in-None.ensures) in
    let second = subst (λ bs. WritesInCalls took c.put-in-None.new.self bs c.put-in-None-2.new.self)
    (c.hexadecimal_digit.ensures ∙ ap (λ n. digit_glyph false n ∷ []) low) (one took _ _ _ c.put-in-None-2.ensures) in
    subst (λ bs. WritesInCalls took c.args.out.now bs c.put-in-None-2.new.self) (byte_by_number c.args.byte c.requires c.in-None.ensures)
    (both took _ _ _ _ _ first second)
