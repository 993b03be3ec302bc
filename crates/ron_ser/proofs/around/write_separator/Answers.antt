use Rattle.std.proofs.Common.{chars, encode_utf8_all, subst, sym, ap, ◌∙◌}
use Rattle.std.specs.Fmt.{WritesInCalls}
use Rattle.ron_ser.specs.Stand.{place_of}
use Rattle.ron_ser.proofs.AroundLemmas.{separator_later}
use Rattle.ron_ser.proofs.around.write_separator.Goals as goal

pub returns-then-i-gt0 : goal.returns-then-i-gt0
unfolding place_of
returns-then-i-gt0 g c =
    let is = ap (λ b. encode_utf8_all (chars b)) c.as_str.ensures.value
    ∙ ap encode_utf8_all (sym (separator_later (place_of c.args.writing.now).config c.args.i c.if-i-gt0.true)) in
    (subst (λ bs. WritesInCalls g.O.Output.puts c.args.out.now bs c.write_text.new.out) is) c.write_text.ensures
