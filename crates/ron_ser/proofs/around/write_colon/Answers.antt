use Rattle.std.proofs.Common.{◌++◌, codes, chars, encode_utf8_all, sym, ap, ◌∙◌}
use Rattle.ron_spec_layout.proofs.Bytes.{bytes-colon}
use Rattle.ron_ser.specs.Stand.{place_of}
use Rattle.ron_ser.proofs.Pieces.{one, piece}
use Rattle.ron_ser.proofs.around.write_colon.Goals as goal

pub returns : goal.returns
unfolding place_of
returns g c =
    let took = g.O.Output.puts in
    let p = place_of c.args.writing.now in
    let is = bytes-colon p.config p.extensions p.level p.docs ∙ ap (λ b. codes ":" ++ encode_utf8_all (chars b)) (sym c.as_str.ensures.value) in
    (piece took _ _ _ _ _ _ is (one took _ _ _ (c.put.ensures))) c.write_text.ensures
