use Rattle.std.proofs.Common.{chars, encode_utf8_all, ap, ◌∙◌}
use Rattle.ron_spec_layout.proofs.Bytes.{bytes-string}
use Rattle.ron_ser.proofs.Pieces.{one, both, piece}
use Rattle.ron_ser.proofs.RunLemmas.{string_escaped}
use Rattle.ron_ser.proofs.quoted.write_string.Goals as goal

pub returns : goal.returns
returns g c =
    let took = g.O.Output.puts in
    let t = chars c.args.text.now in
    (piece took _ _ _ _ _ _ (ap encode_utf8_all (string_escaped c.args.escape t c.if-not-escape.false) ∙ bytes-string t) (one took _ _ _ (c.put.ensures))
    (both took _ _ _ _ _ c.write_escaped.ensures (one took _ _ _ (c.put-2.ensures))))
