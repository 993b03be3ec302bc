use Rattle.std.proofs.Common.{◌≡◌, encode_utf8_all, ap, ◌∙◌}
use Rattle.ron_spec_layout.specs.Literals.{written_bytes}
use Rattle.ron_spec_layout.specs.Unescaped.{bytes_text}
use Rattle.ron_ser.proofs.Pieces.{one, both, piece}
use Rattle.ron_ser.proofs.EncodableLemmas.{slice_bytes}
use Rattle.ron_ser.proofs.RunLemmas as runs
use Rattle.ron_ser.proofs.quoted.write_byte_string.Goals.{then-not-escape+in_default, else-not-escape}
use Rattle.ron_ser.proofs.quoted.write_byte_string.Goals as goal

pub returns-in-Ok-clause-text : goal.returns-in-Ok-clause-text
returns-in-Ok-clause-text g c =
    let took = g.O.Output.puts in
    (piece took _ _ _ _ _ _ (runs.bytes_as_text c.args.escape c.args.bytes.now c.in-Ok.text.now c.if-not-escape.true c.in-Ok.ensures.cases.0
    c.in-Ok.ensures.cases.1) (one took _ _ _ (c.put.ensures))) c.write_unescaped.ensures

pub returns-in-Ok-clause-below : goal.returns-in-Ok-clause-below
returns-in-Ok-clause-below g c = (slice_bytes c.args.bytes.now c.type_inv.bytes)

pub returns-clause-text : goal.returns-clause-text
returns-clause-text g c =
    let took = g.O.Output.puts in
    let bs = c.args.bytes.now in
    let escaped : bytes_text c.args.escape bs ≡ written_bytes bs = elim c.if-not-escape.branch [
      | then-not-escape+in_default w ↦ runs.bytes_no_text c.args.escape bs w.in_default.ensures.cases.0
      | else-not-escape w ↦ runs.bytes_escaped c.args.escape bs w.if-not-escape.false
    ] in
    (piece took _ _ _ _ _ _ (ap encode_utf8_all escaped ∙ runs.quoted_bytes bs (slice_bytes bs c.type_inv.bytes)) (one took _ _ _ (c.put-2.ensures))
    (both took _ _ _ _ _ c.write_escaped_bytes.ensures (one took _ _ _ (c.put-3.ensures))))

pub returns-clause-below : goal.returns-clause-below
returns-clause-below g c = (slice_bytes c.args.bytes.now c.type_inv.bytes)
