use Rattle.std.proofs.Common.{sym, ◌∙◌}
use Rattle.ron_ser.proofs.Pieces.{one, both, piece}
use Rattle.ron_ser.proofs.UnescapedLemmas.{raw_text, plain_text}
use Rattle.ron_ser.proofs.unescaped.write_unescaped.Goals as goal

pub returns-then-not-needs_raw : goal.returns-then-not-needs_raw
returns-then-not-needs_raw g c =
    let took = g.O.Output.puts in
    (piece took _ _ _ _ _ _ (plain_text c.args.text.now c.utf8.text (sym c.needs_raw.ensures ∙ c.if-not-needs_raw.true)) (one took _ _ _ c.put.ensures)
    (both took _ _ _ _ _ (one took _ _ _ c.put-then-not-needs_raw.ensures) (one took _ _ _ c.put-then-not-needs_raw-2.ensures)))

pub returns : goal.returns
returns g c =
    let took = g.O.Output.puts in
    piece took _ _ _ _ _ _ (raw_text c.args.text.now c.longest_hashes-longest.result c.utf8.text (sym c.needs_raw.ensures ∙ c.if-not-needs_raw.false)
    c.longest_hashes-longest.ensures) (one took _ _ _ c.put-2.ensures)
    (both took _ _ _ _ _ c.write_hashes.ensures (both took _ _ _ _ _ (one took _ _ _ c.put-3.ensures)
    (both took _ _ _ _ _ (one took _ _ _ c.put-4.ensures) (both took _ _ _ _ _ (one took _ _ _ c.put-5.ensures) c.write_hashes-2.ensures))))
