use Rattle.std.proofs.Common.{chars, string_bytes, refl}
use Rattle.ron_format.proofs.LayLemmas.{passes_edge}
use Rattle.ron_format.proofs.formatting.pass_edge.Goals as goal

pub returns : goal.returns
returns c =
    passes_edge (record { spot = c.args.spot; rest = c.skip_edge-rest.result }) (chars c.args.text.now) (chars c.before-edge.result.now)
    (chars (string_bytes c.args.out.now)) (chars (string_bytes c.put_edge.new.out)) (record { place = c.past_edge.result; rest = c.skip_edge-rest.result })
    c.before-edge.ensures c.skip_edge-rest.ensures c.in_ok-put_edge.ensures refl c.past_edge.ensures
