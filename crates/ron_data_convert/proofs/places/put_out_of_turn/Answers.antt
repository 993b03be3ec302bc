use Rattle.std.proofs.Common.{set, ap, ◌∙◌, arith}
use Rattle.ron_data_convert.proofs.PlaceLemmas.{put_in}
use Rattle.ron_data_convert.proofs.places.put_out_of_turn.Goals as goal

pub returns-clause-places : goal.returns-clause-places
returns-clause-places c =
    let now = c.loop-alloc.places.items in
    put_in c.args.index c.args.places.now.items now _ (c.args.name, c.args.value) c.loop-alloc.invariant.longer
    (omega (arith, c.loop-alloc-test.false, c.len.ensures, c.loop-alloc.places.ok.0))
    (c.set_at.ensures ∙ ap (λ v. set now c.args.index (c.args.name, v)) c.loop-alloc.invariant.value)
