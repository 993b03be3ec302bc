use Rattle.std.proofs.Common.{◌++◌, ◌∙◌, take}
use Rattle.std.proofs.KnownBytes.{Appends-trans}
use Rattle.ron_base_device.proofs.PieceLemmas.{rest_behind}
use Rattle.ron_base_device.proofs.sink.push_all.Goals as goal

pub loop-rest-preserved : goal.loop-rest-preserved
loop-rest-preserved g c = record {
  front = c.loop-rest.invariant.front ++ take c.in-Ok.n c.loop-rest.rest.now;
  whole = rest_behind _ _ _ _ c.loop-rest.invariant.whole c.in-Ok.ensures.bound;
  taken = Appends-trans _ (g.S.Sink.contents c.loop-rest.sink) _ _ _ c.loop-rest.invariant.taken c.in-Ok.ensures.bytes;
  same = c.push.ensures.same ∙ c.loop-rest.invariant.same;
  kept = c.in-Ok.ensures.marked ∙ c.loop-rest.invariant.kept;
}
