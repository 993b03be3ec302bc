use Rattle.std.proofs.Common.{sym, subst}
use Rattle.ron_types.specs.Lists.{Each, Both}
use Rattle.ron_types.proofs.MapLemmas.{entries_more}
use Rattle.ron_types.proofs.types.maps.entries_of.Goals as goal

pub loop-key-preserved : goal.loop-key-preserved
loop-key-preserved g c = record {
  values = entries_more g.K.Ord.cmp g.K.Schematic.data g.V.Schematic.data g.K.MapKey.key_cmp g.met.K.MapKey.alike g.K.Schematic.normal g.V.Schematic.normal _ _
      (c.in-Some.key, c.in-Some.value) _ _ c.in_ok-key.key c.in_ok-value.value _ c.in-Some.ensures.steps.0 c.in_ok-insert.ensures.entries
      c.in_ok-key.ensures.value c.in_ok-value.ensures.value c.loop-key.invariant.values;
  accepted = λ h. c.loop-key.invariant.accepted (subst (Each (Both g.K.Schematic.accepts g.V.Schematic.accepts)) (sym c.in-Some.ensures.steps.0)
      ((c.in_ok-key.ensures.accepted, c.in_ok-value.ensures.accepted), h));
  accepts = λ h. (subst (Each (Both g.K.Schematic.accepts g.V.Schematic.accepts)) c.in-Some.ensures.steps.0 (c.loop-key.invariant.accepts h)).1;
}
