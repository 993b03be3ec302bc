use Rattle.std.proofs.Common.{sym, ap, subst, ◌∙◌}
use Rattle.ron_spec_grammar.specs.Data.{map_of}
use Rattle.ron_data.specs.Datum.{pairs_of}
use Rattle.ron_types.specs.Lists.{Each, Both}
use Rattle.ron_types.proofs.BackLemmas.{each_more, view-Map, accepts-Map}
use Rattle.ron_types.proofs.MapLemmas.{IsWritten, all_kept, each_kept, each_of_schema, sent_none, sent_more, sent_all}
use Rattle.ron_types.proofs.TypeLemmas.{map_is_of}
use Rattle.ron_types.proofs.types.maps.BTreeMapSerialize.to_data.Goals as goal

pub loop-key-init : goal.loop-key-init
loop-key-init g c = record {
  values = sent_none g.K.Schematic.data g.V.Schematic.data _ _ _ c.in_ok-pairs.ensures.items c.into_iter-key-iterator.ensures.into_iter_gives.0;
  accepted = subst (Each (Both g.K.Schematic.accepts g.V.Schematic.accepts)) (sym c.in_ok-pairs.ensures.items) tt;
  written = λ h.
      subst (Each (IsWritten g.K.Schematic.data g.V.Schematic.data g.K.Schematic.normal g.V.Schematic.normal g.K.Schematic.schema_is g.V.Schematic.schema_is))
      c.into_iter-key-iterator.ensures.into_iter_gives.0 h;
}

pub loop-key-preserved : goal.loop-key-preserved
loop-key-preserved g c = record {
  values = sent_more g.K.Schematic.data g.V.Schematic.data _ _ _ _ _ c.in-Some.key.now c.in-Some.value.now c.in_ok-held.held c.in_ok-to_data.field-0
      c.in-Some.ensures.steps c.in_ok-push.ensures.items c.in_ok-held.ensures.value c.in_ok-to_data.ensures.value c.loop-key.invariant.values;
  accepted = subst (Each (Both g.K.Schematic.accepts g.V.Schematic.accepts)) (sym c.in_ok-push.ensures.items) (each_more
      (Both g.K.Schematic.accepts g.V.Schematic.accepts) _ _ c.loop-key.invariant.accepted (c.in_ok-held.ensures.accepted, c.in_ok-to_data.ensures.accepted));
  written = λ h. c.loop-key.invariant.written (subst
      (Each (IsWritten g.K.Schematic.data g.V.Schematic.data g.K.Schematic.normal g.V.Schematic.normal g.K.Schematic.schema_is g.V.Schematic.schema_is))
      (sym c.in-Some.ensures.steps) (
        record {
          key = c.in_ok-held.ensures.kept;
          value = c.in_ok-to_data.ensures.kept;
          key_of = c.in_ok-held.ensures.of_schema;
          value_of = c.in_ok-to_data.ensures.of_schema;
        },
        h,
      ));
}

pub returns-clause-value : goal.returns-clause-value
returns-clause-value g c = view-Map c.loop-key.pairs
    ∙ ap (λ es. map_of (pairs_of es)) (sent_all g.K.Schematic.data g.V.Schematic.data _ _ _ c.in-None.ensures.steps.0 c.loop-key.invariant.values)

pub returns-clause-accepted : goal.returns-clause-accepted
returns-clause-accepted g c = accepts-Map (Each (Both g.K.Schematic.accepts g.V.Schematic.accepts)) c.loop-key.pairs c.loop-key.invariant.accepted

pub returns-clause-kept : goal.returns-clause-kept
returns-clause-kept g c =
    let written = c.loop-key.invariant.written
    (subst (Each (IsWritten g.K.Schematic.data g.V.Schematic.data g.K.Schematic.normal g.V.Schematic.normal g.K.Schematic.schema_is g.V.Schematic.schema_is))
    (sym c.in-None.ensures.steps.0) tt) in
    ap (λ es. map_of (pairs_of es)) (all_kept g.K.Ord.cmp g.K.Schematic.data g.V.Schematic.data g.K.MapKey.key_cmp g.met.K.MapKey.alike g.K.Schematic.normal
    g.V.Schematic.normal g.met.K.Ord.total _ c.into_iter-key-iterator.ensures.into_iter_gives.5
    (each_kept g.K.Schematic.data g.V.Schematic.data g.K.Schematic.normal g.V.Schematic.normal g.K.Schematic.schema_is g.V.Schematic.schema_is _ written))

pub returns-clause-of_schema : goal.returns-clause-of_schema
returns-clause-of_schema g c =
    let written = c.loop-key.invariant.written
    (subst (Each (IsWritten g.K.Schematic.data g.V.Schematic.data g.K.Schematic.normal g.V.Schematic.normal g.K.Schematic.schema_is g.V.Schematic.schema_is))
    (sym c.in-None.ensures.steps.0) tt) in
    map_is_of g.K.Schematic.schema_is g.V.Schematic.schema_is _
    (each_of_schema g.K.Schematic.data g.V.Schematic.data g.K.Schematic.normal g.V.Schematic.normal g.K.Schematic.schema_is g.V.Schematic.schema_is _ written)
