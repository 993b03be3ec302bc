use Rattle.std.proofs.Common.{◌≡◌, map, arith, sym, ap, subst, ◌∙◌}
use Rattle.std.proofs.lemmas.Grind.{common_steps}
use Rattle.ron_spec_grammar.specs.Data.{list_of, datas}
use Rattle.ron_types.specs.Lists.{Each}
use Rattle.ron_types.specs.OfTables.{IsOfOrdered}
use Rattle.ron_types.proofs.BackLemmas.{view-Seq, accepts-Seq, items_normal-map, taken, each_map}
use Rattle.ron_types.proofs.ListLemmas.{passed_more}
use Rattle.ron_types.proofs.TypeLemmas.{list_is_of}
use Rattle.ron_types.proofs.types.lists.VecSerialize.to_data.Goals as goal

pub loop-item-preserved : goal.loop-item-preserved
loop-item-preserved g c = record {
  values = grind (arith, common_steps);
  accepted = grind (arith, common_steps);
  kept = grind (arith, common_steps);
  of_schema = passed_more (λ x. IsOfOrdered g.T.Schematic.schema_is (g.T.Schematic.data x)) c.deref-item-items.result.now c.loop-item.item-index
      c.item-item.result c.loop-item-test.true c.item-item.is c.in_ok-to_data.ensures.of_schema c.loop-item.invariant.of_schema;
}

pub returns-clause-value : goal.returns-clause-value
returns-clause-value g c =
    let whole = taken c.loop-item.item-index c.deref-item-items.result.now c.args.self.now.items c.loop-item-test.false c.deref-item-items.ensures.value in
    view-Seq c.loop-item.items ∙ ap (λ ds. list_of (datas ds)) (c.loop-item.invariant.values ∙ ap (map g.T.Schematic.data) whole)

pub returns-clause-accepted : goal.returns-clause-accepted
returns-clause-accepted g c = accepts-Seq (Each g.T.Schematic.accepts) c.loop-item.items c.loop-item.invariant.accepted

pub returns-clause-kept : goal.returns-clause-kept
returns-clause-kept g c =
    let normal = g.T.Schematic.normal in
    let data' = g.T.Schematic.data in
    let xs = c.args.self.now.items in
    let whole = taken c.loop-item.item-index c.deref-item-items.result.now xs c.loop-item-test.false c.deref-item-items.ensures.value in
    let e : map (λ x. normal (data' x)) xs ≡ map data' xs = ap (map (λ x. normal (data' x))) (sym whole) ∙ c.loop-item.invariant.kept ∙ ap (map data') whole in
    ap list_of (items_normal-map normal data' xs ∙ ap datas e)

pub returns-clause-of_schema : goal.returns-clause-of_schema
returns-clause-of_schema g c =
    let data' = g.T.Schematic.data in
    let whole = taken c.loop-item.item-index c.deref-item-items.result.now c.args.self.now.items c.loop-item-test.false c.deref-item-items.ensures.value in
    list_is_of g.T.Schematic.schema_is (map data' c.args.self.now.items) (each_map (IsOfOrdered g.T.Schematic.schema_is) data' _
    (subst (Each (λ x. IsOfOrdered g.T.Schematic.schema_is (data' x))) whole c.loop-item.invariant.of_schema))
