use Rattle.std.proofs.Common.{sym, ◌∙◌, length}
use Rattle.ron_data.specs.Slots.{so_far}
use Rattle.ron_data.proofs.SlotLemmas.{slot_kept}
use Rattle.ron_data_convert.proofs.PlaceLemmas.{from_within, not_filled, from_filled, from_empty}
use Rattle.ron_data_convert.proofs.places.slots_of.Goals as goal
use Rattle.ron_data_convert.proofs.places.slots_of.Goals.{then-is_filled-index+in_ok-put, else-is_filled-index}

pub bounds-is_filled-index : goal.bounds-is_filled-index
bounds-is_filled-index c = (from_within _ _ _ _ _ _ _ _ c.loop-value.invariant.from c.in-Some.ensures.steps.0 c.requires.places).1

pub put-requires-clause-free : goal.put-requires-clause-free
put-requires-clause-free c =
    let h = c.loop-value.invariant.from in
    let lt = (from_within _ _ _ _ _ _ _ _ h c.in-Some.ensures.steps.0 c.requires.places).0 in (
      lt,
      sym (slot_kept (length c.args.list.now.fields.items) (so_far c.loop-value.slots) c.loop-value.index lt)
          ∙ not_filled _ _ _ _ _ _ _ _ h c.in-Some.ensures.steps.0,
    )

pub loop-value-preserved : goal.loop-value-preserved
loop-value-preserved c =
    let h = c.loop-value.invariant.from in
    let step = c.in-Some.ensures.steps.0 in
    let lt = (from_within _ _ _ _ _ _ _ _ h step c.requires.places).0 in
    elim c.if-is_filled-index.branch [
      | then-is_filled-index+in_ok-put w ↦ rw (w.slots-is) (record {
        named = w.in_ok-put.ensures.named;
        from = from_filled _ _ _ _ _ _ _ _ h step _ w.if-is_filled-index.true lt w.in_ok-put.ensures.slots;
      })
      | else-is_filled-index w ↦ rw (w.slots-is) (record {
        named = c.loop-value.invariant.named;
        from = from_empty _ _ _ _ _ _ _ _ h step w.if-is_filled-index.false;
      })
    ]
