use Rattle.std.proofs.Common.{◌≡◌, [], map, sym, ap, subst, arith, ◌∙◌}
use Rattle.std.specs.List.{All}
use Rattle.std.specs.Vec.Iter.{into_iter_items}
use Rattle.std.proofs.lemmas.Result.{IfOk-weaker}
use Rattle.ron_data.specs.Datum.{pairs_view}
use Rattle.ron_data.specs.Pairs.{key_cmp, with_key, without_key, with_entries}
use Rattle.ron_data.proofs.PairLemmas.{IsAmong, all_keyed, put_entries, put_among}
use Rattle.ron_data.proofs.pairs.fold_by_tree.Goals as goal

pub returns-clause-value : goal.returns-clause-value
returns-clause-value c =
    let all : c.loop-key.keyed.items ≡ map with_key c.args.pairs.items = all_keyed c.loop-key.keyed.items (into_iter_items c.loop-key.key-iterator)
    c.args.pairs.items c.loop-key.invariant (omega (arith, c.in-None.ensures.steps.0, c.loop-key.key-iterator.rest.ok.0)) in
    IfOk-weaker c.plain.result _ _ (λ ps h. ap pairs_view (h ∙ ap (map without_key) (c.in_ok-put_at_places.ensures.value ∙ ap (with_entries key_cmp []) all))
    ∙ put_entries [] c.args.pairs.items) c.plain.ensures.value

pub returns-clause-parts : goal.returns-clause-parts
returns-clause-parts c =
    let all : c.loop-key.keyed.items ≡ map with_key c.args.pairs.items = all_keyed c.loop-key.keyed.items (into_iter_items c.loop-key.key-iterator)
    c.args.pairs.items c.loop-key.invariant (omega (arith, c.in-None.ensures.steps.0, c.loop-key.key-iterator.rest.ok.0)) in
    IfOk-weaker c.plain.result _ _ (λ ps h. subst (All (IsAmong c.args.pairs.items)) (sym
    (h ∙ ap (map without_key) (c.in_ok-put_at_places.ensures.value ∙ ap (with_entries key_cmp []) all))) (put_among c.args.pairs.items)) c.plain.ensures.value
