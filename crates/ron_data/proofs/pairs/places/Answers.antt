use Rattle.std.proofs.Common.{◌≡◌, ◌∷◌, ◌+◌, drop, Bor, sym, ap, subst, arith, ◌∙◌}
use Rattle.std.proofs.lemmas.List.{drop_more}
use Rattle.ron_data.proofs.FoldLemmas.{FoundSoFar, new_found, found_again}
use Rattle.ron_data.proofs.pairs.places.Goals as goal

pub loop-key-preserved-in_default : goal.loop-key-preserved-in_default
loop-key-preserved-in_default g c =
    let entries = c.args.entries.now in
    let rest = drop (c.loop-key.key-index + 1) entries in
    let item = c.loop-key-item.result in
    let key : Bor g.row.K.Denot = record { ref_ptr = (0, 0); now = item.0 } in
    let here : drop c.loop-key.key-index entries ≡ item ∷ rest =
    drop_more entries c.loop-key.key-index item (omega (arith, c.loop-key-test.true)) ∙ ap (λ y. y ∷ rest) (sym c.loop-key-item.is) in
    subst (FoundSoFar g.K.Ord.cmp entries rest c.insert.new.self) (sym c.in_ok-push.ensures.items)
    (new_found g.K.Ord.cmp g.met.K.Ord.total entries rest c.loop-key.found c.insert.new.self c.loop-key.places.items key item.1 c.len-next.result
    c.in_ok-earlier.field-0
    (subst (λ es. FoundSoFar g.K.Ord.cmp entries es c.loop-key.found c.loop-key.places.items) here c.loop-key.invariant)
    c.len-next.ensures.len c.in_ok-earlier.ensures.old c.in_default.is c.in_ok-earlier.ensures.updates c.in_ok-earlier.ensures.len)

pub loop-key-preserved : goal.loop-key-preserved
loop-key-preserved g c =
    let entries = c.args.entries.now in
    let rest = drop (c.loop-key.key-index + 1) entries in
    let item = c.loop-key-item.result in
    let key : Bor g.row.K.Denot = record { ref_ptr = (0, 0); now = item.0 } in
    let here : drop c.loop-key.key-index entries ≡ item ∷ rest =
    drop_more entries c.loop-key.key-index item (omega (arith, c.loop-key-test.true)) ∙ ap (λ y. y ∷ rest) (sym c.loop-key-item.is) in
    subst (FoundSoFar g.K.Ord.cmp entries rest c.insert-in-loop-key.new.self) (sym c.in_ok-push-2.ensures.items)
    (found_again g.K.Ord.cmp g.met.K.Ord.total entries rest c.loop-key.found c.insert.new.self c.insert-in-loop-key.new.self c.loop-key.places.items key item.1
    c.len-next.result c.in-Some.earlier c.in_ok-earlier.field-0 c.in_ok-insert.field-0
    (subst (λ es. FoundSoFar g.K.Ord.cmp entries es c.loop-key.found c.loop-key.places.items) here c.loop-key.invariant)
    c.in_ok-earlier.ensures.old c.in-Some.is c.in_ok-insert.ensures.old c.in_ok-earlier.ensures.updates c.in_ok-earlier.ensures.len
    c.in_ok-insert.ensures.updates c.in_ok-insert.ensures.len)
