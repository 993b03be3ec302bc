use Rattle.std.proofs.Common.{◌≡◌, ◌<◌, ◌∙◌, ap, length, get_or, set, arith}
use Rattle.ron_data.specs.Pairs.{place_in}
use Rattle.ron_data.proofs.FoldLemmas.{place_within, put_new, put_again}
use Rattle.ron_data.proofs.pairs.put_at.Goals as goal

pub returns-then-place-len-clause-value : goal.returns-then-place-len-clause-value
returns-then-place-len-clause-value g c =
    let at_end : place_in g.K.Ord.cmp c.args.entry.0 c.args.entries.now.items ≡ length c.args.entries.now.items =
    omega (arith, c.requires, c.if-place-len.true, c.len.ensures, c.args.entries.now.ok.0) in
    c.in_ok-push.ensures.items ∙ put_new g.K.Ord.cmp c.args.entries.now.items c.args.entry at_end

pub index_mut-requires : goal.index_mut-requires
index_mut-requires g c = let within = place_within g.K.Ord.cmp c.args.entry.0 c.args.entries.now.items in
    omega (arith, within, c.requires, c.if-place-len.false, c.len.ensures, c.args.entries.now.ok.0)

pub returns-clause-value : goal.returns-clause-value
returns-clause-value g c =
    let items = c.args.entries.now.items in
    let there = c.index_mut.result.now in
    let within = place_within g.K.Ord.cmp c.args.entry.0 items in
    let lt : place_in g.K.Ord.cmp c.args.entry.0 items < length items =
    omega (arith, within, c.requires, c.if-place-len.false, c.len.ensures, c.args.entries.now.ok.0) in
    ap (λ n. set items n (there.0, c.args.entry.1)) c.requires
    ∙ put_again g.K.Ord.cmp items c.args.entry there lt (c.index_mut.ensures.value ∙ ap (λ n. get_or items n there) c.requires)
