use Rattle.std.proofs.Common.{◌≡◌, ◌-◌, length, Some, sym, ap, ◌∙◌, arith}
use Rattle.std.specs.Prelude.{slice_get}
use Rattle.std.specs.Option.{option_copied}
use Rattle.ron_lex.proofs.KindLemmas.{told_within, told_beyond, got_within}
use Rattle.ron_lex.proofs.kinds.Filling.tell_innermost.Goals as goal

pub returns-then-index-len-clause-kinds : goal.returns-then-index-len-clause-kinds
returns-then-index-len-clause-kinds c =
    let groups = c.args.self.now.groups.items in
    let last : slice_get groups (length groups - 1) ≡ Some c.in-Some.index.now =
    rw c.deref.ensures.value at (sym c.last.ensures.value) ∙ ap option_copied c.in-Some.is in
    told_within c.in-Some.index.now c.args.kind c.index.result.now c.settle.result groups c.args.self.now.found.kinds.items last
    (got_within c.args.self.now.found.kinds.items c.in-Some.index.now c.index.result.now (omega (arith, c.if-index-len.true, c.len.ensures)) c.index.ensures)
    c.settle.ensures

pub returns-else-index-len-clause-kinds : goal.returns-else-index-len-clause-kinds
returns-else-index-len-clause-kinds c =
    let groups = c.args.self.now.groups.items in
    let last : slice_get groups (length groups - 1) ≡ Some c.in-Some.index.now =
    rw c.deref.ensures.value at (sym c.last.ensures.value) ∙ ap option_copied c.in-Some.is in
    told_beyond c.in-Some.index.now c.args.kind groups c.args.self.now.found.kinds.items last (omega (arith, c.if-index-len.false, c.len.ensures))
