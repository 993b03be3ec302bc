use Rattle.std.proofs.lemmas.Result.{err_from_is_err_and}
use Rattle.ron_base_device.proofs.GatherLemmas.{loses_longer, passed_on}
use Rattle.ron_base_device.proofs.gathered.Gathered.make_room.Goals as goal

pub returns-in_err-pass_on : goal.returns-in_err-pass_on
returns-in_err-pass_on g c =
    let p = err_from_is_err_and c.from_residual.result c.from_residual.ensures.1 in
    rw (p.1, p.2) (loses_longer c.args.piece.now c.in_err-pass_on.ensures.passed.0, c.in_err-pass_on.ensures.passed.1)

pub returns-then-piece-lt-SIZE : goal.returns-then-piece-lt-SIZE
returns-then-piece-lt-SIZE g c = passed_on _ _ _ _ _ c.hold.result c.in_ok-pass_on.ensures.passed c.hold.ensures

pub returns-else-piece-lt-SIZE : goal.returns-else-piece-lt-SIZE
returns-else-piece-lt-SIZE g c = passed_on _ _ _ _ _ c.push.result c.in_ok-pass_on.ensures.passed c.push.ensures
