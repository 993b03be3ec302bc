use Rattle.std.proofs.lemmas.Result.{err_from_is_err_and}
use Rattle.ron_de_parts.proofs.UntypedLemmas.{skips}
use Rattle.ron_de_parts.proofs.untyped.skip_untyped.Goals as goal

pub returns-in_err-read_within-clause-value : goal.returns-in_err-read_within-clause-value
returns-in_err-read_within-clause-value c =
    let p = err_from_is_err_and c.from_residual.result c.from_residual.ensures.1 in
    rw (p.1, p.2) (λ room r. c.in_err-read_within.ensures.value room r)

pub returns-clause-value : goal.returns-clause-value
returns-clause-value c = skips c.args.context.now c.args.cursor.now c.in_ok-read_within.field-0 c.read_within.new.cursor.rest c.in_ok-read_within.ensures.value
