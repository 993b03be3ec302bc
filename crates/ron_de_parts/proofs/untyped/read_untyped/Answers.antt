use Rattle.std.proofs.Common.{rules}
use Rattle.std.proofs.lemmas.Result.{err_from_is_err_and}
use Rattle.ron_data.specs.declared.any_value.AnyValue.TheVariants.{Owned}
use Rattle.ron_de_parts.proofs.SliceLemmas.{sliced-value}
use Rattle.ron_de_parts.proofs.UntypedLemmas.{untyped_fault, untyped_read}
use Rattle.ron_de_parts.proofs.untyped.read_untyped.Goals as goal

pub returns-in_err-value-clause-value : goal.returns-in_err-value-clause-value
returns-in_err-value-clause-value c =
    let p = err_from_is_err_and c.from_residual.result c.from_residual.ensures.1 in
    rw (p.1, p.2) (λ i is room r. untyped_fault c.args.context.now i is.0 c.args.cursor.now room r _ c.read_within.new.cursor.rest c.in_err-value.ensures.value)

pub returns-clause-value : goal.returns-clause-value
returns-clause-value c =
    λ i is room r. untyped_read c.args.context.now i is.0 c.args.cursor.now room r c.in_ok-value.value c.read_within.new.cursor.rest c.in_ok-value.ensures.value

pub returns-clause-advance : goal.returns-clause-advance
returns-clause-advance c = record { text = search rules; no_longer = search rules; holds = sliced-value _ _ (Owned c.in_ok-value.value); fault = search rules }
