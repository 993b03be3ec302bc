use Rattle.std.proofs.Common.{Ok, ap, refl, arith}
use Rattle.std.proofs.lemmas.Result.{err_from_is_err_and}
use Rattle.ron_spec_words.specs.Reader.{got}
use Rattle.ron_de_steps.proofs.ErrorLemmas.{fault_of}
use Rattle.ron_base.specs.declared.error.Error.{Error}
use Rattle.ron_value.specs.declared.value.Value as held
use Rattle.ron_de_steps.proofs.NearLemmas.{string_nears}
use Rattle.ron_de_untyped.proofs.CountLemmas.{settled_so, scan_settled}
use Rattle.ron_de_untyped.proofs.ValueLemmas.{owned_text}
use Rattle.ron_de_untyped.proofs.leaves.read_string.Goals as goal

pub returns-in_err-text-clause-value : goal.returns-in_err-text-clause-value
returns-in_err-text-clause-value c =
    let p = err_from_is_err_and c.from_residual.result c.from_residual.ensures.1 in
    rw (p.1, p.2) (fault_of _ _ _ (λ fault f. rw f refl) c.in_err-text.ensures.value)

pub returns-in-Allocated-clause-value : goal.returns-in-Allocated-clause-value
returns-in-Allocated-clause-value c =
    let read = rw c.in-Allocated.is at c.in_ok-text.ensures.value in
    rw read (ap (λ t. got t c.read_string.new.cursor.rest) (owned_text c.in-Allocated.text))

pub returns-in_err-text-clause-turns : goal.returns-in_err-text-clause-turns
returns-in_err-text-clause-turns c =
    let p = err_from_is_err_and c.from_residual.result c.from_residual.ensures.1 in
    rw (p.1, p.2) (scan_settled 2 c.args.cursor.now c.read_string.new.cursor _ (omega arith) c.in_err-text.ensures.turns.most)

pub returns-in-Slice-clause-turns : goal.returns-in-Slice-clause-turns
returns-in-Slice-clause-turns c = settled_so {E = Error} 2 c.args.cursor.now c.read_string.new.cursor c.text_value.result (omega arith)
    c.in_ok-text.ensures.turns.moved (string_nears _ c.args.cursor.now c.read_string.new.cursor c.in_ok-text.ensures.value)

pub returns-in-Allocated-clause-turns : goal.returns-in-Allocated-clause-turns
returns-in-Allocated-clause-turns c = settled_so {E = Error} 2 c.args.cursor.now c.read_string.new.cursor (Ok (held.String c.in-Allocated.text)) (omega arith)
    c.in_ok-text.ensures.turns.moved (string_nears _ c.args.cursor.now c.read_string.new.cursor c.in_ok-text.ensures.value)
