use Rattle.std.proofs.Common.{Ok, arith}
use Rattle.std.proofs.lemmas.Result.{err_from_is_err_and}
use Rattle.ron_base.specs.declared.error.Error.{Error}
use Rattle.ron_value.specs.declared.value.Value as held
use Rattle.ron_de_steps.proofs.NearLemmas.{byte_string_nears}
use Rattle.ron_de_untyped.proofs.CountLemmas.{settled_so, scan_settled}
use Rattle.ron_de_untyped.proofs.leaves.read_bytes.Goals as goal

pub returns-in_err-bytes-clause-turns : goal.returns-in_err-bytes-clause-turns
returns-in_err-bytes-clause-turns c =
    let p = err_from_is_err_and c.from_residual.result c.from_residual.ensures.1 in
    rw (p.1, p.2) (scan_settled 2 c.args.cursor.now c.read_byte_string.new.cursor _ (omega arith) c.in_err-bytes.ensures.turns.most)

pub returns-in-Slice-clause-turns : goal.returns-in-Slice-clause-turns
returns-in-Slice-clause-turns c = settled_so {E = Error} 2 c.args.cursor.now c.read_byte_string.new.cursor c.bytes.result (omega arith)
    c.in_ok-bytes.ensures.turns.moved (byte_string_nears _ c.args.cursor.now c.read_byte_string.new.cursor c.in_ok-bytes.ensures.value)

pub returns-in-Allocated-clause-turns : goal.returns-in-Allocated-clause-turns
returns-in-Allocated-clause-turns c = settled_so {E = Error} 2 c.args.cursor.now c.read_byte_string.new.cursor (Ok (held.Bytes c.in-Allocated.bytes))
    (omega arith) c.in_ok-bytes.ensures.turns.moved (byte_string_nears _ c.args.cursor.now c.read_byte_string.new.cursor c.in_ok-bytes.ensures.value)
