use Rattle.std.proofs.Common.{suc}
use Rattle.std.proofs.lemmas.Result.{err_from_is_err_and}
use Rattle.ron_de_parts.proofs.ByteLemmas.{byte_read, byte_fails}
use Rattle.ron_de_parts.proofs.RoomLemmas.{levels_left}
use Rattle.ron_de_parts.proofs.bytes.read_byte.Goals as goal

pub returns-in_err-byte-clause-value : goal.returns-in_err-byte-clause-value
returns-in_err-byte-clause-value c =
    let p = err_from_is_err_and c.from_residual-in_err-byte.result c.from_residual-in_err-byte.ensures.1 in
    rw (p.1, p.2) (λ room r. byte_fails _ (suc room) _ (levels_left _ _ _ _ room c.in_ok-_item.ensures.2 r) c.in_err-byte.ensures.value)

pub returns-clause-value : goal.returns-clause-value
returns-clause-value c = λ room r. byte_read (suc room) _ _ _ _ (levels_left _ _ _ _ room c.in_ok-_item.ensures.2 r) c.in-U8.is c.in_ok-byte.ensures.value
