use Rattle.rontool_command.proofs.KeptLemmas.{kept_replaced}
use Rattle.rontool_command.proofs.setting.put_in_place.Goals as goal

pub returns-in-Ok-clause-kept : goal.returns-in-Ok-clause-kept
returns-in-Ok-clause-kept g c = λ told old value bytes put.
    kept_replaced c.args.target.file.now c.args.new.now old (g.S.Store.stands c.args.store.now) (g.S.Store.stands c.replace_file.new.store) bytes
    (c.replace_file.ensures.leaves told) (c.replace_file.ensures.kept told) put

pub returns-in-Err-clause-kept : goal.returns-in-Err-clause-kept
returns-in-Err-clause-kept g c = λ told old value bytes put.
    kept_replaced c.args.target.file.now c.args.new.now old (g.S.Store.stands c.args.store.now) (g.S.Store.stands c.replace_file.new.store) bytes
    (c.replace_file.ensures.leaves told) (c.replace_file.ensures.kept told) put
