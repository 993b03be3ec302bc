use Rattle.std.proofs.Common.{◌∙◌}
use Rattle.rontool_command.proofs.KeptLemmas.{kept_from}
use Rattle.rontool_command.proofs.formatting.format_all.Goals as goal

pub returns-in_err-format_files-clause-kept : goal.returns-in_err-format_files-clause-kept
returns-in_err-format_files-clause-kept g c = λ told.
    kept_from (g.S.Store.stands c.args.store.now) (g.S.Store.stands c.tell_all.new.store) (g.S.Store.stands c.format_files.new.store)
    (c.tell_all.ensures.same told ∙ c.find.ensures.same told) (c.format_files.ensures.kept told)

pub returns-clause-kept : goal.returns-clause-kept
returns-clause-kept g c = λ told.
    kept_from (g.S.Store.stands c.args.store.now) (g.S.Store.stands c.tell_all.new.store) (g.S.Store.stands c.format_files.new.store)
    (c.tell_all.ensures.same told ∙ c.find.ensures.same told) (c.format_files.ensures.kept told)
