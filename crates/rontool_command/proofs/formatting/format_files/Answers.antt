use Rattle.std.proofs.Common.{◌∙◌}
use Rattle.rontool_command.proofs.KeptLemmas.{kept_again}
use Rattle.rontool_command.proofs.formatting.format_files.Goals as goal

pub returns-in_err-format_file-clause-kept : goal.returns-in_err-format_file-clause-kept
returns-in_err-format_file-clause-kept g c = λ told.
    kept_again (g.S.Store.stands c.args.store.now) (g.S.Store.stands c.paths.store) (g.S.Store.stands c.format_file.new.store)
    (c.paths.invariant.0 told) (c.format_file.ensures.kept told)

pub paths-preserved : goal.paths-preserved
paths-preserved g c = (
  λ told. kept_again (g.S.Store.stands c.args.store.now) (g.S.Store.stands c.paths.store) (g.S.Store.stands c.format_file.new.store)
      (c.paths.invariant.0 told) (c.format_file.ensures.kept told),
  λ told looks. c.format_file.ensures.same told looks ∙ c.paths.invariant.1 told looks,
  λ looks. c.format_file.ensures.untouched looks ∙ c.paths.invariant.2 looks,
  λ told. c.in_ok-format_file.ensures.tells (c.paths.invariant.3 told),
)
