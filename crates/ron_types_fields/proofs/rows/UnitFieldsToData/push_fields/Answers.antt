use Rattle.ron_types_fields.specs.Names.{names_in}
use Rattle.ron_types_fields.proofs.RowLemmas.{none_pushed, none_kept}
use Rattle.ron_types_fields.proofs.rows.UnitFieldsToData.push_fields.Goals as goal

pub returns-clause-value : goal.returns-clause-value
returns-clause-value c = none_pushed (names_in c.args.names.now) c.args.fields.items

pub returns-clause-kept : goal.returns-clause-kept
returns-clause-kept c = λ differ. none_kept (names_in c.args.names.now)
