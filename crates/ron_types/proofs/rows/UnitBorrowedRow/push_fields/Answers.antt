use Rattle.ron_types.specs.FieldNames.{texts_of}
use Rattle.ron_types.proofs.RowLemmas.{none_pushed}
use Rattle.ron_types.proofs.rows.UnitBorrowedRow.push_fields.Goals as goal

pub returns-clause-value : goal.returns-clause-value
returns-clause-value c = none_pushed (texts_of c.args.names.now) c.args.fields.items
