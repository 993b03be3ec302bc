use Rattle.ron_spec_words.proofs.KindTables.{is_table, is_table_at, tells_kinds}
use Rattle.ron_spec_words.proofs.kinds_are_found_in_one_pass.Goals as goal

pub returns-clause-table : goal.returns-clause-table
returns-clause-table c = is_table

pub returns-clause-entries : goal.returns-clause-entries
returns-clause-entries c = is_table_at

pub returns-clause-tests : goal.returns-clause-tests
returns-clause-tests c = tells_kinds
