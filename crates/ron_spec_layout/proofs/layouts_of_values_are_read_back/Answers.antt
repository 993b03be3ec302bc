use Rattle.ron_spec_layout.proofs.OwnNormal.{value_kept}
use Rattle.ron_spec_layout.proofs.ValueLaid.{laid_as_data}
use Rattle.ron_spec_layout.proofs.ValueReadBack.{spelled_value, value_read_back}
use Rattle.ron_spec_layout.proofs.layouts_of_values_are_read_back.Goals as goal

pub returns-clause-spelled : goal.returns-clause-spelled
returns-clause-spelled c = spelled_value

pub returns-clause-reads_back : goal.returns-clause-reads_back
returns-clause-reads_back c = value_read_back

pub returns-clause-laid : goal.returns-clause-laid
returns-clause-laid c = laid_as_data

pub returns-clause-kept : goal.returns-clause-kept
returns-clause-kept c = value_kept
