use Rattle.ron_spec_layout.proofs.RangeLaw.{range_law}
use Rattle.ron_spec_layout.proofs.ranges_are_read_back.Goals as goal

pub returns : goal.returns
returns c = record { spelled = range_law }
