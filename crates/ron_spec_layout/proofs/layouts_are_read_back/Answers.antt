use Rattle.ron_spec_layout.proofs.Depth.{no_deeper, as_deep}
use Rattle.ron_spec_layout.proofs.Keeping.{pending}
use Rattle.ron_spec_layout.proofs.Normal.{normal}
use Rattle.ron_spec_layout.proofs.PastLimit.{past_limit, at_any_level}
use Rattle.ron_spec_layout.proofs.Whole.{follows, is_spelled, is_back_same, is_read_back, is_read_back_first, are_alike, is_alone}
use Rattle.ron_spec_layout.proofs.layouts_are_read_back.Goals as goal

pub returns-clause-follows : goal.returns-clause-follows
returns-clause-follows c = follows

pub returns-clause-spelled : goal.returns-clause-spelled
returns-clause-spelled c = is_spelled

pub returns-clause-back : goal.returns-clause-back
returns-clause-back c = is_back_same

pub returns-clause-reads_back : goal.returns-clause-reads_back
returns-clause-reads_back c = is_read_back

pub returns-clause-first : goal.returns-clause-first
returns-clause-first c = is_read_back_first

pub returns-clause-alike : goal.returns-clause-alike
returns-clause-alike c = are_alike

pub returns-clause-pending : goal.returns-clause-pending
returns-clause-pending c d x level docs bare n e implicit = pending d x level docs implicit bare n e

pub returns-clause-past : goal.returns-clause-past
returns-clause-past c b x level docs bare n d h = past_limit b x d level h docs bare n

pub returns-clause-level : goal.returns-clause-level
returns-clause-level c = at_any_level

pub returns-clause-alone : goal.returns-clause-alone
returns-clause-alone c = is_alone

pub returns-clause-depth : goal.returns-clause-depth
returns-clause-depth c d e = (no_deeper d e, λ plain. as_deep d plain e)

pub returns-clause-normal : goal.returns-clause-normal
returns-clause-normal c = normal
