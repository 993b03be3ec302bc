use Rattle.std.proofs.Common.{rules}
use Rattle.rontool_json.proofs.json.reads.Goals as goal

pub returns-in-Ok : goal.returns-in-Ok
returns-in-Ok c = λ is. record { value = _; reads = c.in-Ok.ensures.ok }
