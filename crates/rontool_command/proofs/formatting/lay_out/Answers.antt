use Rattle.std.proofs.Common.{chars, string_bytes}
use Rattle.rontool_command.proofs.KeptLemmas.{relaid_behind}
use Rattle.rontool_command.proofs.formatting.lay_out.Goals as goal

pub returns-in-Ok : goal.returns-in-Ok
returns-in-Ok c =
    relaid_behind (chars c.args.text.now) (chars c.behind_mark.result.now) (chars (string_bytes c.in_ok-laid.laid)) (chars (string_bytes c.in-Ok.marked))
    c.behind_mark.ensures c.in-Ok.ensures (record { words = c.in_ok-laid.ensures.words; comments = c.in_ok-laid.ensures.comments })
