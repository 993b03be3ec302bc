use Rattle.std.proofs.Common.{chars}
use Rattle.ron_de_parts.proofs.KeptLemmas.{front_same, front_found}
use Rattle.ron_de_parts.proofs.kept.find_text.Goals as goal

pub returns-in_err-content-clause-found : goal.returns-in_err-content-clause-found
returns-in_err-content-clause-found c = λ ends begins. absurd (c.in_err-content.ensures _ ends begins.1)

pub returns-clause-same : goal.returns-clause-same
returns-clause-same c = front_same c.front_of.result (chars c.in_ok-content.content.now) (chars c.args.piece.now) c.front_of.ensures

pub returns-clause-found : goal.returns-clause-found
returns-clause-found c = λ ends begins. front_found c.front_of.result (chars c.in_ok-content.content.now) (chars c.args.piece.now) begins.0
    (c.in_ok-content.ensures _ ends begins.1) c.front_of.ensures
