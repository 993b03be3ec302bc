use Rattle.std.proofs.Common.{chars, drop, length, ap, ◌∙◌}
use Rattle.ron_spec_words.proofs.Direct.{begins-drop}
use Rattle.ron_de_parts.proofs.KeptLemmas.{front_same, front_found}
use Rattle.ron_de_parts.proofs.kept.find_front.Goals as goal

pub returns-in_err-end-clause-found : goal.returns-in_err-end-clause-found
returns-in_err-end-clause-found c = λ ends begins. absurd (c.in_err-end.ensures ends)

pub returns-clause-same : goal.returns-clause-same
returns-clause-same c = front_same c.front_of.result (chars c.in_ok-end.end.now) (chars c.args.piece.now) c.front_of.ensures

pub returns-clause-found : goal.returns-clause-found
returns-clause-found c = λ ends begins.
    front_found c.front_of.result (chars c.in_ok-end.end.now) (chars c.args.piece.now) (drop (length (chars c.args.piece.now)) (chars c.args.start.now))
    (ap chars (c.in_ok-end.ensures ends) ∙ begins-drop (chars c.args.piece.now) (chars c.args.start.now) begins) c.front_of.ensures
