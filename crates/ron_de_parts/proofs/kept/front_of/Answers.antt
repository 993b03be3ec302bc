use Rattle.std.proofs.Common.{sym, ◌∙◌}
use Rattle.std.proofs.lemmas.List.{append_cancel_right}
use Rattle.ron_de_parts.proofs.kept.front_of.Goals as goal

pub before-requires : goal.before-requires
before-requires c = record { front = _; is = c.in_ok-rest.ensures }

pub returns : goal.returns
returns c = append_cancel_right _ _ _ (sym c.before-2.ensures ∙ c.in_ok-rest.ensures)
