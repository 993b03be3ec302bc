use Rattle.ron_de_raw.proofs.StretchLemmas.{open_is, closed_is}
use Rattle.ron_de_raw.proofs.stretch.leaves_open.Goals as goal

pub returns-in-Some : goal.returns-in-Some
returns-in-Some c = rw (c.is_ended.ensures, c.is_at.ensures) (closed_is _ _ c.in-Some.ensures)

pub returns-in-None : goal.returns-in-None
returns-in-None c = open_is _ c.in-None.ensures
