use Rattle.std.proofs.Common.{chars}
use denote.Text.{Utf8}
use denote.Shadow.{shadow}
use Rattle.rontool_paths.specs.Stretch.{IsStretch}
use Rattle.rontool_paths.proofs.find.find_in.Given as goal

abbrev pub invariant-steps : goal.invariant-steps
invariant-steps l = shadow (Utf8 l.left) × IsStretch (chars l.fn.text) l.at
