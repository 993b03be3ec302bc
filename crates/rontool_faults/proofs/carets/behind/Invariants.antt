use denote.Shadow.{shadow}
use denote.Text.{Utf8}
use Rattle.std.proofs.Common.{◌≡◌, chars, drop}
use Rattle.rontool_faults.proofs.carets.behind.Given as goal

-- the rest is what follows the characters so far
abbrev pub invariant-loop-i : goal.invariant-loop-i
invariant-loop-i l = (chars l.rest ≡ drop l.i (chars l.text)) × shadow (Utf8 l.rest)
