use Rattle.std.proofs.Common.{flat_map, encode_utf8_all}
use Rattle.std.specs.Fmt.{HasWritten, IsPlainFormatter}
use Rattle.ron_base.specs.Escape.{escaped_char}
use Rattle.ron_base.proofs.escape.write_escaped.Given as goal

-- the characters so far are written
abbrev pub invariant-loop-c : goal.invariant-loop-c
invariant-loop-c g l = IsPlainFormatter l.fn.f → HasWritten g.W.Write.write_str_gives l.fn.f (encode_utf8_all (flat_map (escaped_char l.quotes) l.yielded)) l.f
