use Rattle.std.proofs.Common.{refl, sym}
use Rattle.ron_base.specs.Escape.{short_byte}
use Rattle.ron_base.proofs.ByteLemmas.{byte_short}
use Rattle.ron_ser.proofs.escapes.letter_byte_escape.Goals as goal

pub returns-in-9 : goal.returns-in-9
unfolding short_byte
returns-in-9 c = rw c.in-9.is (sym (byte_short 9 116 refl))

pub returns-in-13 : goal.returns-in-13
unfolding short_byte
returns-in-13 c = rw c.in-13.is (sym (byte_short 13 114 refl))

pub returns-in-10 : goal.returns-in-10
unfolding short_byte
returns-in-10 c = rw c.in-10.is (sym (byte_short 10 110 refl))

pub returns-in-92 : goal.returns-in-92
unfolding short_byte
returns-in-92 c = rw c.in-92.is (sym (byte_short 92 92 refl))

pub returns-in-39 : goal.returns-in-39
unfolding short_byte
returns-in-39 c = rw c.in-39.is (sym (byte_short 39 39 refl))

pub returns-in-34 : goal.returns-in-34
unfolding short_byte
returns-in-34 c = rw c.in-34.is (sym (byte_short 34 34 refl))
