use Rattle.std.proofs.Common.{refl, arith}
use Rattle.ron_base.specs.Escape.{short_escape}
use Rattle.ron_ser.proofs.EscapeLemmas.{by_letter}
use Rattle.ron_ser.proofs.escapes.letter_escape.Goals as goal

pub returns-in-0 : goal.returns-in-0
unfolding short_escape
returns-in-0 c = rw c.in-0.is (by_letter 0 48 (omega arith) refl)

pub returns-in-9 : goal.returns-in-9
unfolding short_escape
returns-in-9 c = rw c.in-9.is (by_letter 9 116 (omega arith) refl)

pub returns-in-13 : goal.returns-in-13
unfolding short_escape
returns-in-13 c = rw c.in-13.is (by_letter 13 114 (omega arith) refl)

pub returns-in-10 : goal.returns-in-10
unfolding short_escape
returns-in-10 c = rw c.in-10.is (by_letter 10 110 (omega arith) refl)

pub returns-in-92 : goal.returns-in-92
unfolding short_escape
returns-in-92 c = rw c.in-92.is (by_letter 92 92 (omega arith) refl)

pub returns-in-39 : goal.returns-in-39
unfolding short_escape
returns-in-39 c = rw c.in-39.is (by_letter 39 39 (omega arith) refl)

pub returns-in-34 : goal.returns-in-34
unfolding short_escape
returns-in-34 c = rw c.in-34.is (by_letter 34 34 (omega arith) refl)
