use Rattle.ron_ser.proofs.escapes.+write_hexadecimal.Given as goal

abbrev pub decreases-write_hexadecimal : goal.decreases-write_hexadecimal
decreases-write_hexadecimal g l = l.n
