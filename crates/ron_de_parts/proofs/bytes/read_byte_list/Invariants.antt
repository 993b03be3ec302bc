use Rattle.std.proofs.Common.{◌≡◌, length}
use Rattle.ron_lex.specs.Turns.{GoesOver}
use Rattle.ron_de_steps.specs.Spends.{Nears}
use Rattle.ron_de_parts.proofs.ByteLemmas.{BytesRead}
use Rattle.ron_de_parts.proofs.bytes.read_byte_list.Given as goal

abbrev pub invariant-items : goal.invariant-items
invariant-items l = (l.cursor.text ≡ l.initial.cursor.text) × BytesRead l.context l.bytes.items l.initial.cursor l.cursor × GoesOver 1 l.initial.cursor l.cursor
    × Nears l.initial.cursor l.cursor

abbrev pub decreases-items : goal.decreases-items
decreases-items l = length l.cursor.rest
