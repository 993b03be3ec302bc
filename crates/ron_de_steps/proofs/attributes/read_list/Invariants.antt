use Rattle.std.proofs.Common.{◌≡◌, length}
use Rattle.ron_lex.specs.Turns.{GoesOver}
use Rattle.ron_de_steps.proofs.AttributeLemmas.{NamesRead}
use Rattle.ron_de_steps.proofs.attributes.read_list.Given as goal

abbrev pub invariant-names : goal.invariant-names
invariant-names l = (l.cursor.text ≡ l.initial.cursor.text) × NamesRead l.found l.initial.cursor l.cursor × GoesOver 2 l.initial.cursor l.cursor

abbrev pub decreases-names : goal.decreases-names
decreases-names l = length l.cursor.rest
