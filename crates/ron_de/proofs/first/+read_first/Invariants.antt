use Rattle.ron_spec_grammar.specs.Room.{rank}
use Rattle.ron_de.proofs.first.+read_first.Given as goal

-- what an option or a newtype holds has a shorter chain
abbrev pub decreases-read_first : goal.decreases-read_first
decreases-read_first l = rank l.context.now.schema l.index
