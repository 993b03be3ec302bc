use Rattle.ron_spec_grammar.proofs.Values.Place.{sound, complete, unique, monotone, too_deep, bounded, roomy, value_spelled, walk, bare_walk, bare_sound}
use Rattle.ron_spec_grammar.proofs.Values.Place.{bare_complete}
use Rattle.ron_spec_grammar.proofs.untyped_values_are_read_exactly.Goals as goal

pub returns-clause-sound : goal.returns-clause-sound
returns-clause-sound c = sound

pub returns-clause-complete : goal.returns-clause-complete
returns-clause-complete c = complete

pub returns-clause-unique : goal.returns-clause-unique
returns-clause-unique c = unique

pub returns-clause-monotone : goal.returns-clause-monotone
returns-clause-monotone c = monotone

pub returns-clause-deep : goal.returns-clause-deep
returns-clause-deep c = too_deep

pub returns-clause-bounded : goal.returns-clause-bounded
returns-clause-bounded c = bounded

pub returns-clause-enough : goal.returns-clause-enough
returns-clause-enough c = roomy

pub returns-clause-values : goal.returns-clause-values
returns-clause-values c = value_spelled

pub returns-clause-walk : goal.returns-clause-walk
returns-clause-walk c = walk

pub returns-clause-bare_walk : goal.returns-clause-bare_walk
returns-clause-bare_walk c = bare_walk

pub returns-clause-bare_sound : goal.returns-clause-bare_sound
returns-clause-bare_sound c = bare_sound

pub returns-clause-bare_complete : goal.returns-clause-bare_complete
returns-clause-bare_complete c = bare_complete
