use Rattle.ron_spec_grammar.proofs.Place.{formed_parts, sound, complete, unique, monotone, too_deep, bounded, roomy, of_schema, walk, bare_walk}
use Rattle.ron_spec_grammar.proofs.values_are_read_exactly.Goals as goal

pub returns-clause-sound : goal.returns-clause-sound
returns-clause-sound c = sound

pub returns-clause-complete : goal.returns-clause-complete
returns-clause-complete c = complete

pub returns-clause-unique : goal.returns-clause-unique
returns-clause-unique c = unique

pub returns-clause-monotone : goal.returns-clause-monotone
returns-clause-monotone c = monotone

pub returns-clause-deep : goal.returns-clause-deep
returns-clause-deep c = too_deep

pub returns-clause-bounded : goal.returns-clause-bounded
returns-clause-bounded c at_start x schema root i n before t next d well = bounded at_start x schema i (formed_parts schema root well).0 n before t next d

pub returns-clause-enough : goal.returns-clause-enough
returns-clause-enough c at_start x schema root bare i room before s well = roomy at_start x schema i (formed_parts schema root well).0 bare room before s

pub returns-clause-of_schema : goal.returns-clause-of_schema
returns-clause-of_schema c at_start x schema root i = of_schema at_start x schema i root

pub returns-clause-walk : goal.returns-clause-walk
returns-clause-walk c at_start x schema i = walk at_start x schema i

pub returns-clause-bare_walk : goal.returns-clause-bare_walk
returns-clause-bare_walk c at_start x schema i = bare_walk at_start x schema i
