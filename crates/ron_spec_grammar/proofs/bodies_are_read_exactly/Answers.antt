use Rattle.ron_spec_grammar.proofs.Whole.{sound, complete, any_gaps, unique, monotone, too_deep, bounded}
use Rattle.ron_spec_grammar.proofs.Place.{formed_parts, of_schema}
use Rattle.ron_spec_grammar.proofs.Depth.{depth_within, within_depth}
use Rattle.ron_spec_grammar.proofs.bodies_are_read_exactly.Goals as goal

pub returns-clause-exact : goal.returns-clause-exact
returns-clause-exact c at_start x schema root limit text d = (sound at_start x schema root limit text d, complete at_start x schema root limit text d)

pub returns-clause-any_gaps : goal.returns-clause-any_gaps
returns-clause-any_gaps c = any_gaps

pub returns-clause-unique : goal.returns-clause-unique
returns-clause-unique c = unique

pub returns-clause-monotone : goal.returns-clause-monotone
returns-clause-monotone c = monotone

pub returns-clause-deep : goal.returns-clause-deep
returns-clause-deep c = too_deep

pub returns-clause-bounded : goal.returns-clause-bounded
returns-clause-bounded c at_start x schema root n text d well = bounded at_start x schema root (formed_parts schema root well).0 n text d

pub returns-clause-depth : goal.returns-clause-depth
returns-clause-depth c x schema root limit text d well = (
  λ z. ((limit, z), depth_within x schema root text d limit z),
  λ z. within_depth x schema root text d (formed_parts schema root well).0 z.0.0 limit z.0.1 z.1,
)

pub returns-clause-of_schema : goal.returns-clause-of_schema
returns-clause-of_schema c at_start x schema root limit text d h z = of_schema at_start x schema root root limit z.before z.value z.after d h z.spelled
