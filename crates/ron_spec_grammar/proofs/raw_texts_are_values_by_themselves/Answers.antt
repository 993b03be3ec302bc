use Rattle.std.proofs.Common.{[]}
use Rattle.ron_spec_grammar.specs.Data.{raw_of}
use Rattle.ron_spec_grammar.proofs.Raw.Moves.{value_moves}
use Rattle.ron_spec_grammar.proofs.Raw.Bodies.{raw_sound, raw_complete, valid_value, value_valid, within_gaps, taken_body, trimmed_value, without_value}
use Rattle.ron_spec_grammar.proofs.Place.{of_schema}
use Rattle.ron_spec_grammar.proofs.raw_texts_are_values_by_themselves.Goals as goal

pub returns : goal.returns
returns c = record {
  value = λ text t. (raw_sound text t, raw_complete text t);
  valid = λ text. (λ h. let v = valid_value text h in (v.0, raw_sound text v.0 v.1), λ b. value_valid text b.0 (raw_complete text b.0 b.1));
  moves = value_moves;
  alone = λ before g core h next t z f gg gh. raw_complete _ t (within_gaps before core [] t g h next z f gg gh);
  taken = λ at_start place before core after next t z f g h. raw_complete _ t (taken_body before core after t at_start next place z f g h);
  spelled = λ at_start x schema root i room before s next text well z. (of_schema at_start x schema i root room before s next (raw_of text) well z).1;
  trimmed = trimmed_value;
  without_gaps = without_value;
}
