use Rattle.ron_spec_grammar.proofs.Values.Normals.{normal_twice, normal_value}
use Rattle.ron_spec_grammar.proofs.values_have_normal_forms.Goals as goal

pub returns : goal.returns
returns c = record { normal = normal_twice; value = normal_value }
