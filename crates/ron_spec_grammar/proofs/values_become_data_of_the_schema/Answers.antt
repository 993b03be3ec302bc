use Rattle.ron_spec_grammar.proofs.Values.Conversion.{converted}
use Rattle.ron_spec_grammar.proofs.values_become_data_of_the_schema.Goals as goal

pub returns : goal.returns
returns c = record { converted = converted }
