use Rattle.ron_types.proofs.LeafLaws.{booleans, characters, texts, units, values, raw_texts}
use Rattle.ron_types.proofs.laws.leaves.leaves_accept_their_data.Goals as goal

pub returns : goal.returns
returns c = record {
  booleans = booleans;
  characters = characters;
  texts = texts;
  units = units;
  values = values;
  raw_texts = raw_texts;
}
