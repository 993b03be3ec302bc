use Rattle.ron_types.proofs.laws.refusals.leaves_refuse_as_data.Goals as goal

pub returns : goal.returns
returns c = record {
  booleans = λ d e h. h;
  characters = λ d e h. h;
  texts = λ d e h. h;
  borrowed_texts = λ d e h. h.0;
  units = λ d e h. h;
  values = λ d e h. h;
  raw_texts = λ d e h. h;
}
