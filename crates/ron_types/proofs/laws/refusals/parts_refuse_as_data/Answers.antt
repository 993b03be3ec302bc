use Rattle.ron_types.proofs.RefusalLaws.{own_or, one_part}
use Rattle.ron_types.proofs.laws.refusals.parts_refuse_as_data.Goals as goal

pub returns : goal.returns
returns g c = record {
  options = λ part d. one_part g.T.Deserialize.refuses part;
  boxes = λ part d. own_or (g.T.Deserialize.refuses d) (part d);
  lists = λ part d. one_part g.T.Deserialize.refuses part;
}
