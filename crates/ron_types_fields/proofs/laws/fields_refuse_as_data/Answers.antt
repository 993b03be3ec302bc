use Rattle.ron_types.specs.Faults.{NoPart}
use Rattle.ron_types.proofs.RefusalLaws.{no_part, more_parts}
use Rattle.ron_types_fields.proofs.laws.fields_refuse_as_data.Goals as goal

pub returns : goal.returns
returns g c = record {
  must = λ part. more_parts g.A.Deserialize.refuses NoPart part no_part;
  may = λ part. more_parts g.A.Deserialize.refuses NoPart part no_part;
  or = λ part. more_parts g.A.Deserialize.refuses NoPart part no_part;
}
