use Rattle.ron_types.proofs.RefusalLaws.{no_part, more_parts, own_or, one_part, two_parts}
use Rattle.ron_types.proofs.laws.refusals.tuples_refuse_as_data.Goals as goal

pub returns : goal.returns
returns g c =
    let P = g.A.Deserialize.refuses in
    let Q = g.B.Deserialize.refuses in
    let R = g.C.Deserialize.refuses in
    let S = g.D.Deserialize.refuses in
    record {
      one = λ a d. one_part P a;
      two = λ a b d. two_parts P Q a b;
      three = λ a b c d. own_or _ (more_parts P _ a (more_parts Q _ b (more_parts R _ c no_part)));
      four = λ a b c d from. own_or _ (more_parts P _ a (more_parts Q _ b (more_parts R _ c (more_parts S _ d no_part))));
    }
