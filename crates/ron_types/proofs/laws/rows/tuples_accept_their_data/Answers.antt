use Rattle.std.proofs.Common.{[], ◌∷◌}
use Rattle.ron_types.specs.Lists.{Then, NoMore}
use Rattle.ron_types.proofs.RowLaws.{no_items, more_items, tuples}
use Rattle.ron_types.proofs.laws.rows.tuples_accept_their_data.Goals as goal

pub returns : goal.returns
returns g c =
    let ta = g.A.Schematic.schema_is in
    let tb = g.B.Schematic.schema_is in
    let tc = g.C.Schematic.schema_is in
    let td = g.D.Schematic.schema_is in
    let pa = g.A.Schematic.accepts in
    let pb = g.B.Schematic.accepts in
    let pc = g.C.Schematic.accepts in
    let pd = g.D.Schematic.accepts in
    record {
      one = λ a. tuples (ta ∷ []) (Then pa NoMore) (more_items ta [] pa a NoMore no_items);
      two = λ a b. tuples (ta ∷ tb ∷ []) (Then pa (Then pb NoMore)) (more_items ta (tb ∷ []) pa a (Then pb NoMore) (more_items tb [] pb b NoMore no_items));
      three = λ a b c. tuples (ta ∷ tb ∷ tc ∷ []) (Then pa (Then pb (Then pc NoMore)))
          (more_items ta (tb ∷ tc ∷ []) pa a (Then pb (Then pc NoMore))
          (more_items tb (tc ∷ []) pb b (Then pc NoMore) (more_items tc [] pc c NoMore no_items)));
      four = λ a b c d. tuples (ta ∷ tb ∷ tc ∷ td ∷ []) (Then pa (Then pb (Then pc (Then pd NoMore))))
          (more_items ta (tb ∷ tc ∷ td ∷ []) pa a (Then pb (Then pc (Then pd NoMore))) (more_items tb (tc ∷ td ∷ []) pb b (Then pc (Then pd NoMore))
          (more_items tc (td ∷ []) pc c (Then pd NoMore) (more_items td [] pd d NoMore no_items))));
    }
