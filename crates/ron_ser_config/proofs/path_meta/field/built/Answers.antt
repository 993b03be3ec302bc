use Rattle.std.proofs.Common.{refl}
use Rattle.ron_ser_config.proofs.path_meta.field.built.Goals as goal

pub returns-in-Err-clause-refused : goal.returns-in-Err-clause-refused
returns-in-Err-clause-refused g c =
    (c.new-fields.result, _, c.new-fields.ensures, record { shown = _; shows = refl; left = _; met = c.in-Err.ensures; leaves = refl })
