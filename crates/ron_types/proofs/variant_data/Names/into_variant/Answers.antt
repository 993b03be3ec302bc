use Rattle.std.proofs.Common.{refl}
use Rattle.ron_types.proofs.variant_data.Names.into_variant.Goals as goal

pub returns : goal.returns
returns c = record {
  enum = c.args.self.name;
  own = c.args.self.variant;
  is = refl;
  enum_is = refl;
  own_is = refl;
}
