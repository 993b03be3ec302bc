use Rattle.std.proofs.Common.{◌∙◌, ap}
use Rattle.ron_spec_grammar.specs.Raw.{raw_valid}
use Rattle.ron_de_raw.proofs.raw.RawValue.borrowed_from.Goals as goal

pub of_slice-requires : goal.of_slice-requires
of_slice-requires c = ap raw_valid c.requires ∙ c.args.self.now.valid
