use Rattle.ron_de_raw.proofs.raw.RawValue.as_borrowed.Goals as goal

pub of_slice-requires : goal.of_slice-requires
of_slice-requires c = c.get_ron.ensures.valid
