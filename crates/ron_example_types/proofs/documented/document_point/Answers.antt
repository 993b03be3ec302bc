use Rattle.ron_example_types.proofs.documented.document_point.Goals as goal

pub returns : goal.returns
returns c = rw (c.default.ensures.0, c.default.ensures.1, c.in_ok-schema.ensures, c.in_ok-config.ensures) at c.lay_out.ensures
