use Rattle.ron_example_types.proofs.types.shape.ShapeSchematic.schema.Goals as goal

pub schema-requires-clause-added : goal.schema-requires-clause-added
schema-requires-clause-added c = c.in_ok-fields.ensures _ (c.in_ok-tuple.ensures _ (c.in_ok-newtype.ensures _ (c.in_ok-unit.ensures _ c.new-variants.ensures)))
