use Rattle.std.proofs.Common.{sym, ap, ◌∙◌}
use Rattle.ron_spec_grammar.specs.Schema.{is_well_formed}
use Rattle.ron_data_schema.specs.Table.{shapes_of}
use Rattle.ron_types.proofs.SchemaLemmas.{puts_of, closed_behind}
use Rattle.ron_types.proofs.tables.Parts.add.Goals as goal

pub invariant_of-self : goal.invariant_of-self
invariant_of-self g c =
    let w = ap (is_well_formed (shapes_of c.in_ok-schema.schema)) (sym c.root.ensures.value) ∙ c.root.ensures.well_formed in
    record { closed = closed_behind c.import.result c.args.self.now.shapes.items _ c.in_ok-schema.schema c.args.self.now.closed w c.import.ensures.value }

pub returns-clause-value : goal.returns-clause-value
returns-clause-value g c =
    puts_of c.import.result c.args.self.now.shapes.items _ c.in_ok-schema.schema g.T.Schematic.schema_is c.in_ok-schema.ensures c.import.ensures.value
