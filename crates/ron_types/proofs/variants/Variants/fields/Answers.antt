use Rattle.std.proofs.Common.{chars, map, subst}
use Rattle.std.proofs.lemmas.Result.{MatchResult-weaker}
use Rattle.ron_data_schema.specs.Shapes.{field_view}
use Rattle.ron_types.specs.FieldNames.{texts_of}
use Rattle.ron_types.specs.Parts.{shapes_in}
use Rattle.ron_types.specs.Rows.{AddsFields, named_tables}
use Rattle.ron_types.specs.Tables.{fields}
use Rattle.ron_types.proofs.VariantLemmas.{named_added, last_first}
use Rattle.ron_types.proofs.variants.Variants.fields.Goals as goal

pub returns : goal.returns
returns g c =
    let adds = subst (λ old. AddsFields (texts_of c.args.names.now) g.R.Row.tables (shapes_in c.args.self.now.parts) (map field_view old)
    (shapes_in c.add_fields.new.parts) (map field_view c.add_fields.new.fields.items)) c.in_ok-fields.ensures.items c.in_ok-add_fields.ensures in
    MatchResult-weaker c.push.result c.push.ensures
    (λ _ h. last_first _ _ (chars c.args.name.now) (fields (named_tables (texts_of c.args.names.now) g.R.Row.tables))
    (named_added _ _ (chars c.args.name.now) c.add_fields.new.parts (texts_of c.args.names.now) g.R.Row.tables _ c.requires h.0 adds h.1))
    (λ e h. h)
