use Rattle.std.proofs.Common.{List, ap}
use Rattle.ron_spec_grammar.specs.Schema as plain
use Rattle.ron_data_schema.specs.Shapes.{field_view, moved_field}
use Rattle.ron_data_schema.proofs.CopyLemmas.{all_made}
use Rattle.ron_data_schema.proofs.schema.import.moved_list.Goals as goal

pub returns : goal.returns
returns c =
    let all = c.deref-field-items.ensures.value in
    let with_fields : List plain.Field → plain.FieldList = λ fields. record { fields = fields; skips_unknown = c.args.list.now.skip_unknown } in
    ap with_fields (all_made field_view (moved_field c.args.by) c.loop-field.fields.items c.args.list.now.fields.items c.loop-field.field-index
    (rw all at c.loop-field-test.false) (rw all at c.loop-field.invariant))
