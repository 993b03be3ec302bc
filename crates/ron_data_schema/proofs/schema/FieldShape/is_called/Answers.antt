use Rattle.std.proofs.Common.{◌||◌, sym, ap₂, ◌∙◌}
use Rattle.ron_data_schema.proofs.NameLemmas.{text_among}
use Rattle.ron_data_schema.proofs.schema.FieldShape.is_called.Goals as goal

pub returns-else-is_same : goal.returns-else-is_same
returns-else-is_same c =
    let named = rw c.as_str.ensures.value at c.is_same.ensures in
    let among = rw c.as_slice.ensures.value at c.is_text_among.ensures in
    ap₂ (λ a b. a || b) (sym c.if-is_same.false ∙ named) (among ∙ text_among _ c.args.self.now.aliases.items)
