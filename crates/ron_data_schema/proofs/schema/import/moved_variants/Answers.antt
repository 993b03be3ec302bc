use Rattle.ron_data_schema.specs.Shapes.{variant_view, moved_variant}
use Rattle.ron_data_schema.proofs.CopyLemmas.{all_made}
use Rattle.ron_data_schema.proofs.schema.import.moved_variants.Goals as goal

pub returns : goal.returns
returns c =
    let all = c.deref-name-items.ensures.value in
    all_made variant_view (moved_variant c.args.by) c.loop-name.copies.items c.args.variants.now.items c.loop-name.name-index (rw all at c.loop-name-test.false)
    (rw all at c.loop-name.invariant)
