use Rattle.std.proofs.Common.{false, ap, sym, ◌∙◌}
use Rattle.ron_value.specs.Tree.{text}
use Rattle.ron_value.specs.View.{tree_of}
use Rattle.ron_data_convert.proofs.FieldLemmas.{key_flagged}
use Rattle.ron_data_convert.proofs.TreeLemmas.{of_text}
use Rattle.ron_data_convert.proofs.fields.named_place.Goals as goal

pub returns-then-not-is_filled-index-clause-value : goal.returns-then-not-is_filled-index-clause-value
returns-then-not-is_filled-index-clause-value c seen slots flags are =
    key_flagged c.args.list.now (tree_of c.args.key) c.as_str.result.now (ap tree_of c.in-String.is ∙ of_text c.in-String.name ∙ ap text
    (sym c.as_str.ensures.value)) seen c.args.is_filled.now slots flags c.in-Some.index false c.in-Some.ensures.index c.if-not-is_filled-index.true are
