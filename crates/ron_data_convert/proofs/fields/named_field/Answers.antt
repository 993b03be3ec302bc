use Rattle.std.proofs.Common.{◌≡◌, true, false, chars, ap, sym, ◌∙◌}
use Rattle.ron_value.specs.Tree.{text}
use Rattle.ron_value.specs.View.{tree_of}
use Rattle.ron_data_convert.proofs.BecomesLemmas.{unknown_or}
use Rattle.ron_data_convert.proofs.FieldLemmas.{key_kept, key_else, key_again, key_of_none}
use Rattle.ron_data_convert.proofs.fields.named_field.Goals as goal

pub returns-clause-value : goal.returns-clause-value
returns-clause-value c seen are =
    let key : tree_of c.args.key ≡ text c.as_str.result.now = c.in-Ok.ensures ∙ ap text (sym c.as_str.ensures.value) in
    key_kept c.args.list.now (tree_of c.args.key) c.as_str.result.now key seen c.args.found.now c.in-Some.index false c.in-Some.ensures
    (sym c.is_filled.ensures ∙ c.if-is_filled.false) are

pub returns-then-is_filled-clause-value : goal.returns-then-is_filled-clause-value
returns-then-is_filled-clause-value c seen are =
    let key : tree_of c.args.key ≡ text c.as_str.result.now = c.in-Ok.ensures ∙ ap text (sym c.as_str.ensures.value) in (
      sym (key_again c.args.list.now (tree_of c.args.key) c.as_str.result.now key seen c.in-Some.index c.in-Some.ensures),
      key_kept c.args.list.now (tree_of c.args.key) c.as_str.result.now key seen c.args.found.now c.in-Some.index true c.in-Some.ensures
          (sym c.is_filled.ensures ∙ c.if-is_filled.true) are,
    )

pub returns-then-list-clause-value : goal.returns-then-list-clause-value
returns-then-list-clause-value c seen are =
    let key : tree_of c.args.key ≡ text c.as_str.result.now = c.in-Ok.ensures ∙ ap text (sym c.as_str.ensures.value) in
    (chars c.as_str.result.now, key_else c.args.list.now (tree_of c.args.key) c.as_str.result.now key seen true c.in_default.ensures c.if-list.true)

pub returns-in_default-clause-value : goal.returns-in_default-clause-value
returns-in_default-clause-value c seen are =
    let key : tree_of c.args.key ≡ text c.as_str.result.now = c.in-Ok.ensures ∙ ap text (sym c.as_str.ensures.value) in
    unknown_or _ _ _ c.in_ok-unknown_field.ensures
    (key_of_none c.args.list.now (tree_of c.args.key) c.as_str.result.now key seen c.in_default.ensures)
    (key_else c.args.list.now (tree_of c.args.key) c.as_str.result.now key seen false c.in_default.ensures c.if-list.false)
