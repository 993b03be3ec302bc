use Rattle.std.proofs.Common.{true, false, chars, string_bytes, ap, sym}
use Rattle.ron_value.specs.Tree.{text}
use Rattle.ron_data_convert.proofs.BecomesLemmas.{unknown_or}
use Rattle.ron_data_convert.proofs.FieldLemmas.{key_flagged, key_else, key_again, key_of_none}
use Rattle.ron_data_convert.proofs.fields.called_place.Goals as goal

pub returns-then-list-clause-value : goal.returns-then-list-clause-value
returns-then-list-clause-value c seen slots flags are = (
  chars c.as_str.result.now,
  key_else c.args.list.now (text (string_bytes c.args.name)) c.as_str.result.now (ap text (sym c.as_str.ensures.value)) seen true c.in_default.ensures
      c.if-list.true,
)

pub returns-in_default-clause-value : goal.returns-in_default-clause-value
returns-in_default-clause-value c seen slots flags are =
    unknown_or _ _ _ c.in_ok-unknown_field.ensures
    (key_of_none c.args.list.now (text (string_bytes c.args.name)) c.as_str.result.now (ap text (sym c.as_str.ensures.value)) seen c.in_default.ensures)
    (key_else c.args.list.now (text (string_bytes c.args.name)) c.as_str.result.now (ap text (sym c.as_str.ensures.value)) seen false c.in_default.ensures
    c.if-list.false)

pub returns-then-is_filled-index-clause-value : goal.returns-then-is_filled-index-clause-value
returns-then-is_filled-index-clause-value c seen slots flags are = (
  sym (key_again c.args.list.now (text (string_bytes c.args.name)) c.as_str.result.now (ap text (sym c.as_str.ensures.value)) seen c.in-Some.index
      c.in-Some.ensures),
  key_flagged c.args.list.now (text (string_bytes c.args.name)) c.as_str.result.now (ap text (sym c.as_str.ensures.value)) seen c.args.is_filled.now slots flags
      c.in-Some.index true c.in-Some.ensures c.if-is_filled-index.true are,
)

pub returns-clause-value : goal.returns-clause-value
returns-clause-value c seen slots flags are =
    key_flagged c.args.list.now (text (string_bytes c.args.name)) c.as_str.result.now (ap text (sym c.as_str.ensures.value)) seen c.args.is_filled.now slots
    flags c.in-Some.index false c.in-Some.ensures c.if-is_filled-index.false are
