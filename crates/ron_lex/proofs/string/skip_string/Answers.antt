use Rattle.std.proofs.Common.{chars, ap, ◌∙◌}
use Rattle.ron_spec_words.specs.Scan.{left_by}
use Rattle.ron_lex.proofs.StringLemmas.{string_quoted, string_raw, string_none}
use Rattle.ron_lex.proofs.string.skip_string.Goals as goal

pub returns-in-Some : goal.returns-in-Some
returns-in-Some c = rw (string_quoted (chars c.args.text.now) _ c.in-Some.ensures) c.skip_content.ensures

pub returns-in_default-strip_char : goal.returns-in_default-strip_char
returns-in_default-strip_char c = ap left_by (string_none (chars c.args.text.now) c.in_default.ensures c.in_default-strip_char.ensures)

pub returns-in-Ok : goal.returns-in-Ok
returns-in-Ok c = ap left_by (string_raw (chars c.args.text.now) _ c.in-Some-strip_char.ensures ∙ c.in-Ok.ensures.value)

pub returns-in-Err : goal.returns-in-Err
returns-in-Err c = ap left_by (string_raw (chars c.args.text.now) _ c.in-Some-strip_char.ensures ∙ c.in-Err.ensures.value)
