use Rattle.std.proofs.Common.{chars, ap}
use Rattle.ron_spec_words.specs.Scan.{left_by}
use Rattle.ron_lex_text.proofs.StretchLemmas.{literals}
use Rattle.ron_lex.proofs.StringLemmas.{byte_string_quoted, byte_string_raw_failed, byte_string_none}
use Rattle.ron_lex.proofs.SkipLemmas.{skip_raw_bytes}
use Rattle.ron_lex.proofs.byte_string.skip_byte_string.Goals as goal

pub returns-in-Some : goal.returns-in-Some
unfolding literals
returns-in-Some c = rw (byte_string_quoted (chars c.args.text.now) _ c.in-Some.ensures) c.skip_content.ensures

pub returns-in_default-strip_text : goal.returns-in_default-strip_text
unfolding literals
returns-in_default-strip_text c = ap left_by (byte_string_none (chars c.args.text.now) c.in_default.ensures c.in_default-strip_text.ensures)

pub returns-in-Ok : goal.returns-in-Ok
unfolding literals
returns-in-Ok c = skip_raw_bytes (chars c.args.text.now) _ _ _ c.in-Some-strip_text.ensures c.in-Ok.ensures.value

pub returns-in-Err : goal.returns-in-Err
unfolding literals
returns-in-Err c = ap left_by (byte_string_raw_failed (chars c.args.text.now) _ c.in-Some-strip_text.ensures c.in-Err.ensures.value)
