use Rattle.std.proofs.Common.{chars, refl, [], ◌∷◌}
use Rattle.std.proofs.lemmas.Result.{IfErr-weaker}
use Rattle.ron_lex_text.specs.Parsed.{parsed_bytes}
use Rattle.ron_lex_text.proofs.StretchLemmas.{literals}
use Rattle.ron_lex.proofs.SplitLemmas.{raw_end, byte_string_proper, byte_string_past, failed_refusal, failed_err, refused_end, end_behind, end_past_two}
use Rattle.ron_lex.proofs.StringLemmas.{byte_string_quoted, byte_string_raw, byte_string_raw_failed, byte_string_none}
use Rattle.ron_lex.proofs.SliceLemmas.{bytes_escape_is_held, raw_bytes_kind, bytes_between, bytes_memory_held, quoted_bytes_slice, byte_slices_between}
use Rattle.ron_lex.proofs.CoverLemmas.{covered_behind, raw_bytes_gains, bytes_gains}
use Rattle.ron_lex.proofs.byte_string.split_byte_string.Goals as goal

pub returns-in-Some-clause-value : goal.returns-in-Some-clause-value
unfolding literals
returns-in-Some-clause-value c = rw (byte_string_quoted (chars c.args.text.now) (chars c.in-Some.content.now) c.in-Some.ensures) c.split_quoted.ensures.value

pub returns-in-Some-clause-slice : goal.returns-in-Some-clause-slice
unfolding literals
returns-in-Some-clause-slice c =
    quoted_bytes_slice _ _ (chars c.in-Some.content.now) c.in-Some.ensures c.split_quoted.ensures.value c.split_quoted.ensures.slice

pub returns-in-Some-clause-between : goal.returns-in-Some-clause-between
unfolding literals
returns-in-Some-clause-between c =
    byte_slices_between _ _ (rw (byte_string_quoted (chars c.args.text.now) (chars c.in-Some.content.now) c.in-Some.ensures) c.split_quoted.ensures.value)
    (quoted_bytes_slice _ _ (chars c.in-Some.content.now) c.in-Some.ensures c.split_quoted.ensures.value c.split_quoted.ensures.slice)

pub returns-in-Some-clause-memory : goal.returns-in-Some-clause-memory
unfolding literals
returns-in-Some-clause-memory c = bytes_memory_held _ _ (chars c.in-Some.content.now) c.in-Some.ensures c.split_quoted.ensures.memory

pub returns-in-Some-clause-err_end : goal.returns-in-Some-clause-err_end
unfolding literals
returns-in-Some-clause-err_end c =
    IfErr-weaker _ _ _ (λ e k. end_behind 98 _ _ e c.in-Some.ensures (end_behind 34 _ (chars c.in-Some.content.now) e refl k)) c.split_quoted.ensures.err_end

pub returns-in_default-strip_text-clause-value : goal.returns-in_default-strip_text-clause-value
unfolding literals
returns-in_default-strip_text-clause-value c =
    failed_err parsed_bytes c.into.result _ (byte_string_none (chars c.args.text.now) c.in_default.ensures c.in_default-strip_text.ensures)

pub returns-in_err-content-clause-value : goal.returns-in_err-content-clause-value
unfolding literals
returns-in_err-content-clause-value c =
    failed_refusal _ _ _ c.from_residual.ensures.0
    (byte_string_raw_failed (chars c.args.text.now) (chars c.in-Some-strip_text.marked.now) c.in-Some-strip_text.ensures c.in_err-content.ensures.value)

pub returns-in_err-content-clause-err_end : goal.returns-in_err-content-clause-err_end
unfolding literals
returns-in_err-content-clause-err_end c = refused_end _ _ _ c.from_residual.ensures.1
    (end_past_two 98 114 _ (chars c.in-Some-strip_text.marked.now) _ c.in-Some-strip_text.ensures c.in_err-content.ensures.err_end)

pub returns-clause-value : goal.returns-clause-value
unfolding literals
returns-clause-value c =
    rw c.as_bytes.ensures.value
    (byte_string_raw (chars c.args.text.now) (chars c.in-Some-strip_text.marked.now) _ c.in_ok-content.content.now
    (rw c.as_bytes.ensures.value at c.as_bytes.ensures.utf8) c.in-Some-strip_text.ensures c.in_ok-content.ensures.value)

pub returns-clause-between : goal.returns-clause-between
unfolding literals returns-clause-value
returns-clause-between c s =
    bytes_between _ _ c.as_bytes.result.now _ (returns-clause-value c)
    (raw_bytes_kind (chars c.args.text.now) (chars c.in-Some-strip_text.marked.now) _ c.in-Some-strip_text.ensures) refl

pub returns-in-Some-clause-past : goal.returns-in-Some-clause-past
unfolding literals
returns-in-Some-clause-past c = byte_string_past parsed_bytes _ _
    (rw (byte_string_quoted (chars c.args.text.now) (chars c.in-Some.content.now) c.in-Some.ensures) c.split_quoted.ensures.value)

pub returns-clause-past : goal.returns-clause-past
unfolding literals returns-clause-value
returns-clause-past c = byte_string_proper _ _ c.as_bytes.result.now (returns-clause-value c)

pub returns-in-Some-clause-escaped : goal.returns-in-Some-clause-escaped
unfolding literals
returns-in-Some-clause-escaped c =
    bytes_escape_is_held _ _ (bytes_memory_held _ _ (chars c.in-Some.content.now) c.in-Some.ensures c.split_quoted.ensures.memory)

pub returns-in-Some-clause-covered : goal.returns-in-Some-clause-covered
unfolding literals
returns-in-Some-clause-covered c = covered_behind (98 ∷ 34 ∷ []) _ (chars c.in-Some.content.now) _ _ _ c.in-Some.ensures c.split_quoted.ensures.covered

pub returns-clause-covered : goal.returns-clause-covered
unfolding literals
returns-clause-covered c = c.pass_twice.ensures.most

pub returns-in-Some-clause-least : goal.returns-in-Some-clause-least
unfolding literals
returns-in-Some-clause-least c = bytes_gains _ (chars c.in-Some.content.now) _ _ _ c.in-Some.ensures c.split_quoted.ensures.least

pub returns-clause-least : goal.returns-clause-least
unfolding literals
returns-clause-least c =
    raw_bytes_gains (chars c.args.text.now) (chars c.in-Some-strip_text.marked.now) _ _ _ c.in-Some-strip_text.ensures c.pass_twice.ensures.least

pub pass_twice-requires : goal.pass_twice-requires
unfolding literals
pass_twice-requires c = end_past_two 98 114 _ (chars c.in-Some-strip_text.marked.now) _ c.in-Some-strip_text.ensures
    (raw_end _ _ (chars c.in_ok-content.content.now) c.in_ok-content.ensures.value)
