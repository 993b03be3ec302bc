use Rattle.std.proofs.Common.{chars, refl, ◌∙◌, [], ◌∷◌}
use Rattle.std.proofs.lemmas.Result.{IfErr-weaker}
use Rattle.ron_lex_text.specs.Parsed.{parsed_text}
use Rattle.ron_lex_text.proofs.StretchLemmas.{end_past_char}
use Rattle.ron_lex.proofs.SplitLemmas.{raw_end, string_proper, string_past, failed_refusal, failed_err, refused_end, end_behind}
use Rattle.ron_lex.proofs.StringLemmas.{string_quoted, string_raw, string_none}
use Rattle.ron_lex.proofs.SliceLemmas.{escape_is_held, raw_kind, slice_between, memory_held, quoted_slice, slices_between}
use Rattle.ron_lex.proofs.CoverLemmas.{covered_behind, raw_gains, string_gains}
use Rattle.ron_lex.proofs.string.split_string.Goals as goal

pub returns-in-Some-clause-value : goal.returns-in-Some-clause-value
returns-in-Some-clause-value c = rw (string_quoted _ _ c.in-Some.ensures) c.split_quoted.ensures.value

pub returns-in-Some-clause-slice : goal.returns-in-Some-clause-slice
returns-in-Some-clause-slice c = quoted_slice _ _ _ c.in-Some.ensures c.split_quoted.ensures.value c.split_quoted.ensures.slice

pub returns-in-Some-clause-between : goal.returns-in-Some-clause-between
returns-in-Some-clause-between c =
    slices_between _ _ (rw (string_quoted _ _ c.in-Some.ensures) c.split_quoted.ensures.value)
    (quoted_slice _ _ _ c.in-Some.ensures c.split_quoted.ensures.value c.split_quoted.ensures.slice)

pub returns-in-Some-clause-memory : goal.returns-in-Some-clause-memory
returns-in-Some-clause-memory c = memory_held _ _ _ c.in-Some.ensures c.split_quoted.ensures.memory

pub returns-in-Some-clause-err_end : goal.returns-in-Some-clause-err_end
returns-in-Some-clause-err_end c = IfErr-weaker _ _ _ (λ e k. end_behind _ _ _ e c.in-Some.ensures k) c.split_quoted.ensures.err_end

pub returns-in_default-strip_char-clause-value : goal.returns-in_default-strip_char-clause-value
returns-in_default-strip_char-clause-value c =
    failed_err parsed_text c.into.result _ (string_none (chars c.args.text.now) c.in_default.ensures c.in_default-strip_char.ensures)

pub returns-in_err-content-clause-value : goal.returns-in_err-content-clause-value
returns-in_err-content-clause-value c =
    failed_refusal _ _ _ c.from_residual.ensures.0 (string_raw _ _ c.in-Some-strip_char.ensures ∙ c.in_err-content.ensures.value)

pub returns-in_err-content-clause-err_end : goal.returns-in_err-content-clause-err_end
returns-in_err-content-clause-err_end c =
    refused_end _ _ _ c.from_residual.ensures.1 (end_past_char _ _ _ _ c.in-Some-strip_char.ensures c.in_err-content.ensures.err_end)

pub returns-clause-value : goal.returns-clause-value
returns-clause-value c = string_raw _ _ c.in-Some-strip_char.ensures ∙ c.in_ok-content.ensures.value

pub returns-clause-between : goal.returns-clause-between
returns-clause-between c s =
    slice_between _ _ _ _ (string_raw _ _ c.in-Some-strip_char.ensures ∙ c.in_ok-content.ensures.value) (raw_kind _ _ _ c.in-Some-strip_char.ensures) refl

pub returns-in-Some-clause-past : goal.returns-in-Some-clause-past
returns-in-Some-clause-past c = string_past parsed_text _ _ (rw (string_quoted _ _ c.in-Some.ensures) c.split_quoted.ensures.value)

pub returns-clause-past : goal.returns-clause-past
returns-clause-past c = string_proper _ _ (chars c.in_ok-content.content.now) (string_raw _ _ c.in-Some-strip_char.ensures ∙ c.in_ok-content.ensures.value)

pub returns-in-Some-clause-escaped : goal.returns-in-Some-clause-escaped
returns-in-Some-clause-escaped c = escape_is_held _ _ (memory_held _ _ _ c.in-Some.ensures c.split_quoted.ensures.memory)

pub returns-in-Some-clause-covered : goal.returns-in-Some-clause-covered
returns-in-Some-clause-covered c = covered_behind (34 ∷ []) _ _ _ _ _ c.in-Some.ensures c.split_quoted.ensures.covered

pub returns-clause-covered : goal.returns-clause-covered
returns-clause-covered c = c.pass_twice.ensures.most

pub returns-in-Some-clause-least : goal.returns-in-Some-clause-least
returns-in-Some-clause-least c = string_gains _ _ _ _ _ c.in-Some.ensures c.split_quoted.ensures.least

pub returns-clause-least : goal.returns-clause-least
returns-clause-least c = raw_gains (chars c.args.text.now) _ _ _ _ c.in-Some-strip_char.ensures c.pass_twice.ensures.least

pub pass_twice-requires : goal.pass_twice-requires
pass_twice-requires c =
    end_past_char _ _ _ _ c.in-Some-strip_char.ensures (raw_end _ _ (chars c.in_ok-content.content.now) c.in_ok-content.ensures.value)
