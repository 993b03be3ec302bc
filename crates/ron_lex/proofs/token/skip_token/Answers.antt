use Rattle.std.proofs.Common.{chars, sym, ◌∙◌}
use Rattle.ron_lex.proofs.TokenLemmas.{token_gap, token_string, token_bytes, token_char, token_other, token_plain, token_leaves, token_proper}
use Rattle.ron_lex.proofs.token.skip_token.Goals as goal

pub returns-then-opens_plain-clause-value : goal.returns-then-opens_plain-clause-value
returns-then-opens_plain-clause-value c = token_leaves (chars c.args.text.now) c.skip_run_or_one.result
    (token_plain (chars c.args.text.now) (sym c.opens_plain.ensures ∙ c.if-opens_plain.true)) c.skip_run_or_one.ensures

pub returns-then-opens_plain-clause-past : goal.returns-then-opens_plain-clause-past
returns-then-opens_plain-clause-past c = token_proper (chars c.args.text.now) c.skip_run_or_one.result
    (token_plain (chars c.args.text.now) (sym c.opens_plain.ensures ∙ c.if-opens_plain.true)) c.skip_run_or_one.ensures

pub returns-then-opens_gap-clause-value : goal.returns-then-opens_gap-clause-value
returns-then-opens_gap-clause-value c = token_leaves (chars c.args.text.now) c.skip_whole_gap.result
    (token_gap (chars c.args.text.now) (sym c.opens_gap.ensures ∙ c.if-opens_gap.true)) c.skip_whole_gap.ensures

pub returns-then-opens_gap-clause-past : goal.returns-then-opens_gap-clause-past
returns-then-opens_gap-clause-past c = token_proper (chars c.args.text.now) c.skip_whole_gap.result
    (token_gap (chars c.args.text.now) (sym c.opens_gap.ensures ∙ c.if-opens_gap.true)) c.skip_whole_gap.ensures

pub returns-then-opens_string-clause-value : goal.returns-then-opens_string-clause-value
returns-then-opens_string-clause-value c = token_leaves (chars c.args.text.now) c.skip_string.result (token_string (chars c.args.text.now)
    (sym c.opens_gap.ensures ∙ c.if-opens_gap.false) (sym c.opens_string.ensures ∙ c.if-opens_string.true)) c.skip_string.ensures

pub returns-then-opens_string-clause-past : goal.returns-then-opens_string-clause-past
returns-then-opens_string-clause-past c = token_proper (chars c.args.text.now) c.skip_string.result (token_string (chars c.args.text.now)
    (sym c.opens_gap.ensures ∙ c.if-opens_gap.false) (sym c.opens_string.ensures ∙ c.if-opens_string.true)) c.skip_string.ensures

pub returns-then-opens_byte_string-clause-value : goal.returns-then-opens_byte_string-clause-value
returns-then-opens_byte_string-clause-value c =
    token_leaves (chars c.args.text.now) c.skip_byte_string.result (token_bytes (chars c.args.text.now) (sym c.opens_gap.ensures ∙ c.if-opens_gap.false)
    (sym c.opens_string.ensures ∙ c.if-opens_string.false) (sym c.opens_byte_string.ensures ∙ c.if-opens_byte_string.true)) c.skip_byte_string.ensures

pub returns-then-opens_byte_string-clause-past : goal.returns-then-opens_byte_string-clause-past
returns-then-opens_byte_string-clause-past c =
    token_proper (chars c.args.text.now) c.skip_byte_string.result (token_bytes (chars c.args.text.now) (sym c.opens_gap.ensures ∙ c.if-opens_gap.false)
    (sym c.opens_string.ensures ∙ c.if-opens_string.false) (sym c.opens_byte_string.ensures ∙ c.if-opens_byte_string.true)) c.skip_byte_string.ensures

pub returns-then-is_at-clause-value : goal.returns-then-is_at-clause-value
returns-then-is_at-clause-value c = token_leaves (chars c.args.text.now) c.skip_char.result
    (token_char (chars c.args.text.now) (sym c.opens_gap.ensures ∙ c.if-opens_gap.false) (sym c.opens_string.ensures ∙ c.if-opens_string.false)
    (sym c.opens_byte_string.ensures ∙ c.if-opens_byte_string.false) (sym c.is_at.ensures ∙ c.if-is_at.true)) c.skip_char.ensures

pub returns-then-is_at-clause-past : goal.returns-then-is_at-clause-past
returns-then-is_at-clause-past c = token_proper (chars c.args.text.now) c.skip_char.result
    (token_char (chars c.args.text.now) (sym c.opens_gap.ensures ∙ c.if-opens_gap.false) (sym c.opens_string.ensures ∙ c.if-opens_string.false)
    (sym c.opens_byte_string.ensures ∙ c.if-opens_byte_string.false) (sym c.is_at.ensures ∙ c.if-is_at.true)) c.skip_char.ensures

pub returns-clause-value : goal.returns-clause-value
returns-clause-value c = token_leaves (chars c.args.text.now) c.skip_unquoted.result
    (token_other (chars c.args.text.now) (sym c.opens_gap.ensures ∙ c.if-opens_gap.false) (sym c.opens_string.ensures ∙ c.if-opens_string.false)
    (sym c.opens_byte_string.ensures ∙ c.if-opens_byte_string.false) (sym c.is_at.ensures ∙ c.if-is_at.false)) c.skip_unquoted.ensures

pub returns-clause-past : goal.returns-clause-past
returns-clause-past c = token_proper (chars c.args.text.now) c.skip_unquoted.result
    (token_other (chars c.args.text.now) (sym c.opens_gap.ensures ∙ c.if-opens_gap.false) (sym c.opens_string.ensures ∙ c.if-opens_string.false)
    (sym c.opens_byte_string.ensures ∙ c.if-opens_byte_string.false) (sym c.is_at.ensures ∙ c.if-is_at.false)) c.skip_unquoted.ensures
