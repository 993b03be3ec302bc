use Rattle.std.proofs.Common.{◌≡◌, true, false, chars, sym, ◌∙◌}
use Rattle.ron_spec_words.proofs.TokenRuns.{no_raw_name}
use Rattle.ron_lex_text.proofs.StretchLemmas.{past_is_end}
use Rattle.ron_lex.proofs.IdentifierLemmas.{name_raw, name_literal, name_plain}
use Rattle.ron_lex.proofs.UntypedLemmas.{raw_opens}
use Rattle.ron_lex.proofs.TurnLemmas.{behind_raw, look_here}
use Rattle.ron_lex.proofs.identifier.split_name.Goals as goal

pub returns-in-Ok-clause-value : goal.returns-in-Ok-clause-value
returns-in-Ok-clause-value c = rw (name_raw (chars c.args.text.now) (sym c.has_raw_mark.ensures ∙ c.if-has_raw_mark.true)) c.in-Ok.ensures.value

pub returns-in-Err-clause-value : goal.returns-in-Err-clause-value
returns-in-Err-clause-value c = rw (name_raw (chars c.args.text.now) (sym c.has_raw_mark.ensures ∙ c.if-has_raw_mark.true)) c.in-Err.ensures.value

pub returns-in-Ok-clause-seen : goal.returns-in-Ok-clause-seen
returns-in-Ok-clause-seen c = behind_raw _ _ _ c.in-Ok.ensures.value (past_is_end _ _ c.in-Ok.ensures.past)

pub returns-in-Err-clause-seen : goal.returns-in-Err-clause-seen
returns-in-Err-clause-seen c = look_here _

pub returns-then-opens_literal-clause-value : goal.returns-then-opens_literal-clause-value
returns-then-opens_literal-clause-value c =
    name_literal (chars c.args.text.now) (sym c.has_raw_mark.ensures ∙ c.if-has_raw_mark.false) (sym c.opens_literal.ensures ∙ c.if-opens_literal.true)

pub returns-then-opens_literal-clause-seen : goal.returns-then-opens_literal-clause-seen
returns-then-opens_literal-clause-seen c = look_here _

pub plain_identifier-requires : goal.plain_identifier-requires
plain_identifier-requires c = no_raw_name (chars c.args.text.now) (sym c.has_raw_mark.ensures ∙ c.if-has_raw_mark.false)

pub returns-clause-value : goal.returns-clause-value
returns-clause-value c =
    rw (name_plain (chars c.args.text.now) (sym c.has_raw_mark.ensures ∙ c.if-has_raw_mark.false) (sym c.opens_literal.ensures ∙ c.if-opens_literal.false))
    c.plain_identifier.ensures.value

pub returns-in-Err-clause-run : goal.returns-in-Err-clause-run
returns-in-Err-clause-run c h =
    absurd (let z : true ≡ false = sym (raw_opens (chars c.args.text.now) (sym c.has_raw_mark.ensures ∙ c.if-has_raw_mark.true)) ∙ h in cc)
