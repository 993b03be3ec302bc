use Rattle.std.proofs.Common.{◌≡◌, true, false, chars, sym, ◌∙◌}
use Rattle.ron_spec_words.proofs.TokenRuns.{no_raw_name}
use Rattle.ron_lex_text.proofs.StretchLemmas.{literals, past_is_end}
use Rattle.ron_lex.proofs.TurnLemmas.{behind_raw, behind_word, look_here, look_words}
use Rattle.ron_lex.proofs.UntypedLemmas.{untyped_raw, untyped_literal, untyped_refused, untyped_word, untyped_got, run_past, raw_opens}
use Rattle.ron_lex.proofs.untyped.split_untyped_name.Goals as goal

pub returns-in-Ok-clause-value : goal.returns-in-Ok-clause-value
unfolding literals
returns-in-Ok-clause-value c = untyped_raw (chars c.args.text.now) (sym c.begins_with.ensures ∙ c.if-begins_with.true) ∙ c.in-Ok.ensures.value

pub returns-in-Err-clause-value : goal.returns-in-Err-clause-value
unfolding literals
returns-in-Err-clause-value c = untyped_raw (chars c.args.text.now) (sym c.begins_with.ensures ∙ c.if-begins_with.true) ∙ c.in-Err.ensures.value

pub returns-then-opens_literal-clause-value : goal.returns-then-opens_literal-clause-value
unfolding literals
returns-then-opens_literal-clause-value c =
    untyped_literal (chars c.args.text.now) (sym c.begins_with.ensures ∙ c.if-begins_with.false) (sym c.opens_literal.ensures ∙ c.if-opens_literal.true)

pub returns-in_default-clause-value : goal.returns-in_default-clause-value
unfolding literals
returns-in_default-clause-value c = untyped_refused (chars c.args.text.now) (sym c.begins_with.ensures ∙ c.if-begins_with.false)
    (sym c.opens_literal.ensures ∙ c.if-opens_literal.false) c.in_default.ensures.value

pub returns-then-is_value_word-clause-value : goal.returns-then-is_value_word-clause-value
unfolding literals
returns-then-is_value_word-clause-value c =
    untyped_word (chars c.args.text.now) _ _ (sym c.begins_with.ensures ∙ c.if-begins_with.false) (sym c.opens_literal.ensures ∙ c.if-opens_literal.false)
    c.in-Some.ensures.value (sym c.is_value_word.ensures ∙ c.if-is_value_word.true)

pub returns-clause-value : goal.returns-clause-value
unfolding literals
returns-clause-value c =
    untyped_got (chars c.args.text.now) _ _ (sym c.begins_with.ensures ∙ c.if-begins_with.false) (sym c.opens_literal.ensures ∙ c.if-opens_literal.false)
    c.in-Some.ensures.value (sym c.is_value_word.ensures ∙ c.if-is_value_word.false)

pub returns-clause-past : goal.returns-clause-past
returns-clause-past c = run_past (chars c.args.text.now) _ _ c.in-Some.ensures.value c.in-Some.ensures.joined

pub returns-in-Ok-clause-seen : goal.returns-in-Ok-clause-seen
returns-in-Ok-clause-seen c = behind_raw _ _ _ c.in-Ok.ensures.value (past_is_end _ _ c.in-Ok.ensures.past)

pub returns-in-Err-clause-seen : goal.returns-in-Err-clause-seen
returns-in-Err-clause-seen c = look_here _

pub returns-then-opens_literal-clause-seen : goal.returns-then-opens_literal-clause-seen
returns-then-opens_literal-clause-seen c = look_here _

pub returns-in_default-clause-seen : goal.returns-in_default-clause-seen
returns-in_default-clause-seen c = look_here _

pub returns-then-is_value_word-clause-seen : goal.returns-then-is_value_word-clause-seen
unfolding literals
returns-then-is_value_word-clause-seen c =
    look_words (behind_word _ _ _ (no_raw_name (chars c.args.text.now) (sym c.begins_with.ensures ∙ c.if-begins_with.false)) c.in-Some.ensures.value
    (past_is_end _ _ (run_past (chars c.args.text.now) _ _ c.in-Some.ensures.value c.in-Some.ensures.joined)))

pub returns-clause-seen : goal.returns-clause-seen
unfolding literals
returns-clause-seen c =
    behind_word _ _ _ (no_raw_name (chars c.args.text.now) (sym c.begins_with.ensures ∙ c.if-begins_with.false)) c.in-Some.ensures.value
    (past_is_end _ _ (run_past (chars c.args.text.now) _ _ c.in-Some.ensures.value c.in-Some.ensures.joined))

pub returns-in-Err-clause-word : goal.returns-in-Err-clause-word
unfolding literals
returns-in-Err-clause-word c h =
    absurd (let z : true ≡ false = sym (raw_opens (chars c.args.text.now) (sym c.begins_with.ensures ∙ c.if-begins_with.true)) ∙ h in cc)
