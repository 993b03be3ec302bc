use Rattle.std.proofs.Common.{chars, sym, ap, ◌∙◌, IsUtf8, rules, arith}
use Rattle.std.proofs.lemmas.Str.{chars-nil}
use Rattle.ron_spec_words.specs.Lookahead.{seek}
use Rattle.ron_lex_text.proofs.StretchLemmas.{past_is_shorter}
use Rattle.ron_lex.proofs.TokenLemmas.{seek_stops, seek_broken, seek_ended, turn, level_opens, level_closes, level_stays}
use Rattle.ron_lex.proofs.lookahead.seek.Goals as goal

pub returns-then-ends_item : goal.returns-then-ends_item
returns-then-ends_item c = sym (seek_stops c.loop-first.open c.in-Some.first (chars c.loop-first.rest.now) _ c.in-Some.ensures.chars
    (sym c.ends_item.ensures ∙ c.if-ends_item.true)) ∙ c.loop-first.invariant.1

pub returns-in_default-skip_token : goal.returns-in_default-skip_token
returns-in_default-skip_token c =
    chars-nil ∙ sym (seek_broken c.loop-first.open c.in-Some.first (chars c.loop-first.rest.now) _ c.in-Some.ensures.chars
    (sym c.ends_item.ensures ∙ c.if-ends_item.false) c.in_default-skip_token.ensures.value) ∙ c.loop-first.invariant.1

pub loop-first-smaller-then-is_opening : goal.loop-first-smaller-then-is_opening
loop-first-smaller-then-is_opening c =
    past_is_shorter c.loop-first.rest.now c.in-Some-skip_token.after.now c.loop-first.invariant.0 (search rules) c.in-Some-skip_token.ensures.past

pub loop-first-preserved-then-is_opening : goal.loop-first-preserved-then-is_opening
loop-first-preserved-then-is_opening c =
    let u : IsUtf8 c.in-Some-skip_token.after.now = search rules in
    let lt = past_is_shorter c.loop-first.rest.now c.in-Some-skip_token.after.now c.loop-first.invariant.0 u c.in-Some-skip_token.ensures.past in
    let fits = c.loop-first.invariant.2 in (
      u,
      turn c.loop-first.open c.in-Some.first _ (chars c.loop-first.rest.now) _ _ _ c.in-Some.ensures.chars (sym c.ends_item.ensures ∙ c.if-ends_item.false)
          c.in-Some-skip_token.ensures.value (level_opens c.loop-first.open c.in-Some.first (sym c.is_opening.ensures ∙ c.if-is_opening.true))
          c.loop-first.invariant.1,
      omega arith,
    )

pub loop-first-smaller-then-is_closing : goal.loop-first-smaller-then-is_closing
loop-first-smaller-then-is_closing c =
    past_is_shorter c.loop-first.rest.now c.in-Some-skip_token.after.now c.loop-first.invariant.0 (search rules) c.in-Some-skip_token.ensures.past

pub loop-first-preserved-then-is_closing : goal.loop-first-preserved-then-is_closing
loop-first-preserved-then-is_closing c =
    let u : IsUtf8 c.in-Some-skip_token.after.now = search rules in
    let lt = past_is_shorter c.loop-first.rest.now c.in-Some-skip_token.after.now c.loop-first.invariant.0 u c.in-Some-skip_token.ensures.past in
    let fits = c.loop-first.invariant.2 in (
      u,
      turn c.loop-first.open c.in-Some.first _ (chars c.loop-first.rest.now) _ _ _ c.in-Some.ensures.chars (sym c.ends_item.ensures ∙ c.if-ends_item.false)
          c.in-Some-skip_token.ensures.value (level_closes c.loop-first.open c.in-Some.first (sym c.is_opening.ensures ∙ c.if-is_opening.false)
          (sym c.is_closing.ensures ∙ c.if-is_closing.true)) c.loop-first.invariant.1,
      omega arith,
    )

pub loop-first-smaller : goal.loop-first-smaller
loop-first-smaller c =
    past_is_shorter c.loop-first.rest.now c.in-Some-skip_token.after.now c.loop-first.invariant.0 (search rules) c.in-Some-skip_token.ensures.past

pub loop-first-preserved : goal.loop-first-preserved
loop-first-preserved c =
    let u : IsUtf8 c.in-Some-skip_token.after.now = search rules in
    let lt = past_is_shorter c.loop-first.rest.now c.in-Some-skip_token.after.now c.loop-first.invariant.0 u c.in-Some-skip_token.ensures.past in
    let fits = c.loop-first.invariant.2 in (
      u,
      turn c.loop-first.open c.in-Some.first _ (chars c.loop-first.rest.now) _ _ _ c.in-Some.ensures.chars (sym c.ends_item.ensures ∙ c.if-ends_item.false)
          c.in-Some-skip_token.ensures.value (level_stays c.loop-first.open c.in-Some.first (sym c.is_opening.ensures ∙ c.if-is_opening.false)
          (sym c.is_closing.ensures ∙ c.if-is_closing.false)) c.loop-first.invariant.1,
      omega arith,
    )

pub returns : goal.returns
returns c =
    c.in_default.ensures.chars ∙ sym (seek_ended c.loop-first.open) ∙ ap (seek 0 c.loop-first.open) (sym c.in_default.ensures.chars) ∙ c.loop-first.invariant.1
