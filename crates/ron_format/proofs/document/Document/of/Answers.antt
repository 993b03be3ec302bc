use Rattle.std.proofs.Common.{◌≡◌, true, false, chars, IsUtf8, inl, inr, sym, ◌∙◌, rules, arith}
use Rattle.ron_lex_text.proofs.StretchLemmas.{past_is_shorter, end_of_end}
use Rattle.ron_format.specs.Whole.{open_view}
use Rattle.ron_format.proofs.WholeLemmas.{token_end, nothing_left, something_left, reached_on, reached_end, not_closed, not_ended}
use Rattle.ron_format.proofs.OpenLemmas.{tells_fault, tells_broken}
use Rattle.ron_format.proofs.document.Document.of.Goals as goal

pub before-token-requires : goal.before-token-requires
before-token-requires c = token_end (chars c.loop-after.rest.now) (chars c.in-Some.after.now) c.in-Some.ensures.value

pub returns-in-Err-clause-refused : goal.returns-in-Err-clause-refused
returns-in-Err-clause-refused c = record {
  why = elim c.in-Err.ensures [
    | inl e ↦ inl (c.of_bracket.ensures.memory e)
    | inr n ↦ inr (λ w. not_closed (chars c.args.text.now) (chars c.loop-after.rest.now) (chars c.in-Some.after.now) (open_view c.loop-after.brackets)
        c.in-Some.ensures.value n.0 c.loop-after.invariant.2 w)
  ];
  place = c.of_bracket.ensures.place;
}

pub returns-in-Err-clause-opened : goal.returns-in-Err-clause-opened
returns-in-Err-clause-opened c =
    tells_fault (chars c.args.text.now) (chars c.loop-after.rest.now) (open_view c.loop-after.brackets) c.in-Err.fault c.of_bracket.result c.in-Err.ensures
    c.loop-after.invariant.2 c.of_bracket.ensures.memory
    c.of_bracket.ensures.opened c.of_bracket.ensures.start

pub returns-then-not-is_ended-clause-refused : goal.returns-then-not-is_ended-clause-refused
returns-then-not-is_ended-clause-refused c =
    let e : c.is_ended.result ≡ false = grind (arith, c.if-not-is_ended.true) in record {
      why = inr (λ w.
          not_ended (chars c.args.text.now) (chars c.loop-after.rest.now) (open_view c.loop-after.brackets) c.in_default.ensures.value
          (something_left (chars c.loop-after.rest.now) (sym c.is_ended.ensures ∙ e)) c.loop-after.invariant.2 w);
      place = c.broken_token.ensures.place;
    }

pub returns-then-not-is_ended-clause-opened : goal.returns-then-not-is_ended-clause-opened
returns-then-not-is_ended-clause-opened c =
    let e : c.is_ended.result ≡ false = grind (arith, c.if-not-is_ended.true) in
    tells_broken (chars c.args.text.now) (chars c.loop-after.rest.now) (open_view c.loop-after.brackets) c.broken_token.result c.in_default.ensures.value
    (something_left (chars c.loop-after.rest.now) (sym c.is_ended.ensures ∙ e)) c.loop-after.invariant.2 c.broken_token.ensures.opened

pub loop-after-smaller : goal.loop-after-smaller
loop-after-smaller c = past_is_shorter c.loop-after.rest.now c.in-Some.after.now c.loop-after.invariant.0 (search rules) c.in-Some.ensures.past

pub loop-after-preserved : goal.loop-after-preserved
loop-after-preserved c =
    let u : IsUtf8 c.in-Some.after.now = search rules in
    let here = token_end (chars c.loop-after.rest.now) (chars c.in-Some.after.now) c.in-Some.ensures.value in (
      u,
      end_of_end _ _ _ here c.loop-after.invariant.1,
      reached_on (chars c.args.text.now) (chars c.loop-after.rest.now) (chars c.in-Some.after.now) (open_view c.loop-after.brackets) (open_view c.pass.new.self)
          c.in-Some.ensures.value c.in-Ok.ensures c.loop-after.invariant.2,
    )

pub returns-in-Ok-finish-clause-refused : goal.returns-in-Ok-finish-clause-refused
returns-in-Ok-finish-clause-refused c =
    let e : c.is_ended.result ≡ true = grind (arith, c.if-not-is_ended.false) in
    reached_end (chars c.args.text.now) (chars c.loop-after.rest.now) (open_view c.loop-after.brackets)
    (nothing_left (chars c.loop-after.rest.now) (sym c.is_ended.ensures ∙ e)) c.in_default-take_innermost.ensures c.loop-after.invariant.2
