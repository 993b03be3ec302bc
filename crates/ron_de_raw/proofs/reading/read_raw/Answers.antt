use Rattle.std.proofs.Common.{chars, ◌++◌, Ok, sym, ap, ◌∙◌, subst, arith}
use Rattle.std.proofs.lemmas.Result.{err_from_is_err_and}
use Rattle.ron_spec_words.specs.Characters.{Text}
use Rattle.ron_spec_words.specs.Reader.{got}
use Rattle.ron_spec_words.specs.Beyond.{bytes_in}
use Rattle.ron_value.specs.View.{tree_of}
use Rattle.ron_lex_text.specs.Stretch.{IsSuffix}
use Rattle.ron_lex_text.specs.Parsed.{parsed_text}
use Rattle.ron_spec_grammar.specs.Shapes.Raw.{raw_part}
use Rattle.ron_de_steps.specs.Reads.{IsFaultOf}
use Rattle.ron_de_untyped.specs.Values.{unwraps}
use Rattle.ron_lex.proofs.TurnLemmas.{grows_on}
use Rattle.ron_de_raw.proofs.StretchLemmas.{end_within}
use Rattle.ron_de_raw.proofs.ReadingLemmas.{part_valid, part_invalid, cut_out, cut_text, any_stays}
use Rattle.ron_de_raw.proofs.TurnLemmas.{text_most, first_refused, gap_refused, raw_read, raw_judged}
use Rattle.ron_de_raw.proofs.reading.read_raw.Goals as goal

pub before-core-requires : goal.before-core-requires
before-core-requires c =
    let a = c.in_ok-read_any.ensures.advance in
    rw (c.rest.ensures.rest, c.rest-value.ensures.rest) (end_within _ _ c.raw_start-start.new.cursor.text
    (subst (λ (t : Text). IsSuffix c.read_any.new.cursor.rest t) a.text c.rest.ensures.end) c.rest-value.ensures.end a.no_longer)

pub before-text-requires : goal.before-text-requires
before-text-requires c =
    let here = sym c.raw_start-start.ensures.place.rest ∙ sym c.rest-value.ensures.rest ∙ c.before-core.ensures
    ∙ ap (λ t. chars c.before-core.result.now ++ t) c.rest.ensures.rest in
    let gap = c.in_ok-pass_gap.ensures in
    let cuts = cut_out c.args.is_at_start _ _ (chars c.before-core.result.now) c.read_any.new.cursor.rest _ _ (chars c.raw_start-start.result.now)
    (chars c.raw_end.result.now) c.raw_start-start.ensures.chars here gap.gap gap.rest c.raw_end.ensures.chars in
    record { front = _; is = cuts }

pub returns-then-branch-clause-value : goal.returns-then-branch-clause-value
returns-then-branch-clause-value c = λ room r.
    let here = sym c.raw_start-start.ensures.place.rest ∙ sym c.rest-value.ensures.rest ∙ c.before-core.ensures
    ∙ ap (λ t. chars c.before-core.result.now ++ t) c.rest.ensures.rest in
    let gap = c.in_ok-pass_gap.ensures in
    let is = cut_text c.args.is_at_start _ _ _ _ _ _ _ _ (chars c.before-text.result.now) c.raw_start-start.ensures.chars here gap.gap gap.rest
    c.raw_end.ensures.chars c.before-text.ensures in
    let valid = c.in_ok-is_valid.ensures.value ∙ c.if-branch.true in
    let value = any_stays c.args.context.now c.args.cursor.now c.raw_start-start.new.cursor (Ok c.in_ok-read_any.field-0) c.read_any.new.cursor.rest
    c.raw_start-start.ensures.place c.in_ok-read_any.ensures.value in
    let next = c.forget_gap.ensures.rest ∙ c.add_turns.ensures.place.rest ∙ c.is_valid.ensures.place.rest ∙ c.raw_end.ensures.place.rest ∙ gap.rest in
    part_valid (unwraps c.args.context.now) room c.args.is_at_start _ _ (tree_of c.in_ok-read_any.field-0) _ _ (value room r) here gap.slash _ is _ valid next
    ∙ ap (λ x. got (parsed_text x) c.forget_gap.new.self.rest) (sym c.of_slice.ensures)

pub returns-clause-value : goal.returns-clause-value
returns-clause-value c = λ room r.
    let here = sym c.raw_start-start.ensures.place.rest ∙ sym c.rest-value.ensures.rest ∙ c.before-core.ensures
    ∙ ap (λ t. chars c.before-core.result.now ++ t) c.rest.ensures.rest in
    let gap = c.in_ok-pass_gap.ensures in
    let is = cut_text c.args.is_at_start _ _ _ _ _ _ _ _ (chars c.before-text.result.now) c.raw_start-start.ensures.chars here gap.gap gap.rest
    c.raw_end.ensures.chars c.before-text.ensures in
    let bad = c.in_ok-is_valid.ensures.value ∙ c.if-branch.false in
    let value = any_stays c.args.context.now c.args.cursor.now c.raw_start-start.new.cursor (Ok c.in_ok-read_any.field-0) c.read_any.new.cursor.rest
    c.raw_start-start.ensures.place c.in_ok-read_any.ensures.value in
    subst (λ k. IsFaultOf k (raw_part (unwraps c.args.context.now) room c.args.is_at_start c.args.cursor.now.gap c.args.cursor.now.rest))
    (sym c.no_value.ensures.fault.0)
    (part_invalid (unwraps c.args.context.now) room c.args.is_at_start _ _ (tree_of c.in_ok-read_any.field-0) _ _ (value room r) here gap.slash _ is bad)

-- ---- the count

pub returns-in_err-read_any-clause-turns : goal.returns-in_err-read_any-clause-turns
returns-in_err-read_any-clause-turns c =
    let p = err_from_is_err_and c.from_residual.result c.from_residual.ensures.1 in
    let start = c.raw_start-start.ensures in
    rw p.1 (first_refused c.args.cursor.now c.raw_start-start.new.cursor start.place start.turns _ _ c.read_any.new.cursor c.in_err-read_any.ensures.turns)

pub returns-in_err-pass_gap-clause-turns : goal.returns-in_err-pass_gap-clause-turns
returns-in_err-pass_gap-clause-turns c =
    let p = err_from_is_err_and c.from_residual-in_err-pass_gap.result c.from_residual-in_err-pass_gap.ensures.1 in
    let start = c.raw_start-start.ensures in
    rw p.1 (gap_refused c.args.cursor.now c.raw_start-start.new.cursor start.place start.turns _ c.read_any.new.cursor c.in_ok-read_any.ensures.turns _
    c.pass_gap.new.cursor c.in_err-pass_gap.ensures.turns.most)

pub returns-in_err-is_valid-clause-turns : goal.returns-in_err-is_valid-clause-turns
returns-in_err-is_valid-clause-turns c =
    let p = err_from_is_err_and c.from_residual-in_err-is_valid.result c.from_residual-in_err-is_valid.ensures.1 in
    let start = c.raw_start-start.ensures in
    let here =
    sym start.place.rest ∙ sym c.rest-value.ensures.rest ∙ c.before-core.ensures ∙ ap (λ t. chars c.before-core.result.now ++ t) c.rest.ensures.rest in
    let gap = c.in_ok-pass_gap.ensures in
    let most = text_most c.args.is_at_start _ _ _ _ _ _ start.chars c.before-text.ensures c.raw_end.ensures.end in
    rw p.1 (raw_judged c.args.cursor.now c.raw_start-start.new.cursor start.place start.turns _ c.read_any.new.cursor c.in_ok-read_any.ensures.turns
    (chars c.before-core.result.now) here c.pass_gap.new.cursor gap.gap gap.rest gap.turns.moved (chars c.before-text.result.now) most
    c.is_valid.new.cursor.turns (omega (arith, c.raw_end.ensures.turns, c.is_valid.ensures.turns)) _ c.is_valid.new.cursor (omega arith))

pub returns-then-branch-clause-turns : goal.returns-then-branch-clause-turns
returns-then-branch-clause-turns c =
    let start = c.raw_start-start.ensures in
    let here =
    sym start.place.rest ∙ sym c.rest-value.ensures.rest ∙ c.before-core.ensures ∙ ap (λ t. chars c.before-core.result.now ++ t) c.rest.ensures.rest in
    let gap = c.in_ok-pass_gap.ensures in
    let most = text_most c.args.is_at_start _ _ _ _ _ _ start.chars c.before-text.ensures c.raw_end.ensures.end in
    let next = c.forget_gap.ensures.rest ∙ c.add_turns.ensures.place.rest ∙ c.is_valid.ensures.place.rest ∙ c.raw_end.ensures.place.rest in
    raw_read c.args.cursor.now c.raw_start-start.new.cursor start.place start.turns _ c.read_any.new.cursor c.in_ok-read_any.ensures.turns
    (chars c.before-core.result.now) here c.pass_gap.new.cursor gap.gap gap.rest gap.turns.moved (chars c.before-text.result.now) most
    c.is_valid.new.cursor.turns (omega (arith, c.raw_end.ensures.turns, c.is_valid.ensures.turns)) _ c.forget_gap.new.self next
    (omega (arith, c.forget_gap.ensures.turns, c.add_turns.ensures.turns, c.bytes_of.ensures))

pub returns-clause-turns : goal.returns-clause-turns
returns-clause-turns c =
    let start = c.raw_start-start.ensures in
    let here =
    sym start.place.rest ∙ sym c.rest-value.ensures.rest ∙ c.before-core.ensures ∙ ap (λ t. chars c.before-core.result.now ++ t) c.rest.ensures.rest in
    let gap = c.in_ok-pass_gap.ensures in
    let most = text_most c.args.is_at_start _ _ _ _ _ _ start.chars c.before-text.ensures c.raw_end.ensures.end in
    let same = ap bytes_in (c.is_valid.ensures.place.gap ∙ c.raw_end.ensures.place.gap) in
    raw_judged c.args.cursor.now c.raw_start-start.new.cursor start.place start.turns _ c.read_any.new.cursor c.in_ok-read_any.ensures.turns
    (chars c.before-core.result.now) here c.pass_gap.new.cursor gap.gap gap.rest gap.turns.moved (chars c.before-text.result.now) most
    c.is_valid.new.cursor.turns (omega (arith, c.raw_end.ensures.turns, c.is_valid.ensures.turns)) _ c.no_value.new.cursor
    (omega (arith, c.no_value.ensures.turns, same))

pub returns-then-branch-clause-least : goal.returns-then-branch-clause-least
returns-then-branch-clause-least c =
    let begun = c.raw_start-start.new.cursor in
    let behind = grows_on c.args.cursor.now begun c.read_any.new.cursor c.raw_start-start.ensures.grows c.in_ok-read_any.ensures.grows in
    let past = grows_on c.args.cursor.now c.read_any.new.cursor c.pass_gap.new.cursor behind c.in_ok-pass_gap.ensures.grows in
    let judged = grows_on c.args.cursor.now c.pass_gap.new.cursor c.raw_end.new.cursor past c.raw_end.ensures.grows in
    let next = c.forget_gap.ensures.rest ∙ c.add_turns.ensures.place.rest ∙ c.is_valid.ensures.place.rest in
    omega (
      arith,
      judged,
      c.in_ok-is_valid.ensures.least c.if-branch.true,
      c.add_turns.ensures.all,
      c.bytes_of.ensures,
      c.forget_gap.ensures.counted,
      ap bytes_in next,
      ap (λ t. bytes_in (parsed_text t)) c.of_slice.ensures,
    )
