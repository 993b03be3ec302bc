use Rattle.std.proofs.Common.{chars, ◌∷◌, sym, ap, ◌∙◌}
use Rattle.std.specs.Str.Lines.{lines}
use Rattle.std.proofs.lemmas.Str.{chars-nil}
use Rattle.ron_spec_words.specs.Gap.{in_line}
use Rattle.ron_lex_text.proofs.StretchLemmas.{run_end}
use Rattle.ron_ser.proofs.DocLemmas.{lines_more, lines_last}
use Rattle.ron_ser.proofs.docs.split_line.Goals as goal

pub before-requires : goal.before-requires
before-requires c = run_end in_line (chars c.args.text.now) (chars c.skip_to_line_end-end.result.now) c.skip_to_line_end-end.ensures.value

pub returns-in-Some-clause-lines : goal.returns-in-Some-clause-lines
returns-in-Some-clause-lines c =
    lines_more (chars c.args.text.now) (chars c.before-in-Some.result.now) (chars c.skip_to_line_end-end.result.now) (chars c.in-Some.rest.now)
    c.in-Some.field-0-0 c.skip_to_line_end-end.ensures.value c.before-in-Some.ensures c.in-Some.ensures.chars
    ∙ ap (λ l. l ∷ lines (chars c.in-Some.rest.now)) (sym c.without_return.ensures)

pub returns-in-None-clause-lines : goal.returns-in-None-clause-lines
returns-in-None-clause-lines c = lines_last (chars c.args.text.now) (chars c.skip_to_line_end-end.result.now) (sym c.is_ended.ensures ∙ c.if-is_ended.false)
    c.skip_to_line_end-end.ensures.value c.in-None.ensures.chars ∙ ap (λ t. chars c.args.text.now ∷ lines t) (sym chars-nil)
