use Rattle.std.proofs.Common.{◌≡◌, true, chars, sym, ◌∙◌}
use Rattle.std.specs.Char.{is_ascii_hexdigit}
use Rattle.ron_spec_words.specs.Runs.{begins}
use Rattle.ron_lex.specs.Plain.{ends_plain}
use Rattle.ron_lex_text.proofs.StretchLemmas.{past_is_end}
use Rattle.ron_lex.proofs.PlainLemmas.{no_byte, begun_no_float, begun_magnitude, begun_number, begun_past}
use Rattle.ron_lex.proofs.plain.plain_numeral.Goals as goal

pub before-requires : goal.before-requires
before-requires c =
    past_is_end _ _
    (begun_past _ c.args.begun c.requires (sym c.is_at_class.ensures ∙ c.if-not-is_at_class.false) (sym c.ends_plain.ensures ∙ c.if-not-ends_plain.false))

pub returns-clause-value : goal.returns-clause-value
returns-clause-value c =
    let ends : ends_plain (chars c.args.begun.behind.now) ≡ true = sym c.ends_plain.ensures ∙ c.if-not-ends_plain.false in
    let digit : begins is_ascii_hexdigit (chars c.args.begun.digits.now) ≡ true = sym c.is_at_class.ensures ∙ c.if-not-is_at_class.false in
    rw c.from.ensures (begun_number _ c.args.begun c.requires (begun_magnitude _ c.args.begun c.requires digit ends) ends)

pub returns-clause-no_byte : goal.returns-clause-no_byte
returns-clause-no_byte c =
    no_byte (chars c.args.text.now) (chars c.args.begun.digits.now) (chars c.args.begun.behind.now) c.args.begun.base c.args.begun.start c.requires.base
    c.requires.digits
    (begun_magnitude _ c.args.begun c.requires (sym c.is_at_class.ensures ∙ c.if-not-is_at_class.false) (sym c.ends_plain.ensures ∙ c.if-not-ends_plain.false))

pub returns-clause-no_float : goal.returns-clause-no_float
returns-clause-no_float c = begun_no_float _ c.args.begun c.requires (sym c.ends_plain.ensures ∙ c.if-not-ends_plain.false)

pub returns-clause-past : goal.returns-clause-past
returns-clause-past c =
    begun_past _ c.args.begun c.requires (sym c.is_at_class.ensures ∙ c.if-not-is_at_class.false) (sym c.ends_plain.ensures ∙ c.if-not-ends_plain.false)
