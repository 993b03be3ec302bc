use Rattle.std.proofs.Common.{chars, sym, ◌∙◌}
use Rattle.ron_lex.proofs.AnyIntegerLemmas.{any_number}
use Rattle.ron_lex.proofs.PlainLemmas.{begun_seen}
use Rattle.ron_lex.proofs.UntypedLemmas.{integer_plain}
use Rattle.ron_lex.proofs.untyped.split_untyped_integer.Goals as goal

pub returns-in-Some-clause-value : goal.returns-in-Some-clause-value
returns-in-Some-clause-value c =
    integer_plain (chars c.args.text.now) c.in-Some.ensures.no_float ∙ any_number (chars c.args.text.now) (sym c.in-Some.ensures.no_byte)
    ∙ c.in-Some.ensures.value

pub returns-in-Ok-clause-value : goal.returns-in-Ok-clause-value
returns-in-Ok-clause-value c =
    integer_plain (chars c.args.text.now) (c.begin-begun.ensures.float ∙ sym c.float_behind-is_float.ensures.value ∙ c.if-is_float.false)
    ∙ c.in-Ok.ensures.value

pub returns-in-Err-clause-seen : goal.returns-in-Err-clause-seen
returns-in-Err-clause-seen c = begun_seen (chars c.args.text.now) _ c.begin-begun.result c.begin-begun.ensures c.float_behind-is_float.ensures.end
