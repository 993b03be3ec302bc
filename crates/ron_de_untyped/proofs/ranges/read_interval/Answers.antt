use Rattle.std.proofs.Common.{Err, ap, arith, ◌∙◌}
use Rattle.ron_spec_words.specs.Reader.{got}
use Rattle.ron_lex.specs.Range.{interval_view}
use Rattle.ron_de_steps.proofs.ErrorLemmas.{is_fault, text_and}
use Rattle.ron_base.specs.declared.error.Error.{Error}
use Rattle.ron_base.specs.declared.error.Error.TheVariants.{IntegerOutOfBounds}
use Rattle.ron_de_steps.proofs.NearLemmas.{number_or_range_nears}
use Rattle.ron_de_steps.proofs.KeepLemmas.{stays_on}
use Rattle.ron_de_untyped.proofs.CountLemmas.{settled_so, scan_settled, settled_spent, unfit_spent}
use Rattle.ron_de_untyped.proofs.NumberLemmas.{refuses_interval, interval_reads}
use Rattle.ron_de_untyped.proofs.ranges.read_interval.Goals as goal

pub returns-then-not-is_unfit-clause-value : goal.returns-then-not-is_unfit-clause-value
returns-then-not-is_unfit-clause-value c = interval_reads c.range_value.result _ _ _ (c.in-Ok-Range.ensures.value
    ∙ ap (λ i. got (interval_view i) c.number_or_range.new.self.rest) c.in-Ok-Range.field-0-is) (c.range_value.ensures.value c.in-Ok-Range.field-0-1)

pub returns-in-Err-clause-value : goal.returns-in-Err-clause-value
returns-in-Err-clause-value c = is_fault _ _ (text_and _ c.number_error.ensures.0 (refuses_interval _ c.in-Err.ensures.value))

pub returns-in-Ok-One-clause-turns : goal.returns-in-Ok-One-clause-turns
returns-in-Ok-One-clause-turns c = settled_spent 2 c.args.cursor.now c.number_value.result c.number_or_range.new.self
    (settled_so {E = Error} 2 c.args.cursor.now c.number_or_range.new.self c.number_value.result (omega arith) c.in-Ok-One.ensures.turns.moved
    (number_or_range_nears _ c.args.cursor.now c.number_or_range.new.self c.in-Ok-One.ensures.value))

pub returns-then-not-is_unfit-clause-turns : goal.returns-then-not-is_unfit-clause-turns
returns-then-not-is_unfit-clause-turns c = settled_spent 2 c.args.cursor.now c.range_value.result c.number_or_range.new.self
    (settled_so {E = Error} 2 c.args.cursor.now c.number_or_range.new.self c.range_value.result (omega arith) c.in-Ok-Range.ensures.turns.moved
    (number_or_range_nears _ c.args.cursor.now c.number_or_range.new.self c.in-Ok-Range.ensures.value))

pub returns-else-not-is_unfit-clause-turns : goal.returns-else-not-is_unfit-clause-turns
returns-else-not-is_unfit-clause-turns c = unfit_spent c.args.cursor.now c.number_or_range.new.self c.return_to.new.self c.untyped_integer.new.self
    IntegerOutOfBounds c.in-Ok-Range.ensures.turns.most (stays_on c.args.cursor.now _ c.return_to.new.self c.mark-before.ensures c.return_to.ensures.place)
    c.return_to.ensures.turns c.untyped_integer.ensures.turns.most

pub returns-in-Err-clause-turns : goal.returns-in-Err-clause-turns
returns-in-Err-clause-turns c = settled_spent 2 c.args.cursor.now (Err c.number_error.result) c.number_or_range.new.self
    (scan_settled 2 c.args.cursor.now c.number_or_range.new.self c.number_error.result (omega arith) c.in-Err.ensures.turns.most)
