use Rattle.std.proofs.Common.{Some, sym, ap, ◌∙◌}
use Rattle.ron_value.specs.declared.value.Value.{Value}
use Rattle.ron_value.proofs.OrderedEntries.{IsOrdered-value}
use Rattle.ron_value.proofs.PlaceLemmas.{value_at-found, value_at-missing}
use Rattle.ron_value.proofs.map.Map.get.Goals as goal

pub returns-in-Ok-clause-value : goal.returns-in-Ok-clause-value
returns-in-Ok-clause-value c ordered =
    sym (value_at-found c.args.key.now _ c.in-Ok.place _ (c.in-Ok.ensures.place ordered) ∙ ap (λ (p : Value × Value). Some p.1) (sym c.index.ensures))

pub returns-in-Ok-clause-answer_ordered : goal.returns-in-Ok-clause-answer_ordered
returns-in-Ok-clause-answer_ordered c ordered = IsOrdered-value _ c.in-Ok.place _ ordered c.in-Ok.ensures.in_range c.index.ensures

pub returns-in-Err-clause-value : goal.returns-in-Err-clause-value
returns-in-Err-clause-value c ordered = sym (value_at-missing c.args.key.now _ c.in-Err.field-0 ordered (c.in-Err.ensures.place ordered))
