use Rattle.std.proofs.Common.{Some, sym, ap, ◌∙◌, subst}
use Rattle.ron_value.specs.declared.value.Value.{Value}
use Rattle.ron_value.specs.View.{entries}
use Rattle.ron_value.proofs.OrderedEntries.{AreOrdered, AreOrdered-without_key, IsOrdered-value}
use Rattle.ron_value.proofs.PlaceLemmas.{value_at-found, value_at-missing, without_key-found, without_key-missing}
use Rattle.ron_value.proofs.map.Map.remove.Goals as goal

pub returns-in-Ok-clause-value : goal.returns-in-Ok-clause-value
returns-in-Ok-clause-value c ordered =
    ap (λ (p : Value × Value). Some p.1) c.remove-value.ensures.value
    ∙ sym (value_at-found c.args.key.now (entries c.args.self.now) c.in-Ok.place _ (c.in-Ok.ensures.place ordered))

pub returns-in-Ok-clause-content : goal.returns-in-Ok-clause-content
returns-in-Ok-clause-content c ordered =
    c.remove-value.ensures.items ∙ sym (without_key-found c.args.key.now (entries c.args.self.now) c.in-Ok.place (c.in-Ok.ensures.place ordered))

pub returns-in-Ok-clause-ordered : goal.returns-in-Ok-clause-ordered
returns-in-Ok-clause-ordered c ordered =
    subst AreOrdered (sym (returns-in-Ok-clause-content c ordered)) (AreOrdered-without_key c.args.key.now _ ordered)

pub returns-in-Err-clause-value : goal.returns-in-Err-clause-value
returns-in-Err-clause-value c ordered =
    sym (value_at-missing c.args.key.now (entries c.args.self.now) c.in-Err.field-0 ordered (c.in-Err.ensures.place ordered))

pub returns-in-Err-clause-content : goal.returns-in-Err-clause-content
returns-in-Err-clause-content c ordered = sym (without_key-missing c.args.key.now (entries c.args.self.now) (sym (returns-in-Err-clause-value c ordered)))

pub returns-in-Ok-clause-answer_ordered : goal.returns-in-Ok-clause-answer_ordered
returns-in-Ok-clause-answer_ordered c ordered =
    IsOrdered-value (entries c.args.self.now) c.in-Ok.place _ ordered c.in-Ok.ensures.in_range c.remove-value.ensures.value
