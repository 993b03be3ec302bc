use Rattle.std.proofs.Common.{refl, Some, sym, ap, ◌∙◌, subst}
use Rattle.std.specs.Prelude.{slice_set}
use Rattle.ron_value.specs.declared.value.Value.{Value}
use Rattle.ron_value.specs.View.{entries}
use Rattle.ron_value.specs.Entries.{Entries}
use Rattle.ron_value.proofs.OrderedEntries.{AreOrdered, AreOrdered-with_value, IsOrdered-value}
use Rattle.ron_value.proofs.PlaceLemmas.{value_at-found, value_at-missing, with_value-found}
use Rattle.ron_value.proofs.map.Map.get_mut.Goals as goal

pub returns-in-Ok : goal.returns-in-Ok
returns-in-Ok c =
    let k : Value = c.args.key.now in
    let es : Entries = entries c.args.self.now in
    let shown = c.index_mut-pair.ensures.value in
    let written = λ (w : Value) (ordered : AreOrdered es). ap (λ (p : Value × Value). slice_set es c.in-Ok.place (p.0, w)) shown
    ∙ sym (with_value-found k es c.in-Ok.place _ w (c.in-Ok.ensures.place ordered)) in (
      (refl, λ w ordered. (written w ordered, λ value. subst AreOrdered (sym (written w ordered)) (AreOrdered-with_value k w es ordered value)), refl),
      record {
        writes_back = tt;
        value = λ ordered. sym (value_at-found k es c.in-Ok.place _ (c.in-Ok.ensures.place ordered) ∙ ap (λ (p : Value × Value). Some p.1) (sym shown));
        answer_ordered = λ ordered. IsOrdered-value es c.in-Ok.place _ ordered c.in-Ok.ensures.in_range shown;
      },
    )

pub returns-in-Err : goal.returns-in-Err
returns-in-Err c = (
  (refl, λ _. tt, refl),
  record {
    writes_back = tt;
    value = λ ordered. sym (value_at-missing c.args.key.now _ c.in-Err.field-0 ordered (c.in-Err.ensures.place ordered));
    answer_ordered = λ _. tt;
  },
)
