use Rattle.std.proofs.Common.{Some, None, IsSome, sym, ap, ◌∙◌, subst}
use Rattle.std.specs.Prelude.{slice_set}
use Rattle.ron_value.specs.declared.value.Value.{Value}
use Rattle.ron_value.specs.Ordered.{IsOrdered}
use Rattle.ron_value.specs.View.{tree_of, entries}
use Rattle.ron_value.specs.Entries.{Entries}
use Rattle.ron_value.proofs.OrderedEntries.{AreOrdered, AreOrdered-with_entry, IsOrdered-value}
use Rattle.ron_value.proofs.PlaceLemmas.{value_at-found, value_at-missing, with_entry-found, with_entry-missing}
use Rattle.ron_value.proofs.map.Map.insert.Goals as goal

pub returns-in-Ok-clause-content : goal.returns-in-Ok-clause-content
returns-in-Ok-clause-content c ordered =
    let es : Entries = entries c.args.self.now in
    let pair = c.index_mut-pair.result.now in
    ap (λ (w : Value). slice_set es c.in-Ok.place (pair.0, w)) c.replace.ensures.after
    ∙ ap (λ (p : Value × Value). slice_set es c.in-Ok.place (p.0, c.args.value)) c.index_mut-pair.ensures.value
    ∙ sym (with_entry-found c.args.key es c.in-Ok.place pair c.args.value (c.in-Ok.ensures.place ordered))

pub returns-in-Ok-clause-replaced : goal.returns-in-Ok-clause-replaced
returns-in-Ok-clause-replaced c ordered =
    ap (λ (v : Value). Some v) c.replace.ensures.value
    ∙ ap (λ (p : Value × Value). Some p.1) c.index_mut-pair.ensures.value
    ∙ sym (value_at-found c.args.key (entries c.args.self.now) c.in-Ok.place _ (c.in-Ok.ensures.place ordered))

pub returns-in-Ok-clause-ordered : goal.returns-in-Ok-clause-ordered
returns-in-Ok-clause-ordered c ordered key value =
    subst AreOrdered (sym (returns-in-Ok-clause-content c ordered)) (AreOrdered-with_entry c.args.key c.args.value _ ordered key value)

pub returns-in_ok-insert-in-Err-clause-content : goal.returns-in_ok-insert-in-Err-clause-content
returns-in_ok-insert-in-Err-clause-content c ordered =
    c.in_ok-insert-in-Err.ensures.items
    ∙ sym (with_entry-missing c.args.key (entries c.args.self.now) c.in-Err.place c.args.value (c.in-Err.ensures.place ordered))

pub returns-in_ok-insert-in-Err-clause-replaced : goal.returns-in_ok-insert-in-Err-clause-replaced
returns-in_ok-insert-in-Err-clause-replaced c ordered =
    sym (value_at-missing c.args.key (entries c.args.self.now) c.in-Err.place ordered (c.in-Err.ensures.place ordered))

pub returns-in_ok-insert-in-Err-clause-ordered : goal.returns-in_ok-insert-in-Err-clause-ordered
returns-in_ok-insert-in-Err-clause-ordered c ordered key value =
    subst AreOrdered (sym (returns-in_ok-insert-in-Err-clause-content c ordered)) (AreOrdered-with_entry c.args.key c.args.value _ ordered key value)

pub returns-in_err-insert-in-Err-clause-in_place : goal.returns-in_err-insert-in-Err-clause-in_place
returns-in_err-insert-in-Err-clause-in_place c ordered there =
    let missing : IsSome {T = Value} None =
    subst IsSome (value_at-missing c.args.key (entries c.args.self.now) c.in-Err.place ordered (c.in-Err.ensures.place ordered)) there in
    absurd (cc)

pub returns-in-Ok-clause-answer_ordered : goal.returns-in-Ok-clause-answer_ordered
returns-in-Ok-clause-answer_ordered c ordered =
    let P : Value → Type 0 = λ v. IsOrdered (tree_of v) in
    subst P (sym c.replace.ensures.value)
    (IsOrdered-value (entries c.args.self.now) c.in-Ok.place _ ordered c.in-Ok.ensures.in_range c.index_mut-pair.ensures.value)
