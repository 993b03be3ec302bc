use Rattle.std.proofs.Common.{rules, arith, chars, map, option_map, IfSome, sym, ap, subst, refl, ◌∙◌}
use Rattle.std.proofs.lemmas.Result.{err_from_is_err_and}
use Rattle.ron_spec_grammar.specs.Shapes.Range.{range_fields}
use Rattle.ron_lex.specs.Range.{interval_view}
use Rattle.ron_data_schema.specs.Shapes.{field_view}
use Rattle.ron_data.specs.Datum.{fields_view}
use Rattle.ron_de_steps.proofs.ErrorLemmas.{is_fault, memory_or_more}
use Rattle.ron_de_parts.specs.Slices.{FieldsAreSliced}
use Rattle.ron_de_parts.proofs.RangeLemmas.{range_read, range_none, refuses_range}
use Rattle.ron_de_parts.proofs.SliceLemmas.{sliced-struct, stays}
use Rattle.ron_de_parts.proofs.StepLemmas.{struct_value}
use Rattle.ron_de_parts.proofs.ranges.read_range.Goals.{in-Ok+in_ok-fields+in_default-2, in_default}
use Rattle.ron_de_steps.proofs.NearLemmas.{number_or_range_nears}
use Rattle.ron_de_parts.proofs.TurnLemmas.{leaf_read, leaf_refused, leaf_again}
use Rattle.ron_de_parts.proofs.ranges.read_range.Goals as goal

pub returns-in-Some-clause-value : goal.returns-in-Some-clause-value
returns-in-Some-clause-value c =
    range_read c.args.context.now.schema (chars c.args.name.now) (map field_view c.args.list.now.fields.items) _ (interval_view c.in-Ok.interval)
    c.number_or_range.new.self.rest c.in-Ok.ensures.value (fields_view c.in-Some.fields.items)
    (sym (ap (option_map (λ all. fields_view all.items)) c.in-Some.is) ∙ c.in_ok-fields.ensures.value ∙ ap
    (λ fs. range_fields c.args.context.now.schema (chars c.args.name.now) (map field_view fs) (interval_view c.in-Ok.interval)) c.as_slice-fields.ensures.value)
    ∙ struct_value c.in_ok-from_str.field-0 c.in-Some.fields _ _ c.in_ok-from_str.ensures.ok

pub returns-in-Some-clause-advance : goal.returns-in-Some-clause-advance
returns-in-Some-clause-advance c = record {
  text = search rules;
  no_longer = search rules;
  holds = sliced-struct _ _ _ _ (stays _ _ refl) refl c.in_ok-from_str.field-0 c.in-Some.fields
      (subst (λ o. IfSome o (FieldsAreSliced c.args.cursor.now.rest c.args.cursor.now.text)) c.in-Some.is
      (c.in_ok-fields.ensures.slices c.args.cursor.now.rest c.args.cursor.now.text));
  fault = search rules;
}

pub returns-in_err-refuse_range-clause-value : goal.returns-in_err-refuse_range-clause-value
returns-in_err-refuse_range-clause-value c =
    let p = err_from_is_err_and c.from_residual-in_err-refuse_range.result c.from_residual-in_err-refuse_range.ensures.1 in
    rw (p.1, p.2) (is_fault _ _ (memory_or_more _ (λ _. (elim c.match-number_or_range.branch [
      | in-Ok+in_ok-fields+in_default-2 w ↦ range_none c.args.context.now.schema (chars c.args.name.now) (map field_view c.args.list.now.fields.items) _
          (interval_view w.in-Ok.interval) c.number_or_range.new.self.rest w.in-Ok.ensures.value
          (sym (ap (option_map (λ all. fields_view all.items)) w.in_default-2.is) ∙ w.in_ok-fields.ensures.value ∙ ap (λ fs.
          range_fields c.args.context.now.schema (chars c.args.name.now) (map field_view fs) (interval_view w.in-Ok.interval)) w.as_slice-fields.ensures.value)
      | in_default w ↦
          refuses_range c.args.context.now.schema (chars c.args.name.now) (map field_view c.args.list.now.fields.items) _ w.in_default.ensures.value
    ])) c.in_err-refuse_range.ensures.fault.0))

pub returns-clause-value : goal.returns-clause-value
returns-clause-value c = elim c.match-number_or_range.branch [
  | in-Ok+in_ok-fields+in_default-2 w ↦ range_none c.args.context.now.schema (chars c.args.name.now) (map field_view c.args.list.now.fields.items) _
      (interval_view w.in-Ok.interval) c.number_or_range.new.self.rest w.in-Ok.ensures.value
      (sym (ap (option_map (λ all. fields_view all.items)) w.in_default-2.is) ∙ w.in_ok-fields.ensures.value ∙ ap (λ fs.
      range_fields c.args.context.now.schema (chars c.args.name.now) (map field_view fs) (interval_view w.in-Ok.interval)) w.as_slice-fields.ensures.value)
  | in_default w ↦ refuses_range c.args.context.now.schema (chars c.args.name.now) (map field_view c.args.list.now.fields.items) _ w.in_default.ensures.value
]

pub returns-in_err-fields-clause-turns : goal.returns-in_err-fields-clause-turns
returns-in_err-fields-clause-turns c =
    let p = err_from_is_err_and c.from_residual.result c.from_residual.ensures.1 in
    rw (p.1, p.2) (leaf_refused 2 (omega arith) c.args.cursor.now c.number_or_range.new.self _ c.number_or_range.ensures.turns.most)

pub returns-in_err-from_str-clause-turns : goal.returns-in_err-from_str-clause-turns
returns-in_err-from_str-clause-turns c =
    let p = err_from_is_err_and c.from_residual-in_err-from_str.result c.from_residual-in_err-from_str.ensures.1 in
    rw (p.1, p.2) (leaf_refused 2 (omega arith) c.args.cursor.now c.number_or_range.new.self _ c.number_or_range.ensures.turns.most)

pub returns-in-Some-clause-turns : goal.returns-in-Some-clause-turns
returns-in-Some-clause-turns c = leaf_read 2 (omega arith) c.args.cursor.now c.number_or_range.new.self _ c.in-Ok.ensures.turns.moved
    (number_or_range_nears (interval_view c.in-Ok.interval) c.args.cursor.now c.number_or_range.new.self c.in-Ok.ensures.value)

pub returns-in_err-refuse_range-clause-turns : goal.returns-in_err-refuse_range-clause-turns
returns-in_err-refuse_range-clause-turns c =
    let p = err_from_is_err_and c.from_residual-in_err-refuse_range.result c.from_residual-in_err-refuse_range.ensures.1 in
    rw (p.1, p.2) (leaf_again 2 2 (omega arith) c.args.cursor.now c.mark-start.result c.number_or_range.new.self c.return_to.new.self c.refuse_range.new.cursor
    _ c.mark-start.ensures c.number_or_range.ensures.turns.most c.return_to.ensures.place c.return_to.ensures.turns c.refuse_range.ensures.turns)

pub returns-clause-turns : goal.returns-clause-turns
returns-clause-turns c =
    leaf_again 2 2 (omega arith) c.args.cursor.now c.mark-start.result c.number_or_range.new.self c.return_to.new.self c.refuse_range.new.cursor _
    c.mark-start.ensures c.number_or_range.ensures.turns.most c.return_to.ensures.place c.return_to.ensures.turns c.refuse_range.ensures.turns
