-- Tuples and tuple structs.
use Rattle.std.proofs.Common.{rules, Ok, ◌<◌, length, chars, refl, sym, ◌∙◌, ap, arith, ◌∷◌, suc, subst, Err, List, false}
use Rattle.std.proofs.lemmas.Result.{err_from_is_err_and}
use Rattle.ron_spec_words.specs.Reader.{got}
use Rattle.ron_spec_grammar.specs.Data as plain
use Rattle.ron_spec_grammar.specs.Shapes.Tuple.{as_many}
use Rattle.ron_spec_grammar.specs.Turns.{of_each, read_tuple_inside}
use Rattle.ron_spec_grammar.proofs.ContentTurns.{tuple_group_not_opened, tuple_group_opened, read_tuple_of}
use Rattle.ron_base.specs.Class.{class_of}
use Rattle.ron_de_steps.specs.Reads.{IsFaultOf}
use Rattle.ron_data.proofs.DatumLemmas.{view-tuple}
use Rattle.ron_de_steps.proofs.ErrorLemmas.{is_fault, memory_or_more, text_and}
use Rattle.ron_de_parts.proofs.RoomLemmas.{room_ended, same_for_items, items_in_group, group_later}
use Rattle.ron_de.proofs.InsideLemmas.{opened_slash, tuple_in_group, tuple_deep, tuple_said}
use Rattle.ron_de.specs.Elements.{AreElements}
use Rattle.ron_de_parts.proofs.SliceLemmas.{sliced-tuple, sliced-tuple_struct, items_there}
use Rattle.ron_spec_words.proofs.Leading.{leads_on}
use Rattle.ron_de_parts.specs.Slices.{ItemsAreSliced}
use Rattle.ron_de_parts.proofs.KeptLemmas.{source_there, kept_from}
use Rattle.ron_de.proofs.ElementLemmas.{still_below, tuple_short, tuple_value}
use Rattle.ron_de.proofs.HeldLemmas.{tuple_fault, room_of_group, tuple_struct_at, tuple_struct_nowhere, tuple_struct_value}
use Rattle.ron_de_parts.specs.Content.{ReadsTuple}
use Rattle.ron_de.proofs.TurnLemmas.{made_turns, refused_turns, moved_turns, here_spent, scan_settled, step_settled, near_settled, mark_settled, gap_inside}
use Rattle.ron_de.proofs.TurnLemmas.{scan_inside}
use Rattle.ron_de.proofs.ReachLemmas.{over_mark, over_gap, items_looks}
use Rattle.ron_de_steps.proofs.NearLemmas.{mark_nears, mark_right_parenthesis}
use Rattle.ron_de_steps.proofs.LeadLemmas.{reached_on}
use Rattle.ron_de.specs.Turns.{SpendsItems}
use Rattle.ron_spec_grammar.specs.Schema.{Shape}
use Rattle.ron_de.proofs.+read.Goals as goal

-- ---- the items of a tuple in their brackets

pub tuples::read_tuple_inside-returns-in_err-inner-clause-value : goal.tuples::read_tuple_inside-returns-in_err-inner-clause-value
tuples::read_tuple_inside-returns-in_err-inner-clause-value t c =
    let p = err_from_is_err_and c.from_residual.result c.from_residual.ensures.1 in
    rw (p.1, p.2, c.in_err-inner.ensures.0)
    (λ make room r. tuple_deep c.args.context.now make c.args.shapes.now c.args.cursor.now room (room_ended _ _ room c.in_err-inner.ensures.1 r))

pub tuples::read_tuple_inside-read_elements-requires : goal.tuples::read_tuple_inside-read_elements-requires
tuples::read_tuple_inside-read_elements-requires t c = (
  omega (arith, same_for_items c.args.context.now.schema c.in_ok-inner.inner.schema (length c.args.cursor.now.rest) c.in_ok-inner.ensures.1),
  (still_below _ _ (of_each c.args.shapes.now) c.in_ok-inner.ensures.1 c.requires, (refl, refl, refl, refl)),
)

pub tuples::read_tuple_inside-returns-in_err-items-clause-value : goal.tuples::read_tuple_inside-returns-in_err-items-clause-value
tuples::read_tuple_inside-returns-in_err-items-clause-value t c =
    let p = err_from_is_err_and c.from_residual-in_err-items.result c.from_residual-in_err-items.ensures.1 in
    rw (p.1, p.2) (λ make room r. tuple_said c.args.context.now make c.args.shapes.now c.args.cursor.now room c.in_ok-inner.inner c.in_ok-inner.ensures r
    (λ o. IsFaultOf (class_of c.in_err-items.field-0.0) o) (c.in_err-items.ensures.value (as_many make c.args.shapes.now)))

pub tuples::read_tuple_inside-returns-in_err-expect_length-clause-value : goal.tuples::read_tuple_inside-returns-in_err-expect_length-clause-value
tuples::read_tuple_inside-returns-in_err-expect_length-clause-value t c =
    let p = err_from_is_err_and c.from_residual-in_err-expect_length.result c.from_residual-in_err-expect_length.ensures.1 in
    rw (p.1, p.2) (λ make room r. is_fault _ _ (memory_or_more _ (λ differ.
    tuple_short c.in_ok-items.items c.read_elements.new.cursor.rest _ make c.args.shapes.now
    (tuple_said c.args.context.now make c.args.shapes.now c.args.cursor.now room c.in_ok-inner.inner c.in_ok-inner.ensures r
    (λ o. AreElements 41 (as_many make c.args.shapes.now) (Ok c.in_ok-items.items) o c.read_elements.new.cursor.rest)
    (c.in_ok-items.ensures.value (as_many make c.args.shapes.now))) (λ e. differ (c.len.ensures ∙ c.in_ok-items.items.ok.0 ∙ e)))
    c.in_err-expect_length.ensures.value))

pub tuples::read_tuple_inside-returns-clause-advance : goal.tuples::read_tuple_inside-returns-clause-advance
tuples::read_tuple_inside-returns-clause-advance t c = record {
  text = search rules;
  no_longer = search rules;
  holds = kept_from (ItemsAreSliced c.args.cursor.now.rest) c.in_ok-items.items c.in_ok-inner.ensures.3 refl c.in_ok-items.ensures.advance.holds;
  fault = search rules;
}

pub tuples::read_tuple_inside-returns-clause-value : goal.tuples::read_tuple_inside-returns-clause-value
tuples::read_tuple_inside-returns-clause-value t c = λ make room r. tuple_value c.in_ok-items.items c.read_elements.new.cursor.rest _ make c.args.shapes.now
    (tuple_said c.args.context.now make c.args.shapes.now c.args.cursor.now room c.in_ok-inner.inner c.in_ok-inner.ensures r
    (λ o. AreElements 41 (as_many make c.args.shapes.now) (Ok c.in_ok-items.items) o c.read_elements.new.cursor.rest)
    (c.in_ok-items.ensures.value (as_many make c.args.shapes.now)))
    (sym c.in_ok-items.items.ok.0 ∙ sym c.len.ensures ∙ c.in_ok-expect_length.ensures.value) _ c.pass.ensures.rest

pub tuples::read_tuple_items-returns-in_err-pass_gap-clause-value : goal.tuples::read_tuple_items-returns-in_err-pass_gap-clause-value
tuples::read_tuple_items-returns-in_err-pass_gap-clause-value t c =
    let p = err_from_is_err_and c.from_residual.result c.from_residual.ensures.1 in
    rw (p.1, p.2) (λ make room r. is_fault _ _ (text_and _ c.in_err-pass_gap.ensures.fault.0
    (opened_slash (read_tuple_inside _ _ room make c.args.shapes.now) _ _
    (tuple_group_opened _ _ room make c.args.shapes.now (40 ∷ c.args.cursor.now.rest) _ refl) c.in_err-pass_gap.ensures.slash)))

pub tuples::read_tuple_items-read_tuple_inside-requires : goal.tuples::read_tuple_items-read_tuple_inside-requires
tuples::read_tuple_items-read_tuple_inside-requires t c =
    let shorter : length c.pass_gap.new.cursor.rest < suc (length c.args.cursor.now.rest) = omega (arith, c.in_ok-pass_gap.ensures.no_longer) in
    (omega (arith, items_in_group c.args.context.now.schema (length c.pass_gap.new.cursor.rest) (suc (length c.args.cursor.now.rest)) shorter), c.requires)

pub tuples::read_tuple_items-returns-clause-value : goal.tuples::read_tuple_items-returns-clause-value
tuples::read_tuple_items-returns-clause-value t c =
    tuple_in_group c.args.context.now c.pass_gap.new.cursor c.args.cursor.now.rest c.in_ok-pass_gap.ensures.slash c.in_ok-pass_gap.ensures.gap
    c.in_ok-pass_gap.ensures.rest c.read_tuple_inside.new.cursor.rest c.args.shapes.now c.read_tuple_inside.result c.read_tuple_inside.ensures.value

pub tuples::read_tuple_items-returns-clause-advance : goal.tuples::read_tuple_items-returns-clause-advance
tuples::read_tuple_items-returns-clause-advance t c =
    let a = c.read_tuple_inside.ensures.advance in
    record {
      text = search rules;
      no_longer = search rules;
      holds = items_there _ _ _ _ (over_gap c.args.cursor.now c.pass_gap.new.cursor c.in_ok-pass_gap.ensures.rest) refl c.in_ok-pass_gap.ensures.text
          c.read_tuple_inside.result a.holds;
      fault = a.fault;
    }

-- ---- tuples

pub tuples::read_tuple-returns-then-not-take-clause-value : goal.tuples::read_tuple-returns-then-not-take-clause-value
tuples::read_tuple-returns-then-not-take-clause-value t c = λ i is room r. read_tuple_of _ _ room i c.args.cursor.now.gap _ c.args.shapes.now is.0
    ∙ tuple_group_not_opened _ _ room plain.tuple_of c.args.shapes.now _ c.if-not-take.ensures.taken.0

pub tuples::read_tuple-read_tuple_items-requires : goal.tuples::read_tuple-read_tuple_items-requires
tuples::read_tuple-read_tuple_items-requires t c = (
  omega (
    arith,
    group_later c.args.context.now.schema (suc (length c.take.new.self.rest)) (length c.args.cursor.now.rest)
        (omega (arith, ap length c.if-not-take.ensures.taken)),
  ),
  c.requires,
)

pub tuples::read_tuple-returns-in_err-items-clause-value : goal.tuples::read_tuple-returns-in_err-items-clause-value
tuples::read_tuple-returns-in_err-items-clause-value t c =
    let p = err_from_is_err_and c.from_residual.result c.from_residual.ensures.1 in
    rw (p.1, p.2) (λ i is room r. tuple_fault _ _ (read_tuple_of _ _ room i c.args.cursor.now.gap _ c.args.shapes.now is.0)
    ((subst (λ s. ReadsTuple c.args.context.now c.args.shapes.now s (Err c.in_err-items.field-0.0) c.read_tuple_items.new.cursor.rest)
    (sym c.if-not-take.ensures.taken) c.in_err-items.ensures.value) plain.tuple_of room (room_of_group c.args.context.now i _ _ room (omega arith) r)))

pub tuples::read_tuple-returns : goal.tuples::read_tuple-returns
tuples::read_tuple-returns t c = record {
  value = λ i is room r.
      read_tuple_of _ _ room i c.args.cursor.now.gap _ c.args.shapes.now is.0 ∙ (subst (λ s. ReadsTuple c.args.context.now c.args.shapes.now s
      (Ok c.in_ok-items.items) c.read_tuple_items.new.cursor.rest) (sym c.if-not-take.ensures.taken) c.in_ok-items.ensures.value) plain.tuple_of room
      (room_of_group c.args.context.now i _ _ room (omega arith) r) ∙ ap (λ d. got d c.read_tuple_items.new.cursor.rest) (sym (view-tuple c.in_ok-items.items));
  slice = search rules;
  advance = record {
    text = search rules;
    no_longer = search rules;
    holds = λ source. sliced-tuple _ _ _ _ (over_mark c.args.cursor.now c.take.new.self 40 refl c.if-not-take.ensures.taken) c.if-not-take.ensures.text
        c.in_ok-items.items (c.in_ok-items.ensures.advance.holds (source_there refl c.if-not-take.ensures.text source));
    fault = search rules;
  };
  turns = mark_settled _ c.args.cursor.now c.take.new.self _ c.read_tuple_items.new.cursor c.if-not-take.ensures.text c.if-not-take.ensures.taken
      c.take.ensures.turns (made_turns _ _ c.read_tuple_items.new.cursor _ (Ok _) c.in_ok-items.ensures.turns);
}

-- ---- tuple structs

pub tuples::read_tuple_struct-returns-in_err-before_struct-clause-value : goal.tuples::read_tuple_struct-returns-in_err-before_struct-clause-value
tuples::read_tuple_struct-returns-in_err-before_struct-clause-value t c =
    let p = err_from_is_err_and c.from_residual.result c.from_residual.ensures.1 in
    rw (p.1, p.2)
    (λ i is room r. is_fault _ _ (memory_or_more _ (tuple_struct_nowhere _ _ room i c.args.cursor.now.gap _ _ _ is.0) c.in_err-before_struct.ensures.value))

pub tuples::read_tuple_struct-returns-then-not-take-clause-value : goal.tuples::read_tuple_struct-returns-then-not-take-clause-value
tuples::read_tuple_struct-returns-then-not-take-clause-value t c = λ i is room r. tuple_struct_at _ _ room i c.args.cursor.now.gap _ _ _ is.0 _
    c.in_ok-before_struct.ensures.value ∙ tuple_group_not_opened _ _ room _ c.args.shapes.now _ c.if-not-take.ensures.taken.0

pub tuples::read_tuple_struct-read_tuple_items-requires : goal.tuples::read_tuple_struct-read_tuple_items-requires
tuples::read_tuple_struct-read_tuple_items-requires t c = (
  omega (
    arith,
    group_later c.args.context.now.schema (suc (length c.take.new.self.rest)) (length c.args.cursor.now.rest)
        (omega (arith, ap length c.if-not-take.ensures.taken, c.in_ok-before_struct.ensures.no_longer)),
  ),
  c.requires.1.1,
)

pub tuples::read_tuple_struct-returns-in_err-items-clause-value : goal.tuples::read_tuple_struct-returns-in_err-items-clause-value
tuples::read_tuple_struct-returns-in_err-items-clause-value t c =
    let p = err_from_is_err_and c.from_residual-in_err-items.result c.from_residual-in_err-items.ensures.1 in
    rw (p.1, p.2) (λ i is room r. tuple_fault _ _ (tuple_struct_at _ _ room i c.args.cursor.now.gap _ _ _ is.0 _ c.in_ok-before_struct.ensures.value)
    ((subst (λ s. ReadsTuple c.args.context.now c.args.shapes.now s (Err c.in_err-items.field-0.0) c.read_tuple_items.new.cursor.rest)
    (sym c.if-not-take.ensures.taken) c.in_err-items.ensures.value) (plain.tuple_struct_of (chars c.args.name.now)) room
    (room_of_group c.args.context.now i _ _ room c.in_ok-before_struct.ensures.no_longer r)))

pub tuples::read_tuple_struct-returns : goal.tuples::read_tuple_struct-returns
tuples::read_tuple_struct-returns t c = record {
  value = λ i is room r.
      tuple_struct_at _ _ room i c.args.cursor.now.gap _ _ _ is.0 _ c.in_ok-before_struct.ensures.value ∙ (subst (λ s. ReadsTuple c.args.context.now
      c.args.shapes.now s (Ok c.in_ok-items.items) c.read_tuple_items.new.cursor.rest) (sym c.if-not-take.ensures.taken) c.in_ok-items.ensures.value)
      (plain.tuple_struct_of (chars c.args.name.now)) room (room_of_group c.args.context.now i _ _ room c.in_ok-before_struct.ensures.no_longer r)
      ∙ tuple_struct_value c.in_ok-from_str-2.field-0 c.in_ok-items.items _ _ c.in_ok-from_str-2.ensures.ok;
  slice = search rules;
  advance = record {
    text = search rules;
    no_longer = search rules;
    holds = λ source. let same = c.if-not-take.ensures.text ∙ c.in_ok-before_struct.ensures.text in
        sliced-tuple_struct _ _ _ _
        (leads_on c.in_ok-before_struct.ensures.leads (over_mark c.before_struct.new.cursor c.take.new.self 40 refl c.if-not-take.ensures.taken)) same
        c.in_ok-from_str-2.field-0 c.in_ok-items.items (c.in_ok-items.ensures.advance.holds (source_there refl same source));
    fault = search rules;
  };
  turns = near_settled _ c.args.cursor.now c.before_struct.new.cursor _ c.read_tuple_items.new.cursor c.in_ok-before_struct.ensures.turns.moved
      c.in_ok-before_struct.ensures.near (reached_on c.args.cursor.now c.before_struct.new.cursor c.in_ok-before_struct.ensures.text
      c.in_ok-before_struct.ensures.leads) (mark_settled _ c.before_struct.new.cursor c.take.new.self _ c.read_tuple_items.new.cursor c.if-not-take.ensures.text
      c.if-not-take.ensures.taken c.take.ensures.turns (made_turns _ _ c.read_tuple_items.new.cursor _ (Ok _) c.in_ok-items.ensures.turns));
}

-- ---- the count

pub tuples::read_tuple_inside-returns-in_err-inner-clause-turns : goal.tuples::read_tuple_inside-returns-in_err-inner-clause-turns
tuples::read_tuple_inside-returns-in_err-inner-clause-turns t c =
    let p = err_from_is_err_and c.from_residual.result c.from_residual.ensures.1 in
    rw (p.1, p.2) (here_spent _ _ c.args.cursor.now c.args.cursor.now _ (omega arith))

pub tuples::read_tuple_inside-returns-in_err-items-clause-turns : goal.tuples::read_tuple_inside-returns-in_err-items-clause-turns
tuples::read_tuple_inside-returns-in_err-items-clause-turns t c =
    let p = err_from_is_err_and c.from_residual-in_err-items.result c.from_residual-in_err-items.ensures.1 in
    rw (p.1, p.2) (refused_turns _ _ c.read_elements.new.cursor _ _ (subst (λ (s : List Shape).
    SpendsItems s c.args.cursor.now (Err c.in_err-items.field-0.0) c.read_elements.new.cursor) c.in_ok-inner.ensures.1 c.in_err-items.ensures.turns))

pub tuples::read_tuple_inside-returns-in_err-expect_length-clause-turns : goal.tuples::read_tuple_inside-returns-in_err-expect_length-clause-turns
tuples::read_tuple_inside-returns-in_err-expect_length-clause-turns t c =
    let p = err_from_is_err_and c.from_residual-in_err-expect_length.result c.from_residual-in_err-expect_length.ensures.1 in
    rw (p.1, p.2) (made_turns _ _ c.read_elements.new.cursor _ (Err _) (subst (λ (s : List Shape).
    SpendsItems s c.args.cursor.now (Ok c.in_ok-items.items) c.read_elements.new.cursor) c.in_ok-inner.ensures.1 c.in_ok-items.ensures.turns))

pub tuples::read_tuple_inside-returns-clause-turns : goal.tuples::read_tuple_inside-returns-clause-turns
tuples::read_tuple_inside-returns-clause-turns t c = moved_turns _ _ c.read_elements.new.cursor c.pass.new.self _ (Ok _)
    (subst (λ (s : List Shape). SpendsItems s c.args.cursor.now (Ok c.in_ok-items.items) c.read_elements.new.cursor) c.in_ok-inner.ensures.1
    c.in_ok-items.ensures.turns) c.pass.ensures.turns (mark_nears 41 c.read_elements.new.cursor c.pass.new.self mark_right_parenthesis c.pass.ensures.rest)

pub tuples::read_tuple_items-returns-in_err-pass_gap-clause-turns : goal.tuples::read_tuple_items-returns-in_err-pass_gap-clause-turns
tuples::read_tuple_items-returns-in_err-pass_gap-clause-turns t c =
    let p = err_from_is_err_and c.from_residual.result c.from_residual.ensures.1 in
    rw (p.1, p.2) (scan_inside _ c.args.cursor.now c.pass_gap.new.cursor _ c.in_err-pass_gap.ensures.turns.most)

pub tuples::read_tuple_items-returns-clause-turns : goal.tuples::read_tuple_items-returns-clause-turns
tuples::read_tuple_items-returns-clause-turns t c = gap_inside _ c.args.cursor.now c.pass_gap.new.cursor c.read_tuple_inside.result
    c.read_tuple_inside.new.cursor false _ (items_looks c.args.context.now.schema) c.in_ok-pass_gap.ensures.text c.in_ok-pass_gap.ensures.gap
    c.in_ok-pass_gap.ensures.rest c.in_ok-pass_gap.ensures.turns.moved c.read_tuple_inside.ensures.turns

pub tuples::read_tuple-returns-then-not-take-clause-turns : goal.tuples::read_tuple-returns-then-not-take-clause-turns
tuples::read_tuple-returns-then-not-take-clause-turns t c = step_settled _ c.args.cursor.now c.take.new.self _ c.take.ensures.turns

pub tuples::read_tuple-returns-in_err-items-clause-turns : goal.tuples::read_tuple-returns-in_err-items-clause-turns
tuples::read_tuple-returns-in_err-items-clause-turns t c =
    let p = err_from_is_err_and c.from_residual.result c.from_residual.ensures.1 in
    rw (p.1, p.2) (mark_settled _ c.args.cursor.now c.take.new.self _ c.read_tuple_items.new.cursor c.if-not-take.ensures.text c.if-not-take.ensures.taken
    c.take.ensures.turns (refused_turns _ _ c.read_tuple_items.new.cursor _ _ c.in_err-items.ensures.turns))

pub tuples::read_tuple_struct-returns-in_err-before_struct-clause-turns : goal.tuples::read_tuple_struct-returns-in_err-before_struct-clause-turns
tuples::read_tuple_struct-returns-in_err-before_struct-clause-turns t c =
    let p = err_from_is_err_and c.from_residual.result c.from_residual.ensures.1 in
    rw (p.1, p.2) (scan_settled _ c.args.cursor.now c.before_struct.new.cursor _ c.in_err-before_struct.ensures.turns.most)

pub tuples::read_tuple_struct-returns-then-not-take-clause-turns : goal.tuples::read_tuple_struct-returns-then-not-take-clause-turns
tuples::read_tuple_struct-returns-then-not-take-clause-turns t c = near_settled _ c.args.cursor.now c.before_struct.new.cursor _ c.take.new.self
    c.in_ok-before_struct.ensures.turns.moved c.in_ok-before_struct.ensures.near (reached_on c.args.cursor.now c.before_struct.new.cursor
    c.in_ok-before_struct.ensures.text c.in_ok-before_struct.ensures.leads) (step_settled _ c.before_struct.new.cursor c.take.new.self _ c.take.ensures.turns)

pub tuples::read_tuple_struct-returns-in_err-items-clause-turns : goal.tuples::read_tuple_struct-returns-in_err-items-clause-turns
tuples::read_tuple_struct-returns-in_err-items-clause-turns t c =
    let p = err_from_is_err_and c.from_residual-in_err-items.result c.from_residual-in_err-items.ensures.1 in
    rw (p.1, p.2) (near_settled _ c.args.cursor.now c.before_struct.new.cursor _ c.read_tuple_items.new.cursor c.in_ok-before_struct.ensures.turns.moved
    c.in_ok-before_struct.ensures.near (reached_on c.args.cursor.now c.before_struct.new.cursor c.in_ok-before_struct.ensures.text
    c.in_ok-before_struct.ensures.leads) (mark_settled _ c.before_struct.new.cursor c.take.new.self _ c.read_tuple_items.new.cursor c.if-not-take.ensures.text
    c.if-not-take.ensures.taken c.take.ensures.turns (refused_turns _ _ c.read_tuple_items.new.cursor _ _ c.in_err-items.ensures.turns)))

pub tuples::read_tuple_struct-returns-in_err-from_str-clause-turns : goal.tuples::read_tuple_struct-returns-in_err-from_str-clause-turns
tuples::read_tuple_struct-returns-in_err-from_str-clause-turns t c =
    let p = err_from_is_err_and c.from_residual-in_err-from_str.result c.from_residual-in_err-from_str.ensures.1 in
    rw (p.1, p.2) (near_settled _ c.args.cursor.now c.before_struct.new.cursor _ c.take.new.self c.in_ok-before_struct.ensures.turns.moved
    c.in_ok-before_struct.ensures.near (reached_on c.args.cursor.now c.before_struct.new.cursor c.in_ok-before_struct.ensures.text
    c.in_ok-before_struct.ensures.leads) (step_settled _ c.before_struct.new.cursor c.take.new.self _ c.take.ensures.turns))

pub tuples::read_tuple_struct-returns-in_err-from_str-2-clause-turns : goal.tuples::read_tuple_struct-returns-in_err-from_str-2-clause-turns
tuples::read_tuple_struct-returns-in_err-from_str-2-clause-turns t c =
    let p = err_from_is_err_and c.from_residual-in_err-from_str-2.result c.from_residual-in_err-from_str-2.ensures.1 in
    rw (p.1, p.2) (near_settled _ c.args.cursor.now c.before_struct.new.cursor _ c.read_tuple_items.new.cursor c.in_ok-before_struct.ensures.turns.moved
    c.in_ok-before_struct.ensures.near (reached_on c.args.cursor.now c.before_struct.new.cursor c.in_ok-before_struct.ensures.text
    c.in_ok-before_struct.ensures.leads) (mark_settled _ c.before_struct.new.cursor c.take.new.self _ c.read_tuple_items.new.cursor c.if-not-take.ensures.text
    c.if-not-take.ensures.taken c.take.ensures.turns (made_turns _ _ c.read_tuple_items.new.cursor _ (Err _) c.in_ok-items.ensures.turns)))
