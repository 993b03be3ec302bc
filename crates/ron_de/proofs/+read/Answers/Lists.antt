-- Lists.
use Rattle.std.proofs.Common.{rules, Ok, ◌<◌, length, refl, ◌∙◌, ap, arith, List, Err, subst}
use Rattle.std.proofs.lemmas.Result.{err_from_is_err_and}
use Rattle.ron_spec_grammar.specs.Shapes.Seq.{list_data}
use Rattle.ron_spec_grammar.specs.Turns.{of_one}
use Rattle.ron_spec_grammar.proofs.ElementTurns.{seq_not_opened}
use Rattle.ron_base.specs.Class.{class_of}
use Rattle.ron_de_steps.specs.Reads.{IsFaultOf}
use Rattle.ron_de_steps.proofs.ErrorLemmas.{is_fault, text_and}
use Rattle.ron_de_parts.proofs.RoomLemmas.{room_ended, items_fall}
use Rattle.ron_de.specs.Elements.{AreElements}
use Rattle.ron_de_parts.proofs.GroupLemmas.{group_slash, group_deep}
use Rattle.ron_de_parts.proofs.SliceLemmas.{sliced-seq}
use Rattle.ron_de_parts.proofs.KeptLemmas.{source_there}
use Rattle.ron_de.proofs.ElementLemmas.{still_below, elements_inside, elements_said, seq_opening, seq_value}
use Rattle.ron_de.proofs.TurnLemmas.{refused_turns, moved_turns, scan_settled, step_settled, group_settled}
use Rattle.ron_de.proofs.ReachLemmas.{over_mark, over_gap, items_looks}
use Rattle.ron_spec_words.proofs.Leading.{leads_on}
use Rattle.ron_de_steps.proofs.NearLemmas.{mark_nears, mark_left_bracket, mark_right_bracket}
use Rattle.ron_de_steps.proofs.KeepLemmas.{goes_scan, over_on}
use Rattle.ron_de.specs.Turns.{SpendsItems}
use Rattle.ron_spec_grammar.specs.Schema.{Shape}
use Rattle.ron_de.proofs.+read.Goals as goal

pub lists::read_seq-returns-then-not-take-clause-value : goal.lists::read_seq-returns-then-not-take-clause-value
lists::read_seq-returns-then-not-take-clause-value t c =
    λ i is room r. seq_not_opened _ _ room i c.args.cursor.now.gap _ c.args.item is.0 c.if-not-take.ensures.taken.0

pub lists::read_seq-returns-in_err-pass_gap-clause-value : goal.lists::read_seq-returns-in_err-pass_gap-clause-value
lists::read_seq-returns-in_err-pass_gap-clause-value t c =
    let p = err_from_is_err_and c.from_residual.result c.from_residual.ensures.1 in
    rw (p.1, p.2) (λ i is room r.
    is_fault _ _ (text_and _ c.in_err-pass_gap.ensures.fault.0 (group_slash (elements_inside c.args.context.now (of_one c.args.item) 93 (list_data)) _ _ room
    (seq_opening _ _ room i c.args.cursor.now.gap _ _ c.args.item is.0 c.if-not-take.ensures.taken) c.in_err-pass_gap.ensures.slash)))

pub lists::read_seq-returns-in_err-inner-clause-value : goal.lists::read_seq-returns-in_err-inner-clause-value
lists::read_seq-returns-in_err-inner-clause-value t c =
    let p = err_from_is_err_and c.from_residual-in_err-inner.result c.from_residual-in_err-inner.ensures.1 in
    rw (p.1, p.2, c.in_err-inner.ensures.0) (λ i is room r. group_deep (elements_inside c.args.context.now (of_one c.args.item) 93 (list_data)) _ _ room
    (seq_opening _ _ room i c.args.cursor.now.gap _ _ c.args.item is.0 c.if-not-take.ensures.taken) c.in_ok-pass_gap.ensures.slash
    (room_ended _ _ room c.in_err-inner.ensures.1 r))

pub lists::read_seq-read_elements-requires : goal.lists::read_seq-read_elements-requires
lists::read_seq-read_elements-requires t c =
    let shorter : length c.pass_gap.new.cursor.rest < length c.args.cursor.now.rest =
    (omega (arith, ap length c.if-not-take.ensures.taken, c.in_ok-pass_gap.ensures.no_longer)) in (
      omega (
        arith,
        items_fall c.args.context.now.schema c.in_ok-inner.inner.schema (length c.pass_gap.new.cursor.rest) (length c.args.cursor.now.rest)
            c.in_ok-inner.ensures.1 shorter,
      ),
      (still_below _ _ (of_one c.args.item) c.in_ok-inner.ensures.1 c.requires, (refl, refl, refl, refl)),
    )

pub lists::read_seq-returns-in_err-items-clause-value : goal.lists::read_seq-returns-in_err-items-clause-value
lists::read_seq-returns-in_err-items-clause-value t c =
    let p = err_from_is_err_and c.from_residual-in_err-items.result c.from_residual-in_err-items.ensures.1 in
    let shorter : length c.pass_gap.new.cursor.rest < length c.args.cursor.now.rest =
    (omega (arith, ap length c.if-not-take.ensures.taken, c.in_ok-pass_gap.ensures.no_longer)) in
    rw (p.1, p.2) (λ i is room r. elements_said c.args.context.now c.in_ok-inner.inner c.in_ok-inner.ensures (of_one c.args.item) 93 (list_data) i _
    c.args.cursor.now c.pass_gap.new.cursor room (seq_opening _ _ room i c.args.cursor.now.gap _ _ c.args.item is.0 c.if-not-take.ensures.taken)
    c.in_ok-pass_gap.ensures.slash c.in_ok-pass_gap.ensures.gap c.in_ok-pass_gap.ensures.rest shorter r (λ o. IsFaultOf (class_of c.in_err-items.field-0.0) o)
    (c.in_err-items.ensures.value (list_data)))

pub lists::read_seq-returns : goal.lists::read_seq-returns
lists::read_seq-returns t c = record {
  value = let shorter : length c.pass_gap.new.cursor.rest < length c.args.cursor.now.rest =
      (omega (arith, ap length c.if-not-take.ensures.taken, c.in_ok-pass_gap.ensures.no_longer)) in
      λ i is room r. seq_value c.in_ok-items.items c.read_elements.new.cursor.rest _ (elements_said c.args.context.now c.in_ok-inner.inner c.in_ok-inner.ensures
      (of_one c.args.item) 93 (list_data) i _ c.args.cursor.now c.pass_gap.new.cursor room (seq_opening _ _ room i c.args.cursor.now.gap _ _ c.args.item is.0
      c.if-not-take.ensures.taken) c.in_ok-pass_gap.ensures.slash c.in_ok-pass_gap.ensures.gap c.in_ok-pass_gap.ensures.rest shorter r
      (λ o. AreElements 93 list_data (Ok c.in_ok-items.items) o c.read_elements.new.cursor.rest) (c.in_ok-items.ensures.value list_data)) _ c.pass.ensures.rest;
  slice = search rules;
  advance = record {
    text = search rules;
    no_longer = search rules;
    holds = λ source. let same = c.in_ok-pass_gap.ensures.text ∙ c.if-not-take.ensures.text in
        sliced-seq _ _ _ _ (leads_on (over_mark c.args.cursor.now c.take.new.self 91 refl c.if-not-take.ensures.taken)
        (over_gap c.take.new.self c.pass_gap.new.cursor c.in_ok-pass_gap.ensures.rest)) same c.in_ok-items.items
        (c.in_ok-items.ensures.advance.holds (source_there c.in_ok-inner.ensures.3 same source));
    fault = search rules;
  };
  turns = group_settled _ _ c.args.cursor.now c.take.new.self c.pass_gap.new.cursor _ c.pass.new.self 91 mark_left_bracket refl
      (items_looks c.args.context.now.schema) c.if-not-take.ensures.text c.in_ok-pass_gap.ensures.text c.if-not-take.ensures.taken c.in_ok-pass_gap.ensures.gap
      c.in_ok-pass_gap.ensures.rest c.take.ensures.turns c.in_ok-pass_gap.ensures.turns.moved (moved_turns _ _ c.read_elements.new.cursor c.pass.new.self _
      (Ok _) (subst (λ (s : List Shape). SpendsItems s c.pass_gap.new.cursor (Ok c.in_ok-items.items) c.read_elements.new.cursor) c.in_ok-inner.ensures.1
      c.in_ok-items.ensures.turns) c.pass.ensures.turns (mark_nears 93 c.read_elements.new.cursor c.pass.new.self mark_right_bracket c.pass.ensures.rest));
}

-- ---- the count

pub lists::read_seq-returns-then-not-take-clause-turns : goal.lists::read_seq-returns-then-not-take-clause-turns
lists::read_seq-returns-then-not-take-clause-turns t c = step_settled _ c.args.cursor.now c.take.new.self _ c.take.ensures.turns

pub lists::read_seq-returns-in_err-pass_gap-clause-turns : goal.lists::read_seq-returns-in_err-pass_gap-clause-turns
lists::read_seq-returns-in_err-pass_gap-clause-turns t c =
    let p = err_from_is_err_and c.from_residual.result c.from_residual.ensures.1 in
    rw (p.1, p.2) (scan_settled _ c.args.cursor.now c.pass_gap.new.cursor _
    (goes_scan 1 c.args.cursor.now c.take.new.self c.pass_gap.new.cursor c.take.ensures.turns c.in_err-pass_gap.ensures.turns.most))

pub lists::read_seq-returns-in_err-inner-clause-turns : goal.lists::read_seq-returns-in_err-inner-clause-turns
lists::read_seq-returns-in_err-inner-clause-turns t c =
    let p = err_from_is_err_and c.from_residual-in_err-inner.result c.from_residual-in_err-inner.ensures.1 in
    rw (p.1, p.2) (step_settled _ c.args.cursor.now c.pass_gap.new.cursor _
    (over_on 1 c.args.cursor.now c.take.new.self c.pass_gap.new.cursor c.take.ensures.turns c.in_ok-pass_gap.ensures.turns.moved))

pub lists::read_seq-returns-in_err-items-clause-turns : goal.lists::read_seq-returns-in_err-items-clause-turns
lists::read_seq-returns-in_err-items-clause-turns t c =
    let p = err_from_is_err_and c.from_residual-in_err-items.result c.from_residual-in_err-items.ensures.1 in
    rw (p.1, p.2) (group_settled _ _ c.args.cursor.now c.take.new.self c.pass_gap.new.cursor _ c.read_elements.new.cursor 91 mark_left_bracket refl
    (items_looks c.args.context.now.schema) c.if-not-take.ensures.text c.in_ok-pass_gap.ensures.text c.if-not-take.ensures.taken c.in_ok-pass_gap.ensures.gap
    c.in_ok-pass_gap.ensures.rest c.take.ensures.turns c.in_ok-pass_gap.ensures.turns.moved
    (refused_turns _ _ c.read_elements.new.cursor _ _ (subst (λ (s : List Shape).
    SpendsItems s c.pass_gap.new.cursor (Err c.in_err-items.field-0.0) c.read_elements.new.cursor) c.in_ok-inner.ensures.1 c.in_err-items.ensures.turns)))
