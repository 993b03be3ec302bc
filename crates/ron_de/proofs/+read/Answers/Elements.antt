-- The items of lists and tuples.
use Rattle.std.proofs.Common.{None, Some, ◌≤◌, length, refl, sym, ◌∙◌, arith, List, Err, rules, subst}
use Rattle.std.proofs.lemmas.Result.{err_from_is_err_and}
use Rattle.std.specs.List.{All}
use Rattle.ron_de_parts.proofs.RoomLemmas.{room_ended, items_later}
use Rattle.ron_de_parts.proofs.StepLemmas.{in_range_of}
use Rattle.ron_de_parts.specs.Slices.{StringsAreSliced}
use Rattle.ron_de_parts.proofs.SliceLemmas.{sliced-push}
use Rattle.ron_de_parts.proofs.KeptLemmas.{source_there, kept_there}
use Rattle.ron_de.proofs.ElementLemmas.{element_none, element_deep, element_falls, behind_these, is_below, reads_element, element_refused, no_comma_after}
use Rattle.ron_de.proofs.ElementLemmas.{element_more, elements_all, turn_falls}
use Rattle.ron_de.proofs.TurnLemmas.{made_turns, refused_turns, open_turns, here_spent, counts_begin, counts_end, counts_item, counts_on}
use Rattle.ron_de.proofs.ReachLemmas.{reads_past, item_spent}
use Rattle.ron_de.specs.Turns.{SpendsShape}
use Rattle.ron_spec_grammar.specs.Schema.{Shape}
use Rattle.ron_de.proofs.+read.Goals as goal

-- ---- an item of a list or a tuple

pub elements::read_element-returns-in_default-clause-value : goal.elements::read_element-returns-in_default-clause-value
elements::read_element-returns-in_default-clause-value t c =
    λ room seen e r. element_none c.args.context.now _ c.args.cursor.now room seen (behind_these _ seen _ None e (sym c.in_default.is ∙ c.shape_after.ensures))

pub elements::read_element-returns-in_err-inner-clause-value : goal.elements::read_element-returns-in_err-inner-clause-value
elements::read_element-returns-in_err-inner-clause-value t c =
    let p = err_from_is_err_and c.from_residual.result c.from_residual.ensures.1 in
    rw (p.1, p.2, c.in_err-inner.ensures.0) (λ room seen e r. element_deep c.args.context.now _ c.args.cursor.now room seen c.in-Some.index
    (behind_these _ seen _ (Some c.in-Some.index) e c.in-Some.ensures) (room_ended _ _ room c.in_err-inner.ensures.1 r))

pub elements::read_element-read_value-requires : goal.elements::read_element-read_value-requires
elements::read_element-read_value-requires t c = (
  omega (
    arith,
    element_falls c.args.context.now.schema c.in_ok-inner.inner.schema c.in-Some.index (length c.args.cursor.now.rest) (length c.args.cursor.now.rest)
        c.in_ok-inner.ensures.1,
  ),
  in_range_of _ _ _ c.in_ok-inner.ensures.1 (is_below _ _ c.args.count c.in-Some.index c.requires (sym c.in-Some.ensures)),
)

pub elements::read_element-returns-clause-value : goal.elements::read_element-returns-clause-value
elements::read_element-returns-clause-value t c =
    λ room seen e r. reads_element c.args.context.now c.in_ok-inner.inner c.in_ok-inner.ensures _ c.in-Some.index c.args.cursor.now room seen
    (behind_these _ seen _ (Some c.in-Some.index) e c.in-Some.ensures) r c.read_value.result c.read_value.new.cursor.rest c.read_value.ensures.value

-- ---- the items

pub elements::read_elements-read_element-requires : goal.elements::read_elements-read_element-requires
elements::read_elements-read_element-requires t c = (
  omega (
    arith,
    items_later c.args.context.now.schema (length c.items.cursor.rest) (length c.args.cursor.now.rest) (c.items.invariant.1.1.reads (λ _. None)).no_longer,
  ),
  c.requires.in_range,
)

pub elements::read_elements-returns-in_err-item-clause-value : goal.elements::read_elements-returns-in_err-item-clause-value
elements::read_elements-returns-in_err-item-clause-value t c =
    let p = err_from_is_err_and c.from_residual.result c.from_residual.ensures.1 in
    rw (p.1, p.2) (element_refused _ _ _ _ _ _ _ c.items.invariant.1.1 (sym c.items-test.ensures) _
    (λ room seen e r. c.in_err-item.ensures.value room seen (e ∙ sym c.items.items.ok.0 ∙ sym c.len.ensures) r))

pub elements::read_elements-items-init : goal.elements::read_elements-items-init
elements::read_elements-items-init t c = (search rules, search rules, (λ source. search rules), counts_begin _ _ c.args.cursor.now)

pub elements::read_elements-items-smaller : goal.elements::read_elements-items-smaller
elements::read_elements-items-smaller t c =
    turn_falls c.args.close _ _ _ _ (sym c.items-test.ensures) c.in_ok-item.ensures.advance.no_longer c.in_ok-pass_element_end.ensures.value

pub elements::read_elements-items-preserved : goal.elements::read_elements-items-preserved
elements::read_elements-items-preserved t c =
    let shorter : length c.pass_element_end.new.cursor.rest ≤ length c.items.cursor.rest =
    omega (arith, c.in_ok-pass_element_end.ensures.no_longer, c.in_ok-item.ensures.advance.no_longer) in (
      c.in_ok-pass_element_end.ensures.text ∙ c.in_ok-item.ensures.advance.text ∙ c.items.invariant.0,
      (
        c.items.invariant.1.0,
        element_more _ _ _ _ _ _ _ c.items.invariant.1.1 (sym c.items-test.ensures) c.in_ok-item.item _ (λ room seen e r. c.in_ok-item.ensures.value room seen
            (e ∙ sym c.items.items.ok.0 ∙ sym c.len.ensures) r) _ _ c.in_ok-push.ensures.items c.in_ok-pass_element_end.ensures.value shorter,
      ),
      (λ source. sliced-push _ _ _ _ (c.items.invariant.3.leads (sym c.items-test.ensures)) c.items.invariant.0 _ _ c.in_ok-item.item c.in_ok-push.ensures.items
          (c.items.invariant.2 source) (c.in_ok-item.ensures.advance.holds (source_there refl c.items.invariant.0 source))),
      counts_on c.items.invariant.3 (sym c.items-test.ensures) c.in_ok-item.item c.read_element.new.cursor c.pass_element_end.new.cursor
          c.in_ok-item.ensures.turns c.in_ok-item.ensures.advance.text c.in_ok-item.ensures.leads c.in_ok-pass_element_end.ensures.turns.moved
          c.in_ok-pass_element_end.ensures.text c.in_ok-pass_element_end.ensures.value,
    )

pub elements::read_elements-returns-in_err-pass_element_end-clause-value : goal.elements::read_elements-returns-in_err-pass_element_end-clause-value
elements::read_elements-returns-in_err-pass_element_end-clause-value t c =
    let p = err_from_is_err_and c.from_residual-in_err-pass_element_end.result c.from_residual-in_err-pass_element_end.ensures.1 in
    rw (p.1, p.2) (no_comma_after _ _ _ _ _ _ _ c.items.invariant.1.1 (sym c.items-test.ensures) c.in_ok-item.item _
    (λ room seen e r. c.in_ok-item.ensures.value room seen (e ∙ sym c.items.items.ok.0 ∙ sym c.len.ensures) r) _ c.in_err-pass_element_end.ensures.value)

pub elements::read_elements-returns-clause-advance : goal.elements::read_elements-returns-clause-advance
elements::read_elements-returns-clause-advance t c = record {
  text = c.items.invariant.0;
  no_longer = (c.items.invariant.1.1.reads (λ _. None)).no_longer;
  holds =
      λ source. subst (All (StringsAreSliced c.args.cursor.now.rest c.args.cursor.now.text)) (sym c.shrink_to_fit.ensures.items) (c.items.invariant.2 source);
  fault = tt;
}

pub elements::read_elements-returns-clause-value : goal.elements::read_elements-returns-clause-value
elements::read_elements-returns-clause-value t c =
    rw c.shrink_to_fit.ensures.items (elements_all _ _ _ _ _ _ _ c.items.invariant.1.1 (sym c.items-test.ensures))

-- ---- the count

pub elements::read_element-returns-in_default-clause-turns : goal.elements::read_element-returns-in_default-clause-turns
elements::read_element-returns-in_default-clause-turns t c = here_spent _ _ c.args.cursor.now c.args.cursor.now _ (omega arith)

pub elements::read_element-returns-in_err-inner-clause-turns : goal.elements::read_element-returns-in_err-inner-clause-turns
elements::read_element-returns-in_err-inner-clause-turns t c =
    let p = err_from_is_err_and c.from_residual.result c.from_residual.ensures.1 in
    rw (p.1, p.2) (here_spent _ _ c.args.cursor.now c.args.cursor.now _ (omega arith))

pub elements::read_element-returns-clause-turns : goal.elements::read_element-returns-clause-turns
elements::read_element-returns-clause-turns t c = item_spent c.args.context.now.schema c.in-Some.index c.args.cursor.now c.read_value.result
    c.read_value.new.cursor (is_below _ _ c.args.count c.in-Some.index c.requires (sym c.in-Some.ensures)) (subst (λ (s : List Shape).
    SpendsShape s c.in-Some.index c.args.cursor.now c.read_value.result c.read_value.new.cursor) c.in_ok-inner.ensures.1 c.read_value.ensures.turns)

pub elements::read_element-returns-clause-advance : goal.elements::read_element-returns-clause-advance
elements::read_element-returns-clause-advance t c =
    let a = c.read_value.ensures in
    record {
      text = a.text;
      no_longer = a.no_longer;
      holds = kept_there (StringsAreSliced c.args.cursor.now.rest) c.read_value.result c.in_ok-inner.ensures.3 refl a.slices;
      fault = a.fault;
    }

pub elements::read_element-returns-clause-leads : goal.elements::read_element-returns-clause-leads
elements::read_element-returns-clause-leads t c =
    reads_past c.in_ok-inner.inner c.args.cursor.now c.read_value.new.cursor c.in-Some.index c.read_value.result c.read_value.ensures.value

pub elements::read_elements-returns-in_err-item-clause-turns : goal.elements::read_elements-returns-in_err-item-clause-turns
elements::read_elements-returns-in_err-item-clause-turns t c =
    let p = err_from_is_err_and c.from_residual.result c.from_residual.ensures.1 in
    rw (p.1, p.2) (counts_item c.items.invariant.3 (sym c.items-test.ensures) _ c.read_element.new.cursor
    (refused_turns _ _ c.read_element.new.cursor _ _ c.in_err-item.ensures.turns))

pub elements::read_elements-returns-in_err-push-clause-turns : goal.elements::read_elements-returns-in_err-push-clause-turns
elements::read_elements-returns-in_err-push-clause-turns t c =
    let p = err_from_is_err_and c.from_residual-in_err-push.result c.from_residual-in_err-push.ensures.1 in
    rw (p.1, p.2) (counts_item c.items.invariant.3 (sym c.items-test.ensures) _ c.read_element.new.cursor
    (made_turns _ _ c.read_element.new.cursor _ (Err _) c.in_ok-item.ensures.turns))

pub elements::read_elements-returns-in_err-pass_element_end-clause-turns : goal.elements::read_elements-returns-in_err-pass_element_end-clause-turns
elements::read_elements-returns-in_err-pass_element_end-clause-turns t c =
    let p = err_from_is_err_and c.from_residual-in_err-pass_element_end.result c.from_residual-in_err-pass_element_end.ensures.1 in
    rw (p.1, p.2) (counts_item c.items.invariant.3 (sym c.items-test.ensures) _ c.pass_element_end.new.cursor
    (open_turns _ _ c.read_element.new.cursor c.pass_element_end.new.cursor _ _ c.in_ok-item.ensures.turns c.in_err-pass_element_end.ensures.turns.most))

pub elements::read_elements-returns-clause-turns : goal.elements::read_elements-returns-clause-turns
elements::read_elements-returns-clause-turns t c = counts_end c.items.invariant.3 _
