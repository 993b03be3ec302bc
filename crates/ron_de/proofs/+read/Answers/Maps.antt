-- Maps and their pairs.
use Rattle.std.proofs.Common.{rules, Ok, ◌≤◌, ◌<◌, length, sym, ◌∙◌, ap, arith, subst, List, Err, refl}
use Rattle.std.proofs.lemmas.Result.{err_from_is_err_and}
use Rattle.std.proofs.lemmas.List.Elements.{All-push}
use Rattle.std.specs.List.{All}
use Rattle.ron_spec_grammar.proofs.PairTurns.{map_not_opened}
use Rattle.ron_base.specs.Class.{class_of}
use Rattle.ron_de_steps.specs.Reads.{IsFaultOf}
use Rattle.ron_de_steps.proofs.ErrorLemmas.{is_fault, text_and}
use Rattle.ron_de_parts.proofs.RoomLemmas.{room_ended, items_fall, items_later}
use Rattle.ron_de_parts.proofs.StepLemmas.{in_range_of}
use Rattle.ron_de_parts.proofs.GroupLemmas.{group_slash, group_deep}
use Rattle.ron_de.proofs.ElementLemmas.{element_falls}
use Rattle.ron_de.specs.Pairs.{ArePairs}
use Rattle.ron_de_parts.specs.Slices.{PairIsSliced}
use Rattle.ron_de_parts.proofs.SliceLemmas.{sliced-map, sliced-pair, sliced-among, pair_later}
use Rattle.ron_de_parts.proofs.KeptLemmas.{source_there}
use Rattle.ron_de.proofs.PairLemmas.{pair_deep, key_fails, colon_missing, value_fails, pair_is_read, pair_fails, no_comma_behind, one_more_pair, all_pairs_read}
use Rattle.ron_de.proofs.PairLemmas.{pairs_inside, map_opening, pairs_said, map_value}
use Rattle.ron_de.proofs.TurnLemmas.{made_turns, refused_turns, open_turns, moved_turns, entered_turns, here_spent, scan_settled, step_settled, group_settled}
use Rattle.ron_de.proofs.TurnLemmas.{counts_begin, counts_end, counts_item, counts_on}
use Rattle.ron_de.proofs.ReachLemmas.{over_mark, over_gap, read_leads, items_looks, item_spent}
use Rattle.ron_spec_words.proofs.Leading.{leads_on}
use Rattle.ron_de_steps.proofs.NearLemmas.{mark_nears, mark_left_brace, mark_right_brace, past_colon_enters}
use Rattle.ron_de_steps.proofs.LeadLemmas.{reached_colon, follows_colon, leads_past_colon, reached_on}
use Rattle.ron_de_steps.proofs.KeepLemmas.{goes_scan, over_on}
use Rattle.ron_de.specs.Turns.{SpendsShape, SpendsItems}
use Rattle.ron_spec_grammar.specs.Schema.{Shape}
use Rattle.ron_de.proofs.+read.Goals as goal

-- ---- a pair of a map

pub maps::read_pair-returns-in_err-inner-clause-value : goal.maps::read_pair-returns-in_err-inner-clause-value
maps::read_pair-returns-in_err-inner-clause-value t c =
    let p = err_from_is_err_and c.from_residual.result c.from_residual.ensures.1 in
    rw (p.1, p.2, c.in_err-inner.ensures.0)
    (λ room r. pair_deep c.args.context.now c.args.key c.args.value c.args.cursor.now room (room_ended _ _ room c.in_err-inner.ensures.1 r))

pub maps::read_pair-read_value-requires : goal.maps::read_pair-read_value-requires
maps::read_pair-read_value-requires t c = (
  omega (
    arith,
    element_falls c.args.context.now.schema c.in_ok-inner.inner.schema c.args.key (length c.args.cursor.now.rest) (length c.args.cursor.now.rest)
        c.in_ok-inner.ensures.1,
  ),
  in_range_of _ _ _ c.in_ok-inner.ensures.1 c.requires.in_range.0,
)

pub maps::read_pair-returns-in_err-key-clause-value : goal.maps::read_pair-returns-in_err-key-clause-value
maps::read_pair-returns-in_err-key-clause-value t c =
    let p = err_from_is_err_and c.from_residual-in_err-key.result c.from_residual-in_err-key.ensures.1 in
    rw (p.1, p.2) (λ room r. key_fails c.args.context.now c.args.key c.args.value c.args.cursor.now room c.in_ok-inner.inner c.in_ok-inner.ensures r _
    c.read_value.new.cursor.rest c.in_err-key.ensures.value)

pub maps::read_pair-returns-in_err-pass_colon-clause-value : goal.maps::read_pair-returns-in_err-pass_colon-clause-value
maps::read_pair-returns-in_err-pass_colon-clause-value t c =
    let p = err_from_is_err_and c.from_residual-in_err-pass_colon.result c.from_residual-in_err-pass_colon.ensures.1 in
    rw (p.1, p.2) (λ room r. colon_missing c.args.context.now c.args.key c.args.value c.args.cursor.now room c.in_ok-inner.inner c.in_ok-inner.ensures r
    c.in_ok-key.key c.read_value.new.cursor.rest c.in_ok-key.ensures.value _ c.in_err-pass_colon.ensures.value)

pub maps::read_pair-read_value-requires-2 : goal.maps::read_pair-read_value-requires-2
maps::read_pair-read_value-requires-2 t c =
    let no_longer : length c.pass_colon.new.cursor.rest ≤ length c.args.cursor.now.rest =
    omega (arith, c.in_ok-pass_colon.ensures.shorter, c.in_ok-key.ensures.no_longer) in (
      omega (
        arith,
        element_falls c.args.context.now.schema c.in_ok-inner.inner.schema c.args.value (length c.pass_colon.new.cursor.rest) (length c.args.cursor.now.rest)
            c.in_ok-inner.ensures.1 no_longer,
      ),
      in_range_of _ _ _ c.in_ok-inner.ensures.1 c.requires.in_range.1,
    )

pub maps::read_pair-returns-in_err-value-clause-value : goal.maps::read_pair-returns-in_err-value-clause-value
maps::read_pair-returns-in_err-value-clause-value t c =
    let p = err_from_is_err_and c.from_residual-in_err-value.result c.from_residual-in_err-value.ensures.1 in
    let no_longer : length c.pass_colon.new.cursor.rest ≤ length c.args.cursor.now.rest =
    omega (arith, c.in_ok-pass_colon.ensures.shorter, c.in_ok-key.ensures.no_longer) in
    rw (p.1, p.2) (λ room r. value_fails c.args.context.now c.args.key c.args.value c.args.cursor.now room c.in_ok-inner.inner c.in_ok-inner.ensures r
    c.in_ok-key.key c.read_value.new.cursor.rest c.in_ok-key.ensures.value c.pass_colon.new.cursor c.in_ok-pass_colon.ensures.value no_longer _
    c.read_value-2.new.cursor.rest c.in_err-value.ensures.value)

pub maps::read_pair-returns-clause-value : goal.maps::read_pair-returns-clause-value
maps::read_pair-returns-clause-value t c =
    let no_longer : length c.pass_colon.new.cursor.rest ≤ length c.args.cursor.now.rest =
    omega (arith, c.in_ok-pass_colon.ensures.shorter, c.in_ok-key.ensures.no_longer) in
    λ room r. pair_is_read c.args.context.now c.args.key c.args.value c.args.cursor.now room c.in_ok-inner.inner c.in_ok-inner.ensures r c.in_ok-key.key
    c.read_value.new.cursor.rest c.in_ok-key.ensures.value c.pass_colon.new.cursor c.in_ok-pass_colon.ensures.value no_longer c.in_ok-value.value
    c.read_value-2.new.cursor.rest c.in_ok-value.ensures.value

pub maps::read_pair-returns-clause-slices : goal.maps::read_pair-returns-clause-slices
maps::read_pair-returns-clause-slices t c source =
    let same = c.in_ok-pass_colon.ensures.text ∙ c.in_ok-key.ensures.text in
    sliced-pair _ _ _ _ (leads_on (read_leads c.in_ok-inner.inner c.args.cursor.now c.read_value.new.cursor c.args.key c.in_ok-key.key c.in_ok-key.ensures.value
    (follows_colon c.read_value.new.cursor.rest _ c.in_ok-pass_colon.ensures.value))
    (leads_past_colon c.read_value.new.cursor c.pass_colon.new.cursor c.in_ok-pass_colon.ensures.value)) same c.in_ok-key.key c.in_ok-value.value
    (c.in_ok-key.ensures.slices (c.in_ok-inner.ensures.3 ∙ source)) (c.in_ok-value.ensures.slices (source_there c.in_ok-inner.ensures.3 same source))

-- ---- the pairs

pub maps::read_pairs-read_pair-requires : goal.maps::read_pairs-read_pair-requires
maps::read_pairs-read_pair-requires t c = (
  omega (arith, items_later c.args.context.now.schema (length c.pairs.cursor.rest) (length c.args.cursor.now.rest) c.pairs.invariant.1.items.no_longer),
  c.requires.in_range,
)

pub maps::read_pairs-returns-in_err-pair-clause-value : goal.maps::read_pairs-returns-in_err-pair-clause-value
maps::read_pairs-returns-in_err-pair-clause-value t c =
    let p = err_from_is_err_and c.from_residual.result c.from_residual.ensures.1 in
    rw (p.1, p.2) (pair_fails _ _ _ _ _ _ c.pairs.invariant.1 (sym c.pairs-test.ensures) _ c.in_err-pair.ensures.value)

pub maps::read_pairs-returns-in_err-read_comma-clause-value : goal.maps::read_pairs-returns-in_err-read_comma-clause-value
maps::read_pairs-returns-in_err-read_comma-clause-value t c =
    let p = err_from_is_err_and c.from_residual-in_err-read_comma.result c.from_residual-in_err-read_comma.ensures.1 in
    rw (p.1, p.2) (no_comma_behind _ _ _ _ _ _ c.pairs.invariant.1 (sym c.pairs-test.ensures) c.in_ok-pair.pair _ c.in_ok-pair.ensures.value _
    c.in_err-read_comma.ensures.value)

pub maps::read_pairs-pairs-init : goal.maps::read_pairs-pairs-init
maps::read_pairs-pairs-init t c = (search rules, search rules, (λ source. search rules), counts_begin _ _ c.args.cursor.now)

pub maps::read_pairs-pairs-preserved : goal.maps::read_pairs-pairs-preserved
maps::read_pairs-pairs-preserved t c =
    let shorter : length c.read_comma.new.cursor.rest ≤ length c.pairs.cursor.rest =
    omega (arith, c.in_ok-read_comma.ensures.no_longer, c.in_ok-pair.ensures.shorter) in (
      c.in_ok-read_comma.ensures.text ∙ c.in_ok-pair.ensures.text ∙ c.pairs.invariant.0,
      one_more_pair _ _ _ _ _ _ c.pairs.invariant.1 (sym c.pairs-test.ensures) c.in_ok-pair.pair _ c.in_ok-pair.ensures.value _ _ c.in_ok-push.ensures.items
          c.in_ok-read_comma.ensures.value shorter,
      (λ source. subst (All (PairIsSliced c.args.cursor.now.rest c.args.cursor.now.text)) (sym c.in_ok-push.ensures.items)
          (All-push (PairIsSliced c.args.cursor.now.rest c.args.cursor.now.text) _ _ (c.pairs.invariant.2 source) (pair_later _ _ _ _ (c.pairs.invariant.3.leads
          (sym c.pairs-test.ensures)) c.pairs.invariant.0 c.in_ok-pair.pair (c.in_ok-pair.ensures.slices (source_there refl c.pairs.invariant.0 source))))),
      counts_on c.pairs.invariant.3 (sym c.pairs-test.ensures) c.in_ok-pair.pair c.read_pair.new.cursor c.read_comma.new.cursor c.in_ok-pair.ensures.turns
          c.in_ok-pair.ensures.text c.in_ok-pair.ensures.leads c.in_ok-read_comma.ensures.turns.moved c.in_ok-read_comma.ensures.text
          c.in_ok-read_comma.ensures.value,
    )

pub maps::read_pairs-returns-clause-value : goal.maps::read_pairs-returns-clause-value
maps::read_pairs-returns-clause-value t c = rw c.shrink_to_fit.ensures.items (all_pairs_read _ _ _ _ _ _ c.pairs.invariant.1 (sym c.pairs-test.ensures))

pub maps::read_pairs-returns-clause-advance : goal.maps::read_pairs-returns-clause-advance
maps::read_pairs-returns-clause-advance t c = record {
  text = c.pairs.invariant.0;
  no_longer = c.pairs.invariant.1.items.no_longer;
  holds = λ source. subst (All (PairIsSliced c.args.cursor.now.rest c.args.cursor.now.text)) (sym c.shrink_to_fit.ensures.items) (c.pairs.invariant.2 source);
  fault = tt;
}

-- ---- maps

pub maps::read_map-returns-then-not-take-clause-value : goal.maps::read_map-returns-then-not-take-clause-value
maps::read_map-returns-then-not-take-clause-value t c =
    λ i is room r. map_not_opened _ _ room c.args.key c.args.value i c.args.cursor.now.gap _ is.0 c.if-not-take.ensures.taken.0

pub maps::read_map-returns-in_err-pass_gap-clause-value : goal.maps::read_map-returns-in_err-pass_gap-clause-value
maps::read_map-returns-in_err-pass_gap-clause-value t c =
    let p = err_from_is_err_and c.from_residual.result c.from_residual.ensures.1 in
    rw (p.1, p.2)
    (λ i is room r. is_fault _ _ (text_and _ c.in_err-pass_gap.ensures.fault.0 (group_slash (pairs_inside c.args.context.now c.args.key c.args.value) _ _ room
    (map_opening _ _ room i c.args.cursor.now.gap _ _ c.args.key c.args.value is.0 c.if-not-take.ensures.taken) c.in_err-pass_gap.ensures.slash)))

pub maps::read_map-returns-in_err-inner-clause-value : goal.maps::read_map-returns-in_err-inner-clause-value
maps::read_map-returns-in_err-inner-clause-value t c =
    let p = err_from_is_err_and c.from_residual-in_err-inner.result c.from_residual-in_err-inner.ensures.1 in
    rw (p.1, p.2, c.in_err-inner.ensures.0) (λ i is room r. group_deep (pairs_inside c.args.context.now c.args.key c.args.value) _ _ room
    (map_opening _ _ room i c.args.cursor.now.gap _ _ c.args.key c.args.value is.0 c.if-not-take.ensures.taken) c.in_ok-pass_gap.ensures.slash
    (room_ended _ _ room c.in_err-inner.ensures.1 r))

pub maps::read_map-read_pairs-requires : goal.maps::read_map-read_pairs-requires
maps::read_map-read_pairs-requires t c =
    let shorter : length c.pass_gap.new.cursor.rest < length c.args.cursor.now.rest =
    (omega (arith, ap length c.if-not-take.ensures.taken, c.in_ok-pass_gap.ensures.no_longer)) in (
      omega (
        arith,
        items_fall c.args.context.now.schema c.in_ok-inner.inner.schema (length c.pass_gap.new.cursor.rest) (length c.args.cursor.now.rest)
            c.in_ok-inner.ensures.1 shorter,
      ),
      (in_range_of _ _ _ c.in_ok-inner.ensures.1 c.requires.0, in_range_of _ _ _ c.in_ok-inner.ensures.1 c.requires.1),
    )

pub maps::read_map-returns-in_err-pairs-clause-value : goal.maps::read_map-returns-in_err-pairs-clause-value
maps::read_map-returns-in_err-pairs-clause-value t c =
    let p = err_from_is_err_and c.from_residual-in_err-pairs.result c.from_residual-in_err-pairs.ensures.1 in
    let shorter : length c.pass_gap.new.cursor.rest < length c.args.cursor.now.rest =
    (omega (arith, ap length c.if-not-take.ensures.taken, c.in_ok-pass_gap.ensures.no_longer)) in
    rw (p.1, p.2) (λ i is room r. pairs_said c.args.context.now c.in_ok-inner.inner c.in_ok-inner.ensures c.args.key c.args.value i _ c.args.cursor.now
    c.pass_gap.new.cursor room (map_opening _ _ room i c.args.cursor.now.gap _ _ c.args.key c.args.value is.0 c.if-not-take.ensures.taken)
    c.in_ok-pass_gap.ensures.slash c.in_ok-pass_gap.ensures.gap c.in_ok-pass_gap.ensures.rest shorter r (λ o. IsFaultOf (class_of c.in_err-pairs.field-0.0) o)
    c.in_err-pairs.ensures.value)

pub maps::read_map-returns : goal.maps::read_map-returns
maps::read_map-returns t c = record {
  value = let shorter : length c.pass_gap.new.cursor.rest < length c.args.cursor.now.rest =
      (omega (arith, ap length c.if-not-take.ensures.taken, c.in_ok-pass_gap.ensures.no_longer)) in
      λ i is room r. map_value c.in_ok-pairs.pairs c.in_ok-folded.folded c.read_pairs.new.cursor.rest _ (pairs_said c.args.context.now c.in_ok-inner.inner
      c.in_ok-inner.ensures c.args.key c.args.value i _ c.args.cursor.now c.pass_gap.new.cursor room
      (map_opening _ _ room i c.args.cursor.now.gap _ _ c.args.key c.args.value is.0 c.if-not-take.ensures.taken)
      c.in_ok-pass_gap.ensures.slash c.in_ok-pass_gap.ensures.gap c.in_ok-pass_gap.ensures.rest shorter r
      (λ o. ArePairs (Ok c.in_ok-pairs.pairs) o c.read_pairs.new.cursor.rest) c.in_ok-pairs.ensures.value) c.in_ok-folded.ensures.value _ c.pass.ensures.rest;
  slice = search rules;
  advance = record {
    text = search rules;
    no_longer = search rules;
    holds = λ source. let same = c.in_ok-pass_gap.ensures.text ∙ c.if-not-take.ensures.text in
        sliced-map _ _ _ _ (leads_on (over_mark c.args.cursor.now c.take.new.self 123 refl c.if-not-take.ensures.taken)
        (over_gap c.take.new.self c.pass_gap.new.cursor c.in_ok-pass_gap.ensures.rest)) same c.in_ok-folded.folded
        (sliced-among _ _ (c.in_ok-pairs.ensures.advance.holds (source_there c.in_ok-inner.ensures.3 same source)) c.in_ok-folded.ensures.parts);
    fault = search rules;
  };
  turns = group_settled _ _ c.args.cursor.now c.take.new.self c.pass_gap.new.cursor _ c.pass.new.self 123 mark_left_brace refl
      (items_looks c.args.context.now.schema) c.if-not-take.ensures.text c.in_ok-pass_gap.ensures.text c.if-not-take.ensures.taken c.in_ok-pass_gap.ensures.gap
      c.in_ok-pass_gap.ensures.rest c.take.ensures.turns c.in_ok-pass_gap.ensures.turns.moved (moved_turns _ _ c.read_pairs.new.cursor c.pass.new.self _ (Ok _)
      (subst (λ (s : List Shape). SpendsItems s c.pass_gap.new.cursor (Ok c.in_ok-pairs.pairs) c.read_pairs.new.cursor) c.in_ok-inner.ensures.1
      c.in_ok-pairs.ensures.turns) c.pass.ensures.turns (mark_nears 125 c.read_pairs.new.cursor c.pass.new.self mark_right_brace c.pass.ensures.rest));
}

-- ---- the count

pub maps::read_pair-returns-in_err-inner-clause-turns : goal.maps::read_pair-returns-in_err-inner-clause-turns
maps::read_pair-returns-in_err-inner-clause-turns t c =
    let p = err_from_is_err_and c.from_residual.result c.from_residual.ensures.1 in
    rw (p.1, p.2) (here_spent _ _ c.args.cursor.now c.args.cursor.now _ (omega arith))

pub maps::read_pair-returns-in_err-key-clause-turns : goal.maps::read_pair-returns-in_err-key-clause-turns
maps::read_pair-returns-in_err-key-clause-turns t c =
    let p = err_from_is_err_and c.from_residual-in_err-key.result c.from_residual-in_err-key.ensures.1 in
    rw (p.1, p.2) (refused_turns _ _ c.read_value.new.cursor _ _ (item_spent c.args.context.now.schema c.args.key c.args.cursor.now (Err c.in_err-key.field-0.0)
    c.read_value.new.cursor c.requires.in_range.0 (subst (λ (s : List Shape).
    SpendsShape s c.args.key c.args.cursor.now (Err c.in_err-key.field-0.0) c.read_value.new.cursor) c.in_ok-inner.ensures.1 c.in_err-key.ensures.turns)))

pub maps::read_pair-returns-in_err-pass_colon-clause-turns : goal.maps::read_pair-returns-in_err-pass_colon-clause-turns
maps::read_pair-returns-in_err-pass_colon-clause-turns t c =
    let p = err_from_is_err_and c.from_residual-in_err-pass_colon.result c.from_residual-in_err-pass_colon.ensures.1 in
    rw (p.1, p.2) (open_turns _ _ c.read_value.new.cursor c.pass_colon.new.cursor _ _ (item_spent c.args.context.now.schema c.args.key c.args.cursor.now
    (Ok c.in_ok-key.key) c.read_value.new.cursor c.requires.in_range.0 (subst (λ (s : List Shape). SpendsShape s c.args.key c.args.cursor.now
    (Ok c.in_ok-key.key) c.read_value.new.cursor) c.in_ok-inner.ensures.1 c.in_ok-key.ensures.turns)) c.in_err-pass_colon.ensures.turns.most)

pub maps::read_pair-returns-in_err-value-clause-turns : goal.maps::read_pair-returns-in_err-value-clause-turns
maps::read_pair-returns-in_err-value-clause-turns t c =
    let p = err_from_is_err_and c.from_residual-in_err-value.result c.from_residual-in_err-value.ensures.1 in
    rw (p.1, p.2)
    (entered_turns _ _ _ c.read_value.new.cursor c.pass_colon.new.cursor _ _ c.read_value-2.new.cursor (items_looks c.args.context.now.schema) (item_spent
    c.args.context.now.schema c.args.key c.args.cursor.now (Ok c.in_ok-key.key) c.read_value.new.cursor c.requires.in_range.0 (subst (λ (s : List Shape).
    SpendsShape s c.args.key c.args.cursor.now (Ok c.in_ok-key.key) c.read_value.new.cursor) c.in_ok-inner.ensures.1 c.in_ok-key.ensures.turns))
    c.in_ok-pass_colon.ensures.turns.moved (past_colon_enters c.read_value.new.cursor c.pass_colon.new.cursor c.in_ok-pass_colon.ensures.value)
    (λ p. reached_colon c.read_value.new.cursor c.pass_colon.new.cursor c.in_ok-pass_colon.ensures.text c.in_ok-pass_colon.ensures.value
    (reached_on c.args.cursor.now c.read_value.new.cursor c.in_ok-key.ensures.text (read_leads c.in_ok-inner.inner c.args.cursor.now c.read_value.new.cursor
    c.args.key c.in_ok-key.key c.in_ok-key.ensures.value (follows_colon c.read_value.new.cursor.rest _ c.in_ok-pass_colon.ensures.value)) p))
    (refused_turns _ _ c.read_value-2.new.cursor _ _ (item_spent c.args.context.now.schema c.args.value c.pass_colon.new.cursor (Err c.in_err-value.field-0.0)
    c.read_value-2.new.cursor c.requires.in_range.1 (subst (λ (s : List Shape). SpendsShape s c.args.value c.pass_colon.new.cursor
    (Err c.in_err-value.field-0.0) c.read_value-2.new.cursor) c.in_ok-inner.ensures.1 c.in_err-value.ensures.turns))))

pub maps::read_pair-returns-clause-turns : goal.maps::read_pair-returns-clause-turns
maps::read_pair-returns-clause-turns t c = entered_turns _ _ _ c.read_value.new.cursor c.pass_colon.new.cursor _ _ c.read_value-2.new.cursor
    (items_looks c.args.context.now.schema) (item_spent c.args.context.now.schema c.args.key c.args.cursor.now (Ok c.in_ok-key.key) c.read_value.new.cursor
    c.requires.in_range.0 (subst (λ (s : List Shape). SpendsShape s c.args.key c.args.cursor.now (Ok c.in_ok-key.key) c.read_value.new.cursor)
    c.in_ok-inner.ensures.1 c.in_ok-key.ensures.turns)) c.in_ok-pass_colon.ensures.turns.moved
    (past_colon_enters c.read_value.new.cursor c.pass_colon.new.cursor c.in_ok-pass_colon.ensures.value)
    (λ p. reached_colon c.read_value.new.cursor c.pass_colon.new.cursor c.in_ok-pass_colon.ensures.text c.in_ok-pass_colon.ensures.value
    (reached_on c.args.cursor.now c.read_value.new.cursor c.in_ok-key.ensures.text (read_leads c.in_ok-inner.inner c.args.cursor.now c.read_value.new.cursor
    c.args.key c.in_ok-key.key c.in_ok-key.ensures.value (follows_colon c.read_value.new.cursor.rest _ c.in_ok-pass_colon.ensures.value)) p))
    (made_turns _ _ c.read_value-2.new.cursor _ (Ok _) (item_spent c.args.context.now.schema c.args.value c.pass_colon.new.cursor (Ok c.in_ok-value.value)
    c.read_value-2.new.cursor c.requires.in_range.1 (subst (λ (s : List Shape). SpendsShape s c.args.value c.pass_colon.new.cursor (Ok c.in_ok-value.value)
    c.read_value-2.new.cursor) c.in_ok-inner.ensures.1 c.in_ok-value.ensures.turns)))

pub maps::read_pair-returns-clause-leads : goal.maps::read_pair-returns-clause-leads
maps::read_pair-returns-clause-leads t c = λ f. leads_on (leads_on (read_leads c.in_ok-inner.inner c.args.cursor.now c.read_value.new.cursor c.args.key
    c.in_ok-key.key c.in_ok-key.ensures.value (follows_colon c.read_value.new.cursor.rest _ c.in_ok-pass_colon.ensures.value))
    (leads_past_colon c.read_value.new.cursor c.pass_colon.new.cursor c.in_ok-pass_colon.ensures.value))
    (read_leads c.in_ok-inner.inner c.pass_colon.new.cursor c.read_value-2.new.cursor c.args.value c.in_ok-value.value c.in_ok-value.ensures.value f)

pub maps::read_pairs-returns-in_err-pair-clause-turns : goal.maps::read_pairs-returns-in_err-pair-clause-turns
maps::read_pairs-returns-in_err-pair-clause-turns t c =
    let p = err_from_is_err_and c.from_residual.result c.from_residual.ensures.1 in
    rw (p.1, p.2) (counts_item c.pairs.invariant.3 (sym c.pairs-test.ensures) _ c.read_pair.new.cursor
    (refused_turns _ _ c.read_pair.new.cursor _ _ c.in_err-pair.ensures.turns))

pub maps::read_pairs-returns-in_err-push-clause-turns : goal.maps::read_pairs-returns-in_err-push-clause-turns
maps::read_pairs-returns-in_err-push-clause-turns t c =
    let p = err_from_is_err_and c.from_residual-in_err-push.result c.from_residual-in_err-push.ensures.1 in
    rw (p.1, p.2) (counts_item c.pairs.invariant.3 (sym c.pairs-test.ensures) _ c.read_pair.new.cursor
    (made_turns _ _ c.read_pair.new.cursor _ (Err _) c.in_ok-pair.ensures.turns))

pub maps::read_pairs-returns-in_err-read_comma-clause-turns : goal.maps::read_pairs-returns-in_err-read_comma-clause-turns
maps::read_pairs-returns-in_err-read_comma-clause-turns t c =
    let p = err_from_is_err_and c.from_residual-in_err-read_comma.result c.from_residual-in_err-read_comma.ensures.1 in
    rw (p.1, p.2) (counts_item c.pairs.invariant.3 (sym c.pairs-test.ensures) _ c.read_comma.new.cursor
    (open_turns _ _ c.read_pair.new.cursor c.read_comma.new.cursor _ _ c.in_ok-pair.ensures.turns c.in_err-read_comma.ensures.turns.most))

pub maps::read_pairs-returns-clause-turns : goal.maps::read_pairs-returns-clause-turns
maps::read_pairs-returns-clause-turns t c = counts_end c.pairs.invariant.3 _

pub maps::read_map-returns-then-not-take-clause-turns : goal.maps::read_map-returns-then-not-take-clause-turns
maps::read_map-returns-then-not-take-clause-turns t c = step_settled _ c.args.cursor.now c.take.new.self _ c.take.ensures.turns

pub maps::read_map-returns-in_err-pass_gap-clause-turns : goal.maps::read_map-returns-in_err-pass_gap-clause-turns
maps::read_map-returns-in_err-pass_gap-clause-turns t c =
    let p = err_from_is_err_and c.from_residual.result c.from_residual.ensures.1 in
    rw (p.1, p.2) (scan_settled _ c.args.cursor.now c.pass_gap.new.cursor _
    (goes_scan 1 c.args.cursor.now c.take.new.self c.pass_gap.new.cursor c.take.ensures.turns c.in_err-pass_gap.ensures.turns.most))

pub maps::read_map-returns-in_err-inner-clause-turns : goal.maps::read_map-returns-in_err-inner-clause-turns
maps::read_map-returns-in_err-inner-clause-turns t c =
    let p = err_from_is_err_and c.from_residual-in_err-inner.result c.from_residual-in_err-inner.ensures.1 in
    rw (p.1, p.2) (step_settled _ c.args.cursor.now c.pass_gap.new.cursor _
    (over_on 1 c.args.cursor.now c.take.new.self c.pass_gap.new.cursor c.take.ensures.turns c.in_ok-pass_gap.ensures.turns.moved))

pub maps::read_map-returns-in_err-pairs-clause-turns : goal.maps::read_map-returns-in_err-pairs-clause-turns
maps::read_map-returns-in_err-pairs-clause-turns t c =
    let p = err_from_is_err_and c.from_residual-in_err-pairs.result c.from_residual-in_err-pairs.ensures.1 in
    rw (p.1, p.2) (group_settled _ _ c.args.cursor.now c.take.new.self c.pass_gap.new.cursor _ c.read_pairs.new.cursor 123 mark_left_brace refl
    (items_looks c.args.context.now.schema) c.if-not-take.ensures.text c.in_ok-pass_gap.ensures.text c.if-not-take.ensures.taken c.in_ok-pass_gap.ensures.gap
    c.in_ok-pass_gap.ensures.rest c.take.ensures.turns c.in_ok-pass_gap.ensures.turns.moved
    (refused_turns _ _ c.read_pairs.new.cursor _ _ (subst (λ (s : List Shape).
    SpendsItems s c.pass_gap.new.cursor (Err c.in_err-pairs.field-0.0) c.read_pairs.new.cursor) c.in_ok-inner.ensures.1 c.in_err-pairs.ensures.turns)))

pub maps::read_map-returns-in_err-folded-clause-turns : goal.maps::read_map-returns-in_err-folded-clause-turns
maps::read_map-returns-in_err-folded-clause-turns t c =
    let p = err_from_is_err_and c.from_residual-in_err-folded.result c.from_residual-in_err-folded.ensures.1 in
    rw (p.1, p.2) (group_settled _ _ c.args.cursor.now c.take.new.self c.pass_gap.new.cursor _ c.pass.new.self 123 mark_left_brace refl
    (items_looks c.args.context.now.schema) c.if-not-take.ensures.text c.in_ok-pass_gap.ensures.text c.if-not-take.ensures.taken c.in_ok-pass_gap.ensures.gap
    c.in_ok-pass_gap.ensures.rest c.take.ensures.turns c.in_ok-pass_gap.ensures.turns.moved (moved_turns _ _ c.read_pairs.new.cursor c.pass.new.self _ (Err _)
    (subst (λ (s : List Shape). SpendsItems s c.pass_gap.new.cursor (Ok c.in_ok-pairs.pairs) c.read_pairs.new.cursor) c.in_ok-inner.ensures.1
    c.in_ok-pairs.ensures.turns) c.pass.ensures.turns (mark_nears 125 c.read_pairs.new.cursor c.pass.new.self mark_right_brace c.pass.ensures.rest)))
