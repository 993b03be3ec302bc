-- A level deeper, and content in brackets.
use Rattle.std.proofs.Common.{rules, ◌<◌, length, arith, subst, ◌∷◌, suc, refl, List, Ok, true, false}
use Rattle.std.proofs.lemmas.Result.{err_from_is_err_and}
use Rattle.ron_spec_grammar.proofs.ContentTurns.{content_slash}
use Rattle.ron_de_steps.proofs.ErrorLemmas.{is_fault, text_and}
use Rattle.ron_de_parts.proofs.RoomLemmas.{room_ended, content_in_group, same_enough}
use Rattle.ron_de_parts.proofs.StepLemmas.{in_range_of}
use Rattle.ron_de_parts.proofs.ContentLemmas.{below_ended, reads_below, closed_fault, not_closed, closed_value}
use Rattle.ron_de_parts.proofs.KeptLemmas.{kept_there}
use Rattle.ron_de_parts.proofs.SliceLemmas.{kept_later, data_there}
use Rattle.ron_de.proofs.HeldLemmas.{room_of_content, content_here}
use Rattle.ron_de_parts.specs.Slices.{StringsAreSliced}
use Rattle.ron_de.proofs.BareLemmas.{bare_in_group, room_of_bare, reads_bare_below, bare_ended, unwrapped_here}
use Rattle.ron_de.proofs.TurnLemmas.{refused_turns, open_turns, moved_turns, here_spent, gap_inside, scan_inside}
use Rattle.ron_de.proofs.ReachLemmas.{over_gap, value_looks, bare_looks}
use Rattle.ron_de.specs.Turns.{SpendsShape, SpendsBare}
use Rattle.ron_spec_grammar.specs.Schema.{Shape}
use Rattle.ron_de_untyped.proofs.ReadLemmas.{reads_same}
use Rattle.ron_de.proofs.+read.Goals as goal

-- ---- a level deeper, and content in brackets

pub content::read_below-returns-in_err-inner-clause-value : goal.content::read_below-returns-in_err-inner-clause-value
content::read_below-returns-in_err-inner-clause-value t c =
    let p = err_from_is_err_and c.from_residual.result c.from_residual.ensures.1 in
    rw (p.1, p.2, c.in_err-inner.ensures.0) (λ room r. below_ended _ _ room c.args.content _ _ (room_ended _ _ room c.in_err-inner.ensures.1 r))

pub content::read_below-read_value-requires : goal.content::read_below-read_value-requires
content::read_below-read_value-requires t c = (
  omega (arith, same_enough c.args.context.now.schema c.in_ok-inner.inner.schema c.args.content (length c.args.cursor.now.rest) c.in_ok-inner.ensures.1),
  in_range_of _ _ _ c.in_ok-inner.ensures.1 c.requires,
)

pub content::read_below-returns-clause-value : goal.content::read_below-returns-clause-value
content::read_below-returns-clause-value t c = λ room r. reads_below c.args.context.now c.in_ok-inner.inner c.in_ok-inner.ensures c.args.content
    c.args.cursor.now room r c.read_value.result c.read_value.new.cursor.rest c.read_value.ensures.value

pub content::read_below-returns-clause-advance : goal.content::read_below-returns-clause-advance
content::read_below-returns-clause-advance t c =
    let a = c.read_value.ensures in
    record {
      text = a.text;
      no_longer = a.no_longer;
      holds = kept_there (StringsAreSliced c.args.cursor.now.rest) c.read_value.result c.in_ok-inner.ensures.3 refl a.slices;
      fault = a.fault;
    }

pub content::read_content-returns-in_err-pass_gap-clause-value : goal.content::read_content-returns-in_err-pass_gap-clause-value
content::read_content-returns-in_err-pass_gap-clause-value t c =
    let p = err_from_is_err_and c.from_residual.result c.from_residual.ensures.1 in
    rw (p.1, p.2) (λ room r. is_fault _ _ (text_and _ c.in_err-pass_gap.ensures.fault.0
    (content_slash _ _ room c.args.is_unwrapped c.args.content (40 ∷ c.args.cursor.now.rest) _ refl c.in_err-pass_gap.ensures.slash)))

pub content::read_content-read_below-requires : goal.content::read_content-read_below-requires
content::read_content-read_below-requires t c =
    let shorter : length c.pass_gap.new.cursor.rest < suc (length c.args.cursor.now.rest) = omega (arith, c.in_ok-pass_gap.ensures.no_longer) in (
      omega (
        arith,
        content_in_group c.args.context.now.schema c.args.content (length c.pass_gap.new.cursor.rest) (suc (length c.args.cursor.now.rest)) shorter,
      ),
      c.requires,
    )

pub content::read_content-returns-in_err-value-clause-value : goal.content::read_content-returns-in_err-value-clause-value
content::read_content-returns-in_err-value-clause-value t c =
    let p = err_from_is_err_and c.from_residual-in_err-value.result c.from_residual-in_err-value.ensures.1 in
    rw (p.1, p.2) (λ room r. closed_fault _ _ _ (content_here c.args.context.now c.args.content c.pass_gap.new.cursor c.args.cursor.now.rest room
    c.in_ok-pass_gap.ensures.slash c.in_ok-pass_gap.ensures.gap c.in_ok-pass_gap.ensures.rest c.args.is_unwrapped c.if-is_unwrapped.false)
    (c.in_err-value.ensures.value room
    (room_of_content c.args.context.now c.args.content c.pass_gap.new.cursor c.args.cursor.now.rest room c.in_ok-pass_gap.ensures.no_longer r)))

pub content::read_content-returns-in_err-close_content-clause-value : goal.content::read_content-returns-in_err-close_content-clause-value
content::read_content-returns-in_err-close_content-clause-value t c =
    let p = err_from_is_err_and c.from_residual-in_err-close_content.result c.from_residual-in_err-close_content.ensures.1 in
    rw (p.1, p.2) (λ room r. not_closed _ _ _ _ (content_here c.args.context.now c.args.content c.pass_gap.new.cursor c.args.cursor.now.rest room
    c.in_ok-pass_gap.ensures.slash c.in_ok-pass_gap.ensures.gap c.in_ok-pass_gap.ensures.rest c.args.is_unwrapped c.if-is_unwrapped.false)
    (c.in_ok-value.ensures.value room (room_of_content c.args.context.now c.args.content c.pass_gap.new.cursor c.args.cursor.now.rest room
    c.in_ok-pass_gap.ensures.no_longer r)) _ c.in_err-close_content.ensures.value)

pub content::read_content-returns : goal.content::read_content-returns
content::read_content-returns t c = record {
  value = λ room r. closed_value _ _ _ _ _ (content_here c.args.context.now c.args.content c.pass_gap.new.cursor c.args.cursor.now.rest room
      c.in_ok-pass_gap.ensures.slash c.in_ok-pass_gap.ensures.gap c.in_ok-pass_gap.ensures.rest c.args.is_unwrapped c.if-is_unwrapped.false)
      (c.in_ok-value.ensures.value room (room_of_content c.args.context.now c.args.content c.pass_gap.new.cursor c.args.cursor.now.rest room
      c.in_ok-pass_gap.ensures.no_longer r)) c.in_ok-close_content.ensures.value;
  advance = record {
    text = search rules;
    no_longer = search rules;
    holds = kept_later _ _ _ _ (over_gap c.args.cursor.now c.pass_gap.new.cursor c.in_ok-pass_gap.ensures.rest) refl c.in_ok-pass_gap.ensures.text
        c.in_ok-value.value c.in_ok-value.ensures.advance.holds;
    fault = search rules;
  };
  turns = gap_inside _ c.args.cursor.now c.pass_gap.new.cursor _ c.close_content.new.cursor false _
      (value_looks c.args.context.now.schema c.args.content c.requires) c.in_ok-pass_gap.ensures.text c.in_ok-pass_gap.ensures.gap c.in_ok-pass_gap.ensures.rest
      c.in_ok-pass_gap.ensures.turns.moved (moved_turns _ _ c.read_below.new.cursor c.close_content.new.cursor _ (Ok _) c.in_ok-value.ensures.turns
      c.in_ok-close_content.ensures.turns.moved c.in_ok-close_content.ensures.near);
}

-- ---- bare content

pub content::read_content-read_bare_below-requires : goal.content::read_content-read_bare_below-requires
content::read_content-read_bare_below-requires t c =
    let shorter : length c.pass_gap.new.cursor.rest < suc (length c.args.cursor.now.rest) = omega (arith, c.in_ok-pass_gap.ensures.no_longer) in (
      omega (arith, bare_in_group c.args.context.now.schema c.args.content (length c.pass_gap.new.cursor.rest) (suc (length c.args.cursor.now.rest)) shorter),
      c.requires,
    )

pub content::read_content-returns-then-is_unwrapped-clause-value : goal.content::read_content-returns-then-is_unwrapped-clause-value
content::read_content-returns-then-is_unwrapped-clause-value t c = λ room r. reads_same _ c.read_bare_below.result _ _ _
    (unwrapped_here c.args.context.now c.args.content c.pass_gap.new.cursor c.args.cursor.now.rest room c.in_ok-pass_gap.ensures.slash
    c.in_ok-pass_gap.ensures.gap c.in_ok-pass_gap.ensures.rest c.args.is_unwrapped c.if-is_unwrapped.true)
    (c.read_bare_below.ensures.value room
    (room_of_bare c.args.context.now c.pass_gap.new.cursor c.args.cursor.now.rest c.args.content room c.in_ok-pass_gap.ensures.no_longer r))

pub content::read_content-returns-then-is_unwrapped-clause-advance : goal.content::read_content-returns-then-is_unwrapped-clause-advance
content::read_content-returns-then-is_unwrapped-clause-advance t c =
    let a = c.read_bare_below.ensures.advance in
    record {
      text = search rules;
      no_longer = search rules;
      holds = data_there _ _ _ _ (over_gap c.args.cursor.now c.pass_gap.new.cursor c.in_ok-pass_gap.ensures.rest) refl c.in_ok-pass_gap.ensures.text
          c.read_bare_below.result a.holds;
      fault = a.fault;
    }

pub content::read_bare_below-returns-in_err-inner-clause-value : goal.content::read_bare_below-returns-in_err-inner-clause-value
content::read_bare_below-returns-in_err-inner-clause-value t c =
    let p = err_from_is_err_and c.from_residual.result c.from_residual.ensures.1 in
    rw (p.1, p.2, c.in_err-inner.ensures.0) (λ room r. bare_ended _ _ room c.args.content _ _ (room_ended _ _ room c.in_err-inner.ensures.1 r))

pub content::read_bare_below-returns-clause-value : goal.content::read_bare_below-returns-clause-value
content::read_bare_below-returns-clause-value t c = λ room r. reads_bare_below c.args.context.now c.in_ok-inner.inner c.in_ok-inner.ensures c.args.content
    c.args.cursor.now room r c.read_bare.result c.read_bare.new.cursor.rest c.read_bare.ensures.value

pub content::read_bare_below-returns-clause-advance : goal.content::read_bare_below-returns-clause-advance
content::read_bare_below-returns-clause-advance t c =
    let a = c.read_bare.ensures.advance in
    record {
      text = a.text;
      no_longer = a.no_longer;
      holds = kept_there (StringsAreSliced c.args.cursor.now.rest) c.read_bare.result c.in_ok-inner.ensures.3 refl a.holds;
      fault = a.fault;
    }

-- ---- the count

pub content::read_below-returns-in_err-inner-clause-turns : goal.content::read_below-returns-in_err-inner-clause-turns
content::read_below-returns-in_err-inner-clause-turns t c =
    let p = err_from_is_err_and c.from_residual.result c.from_residual.ensures.1 in
    rw (p.1, p.2) (here_spent _ _ c.args.cursor.now c.args.cursor.now _ (omega arith))

pub content::read_below-returns-clause-turns : goal.content::read_below-returns-clause-turns
content::read_below-returns-clause-turns t c = (subst (λ (s : List Shape).
    SpendsShape s c.args.content c.args.cursor.now c.read_value.result c.read_value.new.cursor) c.in_ok-inner.ensures.1 c.read_value.ensures.turns)

pub content::read_bare_below-returns-in_err-inner-clause-turns : goal.content::read_bare_below-returns-in_err-inner-clause-turns
content::read_bare_below-returns-in_err-inner-clause-turns t c =
    let p = err_from_is_err_and c.from_residual.result c.from_residual.ensures.1 in
    rw (p.1, p.2) (here_spent _ _ c.args.cursor.now c.args.cursor.now _ (omega arith))

pub content::read_bare_below-returns-clause-turns : goal.content::read_bare_below-returns-clause-turns
content::read_bare_below-returns-clause-turns t c = (subst (λ (s : List Shape).
    SpendsBare s c.args.content c.args.cursor.now c.read_bare.result c.read_bare.new.cursor) c.in_ok-inner.ensures.1 c.read_bare.ensures.turns)

pub content::read_content-returns-in_err-pass_gap-clause-turns : goal.content::read_content-returns-in_err-pass_gap-clause-turns
content::read_content-returns-in_err-pass_gap-clause-turns t c =
    let p = err_from_is_err_and c.from_residual.result c.from_residual.ensures.1 in
    rw (p.1, p.2) (scan_inside _ c.args.cursor.now c.pass_gap.new.cursor _ c.in_err-pass_gap.ensures.turns.most)

pub content::read_content-returns-then-is_unwrapped-clause-turns : goal.content::read_content-returns-then-is_unwrapped-clause-turns
content::read_content-returns-then-is_unwrapped-clause-turns t c = gap_inside _ c.args.cursor.now c.pass_gap.new.cursor c.read_bare_below.result
    c.read_bare_below.new.cursor true _ (bare_looks c.args.context.now.schema c.args.content c.requires) c.in_ok-pass_gap.ensures.text
    c.in_ok-pass_gap.ensures.gap c.in_ok-pass_gap.ensures.rest c.in_ok-pass_gap.ensures.turns.moved c.read_bare_below.ensures.turns

pub content::read_content-returns-in_err-value-clause-turns : goal.content::read_content-returns-in_err-value-clause-turns
content::read_content-returns-in_err-value-clause-turns t c =
    let p = err_from_is_err_and c.from_residual-in_err-value.result c.from_residual-in_err-value.ensures.1 in
    rw (p.1, p.2) (gap_inside _ c.args.cursor.now c.pass_gap.new.cursor _ c.read_below.new.cursor false _
    (value_looks c.args.context.now.schema c.args.content c.requires) c.in_ok-pass_gap.ensures.text c.in_ok-pass_gap.ensures.gap c.in_ok-pass_gap.ensures.rest
    c.in_ok-pass_gap.ensures.turns.moved (refused_turns _ _ c.read_below.new.cursor _ _ c.in_err-value.ensures.turns))

pub content::read_content-returns-in_err-close_content-clause-turns : goal.content::read_content-returns-in_err-close_content-clause-turns
content::read_content-returns-in_err-close_content-clause-turns t c =
    let p = err_from_is_err_and c.from_residual-in_err-close_content.result c.from_residual-in_err-close_content.ensures.1 in
    rw (p.1, p.2)
    (gap_inside _ c.args.cursor.now c.pass_gap.new.cursor _ c.close_content.new.cursor false _ (value_looks c.args.context.now.schema c.args.content c.requires)
    c.in_ok-pass_gap.ensures.text c.in_ok-pass_gap.ensures.gap c.in_ok-pass_gap.ensures.rest c.in_ok-pass_gap.ensures.turns.moved
    (open_turns _ _ c.read_below.new.cursor c.close_content.new.cursor _ _ c.in_ok-value.ensures.turns c.in_err-close_content.ensures.turns.most))
