-- Newtypes.
use Rattle.std.proofs.Common.{rules, length, chars, refl, sym, ◌∙◌, ap, arith, subst, false, suc, Ok}
use Rattle.std.proofs.lemmas.Result.{err_from_is_err_and}
use Rattle.ron_spec_words.specs.Reader.{meant}
use Rattle.ron_spec_grammar.specs.Data as plain
use Rattle.ron_spec_grammar.proofs.ContentTurns.{content_not_opened, read_newtype_alone}
use Rattle.ron_spec_grammar.specs.Shapes.Newtype.{newtype_data}
use Rattle.ron_de_steps.proofs.ErrorLemmas.{is_fault, memory_or_more}
use Rattle.ron_de_parts.proofs.RoomLemmas.{group_of_value}
use Rattle.ron_de_parts.proofs.SliceLemmas.{sliced-newtype, stays, data_there}
use Rattle.ron_spec_words.proofs.Leading.{leads_on}
use Rattle.ron_de.proofs.ReachLemmas.{over_mark}
use Rattle.ron_de_parts.proofs.ContentLemmas.{made_of}
use Rattle.ron_de.proofs.HeldLemmas.{room_of_group, room_of_held, newtype_at, newtype_nowhere, newtype_value}
use Rattle.ron_de_parts.specs.Slices.{StringsAreSliced}
use Rattle.ron_de_parts.specs.Content.{ReadsContent}
use Rattle.ron_de.proofs.TurnLemmas.{made_turns, refused_turns, settled_spent, scan_settled, step_settled, near_settled, mark_settled}
use Rattle.ron_de_steps.proofs.LeadLemmas.{reached_on}
use Rattle.ron_de.proofs.+read.Goals as goal

pub newtypes::read_held-read_below-requires : goal.newtypes::read_held-read_below-requires
newtypes::read_held-read_below-requires t c = (omega arith, c.requires.1.1)

pub newtypes::read_held-returns-then-unwraps_newtypes-clause-value : goal.newtypes::read_held-returns-then-unwraps_newtypes-clause-value
newtypes::read_held-returns-then-unwraps_newtypes-clause-value t c =
    λ i is room r. made_of (plain.newtype_of (chars c.args.name.now)) c.read_below.result _ _ c.read_below.new.cursor.rest
    (read_newtype_alone _ _ room i c.args.cursor.now.gap _ _ c.args.content is.0 (sym c.unwraps_newtypes.ensures ∙ c.if-unwraps_newtypes.true))
    (c.read_below.ensures.value room (room_of_held c.args.context.now i c.args.content _ room is.1 r))

pub newtypes::read_held-returns-in_err-read_name-clause-value : goal.newtypes::read_held-returns-in_err-read_name-clause-value
newtypes::read_held-returns-in_err-read_name-clause-value t c =
    let p = err_from_is_err_and c.from_residual.result c.from_residual.ensures.1 in
    rw (p.1, p.2) (λ i is room r. is_fault _ _ (memory_or_more _ (newtype_nowhere _ _ room i c.args.cursor.now.gap _ _ c.args.content is.0
    (sym c.unwraps_newtypes.ensures ∙ c.if-unwraps_newtypes.false)) c.in_err-read_name.ensures.value))

pub newtypes::read_held-returns-then-not-take-clause-value : goal.newtypes::read_held-returns-then-not-take-clause-value
newtypes::read_held-returns-then-not-take-clause-value t c = λ i is room r.
    newtype_at _ _ room i c.args.cursor.now.gap _ _ c.args.content is.0 (sym c.unwraps_newtypes.ensures ∙ c.if-unwraps_newtypes.false) _
    c.in_ok-read_name.ensures.value
    ∙ ap (λ o. meant o (newtype_data (chars c.args.name.now))) (content_not_opened _ _ room false c.args.content _ c.if-not-take.ensures.taken.0)

pub newtypes::read_held-read_content-requires : goal.newtypes::read_held-read_content-requires
newtypes::read_held-read_content-requires t c = (
  omega (
    arith,
    group_of_value c.args.context.now.schema c.args.content (suc (length c.take.new.self.rest)) (length c.args.cursor.now.rest)
        (omega (arith, ap length c.if-not-take.ensures.taken, c.in_ok-read_name.ensures.no_longer)),
  ),
  c.requires.1.1,
)

pub newtypes::read_held-returns-clause-value : goal.newtypes::read_held-returns-clause-value
newtypes::read_held-returns-clause-value t c =
    λ i is room r. made_of (plain.newtype_of (chars c.args.name.now)) c.read_content.result _ _ c.read_content.new.cursor.rest
    (newtype_at _ _ room i c.args.cursor.now.gap _ _ c.args.content is.0 (sym c.unwraps_newtypes.ensures ∙ c.if-unwraps_newtypes.false) _
    c.in_ok-read_name.ensures.value)
    ((subst (λ s. ReadsContent c.args.context.now false c.args.content s c.read_content.result c.read_content.new.cursor.rest) (sym c.if-not-take.ensures.taken)
    c.read_content.ensures.value) room (room_of_group c.args.context.now i _ _ room c.in_ok-read_name.ensures.no_longer r))

pub newtypes::read_held-returns-clause-advance : goal.newtypes::read_held-returns-clause-advance
newtypes::read_held-returns-clause-advance t c =
    let a = c.read_content.ensures.advance in
    let before = leads_on c.in_ok-read_name.ensures.leads (over_mark c.read_name.new.cursor c.take.new.self 40 refl c.if-not-take.ensures.taken) in
    record {
      text = search rules;
      no_longer = search rules;
      holds = data_there _ _ _ _ before refl (c.if-not-take.ensures.text ∙ c.in_ok-read_name.ensures.text) c.read_content.result a.holds;
      fault = a.fault;
    }

pub newtypes::read_newtype-read_held-requires : goal.newtypes::read_newtype-read_held-requires
newtypes::read_newtype-read_held-requires t c = (omega arith, c.requires.1.1)

pub newtypes::read_newtype-returns-in_err-value-clause-value : goal.newtypes::read_newtype-returns-in_err-value-clause-value
newtypes::read_newtype-returns-in_err-value-clause-value t c =
    let p = err_from_is_err_and c.from_residual.result c.from_residual.ensures.1 in
    rw (p.1, p.2) c.in_err-value.ensures.value

pub newtypes::read_newtype-returns : goal.newtypes::read_newtype-returns
newtypes::read_newtype-returns t c = record {
  value = λ i is room r. c.in_ok-value.ensures.value i is room r
      ∙ newtype_value c.in_ok-name.name c.in_ok-new.field-0 c.in_ok-value.value _ _ c.in_ok-name.ensures.ok c.in_ok-new.ensures.ok;
  slice = search rules;
  advance = record {
    text = search rules;
    no_longer = search rules;
    holds = λ source. sliced-newtype _ _ _ _ (stays _ _ refl) refl c.in_ok-name.name c.in_ok-new.field-0
        (subst (StringsAreSliced _ _) (sym c.in_ok-new.ensures.ok) (c.in_ok-value.ensures.advance.holds source));
    fault = search rules;
  };
  turns = made_turns _ _ c.read_held.new.cursor _ (Ok _) c.in_ok-value.ensures.turns;
}

-- ---- the count

pub newtypes::read_held-returns-in_err-read_name-clause-turns : goal.newtypes::read_held-returns-in_err-read_name-clause-turns
newtypes::read_held-returns-in_err-read_name-clause-turns t c =
    let p = err_from_is_err_and c.from_residual.result c.from_residual.ensures.1 in
    rw (p.1, p.2) (settled_spent _ c.args.cursor.now _ c.read_name.new.cursor _
    (scan_settled _ c.args.cursor.now c.read_name.new.cursor _ c.in_err-read_name.ensures.turns.most))

pub newtypes::read_held-returns-then-not-take-clause-turns : goal.newtypes::read_held-returns-then-not-take-clause-turns
newtypes::read_held-returns-then-not-take-clause-turns t c = settled_spent _ c.args.cursor.now _ c.take.new.self _
    (near_settled _ c.args.cursor.now c.read_name.new.cursor _ c.take.new.self c.in_ok-read_name.ensures.turns.moved c.in_ok-read_name.ensures.near
    (reached_on c.args.cursor.now c.read_name.new.cursor c.in_ok-read_name.ensures.text c.in_ok-read_name.ensures.leads)
    (step_settled _ c.read_name.new.cursor c.take.new.self _ c.take.ensures.turns))

pub newtypes::read_held-returns-clause-turns : goal.newtypes::read_held-returns-clause-turns
newtypes::read_held-returns-clause-turns t c = settled_spent _ c.args.cursor.now c.read_content.result c.read_content.new.cursor _
    (near_settled _ c.args.cursor.now c.read_name.new.cursor _ c.read_content.new.cursor c.in_ok-read_name.ensures.turns.moved c.in_ok-read_name.ensures.near
    (reached_on c.args.cursor.now c.read_name.new.cursor c.in_ok-read_name.ensures.text c.in_ok-read_name.ensures.leads) (mark_settled _ c.read_name.new.cursor
    c.take.new.self _ c.read_content.new.cursor c.if-not-take.ensures.text c.if-not-take.ensures.taken c.take.ensures.turns (c.read_content.ensures.turns)))

pub newtypes::read_newtype-returns-in_err-value-clause-turns : goal.newtypes::read_newtype-returns-in_err-value-clause-turns
newtypes::read_newtype-returns-in_err-value-clause-turns t c =
    let p = err_from_is_err_and c.from_residual.result c.from_residual.ensures.1 in
    rw (p.1, p.2) (refused_turns _ _ c.read_held.new.cursor _ _ c.in_err-value.ensures.turns)

pub newtypes::read_held-returns-in_err-from_str-clause-turns : goal.newtypes::read_held-returns-in_err-from_str-clause-turns
newtypes::read_held-returns-in_err-from_str-clause-turns t c =
    let p = err_from_is_err_and c.from_residual-in_err-from_str.result c.from_residual-in_err-from_str.ensures.1 in
    rw (p.1, p.2) (settled_spent _ c.args.cursor.now _ c.take.new.self _ (near_settled _ c.args.cursor.now c.read_name.new.cursor _ c.take.new.self
    c.in_ok-read_name.ensures.turns.moved c.in_ok-read_name.ensures.near (reached_on c.args.cursor.now c.read_name.new.cursor c.in_ok-read_name.ensures.text
    c.in_ok-read_name.ensures.leads) (step_settled _ c.read_name.new.cursor c.take.new.self _ c.take.ensures.turns)))
