use Rattle.std.proofs.Common.{refl, true, false, chars}
use Rattle.ron_data.specs.Slots.{slots_in}
use Rattle.ron_de_steps.proofs.ErrorLemmas.{text_and}
use Rattle.ron_de_parts.proofs.TargetLemmas.{no_target, unknown_target, taken_target, new_target, kept_in, free_there, unknown_text}
use Rattle.ron_de_parts.proofs.fields.find_field.Goals as goal

pub returns-then-list-clause-value : goal.returns-then-list-clause-value
returns-then-list-clause-value c = λ seen h. unknown_target (chars c.args.name.now) c.args.list.now seen _ refl c.in_default.ensures c.if-list.true

pub returns-in_default-clause-value : goal.returns-in_default-clause-value
returns-in_default-clause-value c = λ seen h. text_and _ (unknown_text _ c.in_ok-unknown_field.ensures).0
    (no_target (chars c.args.name.now) c.args.list.now seen _ refl c.in_default.ensures c.if-list.false)

pub returns-in_default-clause-fault : goal.returns-in_default-clause-fault
returns-in_default-clause-fault c = (unknown_text _ c.in_ok-unknown_field.ensures).1

pub returns-then-is_filled-clause-value : goal.returns-then-is_filled-clause-value
returns-then-is_filled-clause-value c = λ seen h. taken_target (chars c.args.name.now) c.args.list.now seen _ refl c.in-Some.index c.in-Some.ensures
    (slots_in c.args.list.now.fields.items c.args.found.now) h
    (kept_in (chars c.args.name.now) c.args.list.now.fields.items c.args.found.now c.in-Some.index c.in-Some.ensures true _ c.is_filled.ensures
    c.if-is_filled.true)

pub returns-clause-value : goal.returns-clause-value
returns-clause-value c = λ seen h.
    new_target (chars c.args.name.now) c.args.list.now seen _ refl c.in-Some.index c.in-Some.ensures (slots_in c.args.list.now.fields.items c.args.found.now) h
    (kept_in (chars c.args.name.now) c.args.list.now.fields.items c.args.found.now c.in-Some.index c.in-Some.ensures false _ c.is_filled.ensures
    c.if-is_filled.false)

pub returns-clause-index : goal.returns-clause-index
returns-clause-index c = free_there (chars c.args.name.now) c.args.list.now.fields.items c.args.found.now c.in-Some.index c.in-Some.ensures _
    c.is_filled.ensures c.if-is_filled.false
