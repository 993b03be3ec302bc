-- Values that begin with a word.
use Rattle.std.proofs.Common.{◌∙◌, arith}
use Rattle.std.proofs.lemmas.Result.{err_from_is_err_and}
use Rattle.ron_value.specs.View.{tree_of}
use Rattle.ron_de_steps.proofs.RoomLemmas.{room_less}
use Rattle.ron_de_untyped.specs.Reading.{read_some}
use Rattle.ron_de_untyped.specs.Values.{unwraps}
use Rattle.ron_de_untyped.specs.Words.{some_or, named_or}
use Rattle.ron_de_untyped.proofs.FormLemmas.{entered, not_entered, a_group, a_name, not_some, not_fixed, word_fixed, word_some, word_named, word_alone}
use Rattle.ron_de_untyped.proofs.FormLemmas.{word_fails}
use Rattle.ron_de_untyped.proofs.ReadLemmas.{reads_same}
use Rattle.ron_de_untyped.proofs.+read.Goals as goal

pub value::read_word-returns-in-Some-clause-value : goal.value::read_word-returns-in-Some-clause-value
value::read_word-returns-in-Some-clause-value t c = λ room r. word_fixed (unwraps c.args.context.now) room c.args.cursor.now.gap c.args.cursor.now.rest _
    (c.in-Some.ensures.value (not_fixed (unwraps c.args.context.now) room))

pub value::read_word-returns-in_err-is_some-clause-value : goal.value::read_word-returns-in_err-is_some-clause-value
value::read_word-returns-in_err-is_some-clause-value t c =
    let p = err_from_is_err_and c.from_residual.result c.from_residual.ensures.1 in
    rw (p.1, p.2) (λ room r. word_fails _ _ (word_some (unwraps c.args.context.now) room c.args.cursor.now.gap c.args.cursor.now.rest
    c.take_fixed.new.cursor.rest (c.in_default.ensures.value (not_fixed (unwraps c.args.context.now) room))) _
    (c.in_err-is_some.ensures.value (read_some (unwraps c.args.context.now) room) (not_some (unwraps c.args.context.now) room)))

pub value::read_word-returns-then-is_some-clause-value : goal.value::read_word-returns-then-is_some-clause-value
value::read_word-returns-then-is_some-clause-value t c = λ room r. reads_same tree_of c.read_some.result _ _ c.read_some.new.cursor.rest
    (word_some (unwraps c.args.context.now) room c.args.cursor.now.gap c.args.cursor.now.rest c.take_fixed.new.cursor.rest
    (c.in_default.ensures.value (not_fixed (unwraps c.args.context.now) room))
    ∙ entered some_or c.take_fixed.new.cursor c.enter_some.new.cursor c.in_ok-is_some.is_some c.if-is_some.true c.in_ok-is_some.ensures.value
    (read_some (unwraps c.args.context.now) room) (not_some (unwraps c.args.context.now) room))
    (c.read_some.ensures.value room
    (room_less c.args.context.now.limit _ _ room r (omega (arith, c.in_ok-is_some.ensures.no_longer, c.take_fixed.ensures.no_longer))))

pub value::read_word-returns-in_err-is_named-clause-value : goal.value::read_word-returns-in_err-is_named-clause-value
value::read_word-returns-in_err-is_named-clause-value t c =
    let p = err_from_is_err_and c.from_residual-in_err-is_named.result c.from_residual-in_err-is_named.ensures.1 in
    rw (p.1, p.2) (λ room r. word_fails _ _
    (word_named (unwraps c.args.context.now) room c.args.cursor.now.gap c.args.cursor.now.rest c.take_fixed.new.cursor.rest
    (c.in_default.ensures.value (not_fixed (unwraps c.args.context.now) room)) c.enter_some.new.cursor.rest
    (not_entered some_or c.take_fixed.new.cursor c.enter_some.new.cursor c.in_ok-is_some.is_some c.if-is_some.false c.in_ok-is_some.ensures.value
    (read_some (unwraps c.args.context.now) room) (not_some (unwraps c.args.context.now) room))) _
    (c.in_err-is_named.ensures.value (a_group (unwraps c.args.context.now) room) a_name))

pub value::read_word-returns-then-is_named-clause-value : goal.value::read_word-returns-then-is_named-clause-value
value::read_word-returns-then-is_named-clause-value t c = λ room r. reads_same tree_of c.read_group.result _ _ c.read_group.new.cursor.rest
    (word_named (unwraps c.args.context.now) room c.args.cursor.now.gap c.args.cursor.now.rest c.take_fixed.new.cursor.rest
    (c.in_default.ensures.value (not_fixed (unwraps c.args.context.now) room)) c.enter_some.new.cursor.rest
    (not_entered some_or c.take_fixed.new.cursor c.enter_some.new.cursor c.in_ok-is_some.is_some c.if-is_some.false c.in_ok-is_some.ensures.value
    (read_some (unwraps c.args.context.now) room) (not_some (unwraps c.args.context.now) room))
    ∙ entered named_or c.enter_some.new.cursor c.enter_named.new.cursor c.in_ok-is_named.is_named c.if-is_named.true c.in_ok-is_named.ensures.value
    (a_group (unwraps c.args.context.now) room) a_name)
    (c.read_group.ensures.value room (room_less c.args.context.now.limit _ _ room r
    (omega (arith, c.in_ok-is_named.ensures.no_longer, c.in_ok-is_some.ensures.no_longer, c.take_fixed.ensures.no_longer))))

pub value::read_word-returns-clause-value : goal.value::read_word-returns-clause-value
value::read_word-returns-clause-value t c = λ room r. reads_same tree_of c.read_unit.result _ _ c.read_unit.new.cursor.rest
    (word_alone (unwraps c.args.context.now) room c.args.cursor.now.gap c.args.cursor.now.rest c.take_fixed.new.cursor.rest
    (c.in_default.ensures.value (not_fixed (unwraps c.args.context.now) room)) c.enter_some.new.cursor.rest
    (not_entered some_or c.take_fixed.new.cursor c.enter_some.new.cursor c.in_ok-is_some.is_some c.if-is_some.false c.in_ok-is_some.ensures.value
    (read_some (unwraps c.args.context.now) room) (not_some (unwraps c.args.context.now) room))
    c.enter_named.new.cursor.rest
    (not_entered named_or c.enter_some.new.cursor c.enter_named.new.cursor c.in_ok-is_named.is_named c.if-is_named.false c.in_ok-is_named.ensures.value
    (a_group (unwraps c.args.context.now) room) a_name))
    c.read_unit.ensures.value
