-- What the returns of the cycle add to the count of turns.
use Rattle.std.proofs.Common.{true, false, arith}
use Rattle.std.proofs.lemmas.Result.{err_from_is_err_and}
use Rattle.ron_de_steps.proofs.NearLemmas.{past_mark_enters, past_colon_enters, past_close_nears, past_last_nears}
use Rattle.ron_de_steps.proofs.LeadLemmas.{reached_on, opened_mark}
use Rattle.ron_de_untyped.specs.Group.{open_mark, close_mark}
use Rattle.ron_de_untyped.proofs.CountLemmas.{counts_end, counts_item, group_open, group_refused, group_settled, colon_reached, is_close, is_open, opens_group}
use Rattle.ron_de_untyped.proofs.CountLemmas.{leaves_on, leaves_same, looked_settled, looked_spent, opened_spent, scan_settled, settled_from, settled_spent}
use Rattle.ron_de_untyped.proofs.CountLemmas.{spent_as, spent_entered, spent_moved, spent_none, spent_not, spent_nothing, spent_open, told_refused, told_spent}
use Rattle.ron_de_untyped.proofs.CountLemmas.{word_else, word_held, word_reached, word_refused, word_settled}
use Rattle.ron_de_untyped.proofs.+read.Goals as goal

pub entries::read_entries-returns-in_err-more-clause-turns : goal.entries::read_entries-returns-in_err-more-clause-turns
entries::read_entries-returns-in_err-more-clause-turns t c =
    let p = err_from_is_err_and c.from_residual-in_err-more.result c.from_residual-in_err-more.ensures.1 in
    rw (p.1, p.2) (spent_open false 2 c.args.cursor.now c.read_entry.new.cursor c.more_follow.new.cursor _ _
    (counts_item c.pairs.invariant.3.0 c.pairs-test.true _ c.read_entry.new.cursor c.in_ok-pair.ensures.turns) c.in_err-more.ensures.turns.most)

pub entries::read_entries-returns-clause-turns : goal.entries::read_entries-returns-clause-turns
entries::read_entries-returns-clause-turns t c = counts_end c.pairs.invariant.3.0 _

pub entries::read_entry-returns-in_err-pass_colon-clause-turns : goal.entries::read_entry-returns-in_err-pass_colon-clause-turns
entries::read_entry-returns-in_err-pass_colon-clause-turns t c =
    let p = err_from_is_err_and c.from_residual-in_err-pass_colon.result c.from_residual-in_err-pass_colon.ensures.1 in
    rw (p.1, p.2)
    (spent_open false 2 c.args.cursor.now c.read_key.new.cursor c.pass_colon.new.cursor _ _ c.in_ok-key.ensures.turns c.in_err-pass_colon.ensures.turns.most)

pub entries::read_entry-returns-in_err-value-clause-turns : goal.entries::read_entry-returns-in_err-value-clause-turns
entries::read_entry-returns-in_err-value-clause-turns t c =
    let p = err_from_is_err_and c.from_residual-in_err-value.result c.from_residual-in_err-value.ensures.1 in
    rw (p.1, p.2) (spent_entered 2 c.args.cursor.now c.read_key.new.cursor c.pass_colon.new.cursor _ _ c.read_below.new.cursor c.in_ok-key.ensures.turns
    c.in_ok-pass_colon.ensures.turns.moved (past_colon_enters c.read_key.new.cursor c.pass_colon.new.cursor c.in_ok-pass_colon.ensures.value) (colon_reached
    c.args.cursor.now c.read_key.new.cursor c.pass_colon.new.cursor c.in_ok-key.ensures.advance.text c.in_ok-pass_colon.ensures.text c.in_ok-key.ensures.leads
    c.in_ok-pass_colon.ensures.value) (spent_not false 2 c.pass_colon.new.cursor c.read_below.new.cursor _ _ c.in_err-value.ensures.turns))

pub entries::read_entry-returns-clause-turns : goal.entries::read_entry-returns-clause-turns
entries::read_entry-returns-clause-turns t c =
    spent_entered 2 c.args.cursor.now c.read_key.new.cursor c.pass_colon.new.cursor _ _ c.read_below.new.cursor c.in_ok-key.ensures.turns
    c.in_ok-pass_colon.ensures.turns.moved (past_colon_enters c.read_key.new.cursor c.pass_colon.new.cursor c.in_ok-pass_colon.ensures.value)
    (colon_reached c.args.cursor.now c.read_key.new.cursor c.pass_colon.new.cursor c.in_ok-key.ensures.advance.text c.in_ok-pass_colon.ensures.text
    c.in_ok-key.ensures.leads c.in_ok-pass_colon.ensures.value) (spent_as 2 c.pass_colon.new.cursor c.read_below.new.cursor _ _ c.in_ok-value.ensures.turns)

pub entries::read_key-returns-in-Names-clause-turns : goal.entries::read_key-returns-in-Names-clause-turns
entries::read_key-returns-in-Names-clause-turns t c = settled_spent 2 c.args.cursor.now c.read_name.result c.read_name.new.cursor c.read_name.ensures.turns

pub entries::read_mapping-returns-in_err-inner-clause-turns : goal.entries::read_mapping-returns-in_err-inner-clause-turns
entries::read_mapping-returns-in_err-inner-clause-turns t c =
    let p = err_from_is_err_and c.from_residual.result c.from_residual.ensures.1 in
    rw (p.1, p.2) (spent_nothing false 2 c.args.cursor.now _)

pub groups::read_group-returns-in_err-open_group-clause-turns : goal.groups::read_group-returns-in_err-open_group-clause-turns
groups::read_group-returns-in_err-open_group-clause-turns t c =
    let p = err_from_is_err_and c.from_residual.result c.from_residual.ensures.1 in
    rw (p.1, p.2) (scan_settled 1 c.args.cursor.now c.open_group.new.cursor _ (omega arith) c.in_err-open_group.ensures.turns.most)

pub groups::read_group-returns-in_err-value-clause-turns : goal.groups::read_group-returns-in_err-value-clause-turns
groups::read_group-returns-in_err-value-clause-turns t c =
    let p = err_from_is_err_and c.from_residual-in_err-value.result c.from_residual-in_err-value.ensures.1 in
    rw (p.1, p.2) (group_refused c.args.cursor.now c.open_group.new.cursor c.in_ok-open_group.ensures.turns.moved
    (past_mark_enters (open_mark c.args.brackets) c.args.cursor.now c.open_group.new.cursor (is_open c.args.brackets) c.in_ok-open_group.ensures.value)
    (opened_mark c.args.cursor.now c.open_group.new.cursor c.in_ok-open_group.ensures.text (open_mark c.args.brackets) (opens_group c.args.brackets)
    c.in_ok-open_group.ensures.value) c.read_inside.new.cursor _ _ c.in_err-value.ensures.turns)

pub groups::read_group-returns-in_err-close_group-clause-turns : goal.groups::read_group-returns-in_err-close_group-clause-turns
groups::read_group-returns-in_err-close_group-clause-turns t c =
    let p = err_from_is_err_and c.from_residual-in_err-close_group.result c.from_residual-in_err-close_group.ensures.1 in
    rw (p.1, p.2) (group_open c.args.cursor.now c.open_group.new.cursor c.in_ok-open_group.ensures.turns.moved
    (past_mark_enters (open_mark c.args.brackets) c.args.cursor.now c.open_group.new.cursor (is_open c.args.brackets) c.in_ok-open_group.ensures.value)
    (opened_mark c.args.cursor.now c.open_group.new.cursor c.in_ok-open_group.ensures.text (open_mark c.args.brackets) (opens_group c.args.brackets)
    c.in_ok-open_group.ensures.value) c.read_inside.new.cursor c.close_group.new.cursor _ _ c.in_ok-value.ensures.turns c.in_err-close_group.ensures.turns.most)

pub groups::read_group-returns-clause-turns : goal.groups::read_group-returns-clause-turns
groups::read_group-returns-clause-turns t c = group_settled c.args.cursor.now c.open_group.new.cursor c.in_ok-open_group.ensures.turns.moved
    (past_mark_enters (open_mark c.args.brackets) c.args.cursor.now c.open_group.new.cursor (is_open c.args.brackets) c.in_ok-open_group.ensures.value)
    (opened_mark c.args.cursor.now c.open_group.new.cursor c.in_ok-open_group.ensures.text (open_mark c.args.brackets) (opens_group c.args.brackets)
    c.in_ok-open_group.ensures.value) c.read_inside.new.cursor c.close_group.new.cursor _ _ c.in_ok-value.ensures.turns c.in_ok-close_group.ensures.turns.moved
    (past_close_nears (close_mark c.args.brackets) c.read_inside.new.cursor c.close_group.new.cursor (is_close c.args.brackets)
    c.in_ok-close_group.ensures.value)

pub groups::read_inside-returns-then-opens_field-clause-turns : goal.groups::read_inside-returns-then-opens_field-clause-turns
groups::read_inside-returns-then-opens_field-clause-turns t c =
    looked_spent true 1 2 3 c.args.cursor.now c.opens_field.new.self c.read_mapping-then-opens_field.result c.read_mapping-then-opens_field.new.cursor
    (omega arith) c.opens_field.ensures.place c.opens_field.ensures.turns c.read_mapping-then-opens_field.ensures.turns

pub groups::read_inside-returns-else-opens_field-clause-turns : goal.groups::read_inside-returns-else-opens_field-clause-turns
groups::read_inside-returns-else-opens_field-clause-turns t c = looked_spent true 1 2 3 c.args.cursor.now c.opens_field.new.self c.read_sequence-in-Group.result
    c.read_sequence-in-Group.new.cursor (omega arith) c.opens_field.ensures.place c.opens_field.ensures.turns c.read_sequence-in-Group.ensures.turns

pub groups::read_inside-returns-in-List-clause-turns : goal.groups::read_inside-returns-in-List-clause-turns
groups::read_inside-returns-in-List-clause-turns t c =
    opened_spent false 2 3 c.args.cursor.now c.read_sequence.result c.read_sequence.new.cursor (omega arith) c.read_sequence.ensures.turns

pub groups::read_inside-returns-in-Map-clause-turns : goal.groups::read_inside-returns-in-Map-clause-turns
groups::read_inside-returns-in-Map-clause-turns t c =
    opened_spent false 2 3 c.args.cursor.now c.read_mapping.result c.read_mapping.new.cursor (omega arith) c.read_mapping.ensures.turns

pub items::read_items-returns-in_err-more-clause-turns : goal.items::read_items-returns-in_err-more-clause-turns
items::read_items-returns-in_err-more-clause-turns t c =
    let p = err_from_is_err_and c.from_residual-in_err-more.result c.from_residual-in_err-more.ensures.1 in
    rw (p.1, p.2) (spent_open false 2 c.args.cursor.now c.read_below.new.cursor c.more_follow.new.cursor _ _
    (counts_item c.items.invariant.3.0 c.items-test.true _ c.read_below.new.cursor c.in_ok-item.ensures.turns) c.in_err-more.ensures.turns.most)

pub items::read_items-returns-clause-turns : goal.items::read_items-returns-clause-turns
items::read_items-returns-clause-turns t c = counts_end c.items.invariant.3.0 _

pub items::read_sequence-returns-in_err-inner-clause-turns : goal.items::read_sequence-returns-in_err-inner-clause-turns
items::read_sequence-returns-in_err-inner-clause-turns t c =
    let p = err_from_is_err_and c.from_residual.result c.from_residual.ensures.1 in
    rw (p.1, p.2) (spent_nothing false 2 c.args.cursor.now _)

pub value::read_bare-returns-then-is_at-clause-turns : goal.value::read_bare-returns-then-is_at-clause-turns
value::read_bare-returns-then-is_at-clause-turns t c = spent_none true 2 c.args.cursor.now _

pub value::read_bare-returns-in_err-kind-clause-turns : goal.value::read_bare-returns-in_err-kind-clause-turns
value::read_bare-returns-in_err-kind-clause-turns t c =
    let p = err_from_is_err_and c.from_residual.result c.from_residual.ensures.1 in
    rw p.1 (told_refused c.args.cursor.now c.kind.new.self c.kind.ensures.place c.kind.ensures.turns p.0)

pub value::read_bare-returns-in-Named-clause-turns : goal.value::read_bare-returns-in-Named-clause-turns
value::read_bare-returns-in-Named-clause-turns t c = told_spent c.args.cursor.now c.kind.new.self c.kind.ensures.place c.kind.ensures.turns
    c.read_mapping.result c.read_mapping.new.cursor c.read_mapping.ensures.turns

pub value::read_bare-returns-in-Many-clause-turns : goal.value::read_bare-returns-in-Many-clause-turns
value::read_bare-returns-in-Many-clause-turns t c = told_spent c.args.cursor.now c.kind.new.self c.kind.ensures.place c.kind.ensures.turns
    c.read_sequence.result c.read_sequence.new.cursor c.read_sequence.ensures.turns

pub value::read_bare-returns-in_err-value-in-Newtype-clause-turns : goal.value::read_bare-returns-in_err-value-in-Newtype-clause-turns
value::read_bare-returns-in_err-value-in-Newtype-clause-turns t c =
    let p = err_from_is_err_and c.from_residual-in_err-value-in-Newtype.result c.from_residual-in_err-value-in-Newtype.ensures.1 in
    rw (p.1, p.2)
    (told_spent c.args.cursor.now c.kind.new.self c.kind.ensures.place c.kind.ensures.turns _ c.read_value.new.cursor c.in_err-value-in-Newtype.ensures.turns)

pub value::read_bare-returns-in_err-pass_last_comma-in-Newtype-clause-turns : goal.value::read_bare-returns-in_err-pass_last_comma-in-Newtype-clause-turns
value::read_bare-returns-in_err-pass_last_comma-in-Newtype-clause-turns t c =
    let p = err_from_is_err_and c.from_residual-in_err-pass_last_comma-in-Newtype.result c.from_residual-in_err-pass_last_comma-in-Newtype.ensures.1 in
    rw (p.1, p.2) (spent_open true 2 c.args.cursor.now c.read_value.new.cursor c.pass_last_comma.new.cursor _ _
    (told_spent c.args.cursor.now c.kind.new.self c.kind.ensures.place c.kind.ensures.turns _ c.read_value.new.cursor c.in_ok-value-in-Newtype.ensures.turns)
    c.in_err-pass_last_comma-in-Newtype.ensures.turns.most)

pub value::read_bare-returns-in_ok-pass_last_comma-in-Newtype-clause-turns : goal.value::read_bare-returns-in_ok-pass_last_comma-in-Newtype-clause-turns
value::read_bare-returns-in_ok-pass_last_comma-in-Newtype-clause-turns t c = spent_moved true 2 c.args.cursor.now c.read_value.new.cursor
    c.pass_last_comma.new.cursor _ _ (told_spent c.args.cursor.now c.kind.new.self c.kind.ensures.place c.kind.ensures.turns _ c.read_value.new.cursor
    c.in_ok-value-in-Newtype.ensures.turns) c.in_ok-pass_last_comma-in-Newtype.ensures.turns.moved
    (past_last_nears c.read_value.new.cursor c.pass_last_comma.new.cursor c.in_ok-pass_last_comma-in-Newtype.ensures.value)

pub value::read_below-returns-in_err-inner-clause-turns : goal.value::read_below-returns-in_err-inner-clause-turns
value::read_below-returns-in_err-inner-clause-turns t c =
    let p = err_from_is_err_and c.from_residual.result c.from_residual.ensures.1 in
    rw (p.1, p.2) (spent_nothing false 2 c.args.cursor.now _)

pub value::read_value-returns-in-Character-clause-turns : goal.value::read_value-returns-in-Character-clause-turns
value::read_value-returns-in-Character-clause-turns t c = looked_settled 1 2 c.args.cursor.now c.form_at.new.cursor c.read_char.result c.read_char.new.cursor
    (omega arith) c.form_at.ensures.place c.in-Character.ensures.turns c.read_char.ensures.turns

pub value::read_value-returns-in-Text-clause-turns : goal.value::read_value-returns-in-Text-clause-turns
value::read_value-returns-in-Text-clause-turns t c = looked_settled 1 2 c.args.cursor.now c.form_at.new.cursor c.read_string.result c.read_string.new.cursor
    (omega arith) c.form_at.ensures.place c.in-Text.ensures.turns c.read_string.ensures.turns

pub value::read_value-returns-in-Bytes-clause-turns : goal.value::read_value-returns-in-Bytes-clause-turns
value::read_value-returns-in-Bytes-clause-turns t c = looked_settled 1 2 c.args.cursor.now c.form_at.new.cursor c.read_bytes.result c.read_bytes.new.cursor
    (omega arith) c.form_at.ensures.place c.in-Bytes.ensures.turns c.read_bytes.ensures.turns

pub value::read_value-returns-in-List-clause-turns : goal.value::read_value-returns-in-List-clause-turns
value::read_value-returns-in-List-clause-turns t c = looked_settled 1 2 c.args.cursor.now c.form_at.new.cursor c.read_group.result c.read_group.new.cursor
    (omega arith) c.form_at.ensures.place c.in-List.ensures.turns c.read_group.ensures.turns

pub value::read_value-returns-in-Map-clause-turns : goal.value::read_value-returns-in-Map-clause-turns
value::read_value-returns-in-Map-clause-turns t c = looked_settled 1 2 c.args.cursor.now c.form_at.new.cursor c.read_group-in-Map.result
    c.read_group-in-Map.new.cursor (omega arith) c.form_at.ensures.place c.in-Map.ensures.turns c.read_group-in-Map.ensures.turns

pub value::read_value-returns-then-take_unit-clause-turns : goal.value::read_value-returns-then-take_unit-clause-turns
value::read_value-returns-then-take_unit-clause-turns t c =
    looked_settled 1 2 c.args.cursor.now c.form_at.new.cursor _ c.take_unit.new.cursor (omega arith) c.form_at.ensures.place c.in-Group.ensures.turns
    (word_settled 1 c.form_at.new.cursor c.take_unit.new.cursor _ (omega arith) c.if-take_unit.ensures.turns.over c.if-take_unit.ensures.turns.near)

pub value::read_value-returns-else-take_unit-clause-turns : goal.value::read_value-returns-else-take_unit-clause-turns
value::read_value-returns-else-take_unit-clause-turns t c = looked_settled 1 2 c.args.cursor.now c.form_at.new.cursor c.read_group-in-Group.result
    c.read_group-in-Group.new.cursor (omega arith) c.form_at.ensures.place c.in-Group.ensures.turns (settled_from c.form_at.new.cursor c.take_unit.new.cursor
    c.read_group-in-Group.result c.read_group-in-Group.new.cursor c.if-take_unit.ensures.turns c.read_group-in-Group.ensures.turns)

pub value::read_value-returns-in-Number-clause-turns : goal.value::read_value-returns-in-Number-clause-turns
value::read_value-returns-in-Number-clause-turns t c = looked_spent false 0 2 2 c.args.cursor.now c.form_at.new.cursor c.read_interval.result
    c.read_interval.new.cursor (omega arith) c.form_at.ensures.place c.in-Number.ensures.turns c.read_interval.ensures.turns

pub value::read_value-returns-in-Word-clause-turns : goal.value::read_value-returns-in-Word-clause-turns
value::read_value-returns-in-Word-clause-turns t c = looked_spent false 1 1 2 c.args.cursor.now c.form_at.new.cursor c.read_word.result c.read_word.new.cursor
    (omega arith) c.form_at.ensures.place c.in-Word.ensures.turns c.read_word.ensures.turns

pub value::read_word-returns-in-Some-clause-turns : goal.value::read_word-returns-in-Some-clause-turns
value::read_word-returns-in-Some-clause-turns t c = settled_spent 1 c.args.cursor.now _ c.take_fixed.new.cursor
    (word_settled 1 c.args.cursor.now c.take_fixed.new.cursor _ (omega arith) c.in-Some.ensures.turns.over c.in-Some.ensures.turns.near)

pub value::read_word-returns-then-is_some-clause-turns : goal.value::read_word-returns-then-is_some-clause-turns
value::read_word-returns-then-is_some-clause-turns t c = word_held 1 c.args.cursor.now c.take_fixed.new.cursor c.enter_some.new.cursor c.in_ok-is_some.is_some
    c.read_some.result c.read_some.new.cursor c.if-is_some.true (leaves_same c.args.cursor.now c.take_fixed.new.cursor c.in_default.ensures.turns)
    c.in_ok-is_some.ensures.turns (word_reached c.args.cursor.now c.take_fixed.new.cursor c.enter_some.new.cursor c.in_default.ensures.turns
    c.in_ok-is_some.ensures.text c.in_ok-is_some.ensures.leads) c.read_some.ensures.turns

pub value::read_word-returns-in_err-is_named-clause-turns : goal.value::read_word-returns-in_err-is_named-clause-turns
value::read_word-returns-in_err-is_named-clause-turns t c =
    let p = err_from_is_err_and c.from_residual-in_err-is_named.result c.from_residual-in_err-is_named.ensures.1 in
    rw (p.1, p.2) (word_refused 0 c.args.cursor.now c.enter_some.new.cursor c.enter_named.new.cursor p.0 _
    (leaves_on 1 c.args.cursor.now c.take_fixed.new.cursor c.enter_some.new.cursor c.in_ok-is_some.is_some c.if-is_some.false
    (leaves_same c.args.cursor.now c.take_fixed.new.cursor c.in_default.ensures.turns) c.in_ok-is_some.ensures.turns) c.in_err-is_named.ensures.turns)

pub value::read_word-returns-then-is_named-clause-turns : goal.value::read_word-returns-then-is_named-clause-turns
value::read_word-returns-then-is_named-clause-turns t c =
    word_held 0 c.args.cursor.now c.enter_some.new.cursor c.enter_named.new.cursor c.in_ok-is_named.is_named c.read_group.result c.read_group.new.cursor
    c.if-is_named.true (leaves_on 1 c.args.cursor.now c.take_fixed.new.cursor c.enter_some.new.cursor c.in_ok-is_some.is_some c.if-is_some.false
    (leaves_same c.args.cursor.now c.take_fixed.new.cursor c.in_default.ensures.turns) c.in_ok-is_some.ensures.turns) c.in_ok-is_named.ensures.turns
    (λ r. reached_on c.enter_some.new.cursor c.enter_named.new.cursor c.in_ok-is_named.ensures.text c.in_ok-is_named.ensures.leads (word_reached
    c.args.cursor.now c.take_fixed.new.cursor c.enter_some.new.cursor c.in_default.ensures.turns c.in_ok-is_some.ensures.text c.in_ok-is_some.ensures.leads r))
    c.read_group.ensures.turns

pub value::read_word-returns-clause-turns : goal.value::read_word-returns-clause-turns
value::read_word-returns-clause-turns t c = word_else c.args.cursor.now c.enter_named.new.cursor c.read_unit.result c.read_unit.new.cursor
    (leaves_on 0 c.args.cursor.now c.enter_some.new.cursor c.enter_named.new.cursor c.in_ok-is_named.is_named c.if-is_named.false
    (leaves_on 1 c.args.cursor.now c.take_fixed.new.cursor c.enter_some.new.cursor c.in_ok-is_some.is_some c.if-is_some.false
    (leaves_same c.args.cursor.now c.take_fixed.new.cursor c.in_default.ensures.turns) c.in_ok-is_some.ensures.turns) c.in_ok-is_named.ensures.turns)
    (λ r. reached_on c.enter_some.new.cursor c.enter_named.new.cursor c.in_ok-is_named.ensures.text c.in_ok-is_named.ensures.leads (word_reached
    c.args.cursor.now c.take_fixed.new.cursor c.enter_some.new.cursor c.in_default.ensures.turns c.in_ok-is_some.ensures.text c.in_ok-is_some.ensures.leads r))
    c.read_unit.ensures.turns
