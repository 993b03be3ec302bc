-- The answers of the reading functions, with a table of the names of those of entries, of words, of what a Some holds and of the count of turns, which are in
-- files of their own: for a cycle of calls all names have to stand in one file.
mod Entries
mod Words
mod Somes
mod Turns
use Rattle.std.proofs.Common.{sym, ap, subst, ◌∙◌, arith, rules}
use Rattle.std.proofs.lemmas.List.Elements.{All-push}
use Rattle.std.proofs.lemmas.Result.{err_from_is_err_and}
use Rattle.std.specs.List.{All}
use Rattle.ron_spec_words.specs.Reader.{got, meant}
use Rattle.ron_spec_grammar.specs.Values.Grammar.{unit_value}
use Rattle.ron_value.specs.View.{tree_of}
use Rattle.ron_lex.specs.Kinds.{is_named, is_many}
use Rattle.ron_lex.proofs.TurnLemmas.{grows_on}
use Rattle.ron_de_steps.proofs.RoomLemmas.{room_less}
use Rattle.ron_de_untyped.specs.Order.{HoldsOrder}
use Rattle.ron_de_untyped.specs.Reading.{read_items}
use Rattle.ron_de_untyped.specs.Values.{unwraps}
use Rattle.ron_de_untyped.proofs.AnyTurns.{value_character, value_string, value_bytes, value_list, value_map, value_unit, value_group, value_number, value_word}
use Rattle.ron_de_untyped.proofs.AnyTurns.{bare_end, bare_fields, bare_several}
use Rattle.ron_de_untyped.proofs.CountLemmas.{counts_begin, counts_on}
use Rattle.ron_de_untyped.proofs.FormLemmas.{one_stands, inside_as_list, inside_as_map, inside_as_fields, inside_as_items, bare_fails, bare_open, bare_read}
use Rattle.ron_de_untyped.proofs.FormLemmas.{group_there}
use Rattle.ron_de_untyped.proofs.ItemLemmas.{item_fails, comma_fails, one_more, all_read}
use Rattle.ron_de_untyped.proofs.LeadLemmas.{below_leads}
use Rattle.ron_de_untyped.proofs.ReadLemmas.{reads_same, below_ended, reads_below, sequence_ended, sequence_fails, too_few, sequence_read, not_opened}
use Rattle.ron_de_untyped.proofs.ReadLemmas.{inside_fails, not_closed, group_read}
use Rattle.ron_de_untyped.proofs.ValueLemmas.{tree_of-Unit, seq_ordered}
use Rattle.ron_de_untyped.proofs.+read.Goals as goal

-- ---- a level deeper

pub value::read_below-returns-in_err-inner-clause-value : goal.value::read_below-returns-in_err-inner-clause-value
value::read_below-returns-in_err-inner-clause-value t c =
    let p = err_from_is_err_and c.from_residual.result c.from_residual.ensures.1 in
    rw (p.1, p.2, c.in_err-inner.ensures.0) (below_ended c.args.context.now c.args.cursor.now c.in_err-inner.ensures.1)

pub value::read_below-returns-clause-value : goal.value::read_below-returns-clause-value
value::read_below-returns-clause-value t c = reads_below c.args.context.now c.args.cursor.now c.in_ok-inner.inner c.in_ok-inner.ensures c.read_any.result
    c.read_any.new.cursor.rest c.read_any.ensures.value

-- ---- items

pub items::read_sequence-returns-in_err-inner-clause-value : goal.items::read_sequence-returns-in_err-inner-clause-value
items::read_sequence-returns-in_err-inner-clause-value t c =
    let p = err_from_is_err_and c.from_residual.result c.from_residual.ensures.1 in
    rw (p.1, p.2, c.in_err-inner.ensures.0) (sequence_ended c.args.is_several c.args.context.now c.args.close c.args.cursor.now c.in_err-inner.ensures.1)

pub items::read_sequence-returns-in_err-items-clause-value : goal.items::read_sequence-returns-in_err-items-clause-value
items::read_sequence-returns-in_err-items-clause-value t c =
    let p = err_from_is_err_and c.from_residual-in_err-items.result c.from_residual-in_err-items.ensures.1 in
    rw (p.1, p.2) (λ room r. sequence_fails c.args.is_several c.args.context.now c.args.close c.args.cursor.now c.in_ok-inner.inner c.in_ok-inner.ensures room r
    _ c.read_items.new.cursor.rest c.in_err-items.ensures.value)

pub items::read_sequence-returns-then-are_too_few-clause-value : goal.items::read_sequence-returns-then-are_too_few-clause-value
items::read_sequence-returns-then-are_too_few-clause-value t c =
    λ room r. too_few c.args.is_several c.args.context.now c.args.close c.args.cursor.now c.in_ok-inner.inner c.in_ok-inner.ensures room r c.in_ok-items.items
    c.read_items.new.cursor.rest c.in_ok-items.ensures.value (sym c.are_too_few.ensures ∙ c.if-are_too_few.true)

pub items::read_sequence-returns-clause-value : goal.items::read_sequence-returns-clause-value
items::read_sequence-returns-clause-value t c =
    λ room r. sequence_read c.args.is_several c.args.context.now c.args.close c.args.cursor.now c.in_ok-inner.inner c.in_ok-inner.ensures room r
    c.in_ok-items.items c.read_items.new.cursor.rest c.in_ok-items.ensures.value (sym c.are_too_few.ensures ∙ c.if-are_too_few.false)

pub items::read_sequence-returns-clause-advance : goal.items::read_sequence-returns-clause-advance
items::read_sequence-returns-clause-advance t c = record {
  text = c.in_ok-items.ensures.advance.text;
  no_longer = c.in_ok-items.ensures.advance.no_longer;
  holds = seq_ordered c.in_ok-items.items c.in_ok-items.ensures.advance.holds;
  fault = tt;
}

pub items::read_items-returns-in_err-item-clause-value : goal.items::read_items-returns-in_err-item-clause-value
unfolding read_items
items::read_items-returns-in_err-item-clause-value t c =
    let p = err_from_is_err_and c.from_residual.result c.from_residual.ensures.1 in
    rw (p.1, p.2) (item_fails _ _ _ _ _ _ _ _ _ c.items-test.true c.items.invariant.1 _
    (λ room r. c.in_err-item.ensures.value room (room_less c.args.context.now.limit _ _ room r (omega arith))))

pub items::read_items-returns-in_err-more-clause-value : goal.items::read_items-returns-in_err-more-clause-value
unfolding read_items
items::read_items-returns-in_err-more-clause-value t c =
    let p = err_from_is_err_and c.from_residual-in_err-more.result c.from_residual-in_err-more.ensures.1 in
    rw (p.1, p.2) (comma_fails _ _ _ _ _ _ _ _ _ c.items-test.true c.items.invariant.1 c.in_ok-item.item _
    (λ room r. c.in_ok-item.ensures.value room (room_less c.args.context.now.limit _ _ room r (omega arith))) _ c.in_err-more.ensures.value)

pub items::read_items-items-init : goal.items::read_items-items-init
items::read_items-items-init t c = (search rules, search rules, search rules, (counts_begin _ c.args.cursor.now, omega arith))

pub items::read_items-items-preserved : goal.items::read_items-items-preserved
items::read_items-items-preserved t c = (
  c.in_ok-more.ensures.text ∙ c.in_ok-item.ensures.advance.text ∙ c.items.invariant.0,
  one_more _ _ _ _ _ _ _ _ _ c.items-test.true c.items.invariant.1 c.in_ok-item.item _
      (λ room r. c.in_ok-item.ensures.value room (room_less c.args.context.now.limit _ _ room r (omega arith))) _ _ _ c.in_ok-push.ensures.items
      c.in_ok-more.ensures.value (omega (arith, c.in_ok-more.ensures.no_longer, c.in_ok-item.ensures.advance.no_longer)),
  subst (All HoldsOrder) (sym c.in_ok-push.ensures.items) (All-push HoldsOrder _ _ c.items.invariant.2 c.in_ok-item.ensures.advance.holds),
  (
    counts_on c.items.invariant.3.0 c.items-test.true c.args.close c.in_ok-item.item c.read_below.new.cursor c.more_follow.new.cursor _
        c.in_ok-item.ensures.turns c.in_ok-item.ensures.advance.text (below_leads c.args.context.now _ _ c.in_ok-item.item c.read_below.new.cursor.rest
        c.in_ok-item.ensures.value) c.in_ok-more.ensures.turns.moved c.in_ok-more.ensures.text c.in_ok-more.ensures.value,
    grows_on c.args.cursor.now c.read_below.new.cursor c.more_follow.new.cursor
        (grows_on c.args.cursor.now c.items.cursor c.read_below.new.cursor c.items.invariant.3.1 c.in_ok-item.ensures.grows) c.in_ok-more.ensures.grows,
  ),
)

pub items::read_items-returns-clause-value : goal.items::read_items-returns-clause-value
unfolding read_items
items::read_items-returns-clause-value t c = all_read _ _ _ _ _ _ _ _ _ c.items-test.false c.items.invariant.1

-- ---- keys and values

pub entries::read_mapping-returns-in_err-inner-clause-value : goal.entries::read_mapping-returns-in_err-inner-clause-value
entries::read_mapping-returns-in_err-inner-clause-value = Entries.entries::read_mapping-returns-in_err-inner-clause-value

pub entries::read_mapping-returns-in_err-pairs-clause-value : goal.entries::read_mapping-returns-in_err-pairs-clause-value
entries::read_mapping-returns-in_err-pairs-clause-value = Entries.entries::read_mapping-returns-in_err-pairs-clause-value

pub entries::read_mapping-returns-then-lacks_field-clause-value : goal.entries::read_mapping-returns-then-lacks_field-clause-value
entries::read_mapping-returns-then-lacks_field-clause-value = Entries.entries::read_mapping-returns-then-lacks_field-clause-value

pub entries::read_mapping-returns-clause-value : goal.entries::read_mapping-returns-clause-value
entries::read_mapping-returns-clause-value = Entries.entries::read_mapping-returns-clause-value

pub entries::read_mapping-returns-clause-advance : goal.entries::read_mapping-returns-clause-advance
entries::read_mapping-returns-clause-advance = Entries.entries::read_mapping-returns-clause-advance

pub entries::read_entry-returns-in_err-key-clause-value : goal.entries::read_entry-returns-in_err-key-clause-value
entries::read_entry-returns-in_err-key-clause-value = Entries.entries::read_entry-returns-in_err-key-clause-value

pub entries::read_entry-returns-in_err-pass_colon-clause-value : goal.entries::read_entry-returns-in_err-pass_colon-clause-value
entries::read_entry-returns-in_err-pass_colon-clause-value = Entries.entries::read_entry-returns-in_err-pass_colon-clause-value

pub entries::read_entry-returns-in_err-value-clause-value : goal.entries::read_entry-returns-in_err-value-clause-value
entries::read_entry-returns-in_err-value-clause-value = Entries.entries::read_entry-returns-in_err-value-clause-value

pub entries::read_entry-returns-clause-value : goal.entries::read_entry-returns-clause-value
entries::read_entry-returns-clause-value = Entries.entries::read_entry-returns-clause-value

pub entries::read_entry-returns-clause-leads : goal.entries::read_entry-returns-clause-leads
entries::read_entry-returns-clause-leads = Entries.entries::read_entry-returns-clause-leads

pub entries::read_key-returns-in-Names-clause-leads : goal.entries::read_key-returns-in-Names-clause-leads
entries::read_key-returns-in-Names-clause-leads = Entries.entries::read_key-returns-in-Names-clause-leads

pub entries::read_key-returns-in-Values-clause-leads : goal.entries::read_key-returns-in-Values-clause-leads
entries::read_key-returns-in-Values-clause-leads = Entries.entries::read_key-returns-in-Values-clause-leads

pub entries::read_key-returns-in-Values-clause-value : goal.entries::read_key-returns-in-Values-clause-value
entries::read_key-returns-in-Values-clause-value = Entries.entries::read_key-returns-in-Values-clause-value

pub entries::read_entries-returns-in_err-pair-clause-value : goal.entries::read_entries-returns-in_err-pair-clause-value
entries::read_entries-returns-in_err-pair-clause-value = Entries.entries::read_entries-returns-in_err-pair-clause-value

pub entries::read_entries-returns-in_err-more-clause-value : goal.entries::read_entries-returns-in_err-more-clause-value
entries::read_entries-returns-in_err-more-clause-value = Entries.entries::read_entries-returns-in_err-more-clause-value

pub entries::read_entries-pairs-init : goal.entries::read_entries-pairs-init
entries::read_entries-pairs-init = Entries.entries::read_entries-pairs-init

pub entries::read_entries-pairs-preserved : goal.entries::read_entries-pairs-preserved
entries::read_entries-pairs-preserved = Entries.entries::read_entries-pairs-preserved

pub entries::read_entries-returns-clause-value : goal.entries::read_entries-returns-clause-value
entries::read_entries-returns-clause-value = Entries.entries::read_entries-returns-clause-value

-- ---- brackets

pub groups::read_group-returns-in_err-open_group-clause-value : goal.groups::read_group-returns-in_err-open_group-clause-value
groups::read_group-returns-in_err-open_group-clause-value t c =
    let p = err_from_is_err_and c.from_residual.result c.from_residual.ensures.1 in
    rw (p.1, p.2) (λ room r. not_opened c.args.brackets c.args.context.now c.args.cursor.now room _ c.in_err-open_group.ensures.value)

pub groups::read_group-returns-in_err-value-clause-value : goal.groups::read_group-returns-in_err-value-clause-value
groups::read_group-returns-in_err-value-clause-value t c =
    let p = err_from_is_err_and c.from_residual-in_err-value.result c.from_residual-in_err-value.ensures.1 in
    rw (p.1, p.2) (λ room r. inside_fails c.args.brackets c.args.context.now c.args.cursor.now room r c.open_group.new.cursor c.in_ok-open_group.ensures.value
    c.in_ok-open_group.ensures.shorter _ c.read_inside.new.cursor.rest c.in_err-value.ensures.value)

pub groups::read_group-returns-in_err-close_group-clause-value : goal.groups::read_group-returns-in_err-close_group-clause-value
groups::read_group-returns-in_err-close_group-clause-value t c =
    let p = err_from_is_err_and c.from_residual-in_err-close_group.result c.from_residual-in_err-close_group.ensures.1 in
    rw (p.1, p.2) (λ room r. not_closed c.args.brackets c.args.context.now c.args.cursor.now room r c.open_group.new.cursor c.in_ok-open_group.ensures.value
    c.in_ok-open_group.ensures.shorter c.in_ok-value.value c.read_inside.new.cursor.rest c.in_ok-value.ensures.value _ c.in_err-close_group.ensures.value)

pub groups::read_group-returns-clause-value : goal.groups::read_group-returns-clause-value
groups::read_group-returns-clause-value t c =
    λ room r. group_read c.args.brackets c.args.context.now c.args.cursor.now room r c.open_group.new.cursor c.in_ok-open_group.ensures.value
    c.in_ok-open_group.ensures.shorter c.in_ok-value.value c.read_inside.new.cursor.rest c.in_ok-value.ensures.value _ c.in_ok-close_group.ensures.value

pub groups::read_inside-returns-in-List-clause-value : goal.groups::read_inside-returns-in-List-clause-value
groups::read_inside-returns-in-List-clause-value t c = inside_as_list c.args.context.now c.args.cursor.now c.read_sequence.result
    c.read_sequence.new.cursor.rest c.args.brackets c.in-List.is c.read_sequence.ensures.value

pub groups::read_inside-returns-in-Map-clause-value : goal.groups::read_inside-returns-in-Map-clause-value
groups::read_inside-returns-in-Map-clause-value t c = inside_as_map c.args.context.now c.args.cursor.now c.read_mapping.result c.read_mapping.new.cursor.rest
    c.args.brackets c.in-Map.is c.read_mapping.ensures.value

-- ---- what a Some holds

pub somes::read_some-returns-in_err-open_some-clause-value : goal.somes::read_some-returns-in_err-open_some-clause-value
somes::read_some-returns-in_err-open_some-clause-value = Somes.somes::read_some-returns-in_err-open_some-clause-value

pub somes::read_some-returns-in_err-inner-clause-value : goal.somes::read_some-returns-in_err-inner-clause-value
somes::read_some-returns-in_err-inner-clause-value = Somes.somes::read_some-returns-in_err-inner-clause-value

pub somes::read_some-returns-in_err-depth-clause-value : goal.somes::read_some-returns-in_err-depth-clause-value
somes::read_some-returns-in_err-depth-clause-value = Somes.somes::read_some-returns-in_err-depth-clause-value

pub somes::read_some-returns-in_err-held-clause-value : goal.somes::read_some-returns-in_err-held-clause-value
somes::read_some-returns-in_err-held-clause-value = Somes.somes::read_some-returns-in_err-held-clause-value

pub somes::read_some-returns-clause-value : goal.somes::read_some-returns-clause-value
somes::read_some-returns-clause-value = Somes.somes::read_some-returns-clause-value

pub somes::read_some-returns-in_err-open_some-clause-turns : goal.somes::read_some-returns-in_err-open_some-clause-turns
somes::read_some-returns-in_err-open_some-clause-turns = Somes.somes::read_some-returns-in_err-open_some-clause-turns

pub somes::read_some-returns-in_err-inner-clause-turns : goal.somes::read_some-returns-in_err-inner-clause-turns
somes::read_some-returns-in_err-inner-clause-turns = Somes.somes::read_some-returns-in_err-inner-clause-turns

pub somes::read_some-returns-in_err-depth-clause-turns : goal.somes::read_some-returns-in_err-depth-clause-turns
somes::read_some-returns-in_err-depth-clause-turns = Somes.somes::read_some-returns-in_err-depth-clause-turns

pub somes::read_some-returns-in_err-held-clause-turns : goal.somes::read_some-returns-in_err-held-clause-turns
somes::read_some-returns-in_err-held-clause-turns = Somes.somes::read_some-returns-in_err-held-clause-turns

pub somes::read_some-returns-clause-turns : goal.somes::read_some-returns-clause-turns
somes::read_some-returns-clause-turns = Somes.somes::read_some-returns-clause-turns

pub somes::read_held-returns-in_err-value-clause-value : goal.somes::read_held-returns-in_err-value-clause-value
somes::read_held-returns-in_err-value-clause-value = Somes.somes::read_held-returns-in_err-value-clause-value

pub somes::read_held-returns-then-is_bare-clause-value : goal.somes::read_held-returns-then-is_bare-clause-value
somes::read_held-returns-then-is_bare-clause-value = Somes.somes::read_held-returns-then-is_bare-clause-value

pub somes::read_held-returns-in_err-pass_last_comma-clause-value : goal.somes::read_held-returns-in_err-pass_last_comma-clause-value
somes::read_held-returns-in_err-pass_last_comma-clause-value = Somes.somes::read_held-returns-in_err-pass_last_comma-clause-value

pub somes::read_held-returns-clause-value : goal.somes::read_held-returns-clause-value
somes::read_held-returns-clause-value = Somes.somes::read_held-returns-clause-value

pub somes::read_held-returns-in_err-value-clause-turns : goal.somes::read_held-returns-in_err-value-clause-turns
somes::read_held-returns-in_err-value-clause-turns = Somes.somes::read_held-returns-in_err-value-clause-turns

pub somes::read_held-returns-then-is_bare-clause-turns : goal.somes::read_held-returns-then-is_bare-clause-turns
somes::read_held-returns-then-is_bare-clause-turns = Somes.somes::read_held-returns-then-is_bare-clause-turns

pub somes::read_held-returns-in_err-pass_last_comma-clause-turns : goal.somes::read_held-returns-in_err-pass_last_comma-clause-turns
somes::read_held-returns-in_err-pass_last_comma-clause-turns = Somes.somes::read_held-returns-in_err-pass_last_comma-clause-turns

pub somes::read_held-returns-clause-turns : goal.somes::read_held-returns-clause-turns
somes::read_held-returns-clause-turns = Somes.somes::read_held-returns-clause-turns

-- ---- bare values

pub value::read_bare-returns-then-is_at-clause-value : goal.value::read_bare-returns-then-is_at-clause-value
value::read_bare-returns-then-is_at-clause-value t c = λ room r. bare_end (unwraps c.args.context.now) room c.args.cursor.now.gap c.args.cursor.now.rest
    (sym c.is_at.ensures ∙ c.if-is_at.true) ∙ ap (λ x. got x c.args.cursor.now.rest) (sym tree_of-Unit)

pub value::read_bare-returns-in-Named-clause-value : goal.value::read_bare-returns-in-Named-clause-value
value::read_bare-returns-in-Named-clause-value t c =
    λ room r. reads_same tree_of c.read_mapping.result _ _ c.read_mapping.new.cursor.rest (bare_fields (unwraps c.args.context.now) room c.args.cursor.now.gap
    c.args.cursor.now.rest (sym c.is_at.ensures ∙ c.if-is_at.false) (c.in_ok-kind.ensures.value.named ∙ ap is_named c.in-Named.is))
    ((rw (c.kind.ensures.place.rest, c.kind.ensures.place.gap) at c.read_mapping.ensures.value) room r)

pub value::read_bare-returns-in-Many-clause-value : goal.value::read_bare-returns-in-Many-clause-value
value::read_bare-returns-in-Many-clause-value t c = λ room r. reads_same tree_of c.read_sequence.result _ _ c.read_sequence.new.cursor.rest
    (bare_several (unwraps c.args.context.now) room c.args.cursor.now.gap c.args.cursor.now.rest (sym c.is_at.ensures ∙ c.if-is_at.false)
    (c.in_ok-kind.ensures.value.named ∙ ap is_named c.in-Many.is) (c.in_ok-kind.ensures.value.many (c.in_ok-kind.ensures.value.named ∙ ap is_named c.in-Many.is)
    ∙ ap is_many c.in-Many.is)) ((rw (c.kind.ensures.place.rest, c.kind.ensures.place.gap) at c.read_sequence.ensures.value) room r)

pub value::read_bare-returns-in_err-value-in-Newtype-clause-value : goal.value::read_bare-returns-in_err-value-in-Newtype-clause-value
value::read_bare-returns-in_err-value-in-Newtype-clause-value t c =
    let p = err_from_is_err_and c.from_residual-in_err-value-in-Newtype.result c.from_residual-in_err-value-in-Newtype.ensures.1 in
    let alone = one_stands c.in_ok-kind.field-0 c.args.cursor.now.rest c.in-Newtype.is c.in_ok-kind.ensures.value in
    rw (p.1, p.2) (bare_fails c.args.context.now c.args.cursor.now (sym c.is_at.ensures ∙ c.if-is_at.false) alone.0 alone.1 _ c.read_value.new.cursor.rest
    (rw (c.kind.ensures.place.rest, c.kind.ensures.place.gap) at c.in_err-value-in-Newtype.ensures.value))

pub value::read_bare-returns-in_err-pass_last_comma-in-Newtype-clause-value : goal.value::read_bare-returns-in_err-pass_last_comma-in-Newtype-clause-value
value::read_bare-returns-in_err-pass_last_comma-in-Newtype-clause-value t c =
    let p = err_from_is_err_and c.from_residual-in_err-pass_last_comma-in-Newtype.result c.from_residual-in_err-pass_last_comma-in-Newtype.ensures.1 in
    let alone = one_stands c.in_ok-kind.field-0 c.args.cursor.now.rest c.in-Newtype.is c.in_ok-kind.ensures.value in
    rw (p.1, p.2) (bare_open c.args.context.now c.args.cursor.now (sym c.is_at.ensures ∙ c.if-is_at.false) alone.0 alone.1 c.in_ok-value-in-Newtype.value
    c.read_value.new.cursor.rest (rw (c.kind.ensures.place.rest, c.kind.ensures.place.gap) at c.in_ok-value-in-Newtype.ensures.value) _
    c.pass_last_comma.new.cursor.rest c.in_err-pass_last_comma-in-Newtype.ensures.value)

pub value::read_bare-returns-in_ok-pass_last_comma-in-Newtype-clause-value : goal.value::read_bare-returns-in_ok-pass_last_comma-in-Newtype-clause-value
value::read_bare-returns-in_ok-pass_last_comma-in-Newtype-clause-value t c =
    let alone = one_stands c.in_ok-kind.field-0 c.args.cursor.now.rest c.in-Newtype.is c.in_ok-kind.ensures.value in
    bare_read c.args.context.now c.args.cursor.now (sym c.is_at.ensures ∙ c.if-is_at.false) alone.0 alone.1 c.in_ok-value-in-Newtype.value
    c.read_value.new.cursor.rest (rw (c.kind.ensures.place.rest, c.kind.ensures.place.gap) at c.in_ok-value-in-Newtype.ensures.value) _
    c.in_ok-pass_last_comma-in-Newtype.ensures.value

-- ---- a value, by its form

pub value::read_value-returns-in-Character-clause-value : goal.value::read_value-returns-in-Character-clause-value
value::read_value-returns-in-Character-clause-value t c = λ room r. reads_same tree_of c.read_char.result _ _ c.read_char.new.cursor.rest
    (value_character (unwraps c.args.context.now) room c.args.cursor.now.gap c.args.cursor.now.rest (sym c.in-Character.ensures.value))
    (rw c.form_at.ensures.place.rest at c.read_char.ensures.value)

pub value::read_value-returns-in-Text-clause-value : goal.value::read_value-returns-in-Text-clause-value
value::read_value-returns-in-Text-clause-value t c = λ room r. reads_same tree_of c.read_string.result _ _ c.read_string.new.cursor.rest
    (value_string (unwraps c.args.context.now) room c.args.cursor.now.gap c.args.cursor.now.rest (sym c.in-Text.ensures.value))
    (rw c.form_at.ensures.place.rest at c.read_string.ensures.value)

pub value::read_value-returns-in-Bytes-clause-value : goal.value::read_value-returns-in-Bytes-clause-value
value::read_value-returns-in-Bytes-clause-value t c = λ room r. reads_same tree_of c.read_bytes.result _ _ c.read_bytes.new.cursor.rest
    (value_bytes (unwraps c.args.context.now) room c.args.cursor.now.gap c.args.cursor.now.rest (sym c.in-Bytes.ensures.value))
    (rw c.form_at.ensures.place.rest at c.read_bytes.ensures.value)

pub value::read_value-returns-in-List-clause-value : goal.value::read_value-returns-in-List-clause-value
value::read_value-returns-in-List-clause-value t c = λ room r. reads_same tree_of c.read_group.result _ _ c.read_group.new.cursor.rest
    (value_list (unwraps c.args.context.now) room c.args.cursor.now.gap c.args.cursor.now.rest (sym c.in-List.ensures.value))
    ((rw c.form_at.ensures.place.rest at c.read_group.ensures.value) room r)

pub value::read_value-returns-in-Map-clause-value : goal.value::read_value-returns-in-Map-clause-value
value::read_value-returns-in-Map-clause-value t c = λ room r. reads_same tree_of c.read_group-in-Map.result _ _ c.read_group-in-Map.new.cursor.rest
    (value_map (unwraps c.args.context.now) room c.args.cursor.now.gap c.args.cursor.now.rest (sym c.in-Map.ensures.value))
    ((rw c.form_at.ensures.place.rest at c.read_group-in-Map.ensures.value) room r)

pub value::read_value-returns-in-Number-clause-value : goal.value::read_value-returns-in-Number-clause-value
value::read_value-returns-in-Number-clause-value t c = λ room r. reads_same tree_of c.read_interval.result _ _ c.read_interval.new.cursor.rest
    (value_number (unwraps c.args.context.now) room c.args.cursor.now.gap c.args.cursor.now.rest (sym c.in-Number.ensures.value))
    (rw c.form_at.ensures.place.rest at c.read_interval.ensures.value)

pub value::read_value-returns-in-Word-clause-value : goal.value::read_value-returns-in-Word-clause-value
value::read_value-returns-in-Word-clause-value t c = λ room r. reads_same tree_of c.read_word.result _ _ c.read_word.new.cursor.rest
    (value_word (unwraps c.args.context.now) room c.args.cursor.now.gap c.args.cursor.now.rest (sym c.in-Word.ensures.value))
    ((rw c.form_at.ensures.place.rest at c.read_word.ensures.value) room r)

pub value::read_value-returns-then-take_unit-clause-value : goal.value::read_value-returns-then-take_unit-clause-value
value::read_value-returns-then-take_unit-clause-value t c = λ room r. value_unit (unwraps c.args.context.now) room c.args.cursor.now.gap c.args.cursor.now.rest
    (sym c.in-Group.ensures.value) (rw c.form_at.ensures.place.rest at c.if-take_unit.ensures.value.0) ∙ ap (λ o. meant o unit_value)
    (rw c.form_at.ensures.place.rest at c.if-take_unit.ensures.value.1) ∙ ap (λ x. got x c.take_unit.new.cursor.rest) (sym tree_of-Unit)

pub value::read_value-returns-else-take_unit-clause-value : goal.value::read_value-returns-else-take_unit-clause-value
value::read_value-returns-else-take_unit-clause-value t c =
    λ room r. reads_same tree_of c.read_group-in-Group.result _ _ c.read_group-in-Group.new.cursor.rest (value_group (unwraps c.args.context.now) room
    c.args.cursor.now.gap c.args.cursor.now.rest (sym c.in-Group.ensures.value) (rw c.form_at.ensures.place.rest at c.if-take_unit.ensures.value.0))
    (group_there _ c.args.context.now c.args.cursor.now c.take_unit.new.cursor c.read_group-in-Group.result c.read_group-in-Group.new.cursor.rest
    (rw c.form_at.ensures.place.rest at c.if-take_unit.ensures.value.1) c.read_group-in-Group.ensures.value room r)

pub groups::read_inside-returns-then-opens_field-clause-value : goal.groups::read_inside-returns-then-opens_field-clause-value
groups::read_inside-returns-then-opens_field-clause-value t c = inside_as_fields c.args.context.now c.args.cursor.now c.read_mapping-then-opens_field.result
    c.read_mapping-then-opens_field.new.cursor.rest c.args.brackets c.in-Group.is (sym c.opens_field.ensures.value ∙ c.if-opens_field.true)
    (rw (c.opens_field.ensures.place.rest, c.opens_field.ensures.place.gap) at c.read_mapping-then-opens_field.ensures.value)

pub groups::read_inside-returns-else-opens_field-clause-value : goal.groups::read_inside-returns-else-opens_field-clause-value
groups::read_inside-returns-else-opens_field-clause-value t c = inside_as_items c.args.context.now c.args.cursor.now c.read_sequence-in-Group.result
    c.read_sequence-in-Group.new.cursor.rest c.args.brackets c.in-Group.is (sym c.opens_field.ensures.value ∙ c.if-opens_field.false)
    (rw (c.opens_field.ensures.place.rest, c.opens_field.ensures.place.gap) at c.read_sequence-in-Group.ensures.value)

-- ---- a value that begins with a word

pub value::read_word-returns-in-Some-clause-value : goal.value::read_word-returns-in-Some-clause-value
value::read_word-returns-in-Some-clause-value = Words.value::read_word-returns-in-Some-clause-value

pub value::read_word-returns-in_err-is_some-clause-value : goal.value::read_word-returns-in_err-is_some-clause-value
value::read_word-returns-in_err-is_some-clause-value = Words.value::read_word-returns-in_err-is_some-clause-value

pub value::read_word-returns-then-is_some-clause-value : goal.value::read_word-returns-then-is_some-clause-value
value::read_word-returns-then-is_some-clause-value = Words.value::read_word-returns-then-is_some-clause-value

pub value::read_word-returns-in_err-is_named-clause-value : goal.value::read_word-returns-in_err-is_named-clause-value
value::read_word-returns-in_err-is_named-clause-value = Words.value::read_word-returns-in_err-is_named-clause-value

pub value::read_word-returns-then-is_named-clause-value : goal.value::read_word-returns-then-is_named-clause-value
value::read_word-returns-then-is_named-clause-value = Words.value::read_word-returns-then-is_named-clause-value

pub value::read_word-returns-clause-value : goal.value::read_word-returns-clause-value
value::read_word-returns-clause-value = Words.value::read_word-returns-clause-value

-- ---- the count of turns

pub value::read_bare-returns-in_err-kind-clause-turns : goal.value::read_bare-returns-in_err-kind-clause-turns
value::read_bare-returns-in_err-kind-clause-turns = Turns.value::read_bare-returns-in_err-kind-clause-turns

pub value::read_bare-returns-in-Named-clause-turns : goal.value::read_bare-returns-in-Named-clause-turns
value::read_bare-returns-in-Named-clause-turns = Turns.value::read_bare-returns-in-Named-clause-turns

pub value::read_bare-returns-in-Many-clause-turns : goal.value::read_bare-returns-in-Many-clause-turns
value::read_bare-returns-in-Many-clause-turns = Turns.value::read_bare-returns-in-Many-clause-turns

pub value::read_bare-returns-in_err-value-in-Newtype-clause-turns : goal.value::read_bare-returns-in_err-value-in-Newtype-clause-turns
value::read_bare-returns-in_err-value-in-Newtype-clause-turns = Turns.value::read_bare-returns-in_err-value-in-Newtype-clause-turns

pub value::read_bare-returns-in_err-pass_last_comma-in-Newtype-clause-turns : goal.value::read_bare-returns-in_err-pass_last_comma-in-Newtype-clause-turns
value::read_bare-returns-in_err-pass_last_comma-in-Newtype-clause-turns = Turns.value::read_bare-returns-in_err-pass_last_comma-in-Newtype-clause-turns

pub value::read_bare-returns-in_ok-pass_last_comma-in-Newtype-clause-turns : goal.value::read_bare-returns-in_ok-pass_last_comma-in-Newtype-clause-turns
value::read_bare-returns-in_ok-pass_last_comma-in-Newtype-clause-turns = Turns.value::read_bare-returns-in_ok-pass_last_comma-in-Newtype-clause-turns

pub entries::read_entries-returns-in_err-more-clause-turns : goal.entries::read_entries-returns-in_err-more-clause-turns
entries::read_entries-returns-in_err-more-clause-turns = Turns.entries::read_entries-returns-in_err-more-clause-turns

pub entries::read_entries-returns-clause-turns : goal.entries::read_entries-returns-clause-turns
entries::read_entries-returns-clause-turns = Turns.entries::read_entries-returns-clause-turns

pub entries::read_entry-returns-in_err-pass_colon-clause-turns : goal.entries::read_entry-returns-in_err-pass_colon-clause-turns
entries::read_entry-returns-in_err-pass_colon-clause-turns = Turns.entries::read_entry-returns-in_err-pass_colon-clause-turns

pub entries::read_entry-returns-in_err-value-clause-turns : goal.entries::read_entry-returns-in_err-value-clause-turns
entries::read_entry-returns-in_err-value-clause-turns = Turns.entries::read_entry-returns-in_err-value-clause-turns

pub entries::read_entry-returns-clause-turns : goal.entries::read_entry-returns-clause-turns
entries::read_entry-returns-clause-turns = Turns.entries::read_entry-returns-clause-turns

pub entries::read_key-returns-in-Names-clause-turns : goal.entries::read_key-returns-in-Names-clause-turns
entries::read_key-returns-in-Names-clause-turns = Turns.entries::read_key-returns-in-Names-clause-turns

pub entries::read_mapping-returns-in_err-inner-clause-turns : goal.entries::read_mapping-returns-in_err-inner-clause-turns
entries::read_mapping-returns-in_err-inner-clause-turns = Turns.entries::read_mapping-returns-in_err-inner-clause-turns

pub groups::read_group-returns-in_err-open_group-clause-turns : goal.groups::read_group-returns-in_err-open_group-clause-turns
groups::read_group-returns-in_err-open_group-clause-turns = Turns.groups::read_group-returns-in_err-open_group-clause-turns

pub groups::read_group-returns-in_err-value-clause-turns : goal.groups::read_group-returns-in_err-value-clause-turns
groups::read_group-returns-in_err-value-clause-turns = Turns.groups::read_group-returns-in_err-value-clause-turns

pub groups::read_group-returns-in_err-close_group-clause-turns : goal.groups::read_group-returns-in_err-close_group-clause-turns
groups::read_group-returns-in_err-close_group-clause-turns = Turns.groups::read_group-returns-in_err-close_group-clause-turns

pub groups::read_group-returns-clause-turns : goal.groups::read_group-returns-clause-turns
groups::read_group-returns-clause-turns = Turns.groups::read_group-returns-clause-turns

pub groups::read_inside-returns-then-opens_field-clause-turns : goal.groups::read_inside-returns-then-opens_field-clause-turns
groups::read_inside-returns-then-opens_field-clause-turns = Turns.groups::read_inside-returns-then-opens_field-clause-turns

pub groups::read_inside-returns-else-opens_field-clause-turns : goal.groups::read_inside-returns-else-opens_field-clause-turns
groups::read_inside-returns-else-opens_field-clause-turns = Turns.groups::read_inside-returns-else-opens_field-clause-turns

pub groups::read_inside-returns-in-List-clause-turns : goal.groups::read_inside-returns-in-List-clause-turns
groups::read_inside-returns-in-List-clause-turns = Turns.groups::read_inside-returns-in-List-clause-turns

pub groups::read_inside-returns-in-Map-clause-turns : goal.groups::read_inside-returns-in-Map-clause-turns
groups::read_inside-returns-in-Map-clause-turns = Turns.groups::read_inside-returns-in-Map-clause-turns

pub items::read_items-returns-in_err-more-clause-turns : goal.items::read_items-returns-in_err-more-clause-turns
items::read_items-returns-in_err-more-clause-turns = Turns.items::read_items-returns-in_err-more-clause-turns

pub items::read_items-returns-clause-turns : goal.items::read_items-returns-clause-turns
items::read_items-returns-clause-turns = Turns.items::read_items-returns-clause-turns

pub items::read_sequence-returns-in_err-inner-clause-turns : goal.items::read_sequence-returns-in_err-inner-clause-turns
items::read_sequence-returns-in_err-inner-clause-turns = Turns.items::read_sequence-returns-in_err-inner-clause-turns

pub value::read_bare-returns-then-is_at-clause-turns : goal.value::read_bare-returns-then-is_at-clause-turns
value::read_bare-returns-then-is_at-clause-turns = Turns.value::read_bare-returns-then-is_at-clause-turns

pub value::read_below-returns-in_err-inner-clause-turns : goal.value::read_below-returns-in_err-inner-clause-turns
value::read_below-returns-in_err-inner-clause-turns = Turns.value::read_below-returns-in_err-inner-clause-turns

pub value::read_value-returns-in-Character-clause-turns : goal.value::read_value-returns-in-Character-clause-turns
value::read_value-returns-in-Character-clause-turns = Turns.value::read_value-returns-in-Character-clause-turns

pub value::read_value-returns-in-Text-clause-turns : goal.value::read_value-returns-in-Text-clause-turns
value::read_value-returns-in-Text-clause-turns = Turns.value::read_value-returns-in-Text-clause-turns

pub value::read_value-returns-in-Bytes-clause-turns : goal.value::read_value-returns-in-Bytes-clause-turns
value::read_value-returns-in-Bytes-clause-turns = Turns.value::read_value-returns-in-Bytes-clause-turns

pub value::read_value-returns-in-List-clause-turns : goal.value::read_value-returns-in-List-clause-turns
value::read_value-returns-in-List-clause-turns = Turns.value::read_value-returns-in-List-clause-turns

pub value::read_value-returns-in-Map-clause-turns : goal.value::read_value-returns-in-Map-clause-turns
value::read_value-returns-in-Map-clause-turns = Turns.value::read_value-returns-in-Map-clause-turns

pub value::read_value-returns-then-take_unit-clause-turns : goal.value::read_value-returns-then-take_unit-clause-turns
value::read_value-returns-then-take_unit-clause-turns = Turns.value::read_value-returns-then-take_unit-clause-turns

pub value::read_value-returns-else-take_unit-clause-turns : goal.value::read_value-returns-else-take_unit-clause-turns
value::read_value-returns-else-take_unit-clause-turns = Turns.value::read_value-returns-else-take_unit-clause-turns

pub value::read_value-returns-in-Number-clause-turns : goal.value::read_value-returns-in-Number-clause-turns
value::read_value-returns-in-Number-clause-turns = Turns.value::read_value-returns-in-Number-clause-turns

pub value::read_value-returns-in-Word-clause-turns : goal.value::read_value-returns-in-Word-clause-turns
value::read_value-returns-in-Word-clause-turns = Turns.value::read_value-returns-in-Word-clause-turns

pub value::read_word-returns-in-Some-clause-turns : goal.value::read_word-returns-in-Some-clause-turns
value::read_word-returns-in-Some-clause-turns = Turns.value::read_word-returns-in-Some-clause-turns

pub value::read_word-returns-then-is_some-clause-turns : goal.value::read_word-returns-then-is_some-clause-turns
value::read_word-returns-then-is_some-clause-turns = Turns.value::read_word-returns-then-is_some-clause-turns

pub value::read_word-returns-in_err-is_named-clause-turns : goal.value::read_word-returns-in_err-is_named-clause-turns
value::read_word-returns-in_err-is_named-clause-turns = Turns.value::read_word-returns-in_err-is_named-clause-turns

pub value::read_word-returns-then-is_named-clause-turns : goal.value::read_word-returns-then-is_named-clause-turns
value::read_word-returns-then-is_named-clause-turns = Turns.value::read_word-returns-then-is_named-clause-turns

pub value::read_word-returns-clause-turns : goal.value::read_word-returns-clause-turns
value::read_word-returns-clause-turns = Turns.value::read_word-returns-clause-turns
