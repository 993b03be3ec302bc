-- Keys and their values, and entries in turn.
use Rattle.std.proofs.Common.{◌≤◌, length, sym, subst, ◌∙◌, arith, rules}
use Rattle.std.proofs.lemmas.List.Elements.{All-push}
use Rattle.std.proofs.lemmas.Result.{err_from_is_err_and}
use Rattle.std.specs.List.{All}
use Rattle.ron_lex.proofs.TurnLemmas.{grows_on}
use Rattle.ron_de_untyped.specs.Order.{HoldsPairOrder}
use Rattle.ron_de_untyped.specs.Reading.{read_entries}
use Rattle.ron_de_untyped.proofs.CountLemmas.{counts_begin, counts_on, entry_leads}
use Rattle.ron_de_untyped.proofs.FormLemmas.{key_is_value}
use Rattle.ron_de_untyped.proofs.ItemLemmas.{item_fails, comma_fails, one_more, all_read}
use Rattle.ron_de_untyped.proofs.LeadLemmas.{below_leads, key_lead, below_lead}
use Rattle.ron_de_untyped.proofs.ReadLemmas.{mapping_ended, mapping_fails, no_fields, mapping_read, key_fails, colon_fails, value_fails, entry_read}
use Rattle.ron_de_untyped.proofs.ValueLemmas.{map_ordered, pairs_ordered}
use Rattle.ron_de_untyped.proofs.+read.Goals as goal

pub entries::read_mapping-returns-in_err-inner-clause-value : goal.entries::read_mapping-returns-in_err-inner-clause-value
entries::read_mapping-returns-in_err-inner-clause-value t c =
    let p = err_from_is_err_and c.from_residual.result c.from_residual.ensures.1 in
    rw (p.1, p.2, c.in_err-inner.ensures.0) (mapping_ended c.args.keys c.args.context.now c.args.cursor.now c.in_err-inner.ensures.1)

pub entries::read_mapping-returns-in_err-pairs-clause-value : goal.entries::read_mapping-returns-in_err-pairs-clause-value
entries::read_mapping-returns-in_err-pairs-clause-value t c =
    let p = err_from_is_err_and c.from_residual-in_err-pairs.result c.from_residual-in_err-pairs.ensures.1 in
    rw (p.1, p.2) (λ room r. mapping_fails c.args.keys c.args.context.now c.args.cursor.now c.in_ok-inner.inner c.in_ok-inner.ensures room r _
    c.read_entries.new.cursor.rest c.in_err-pairs.ensures.value)

pub entries::read_mapping-returns-then-lacks_field-clause-value : goal.entries::read_mapping-returns-then-lacks_field-clause-value
entries::read_mapping-returns-then-lacks_field-clause-value t c =
    λ room r. no_fields c.args.keys c.args.context.now c.args.cursor.now c.in_ok-inner.inner c.in_ok-inner.ensures room r c.in_ok-pairs.pairs
    c.read_entries.new.cursor.rest c.in_ok-pairs.ensures.value (sym c.lacks_field.ensures ∙ c.if-lacks_field.true)

pub entries::read_mapping-returns-clause-value : goal.entries::read_mapping-returns-clause-value
entries::read_mapping-returns-clause-value t c =
    λ room r. mapping_read c.args.keys c.args.context.now c.args.cursor.now c.in_ok-inner.inner c.in_ok-inner.ensures room r c.in_ok-pairs.pairs
    c.read_entries.new.cursor.rest c.in_ok-pairs.ensures.value (sym c.lacks_field.ensures ∙ c.if-lacks_field.false) c.in_ok-map.map
    (c.in_ok-map.ensures.content (pairs_ordered c.in_ok-pairs.pairs.items c.in_ok-pairs.ensures.advance.holds))

pub entries::read_mapping-returns-clause-advance : goal.entries::read_mapping-returns-clause-advance
entries::read_mapping-returns-clause-advance t c = record {
  text = c.in_ok-pairs.ensures.advance.text;
  no_longer = c.in_ok-pairs.ensures.advance.no_longer;
  holds = map_ordered c.in_ok-map.map (c.in_ok-map.ensures.ordered (pairs_ordered c.in_ok-pairs.pairs.items c.in_ok-pairs.ensures.advance.holds));
  fault = tt;
}

pub entries::read_entry-returns-in_err-key-clause-value : goal.entries::read_entry-returns-in_err-key-clause-value
entries::read_entry-returns-in_err-key-clause-value t c =
    let p = err_from_is_err_and c.from_residual.result c.from_residual.ensures.1 in
    rw (p.1, p.2) (λ room r. key_fails c.args.keys c.args.context.now c.args.cursor.now room r _ c.read_key.new.cursor.rest c.in_err-key.ensures.value)

pub entries::read_entry-returns-in_err-pass_colon-clause-value : goal.entries::read_entry-returns-in_err-pass_colon-clause-value
entries::read_entry-returns-in_err-pass_colon-clause-value t c =
    let p = err_from_is_err_and c.from_residual-in_err-pass_colon.result c.from_residual-in_err-pass_colon.ensures.1 in
    rw (p.1, p.2) (λ room r. colon_fails c.args.keys c.args.context.now c.args.cursor.now room r c.in_ok-key.key c.read_key.new.cursor.rest
    c.in_ok-key.ensures.value _ c.in_err-pass_colon.ensures.value)

pub entries::read_entry-returns-in_err-value-clause-value : goal.entries::read_entry-returns-in_err-value-clause-value
entries::read_entry-returns-in_err-value-clause-value t c =
    let p = err_from_is_err_and c.from_residual-in_err-value.result c.from_residual-in_err-value.ensures.1 in
    let no_longer : length c.pass_colon.new.cursor.rest ≤ length c.args.cursor.now.rest =
    omega (arith, c.in_ok-pass_colon.ensures.shorter, c.in_ok-key.ensures.advance.no_longer) in
    rw (p.1, p.2) (λ room r. value_fails c.args.keys c.args.context.now c.args.cursor.now room r c.in_ok-key.key c.read_key.new.cursor.rest
    c.in_ok-key.ensures.value c.pass_colon.new.cursor c.in_ok-pass_colon.ensures.value no_longer _ c.read_below.new.cursor.rest c.in_err-value.ensures.value)

pub entries::read_entry-returns-clause-value : goal.entries::read_entry-returns-clause-value
entries::read_entry-returns-clause-value t c =
    let no_longer : length c.pass_colon.new.cursor.rest ≤ length c.args.cursor.now.rest =
    omega (arith, c.in_ok-pass_colon.ensures.shorter, c.in_ok-key.ensures.advance.no_longer) in
    λ room r. entry_read c.args.keys c.args.context.now c.args.cursor.now room r c.in_ok-key.key c.read_key.new.cursor.rest c.in_ok-key.ensures.value
    c.pass_colon.new.cursor c.in_ok-pass_colon.ensures.value no_longer c.in_ok-value.value c.read_below.new.cursor.rest c.in_ok-value.ensures.value

pub entries::read_key-returns-in-Values-clause-value : goal.entries::read_key-returns-in-Values-clause-value
entries::read_key-returns-in-Values-clause-value t c =
    key_is_value c.args.keys c.args.context.now c.args.cursor.now c.read_below.result c.read_below.new.cursor.rest c.in-Values.is c.read_below.ensures.value

pub entries::read_entries-returns-in_err-pair-clause-value : goal.entries::read_entries-returns-in_err-pair-clause-value
unfolding read_entries
entries::read_entries-returns-in_err-pair-clause-value t c =
    let p = err_from_is_err_and c.from_residual.result c.from_residual.ensures.1 in
    rw (p.1, p.2) (item_fails _ _ _ _ _ _ _ _ _ c.pairs-test.true c.pairs.invariant.1 _ c.in_err-pair.ensures.value)

pub entries::read_entries-returns-in_err-more-clause-value : goal.entries::read_entries-returns-in_err-more-clause-value
unfolding read_entries
entries::read_entries-returns-in_err-more-clause-value t c =
    let p = err_from_is_err_and c.from_residual-in_err-more.result c.from_residual-in_err-more.ensures.1 in
    rw (p.1, p.2)
    (comma_fails _ _ _ _ _ _ _ _ _ c.pairs-test.true c.pairs.invariant.1 c.in_ok-pair.pair _ c.in_ok-pair.ensures.value _ c.in_err-more.ensures.value)

pub entries::read_entries-pairs-init : goal.entries::read_entries-pairs-init
entries::read_entries-pairs-init t c =
    rw (sym c.close-close.ensures) (search rules, search rules, search rules, (counts_begin _ c.args.cursor.now, omega arith))

pub entries::read_entries-pairs-preserved : goal.entries::read_entries-pairs-preserved
entries::read_entries-pairs-preserved t c = (
  c.in_ok-more.ensures.text ∙ c.in_ok-pair.ensures.advance.text ∙ c.pairs.invariant.0,
  one_more _ _ _ _ _ _ _ _ _ c.pairs-test.true c.pairs.invariant.1 c.in_ok-pair.pair _ c.in_ok-pair.ensures.value _ _ _ c.in_ok-push.ensures.items
      (rw c.close-close.ensures at c.in_ok-more.ensures.value) (omega (arith, c.in_ok-more.ensures.no_longer, c.in_ok-pair.ensures.advance.no_longer)),
  subst (All HoldsPairOrder) (sym c.in_ok-push.ensures.items) (All-push HoldsPairOrder _ _ c.pairs.invariant.2 c.in_ok-pair.ensures.advance.holds),
  (
    counts_on c.pairs.invariant.3.0 c.pairs-test.true _ c.in_ok-pair.pair c.read_entry.new.cursor c.more_follow.new.cursor _ c.in_ok-pair.ensures.turns
        c.in_ok-pair.ensures.advance.text c.in_ok-pair.ensures.leads c.in_ok-more.ensures.turns.moved c.in_ok-more.ensures.text c.in_ok-more.ensures.value,
    grows_on c.args.cursor.now c.read_entry.new.cursor c.more_follow.new.cursor
        (grows_on c.args.cursor.now c.pairs.cursor c.read_entry.new.cursor c.pairs.invariant.3.1 c.in_ok-pair.ensures.grows) c.in_ok-more.ensures.grows,
  ),
)

pub entries::read_entries-returns-clause-value : goal.entries::read_entries-returns-clause-value
unfolding read_entries
entries::read_entries-returns-clause-value t c = all_read _ _ _ _ _ _ _ _ _ c.pairs-test.false c.pairs.invariant.1

pub entries::read_entry-returns-clause-leads : goal.entries::read_entry-returns-clause-leads
entries::read_entry-returns-clause-leads t c = entry_leads c.args.cursor.now c.read_key.new.cursor c.pass_colon.new.cursor c.read_below.new.cursor
    c.in_ok-key.ensures.leads c.in_ok-pass_colon.ensures.value (below_leads c.args.context.now c.pass_colon.new.cursor.gap c.pass_colon.new.cursor.rest
    c.in_ok-value.value c.read_below.new.cursor.rest c.in_ok-value.ensures.value)

pub entries::read_key-returns-in-Names-clause-leads : goal.entries::read_key-returns-in-Names-clause-leads
entries::read_key-returns-in-Names-clause-leads t c = key_lead c.args.cursor.now c.read_name.result c.read_name.new.cursor.rest c.read_name.ensures.value

pub entries::read_key-returns-in-Values-clause-leads : goal.entries::read_key-returns-in-Values-clause-leads
entries::read_key-returns-in-Values-clause-leads t c =
    below_lead c.args.context.now c.args.cursor.now c.read_below.result c.read_below.new.cursor.rest c.read_below.ensures.value
