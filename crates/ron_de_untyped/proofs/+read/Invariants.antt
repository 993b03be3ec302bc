use Rattle.std.proofs.Common.{◌≡◌, ◌+◌, ◌*◌, suc, cond, length}
use Rattle.std.specs.List.{All}
use Rattle.ron_value.specs.View.{tree_of, pair_tree}
use Rattle.ron_lex.specs.Turns.{Grows}
use Rattle.ron_de_untyped.specs.Order.{HoldsOrder, HoldsPairOrder}
use Rattle.ron_de_untyped.specs.Keys.{close_of}
use Rattle.ron_de_untyped.specs.Reading.{read_below, read_entry}
use Rattle.ron_de_untyped.specs.Values.{unwraps}
use Rattle.ron_de_untyped.proofs.AnyTurns.{below_shrinks, entry_shrinks}
use Rattle.ron_de_untyped.proofs.CountLemmas.{CountsTo}
use Rattle.ron_de_untyped.proofs.ItemLemmas.{ItemsRead}
use Rattle.ron_de_untyped.proofs.+read.Given as goal

-- twenty steps of the code to each character; a bare value reads one that is not bare at the same text
abbrev pub decreases-groups::read_group : goal.decreases-groups::read_group
decreases-groups::read_group l = 20 * length l.cursor.now.rest

abbrev pub decreases-value::read_word : goal.decreases-value::read_word
decreases-value::read_word l = 20 * length l.cursor.now.rest + 1

abbrev pub decreases-value::read_value : goal.decreases-value::read_value
decreases-value::read_value l = 20 * length l.cursor.now.rest + 2

abbrev pub decreases-value::read_any : goal.decreases-value::read_any
decreases-value::read_any l = 20 * length l.cursor.now.rest + cond l.is_bare 10 3

abbrev pub decreases-value::read_below : goal.decreases-value::read_below
decreases-value::read_below l = 20 * length l.cursor.now.rest + 4

abbrev pub decreases-entries::read_key : goal.decreases-entries::read_key
decreases-entries::read_key l = 20 * length l.cursor.now.rest + 5

abbrev pub decreases-entries::read_entry : goal.decreases-entries::read_entry
decreases-entries::read_entry l = 20 * length l.cursor.now.rest + 6

abbrev pub decreases-entries::read_entries : goal.decreases-entries::read_entries
decreases-entries::read_entries l = 20 * length l.cursor.now.rest + 7

abbrev pub decreases-entries::read_mapping : goal.decreases-entries::read_mapping
decreases-entries::read_mapping l = 20 * length l.cursor.now.rest + 8

abbrev pub decreases-items::read_items : goal.decreases-items::read_items
decreases-items::read_items l = 20 * length l.cursor.now.rest + 7

abbrev pub decreases-items::read_sequence : goal.decreases-items::read_sequence
decreases-items::read_sequence l = 20 * length l.cursor.now.rest + 8

abbrev pub decreases-value::read_bare : goal.decreases-value::read_bare
decreases-value::read_bare l = 20 * length l.cursor.now.rest + 9

abbrev pub decreases-groups::read_inside : goal.decreases-groups::read_inside
decreases-groups::read_inside l = 20 * length l.cursor.now.rest + 13

abbrev pub invariant-items::read_items-items : goal.invariant-items::read_items-items
invariant-items::read_items-items l =
    (l.cursor.text ≡ l.initial.cursor.text)
    × ItemsRead (λ room. read_below (unwraps l.context) room) tree_of l.close (below_shrinks (unwraps l.context)) l.context.limit l.more l.items.items
    l.initial.cursor l.cursor
    × All HoldsOrder l.items.items
    × (CountsTo l.more l.initial.cursor l.cursor × Grows l.initial.cursor l.cursor)

abbrev pub decreases-items::read_items-items : goal.decreases-items::read_items-items
decreases-items::read_items-items l = cond l.more (suc (length l.cursor.rest)) 0

abbrev pub invariant-entries::read_entries-pairs : goal.invariant-entries::read_entries-pairs
invariant-entries::read_entries-pairs l =
    (l.cursor.text ≡ l.initial.cursor.text)
    × ItemsRead (λ room. read_entry l.keys (unwraps l.context) room) pair_tree (close_of l.keys) (entry_shrinks l.keys (unwraps l.context)) l.context.limit
    l.more l.pairs.items l.initial.cursor l.cursor
    × All HoldsPairOrder l.pairs.items
    × (CountsTo l.more l.initial.cursor l.cursor × Grows l.initial.cursor l.cursor)

abbrev pub decreases-entries::read_entries-pairs : goal.decreases-entries::read_entries-pairs
decreases-entries::read_entries-pairs l = cond l.more (suc (length l.cursor.rest)) 0

abbrev pub decreases-somes::read_some : goal.decreases-somes::read_some
decreases-somes::read_some l = 20 * length l.cursor.now.rest

abbrev pub decreases-somes::read_held : goal.decreases-somes::read_held
decreases-somes::read_held l = 20 * length l.cursor.now.rest + 12
