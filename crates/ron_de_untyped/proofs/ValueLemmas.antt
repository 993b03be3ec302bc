-- The trees of values that hold others, and of maps of pairs in any order: for what `read` makes.
use Rattle.std.proofs.Common.{◌≡◌, ℕ, suc, List, [], ◌∷◌, map, Less, Equal, Greater, String, string_bytes, Vec, Global, refl, sym, ap, ◌∙◌, subst, arith, rules}
use Rattle.std.specs.Prelude.{All, chars, encode_utf8_all, Result, Ok, Err, MatchResult}
use Rattle.std.specs.Str.{IsUtf8}
use Rattle.std.proofs.lemmas.Str.{encodes-chars, IsUtf8-string_bytes}
use Rattle.ron_base.specs.declared.error.Error.{Error}
use Rattle.ron_base.specs.declared.error.Error.TheVariants.{OutOfMemory}
use Rattle.std.specs.Ordering.{match_ordering}
use Rattle.std.specs.BTreeMap.{insert_entry}
use Rattle.ron_value.specs.Tree.{text, mapping, items_from, pairs_from}
use Rattle.ron_value.specs.Tree as tree
use Rattle.ron_value.specs.Order.{tree_cmp}
use Rattle.ron_value.specs.Ordered.{IsOrdered, AreItemsOrdered}
use Rattle.ron_value.specs.View.{tree_of, map_tree, pair_tree, value_cmp, entries}
use Rattle.ron_value.specs.Entries.{Entries, ArePartsOrdered, with_entries}
use Rattle.ron_value.specs.declared.map.Map.{Map as ValueMap}
use Rattle.ron_value.specs.declared.value.Value.{Value, the_lemmas, Map, Seq, String as StringValue, Unit as U}
use Rattle.ron_value.proofs.ValueTrees.{tree_of-Seq, tree_of-Map, tree_of-String}
use Rattle.ron_spec_grammar.specs.Values.Trees.{Entry, put_in, mapped}
use Rattle.ron_de_untyped.specs.Order.{HoldsOrder, HoldsPairOrder}

pub tree_of-Unit : tree_of U ≡ tree.unit
tree_of-Unit = search (rules, the_lemmas)

-- ---- order

pub items_ordered : (vs : List Value) → All HoldsOrder vs → AreItemsOrdered (items_from (map tree_of vs))
items_ordered [] all = tt
items_ordered (v ∷ vs) all = (all 0 v (omega arith), items_ordered vs (λ k d inside. all (suc k) d (omega arith)))

pub pairs_ordered : (ps : Entries) → All HoldsPairOrder ps → ArePartsOrdered ps
pairs_ordered [] all = tt
pairs_ordered (p ∷ ps) all =
    let first : HoldsPairOrder p = all 0 p (omega arith) in
    (first.0, first.1, pairs_ordered ps (λ k d inside. all (suc k) d (omega arith)))

pub seq_ordered : (v : Vec Value Global) → All HoldsOrder v.items → HoldsOrder (Seq v)
seq_ordered v all = subst IsOrdered (sym (tree_of-Seq v)) (items_ordered v.items all)

pub map_ordered : (m : ValueMap) → IsOrdered (map_tree m) → HoldsOrder (Map m)
map_ordered m h = subst IsOrdered (sym (tree_of-Map m)) h

-- ---- maps

entry_put : (k v : Value) (es : Entries) → map pair_tree (insert_entry value_cmp es k v) ≡ insert_entry tree_cmp (map pair_tree es) (tree_of k) (tree_of v)
entry_put k v [] = refl
entry_put k v (e ∷ es) =
    elim (tree_cmp (tree_of k) (tree_of e.0)) as (λ o. map pair_tree (match_ordering o ((k, v) ∷ e ∷ es) ((e.0, v) ∷ es) (e ∷ insert_entry value_cmp es k v))
    ≡ match_ordering o ((tree_of k, tree_of v) ∷ pair_tree e ∷ map pair_tree es) ((tree_of e.0, tree_of v) ∷ map pair_tree es)
    (pair_tree e ∷ insert_entry tree_cmp (map pair_tree es) (tree_of k) (tree_of v))) [
      | Less ↦ refl
      | Equal ↦ refl
      | Greater ↦ ap (λ xs. pair_tree e ∷ xs) (entry_put k v es)
    ]

entries_put : (ps es : Entries) → map pair_tree (with_entries ps es) ≡ put_in (map pair_tree es) (map pair_tree ps)
entries_put [] es = refl
entries_put (p ∷ ps) es = entries_put ps (insert_entry value_cmp es p.0 p.1) ∙ ap (λ (xs : List Entry). put_in xs (map pair_tree ps)) (entry_put p.0 p.1 es)

pub mapped_is : (m : ValueMap) (ps : Entries) → entries m ≡ with_entries ps [] → mapped (map pair_tree ps) ≡ tree_of (Map m)
mapped_is m ps e = ap (λ (xs : List Entry). mapping (pairs_from xs)) (sym (entries_put ps []))
    ∙ ap (λ (es : Entries). mapping (pairs_from (map pair_tree es))) (sym e) ∙ sym (tree_of-Map m)

-- a text by its characters
pub as_characters : (bs : List ℕ) → IsUtf8 bs → (result : Result Value Error) → MatchResult result (λ v. tree_of v ≡ text bs) (λ e. e ≡ OutOfMemory)
    → MatchResult result (λ v. tree_of v ≡ text (encode_utf8_all (chars bs))) (λ e. e ≡ OutOfMemory)
as_characters bs u (Ok v) h = h ∙ ap text (sym (encodes-chars bs u))
as_characters bs u (Err e) h = h

-- a text of its own
pub owned_text : (t : String Global) → text (encode_utf8_all (chars (string_bytes t))) ≡ tree_of (StringValue t)
owned_text t = ap text (encodes-chars (string_bytes t) (IsUtf8-string_bytes t)) ∙ sym (tree_of-String t)
