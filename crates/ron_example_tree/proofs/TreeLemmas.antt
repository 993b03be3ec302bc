-- What a tree stands for, part by part.
use Rattle.std.proofs.Common.{◌≡◌, ◌∙◌, ap, sym, subst, refl, rules, true, List, [], ◌∷◌, map, Option, Some, None, Vec, Box, String, Global, codes}
use Rattle.std.specs.Str.{chars}
use Rattle.ron_spec_grammar.specs.Data as plain
use Rattle.ron_spec_grammar.specs.Schema.{OfShape, AllOfShape}
use Rattle.ron_value_number.specs.declared.width.Width.TheVariants as width
use Rattle.ron_value_number.specs.Width.{fits}
use Rattle.ron_data.specs.declared.data.Data.{Data}
use Rattle.ron_data.specs.declared.data.Data.TheVariants as held
use Rattle.ron_data.specs.Datum.{data_view, fields_view, items_view}
use Rattle.ron_types.specs.Lists.{Each}
use Rattle.ron_types.specs.Normal.{list_data, option_data}
use Rattle.ron_types.specs.OfTables.{IsOf}
use Rattle.ron_types.proofs.BackLemmas.{view-Seq, view-Struct}
use Rattle.ron_example_tree.specs.declared.tree.Tree.{Tree, out-Tree, the_lemmas}
use Rattle.ron_example_tree.specs.TreeFields.{AreFields}
use Rattle.ron_example_tree.specs.Tree.{tree_data, tree_in, tree_table, fields_with, IsTree}

-- what a tree's fields stand for
abbrev parts : Tree → plain.Fields
parts t = fields_with (plain.int_of width.I32 (out-Tree t).value) (list_data tree_data (out-Tree t).children.items) (option_data tree_in (out-Tree t).next)

tree_is : (t : Tree) → tree_data t ≡ plain.struct_of (chars (codes "Tree")) (parts t)
tree_is t = search (rules, the_lemmas)

-- ---- what is accepted

-- items that stand for trees
pub each_tree : (d : Data) (items : Vec Data Global) → d ≡ held.Seq items → (ts : List Tree) → list_data tree_data ts ≡ data_view d → Each IsTree items.items
each_tree d items is ts same = go ts items.items (cc (ap data_view is, view-Seq items))
  where
    go : (ts : List Tree) (ds : List Data) → plain.datas (map tree_data ts) ≡ items_view ds → Each IsTree ds
    go ts [] e = tt
    go [] (d ∷ ds) e = cc
    go (t ∷ ts) (d ∷ ds) e = ((t, cc), go ts ds (cc))

-- fields that stand for a tree's
module _ (d : Data) (name : String Global) (fields : Vec (String Global × Data) Global) (is : d ≡ held.Struct name fields) (t : Tree)
    (same : tree_data t ≡ data_view d) where
  shown : parts t ≡ fields_view fields.items
  shown = cc (tree_is t, ap data_view is, view-Struct name fields)

  pub are_three : ((x y z : Data) → AreFields x y z fields.items → ⊥) → ⊥
  are_three others = go fields.items shown others
    where
      go : (fs : List (String Global × Data)) → parts t ≡ fields_view fs → ((x y z : Data) → AreFields x y z fs → ⊥) → ⊥
      go [] e others = cc
      go (x ∷ []) e others = cc
      go (x ∷ y ∷ []) e others = cc
      go (x ∷ y ∷ z ∷ []) e others =
          others x.1 y.1 z.1 (record { first = x.0; second = y.0; third = z.0; is = refl; value_named = cc; children_named = cc; next_named = cc })
      go (x ∷ y ∷ z ∷ w ∷ fs) e others = cc

  pub each_part : (x y z : Data) → AreFields x y z fields.items → (plain.int_of width.I32 (out-Tree t).value ≡ data_view x)
      × (list_data tree_data (out-Tree t).children.items ≡ data_view y) × (option_data tree_in (out-Tree t).next ≡ data_view z)
  each_part x y z a =
      let e : parts t ≡ fields_view ((a.first, x) ∷ (a.second, y) ∷ (a.third, z) ∷ []) = shown ∙ ap fields_view a.is in
      (cc, cc, cc)

-- what holds where there is no tree, and where there is one
pub of_next : {P : Type 0} (next : Option (Box Tree Global)) (d : Data) → option_data tree_in next ≡ data_view d → (plain.the_none ≡ data_view d → P)
    → ((t : Tree) → plain.some_of (tree_data t) ≡ data_view d → P) → P
of_next None d e f g = f e
of_next (Some b) d e f g = g b.value e

-- ---- what is of the schema

all_of : (ts : List Tree) → Each (λ t. IsOf tree_table (tree_data t)) ts → AllOfShape tree_table.shapes 1 (plain.datas (map tree_data ts))
all_of [] h = tt
all_of (t ∷ ts) h = (h.0, all_of ts h.1)

pub tree_is_of : (t : Tree) → fits width.I32 (out-Tree t).value ≡ true → Each (λ t. IsOf tree_table (tree_data t)) (out-Tree t).children.items
    → OfShape tree_table.shapes 3 (option_data tree_in (out-Tree t).next) → IsOf tree_table (tree_data t)
unfolding chars
tree_is_of t f c n = subst (IsOf tree_table) (sym (tree_is t)) (_, refl, refl, (_, refl, (refl, f), (_, refl, (1, refl, all_of _ c), (_, refl, n, tt))))
