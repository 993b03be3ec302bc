-- What a tree is as data, and its schema.
use Rattle.std.specs.Prelude.{◌≡◌, ℕ, List, [], ◌∷◌, chars, codes, string_bytes, false, Box}
use Rattle.std.specs.declared.alloc.Global.{Global}
use Rattle.ron_spec_grammar.specs.Data as plain
use Rattle.ron_spec_grammar.specs.Schema.{Field, only, int, struct, seq, optional}
use Rattle.ron_value_number.specs.declared.width.Width.TheVariants as width
use Rattle.ron_data_schema.specs.Table.{Table}
use Rattle.ron_data.specs.declared.data.Data.{Data}
use Rattle.ron_data.specs.Datum.{data_view}
use Rattle.ron_types.specs.Normal.{option_data}
use Rattle.ron_example_tree.specs.declared.tree.Names.{Names}
use Rattle.ron_example_tree.specs.declared.tree.Tree.{Tree, fold-Tree}
use Rattle.ron_example_tree.specs.declared.tree.Tree.TheOpen.{Tree-F}

-- a field that no text may leave out, by the bytes of its name
abbrev pub field : List ℕ → ℕ → Field
field name shape = record { name = chars name; aliases = []; shape = shape; may_be_missing = false }

-- The root is at 1, and a list and an option lead back to it.
abbrev pub tree_table : Table
tree_table = record {
  shapes =
      int width.I32
      ∷ struct (chars (codes "Tree")) (only (field (codes "value") 0 ∷ field (codes "children") 2 ∷ field (codes "next") 3 ∷ []))
      ∷ seq 1
      ∷ optional 1
      ∷ [];
  root = 1;
}

-- the fields of a tree with these data
abbrev pub fields_with : plain.Data → plain.Data → plain.Data → plain.Fields
fields_with value children next =
    plain.field_and (chars (codes "value")) value
    (plain.field_and (chars (codes "children")) children (plain.field_and (chars (codes "next")) next plain.no_fields))

-- a tree whose parts are data already
abbrev tree_step : Tree-F plain.Data → plain.Data
tree_step t =
    plain.struct_of (chars (codes "Tree"))
    (fields_with (plain.int_of width.I32 t.value) (plain.list_of (plain.datas t.children.items)) (option_data (λ next. next.value) t.next))

-- what a tree stands for
abbrev pub tree_data : Tree → plain.Data
tree_data = fold-Tree plain.Data tree_step

-- what a tree in a box stands for
abbrev pub tree_in : Box Tree Global → plain.Data
tree_in b = tree_data b.value

-- data that some tree stands for
abbrev pub IsTree : Data → Type 0
IsTree d = (t : Tree) × (tree_data t ≡ data_view d)

-- the names of a tree and of its fields
abbrev pub AreNames : Names → Type 0
AreNames own = (string_bytes own.tree ≡ codes "Tree") × (string_bytes own.value ≡ codes "value") × (string_bytes own.children ≡ codes "children")
    × (string_bytes own.next ≡ codes "next")
