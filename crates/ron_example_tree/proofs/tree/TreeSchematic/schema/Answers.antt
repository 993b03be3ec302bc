use Rattle.std.proofs.Common.{◌≡◌, ◌∙◌, ap, refl, [], ◌∷◌, map, codes}
use Rattle.std.specs.Str.{chars}
use Rattle.ron_spec_grammar.specs.Schema.{int, struct, seq, optional, only}
use Rattle.ron_value_number.specs.declared.width.Width.TheVariants as width
use Rattle.ron_data_schema.specs.Shapes.{field_view, table_view}
use Rattle.ron_types.proofs.SchemaLemmas.{made_or_memory}
use Rattle.ron_example_tree.specs.Tree.{tree_table, field}
use Rattle.ron_example_tree.proofs.tree.TreeSchematic.schema.Goals as goal

pub returns : goal.returns
unfolding chars
returns c =
    let fields : map field_view c.in_ok-fields.fields.items ≡ field (codes "value") 0 ∷ field (codes "children") 2 ∷ field (codes "next") 3 ∷ [] =
    ap (map field_view) c.in_ok-fields.ensures.items
    ∙ (λ i. c.in_ok-field_shape.ensures i ∷ c.in_ok-field_shape-2.ensures i ∷ c.in_ok-field_shape-3.ensures i ∷ []) in
    let shapes : table_view c.in_ok-shapes.shapes.items ≡ tree_table.shapes =
    ap table_view c.in_ok-shapes.ensures.items
    ∙ (λ i. int width.I32 ∷ struct (chars (c.in_ok-from_str.ensures.ok i)) (only (fields i)) ∷ seq 1 ∷ optional 1 ∷ []) in
    made_or_memory c.new.result tree_table.shapes 1 refl (rw shapes at c.new.ensures)
