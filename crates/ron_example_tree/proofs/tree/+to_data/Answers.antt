use Rattle.std.proofs.Common.{◌∙◌, ap, sym, refl}
use Rattle.ron_spec_grammar.specs.Data.{some_of}
use Rattle.ron_data.specs.Datum.{data_view}
use Rattle.ron_types.specs.Normal.{option_data}
use Rattle.ron_types.proofs.BackLemmas.{view-Some}
use Rattle.ron_example_tree.specs.Tree.{tree_data, tree_in}
use Rattle.ron_example_tree.proofs.TreeLemmas.{tree_is_of}
use Rattle.ron_example_tree.proofs.tree.+to_data.Goals as goal

pub option_of-returns-in-None-clause-of_schema : goal.option_of-returns-in-None-clause-of_schema
option_of-returns-in-None-clause-of_schema t c = rw c.in-None.is (1, refl)

pub option_of-returns-in_ok-new-in-Some-clause-value : goal.option_of-returns-in_ok-new-in-Some-clause-value
option_of-returns-in_ok-new-in-Some-clause-value t c =
    view-Some c.in_ok-new-in-Some.field-0 ∙ ap some_of (ap data_view c.in_ok-new-in-Some.ensures.ok ∙ c.in_ok-content-in-Some.ensures.value
    ∙ ap tree_data c.deref.ensures) ∙ ap (option_data tree_in) (sym c.in-Some.is)

pub struct_of-returns-clause-of_schema : goal.struct_of-returns-clause-of_schema
struct_of-returns-clause-of_schema t c = tree_is_of c.args.tree.now (c.in_ok-value.ensures.of_schema tt).1
    (rw c.as_slice.ensures.value at c.in_ok-children.ensures.of_schema) c.in_ok-next.ensures.of_schema
