use Rattle.std.proofs.Common.{ap, sym, ◌∙◌}
use Rattle.ron_value.specs.Tree.{some}
use Rattle.ron_value.specs.View.{tree_of, option_tree}
use Rattle.ron_value.proofs.ValueTrees.{tree_of-Some}
use Rattle.ron_value.proofs.value.Value.option.Goals as goal

pub returns-in_ok-boxed-in-Some : goal.returns-in_ok-boxed-in-Some
returns-in_ok-boxed-in-Some c =
    tree_of-Some c.in_ok-boxed-in-Some.boxed ∙ ap (λ v. some (tree_of v)) c.in_ok-boxed-in-Some.ensures.ok ∙ sym (ap option_tree c.in-Some.is)
