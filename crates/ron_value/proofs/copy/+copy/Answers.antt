use Rattle.std.proofs.Common.{◌≡◌, rules, sym, ap, ◌∙◌}
use Rattle.std.proofs.lemmas.Slice.Zip.{AllZip-map}
use Rattle.std.proofs.lemmas.List.{map-id}
use Rattle.ron_value.specs.Tree.{some, bytes}
use Rattle.ron_value.specs.View.{tree_of}
use Rattle.ron_value.specs.declared.value.Value.{the_lemmas}
use Rattle.ron_value.proofs.ValueTrees.{tree_of-Some, tree_of-Bytes}
use Rattle.ron_value.proofs.copy.+copy.Goals as goal

pub clone_value-returns-in_ok-new-in-Option-Some : goal.clone_value-returns-in_ok-new-in-Option-Some
clone_value-returns-in_ok-new-in-Option-Some t c =
    let inner : tree_of c.in_ok-copy-in-Option-Some.copy ≡ tree_of c.deref.result.now = search rules in
    let before : tree_of c.args.value.now ≡ some (tree_of c.in-Option-Some.inner.value) = search (rules, the_lemmas) in
    tree_of-Some c.in_ok-new-in-Option-Some.field-0 ∙ ap some (ap tree_of c.in_ok-new-in-Option-Some.ensures.ok ∙ inner ∙ ap tree_of c.deref.ensures)
    ∙ sym before

pub clone_value-returns-in_ok-clone-in-Bytes : goal.clone_value-returns-in_ok-clone-in-Bytes
clone_value-returns-in_ok-clone-in-Bytes t c =
    let same : c.in_ok-clone-in-Bytes.field-0.items ≡ c.in-Bytes.bytes.items =
    AllZip-map (λ x. x) c.in-Bytes.bytes.items _ c.in_ok-clone-in-Bytes.ensures.cases.0 ∙ map-id _ in
    let before : tree_of c.args.value.now ≡ bytes c.in-Bytes.bytes.items = rw c.in-Bytes.is (tree_of-Bytes c.in-Bytes.bytes) in
    tree_of-Bytes c.in_ok-clone-in-Bytes.field-0 ∙ ap bytes same ∙ sym before
