use Rattle.std.proofs.Common.{◌≡◌, Some, sym, ap, ◌∙◌, rules}
use Rattle.std.specs.Option.{option_map}
use Rattle.ron_ser_config.specs.Tree.{field_from}
use Rattle.ron_ser_config.specs.View.{doc_bytes, fields_within, entries, fields_tree}
use Rattle.ron_ser_config.proofs.FieldTrees.{field_tree-is}
use Rattle.ron_ser_config.proofs.CopyLemmas.{copied}
use Rattle.ron_ser_config.proofs.path_meta.copy.+copy.Goals as goal

pub clone_field-returns-in_ok-clone_fields-in-Some : goal.clone_field-returns-in_ok-clone_fields-in-Some
clone_field-returns-in_ok-clone_fields-in-Some t c =
    let doc : doc_bytes c.new-in-Some.result ≡ doc_bytes c.args.field.now = search rules in
    let held : fields_within c.args.field.now ≡ Some c.in-Some.fields.now = search rules in
    let made = ap (option_map fields_tree) c.new-in-Some.ensures.fields in
    let same : fields_tree c.in_ok-clone_fields-in-Some.field-0 ≡ fields_tree c.in-Some.fields.now = search rules in
    let within = made ∙ ap Some same ∙ ap (option_map fields_tree) (sym held) in
    field_tree-is c.new-in-Some.result ∙ (λ i. field_from (doc i) (within i)) ∙ sym (field_tree-is c.args.field.now)

pub clone_fields-loop-name-preserved : goal.clone_fields-loop-name-preserved
clone_fields-loop-name-preserved t c =
    copied (entries c.args.fields.now) (entries c.loop-name.copies) c.loop-name.name-iterator c.next.new.self c.in-Some.name.now c.in_ok-name_copy.name_copy
    c.in-Some.field.now c.in_ok-clone_field.field-0
    (search rules) c.loop-name.invariant (search rules) (search rules) (search rules) _ c.in_ok-put.ensures.content
