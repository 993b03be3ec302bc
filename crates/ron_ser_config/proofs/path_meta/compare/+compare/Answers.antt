use Rattle.std.proofs.Common.{rules, ◌≡◌, true, Some, ◌∙◌}
use Rattle.std.specs.Str.{bytes_eq}
use Rattle.ron_ser_config.specs.View.{doc_bytes, fields_within}
use Rattle.ron_ser_config.proofs.FieldTrees.{same-held}
use Rattle.ron_ser_config.proofs.path_meta.compare.+compare.Goals as goal

pub are_same-returns-then-eq : goal.are_same-returns-then-eq
are_same-returns-then-eq t c =
    let held : fields_within c.args.one.now ≡ Some c.in-Some-Some.within.now = search rules in
    let holds : fields_within c.args.other.now ≡ Some c.in-Some-Some.others.now = search rules in
    let same : bytes_eq (doc_bytes c.args.one.now) (doc_bytes c.args.other.now) ≡ true = search rules in
    c.all_same.ensures ∙ same-held c.args.one.now c.args.other.now c.in-Some-Some.within.now c.in-Some-Some.others.now held holds same
