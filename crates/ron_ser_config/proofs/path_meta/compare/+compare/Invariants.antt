use Rattle.std.proofs.Common.{◌≡◌, map}
use Rattle.ron_ser_config.specs.Tree.{fields_from}
use Rattle.ron_ser_config.specs.Same.{same_fields}
use Rattle.ron_ser_config.specs.View.{entry_tree, fields_tree}
use Rattle.ron_ser_config.proofs.path_meta.compare.+compare.Given as goal

abbrev pub invariant-all_same-loop-name : goal.invariant-all_same-loop-name
invariant-all_same-loop-name l =
    same_fields (fields_from (map entry_tree l.name-iterator)) (fields_from (map entry_tree l.others)) ≡ same_fields (fields_tree l.one) (fields_tree l.other)
