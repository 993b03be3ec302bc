use Rattle.std.proofs.Common.{◌≡◌, ◌++◌, map}
use Rattle.ron_ser_config.specs.View.{entries, entry_tree}
use Rattle.ron_ser_config.proofs.path_meta.copy.+copy.Given as goal

abbrev pub invariant-clone_fields-loop-name : goal.invariant-clone_fields-loop-name
invariant-clone_fields-loop-name l = map entry_tree (entries l.copies) ++ map entry_tree l.name-iterator ≡ map entry_tree (entries l.fields)
