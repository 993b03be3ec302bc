use Rattle.std.proofs.Common.{◌≡◌, ◌∷◌, ◌++◌, length}
use Rattle.ron_data_schema.specs.Names.{Names, are_new, seen_in}
use Rattle.ron_data_schema.proofs.schema.names.adds_field.Given as goal

-- the names are new where those that are left are new beside those seen by now
abbrev pub invariant-loop-alias : goal.invariant-loop-alias
invariant-loop-alias l = (behind : Names)
    → are_new (seen_in l.fn.seen) (l.field.name ∷ (l.field.aliases.items ++ behind)) ≡ are_new (seen_in l.seen) (l.aliases ++ behind)

abbrev pub decreases-loop-alias : goal.decreases-loop-alias
decreases-loop-alias l = length l.aliases
