use Rattle.std.proofs.Common.{◌≡◌, Some, map, string_bytes, length}
use Rattle.ronv_command.specs.Flags.{no_flags, flags_behind}
use Rattle.ronv_command.proofs.flags.flags_of.Given as goal

-- what the words that are left make of these flags is what all make of none
abbrev pub invariant-words : goal.invariant-words
invariant-words l = flags_behind (Some l.flags) (map string_bytes l.rest) ≡ flags_behind (Some no_flags) (map string_bytes l.initial.words)

abbrev pub decreases-words : goal.decreases-words
decreases-words l = length l.rest
