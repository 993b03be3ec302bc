-- Why a table of shapes is refused.
use Rattle.std.specs.Prelude.{◌≡◌, ℕ, List, true, false}
use Rattle.std.specs.List.{list_all}
use Rattle.ron_spec_grammar.specs.Schema.{Shape, is_in_range, has_no_cycle, has_distinct_names, has_whole_range}
use Rattle.ron_base.specs.declared.error.Error.{Error}
use Rattle.ron_base.specs.declared.error.Error.TheVariants.{InvalidSchema, OutOfMemory}
use Rattle.ron_base.specs.declared.error.fault.SchemaFault.{SchemaFault}
use Rattle.ron_base.specs.declared.error.fault.SchemaFault.TheVariants.{IndexOutOfRange, Cycle, DuplicateName, MissingRangeField}

-- The table has this fault, and none of those before it.
abbrev pub HasFault : List Shape → ℕ → SchemaFault → Type 0
HasFault shapes root IndexOutOfRange = is_in_range shapes root ≡ false
HasFault shapes root Cycle = (is_in_range shapes root ≡ true) × (has_no_cycle shapes ≡ false)
HasFault shapes root DuplicateName = (is_in_range shapes root ≡ true) × (has_no_cycle shapes ≡ true) × (list_all has_distinct_names shapes ≡ false)
HasFault shapes root MissingRangeField =
    (is_in_range shapes root ≡ true) × (has_no_cycle shapes ≡ true) × (list_all has_distinct_names shapes ≡ true) × (list_all has_whole_range shapes ≡ false)

-- The table has the fault that the error names, or there is no memory.
abbrev pub RefusesTable : List Shape → ℕ → Error → Type 0
RefusesTable shapes root (InvalidSchema fault) = HasFault shapes root fault
RefusesTable shapes root OutOfMemory = Unit {0}
RefusesTable shapes root _ = ⊥
