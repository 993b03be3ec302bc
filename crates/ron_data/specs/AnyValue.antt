-- The value without a schema that data holds.
use Rattle.ron_value.specs.declared.value.Value.{Value}
use Rattle.ron_data.specs.declared.any_value.AnyValue.{AnyValue}
use Rattle.ron_data.specs.declared.any_value.AnyValue.TheVariants.{Borrowed, Owned}

-- the value itself, wherever it stands
abbrev pub held_value : AnyValue → Value
held_value (Borrowed v) = v.now
held_value (Owned v) = v

-- it stands elsewhere
abbrev pub IsBorrowed : AnyValue → Type 0
IsBorrowed (Borrowed v) = Unit {0}
IsBorrowed (Owned v) = ⊥
