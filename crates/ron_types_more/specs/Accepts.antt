-- Of which data bytes are made.
use Rattle.ron_data.specs.declared.data.Data.{Data}
use Rattle.ron_data.specs.declared.data.Data.TheVariants as held

abbrev pub IsBytes : Data → Type 0
IsBytes (held.Bytes b) = Unit {0}
IsBytes d = ⊥
