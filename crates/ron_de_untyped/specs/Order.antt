-- The order of keys in what is read.
use Rattle.std.specs.Prelude.{Vec}
use Rattle.std.specs.List.{All}
use Rattle.std.specs.declared.alloc.Global.{Global}
use Rattle.ron_value.specs.declared.value.Value.{Value}
use Rattle.ron_value.specs.Ordered.{IsOrdered}
use Rattle.ron_value.specs.View.{tree_of}

-- each map in the value has its keys in order
abbrev pub HoldsOrder : Value → Type 0
HoldsOrder v = IsOrdered (tree_of v)

abbrev pub HoldsPairOrder : Value × Value → Type 0
HoldsPairOrder p = HoldsOrder p.0 × HoldsOrder p.1

abbrev pub HoldItemsOrder : Vec Value Global → Type 0
HoldItemsOrder vs = All HoldsOrder vs.items

abbrev pub HoldPairsOrder : Vec (Value × Value) Global → Type 0
HoldPairsOrder ps = All HoldsPairOrder ps.items
