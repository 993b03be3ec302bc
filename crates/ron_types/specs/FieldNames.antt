-- Fields of code, and names that are borrowed.
use Rattle.std.specs.Prelude.{ℕ, List, map, String}
use Rattle.std.specs.declared.alloc.Global.{Global}
use Rattle.std.specs.Borrow.{Bor}
use Rattle.ron_data.specs.declared.data.Data.{Data}

-- a field of code: its name and its data
abbrev pub Field : Type 0
Field = String Global × Data

-- the texts that are borrowed, as bytes
abbrev pub texts_of : List (Bor (List ℕ)) → List (List ℕ)
texts_of names = map (λ n. n.now) names
