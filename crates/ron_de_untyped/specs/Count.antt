-- What reading without a schema adds to the count of turns, and where whole tokens lead over it.
use Rattle.std.specs.Prelude.{◌≤◌, ℕ, Bool, true, false, Result, Ok, Err, OnOk}
use Rattle.ron_spec_words.specs.Exact.{FollowsValue}
use Rattle.ron_spec_words.specs.Openings.{Leads}
use Rattle.ron_base.specs.declared.error.Error.{Error}
use Rattle.ron_lex.specs.Place.{Place}
use Rattle.ron_lex.specs.Turns.{GoesOver}
use Rattle.ron_de_steps.specs.Spends.{total_behind, total_before, Nears, IsOpened, Settles}

-- A fixed word was gone past.
pub record PassesWord (old new : Place) : Type 0 where
  pub over : GoesOver 1 old new
  pub near : Nears old new

-- Behind a word and its gap, or at the same place, before a value at which n looks are left: no more is counted than this total.
abbrev pub PassesTo : ℕ → ℕ → ℕ → ℕ → Result Bool Error → Place → Type 0
PassesTo c k n total (Ok true) new = total_behind c k new ≤ total
PassesTo c k n total (Ok false) new = total_before c k n new ≤ total
PassesTo c k n total (Err e) new = new.turns ≤ total

-- likewise than is allowed before a value at which m looks are left
abbrev pub PassesUntyped : ℕ → ℕ → Place → Result Bool Error → Place → Type 0
PassesUntyped m n old result new = (c k : ℕ) → 1 ≤ c → PassesTo c k n (total_before c k m old) result new

-- Before what may follow a value, whole tokens lead over what was read.
abbrev pub LeadsBefore : {A E : Type 0} → Place → Result A E → Place → Type 0
LeadsBefore old result new = OnOk result (FollowsValue new.rest → Leads old.rest new.rest)

-- Within a further Some, before which three looks are left, or at the same place with two: no more is counted than this total.
abbrev pub EntersTo : ℕ → ℕ → ℕ → Result Bool Error → Place → Type 0
EntersTo c k total (Ok true) new = total_before c k 3 new ≤ total
EntersTo c k total (Ok false) new = total_before c k 2 new ≤ total
EntersTo c k total (Err e) new = new.turns ≤ total

-- likewise than is allowed where what a Some holds begins
abbrev pub EntersUntyped : Place → Result Bool Error → Place → Type 0
EntersUntyped old result new = IsOpened old → (c k : ℕ) → 1 ≤ c → EntersTo c k (total_before c k 3 old) result new

-- Before what is held, however deep, two looks are left, and no more is counted than this total.
abbrev pub HoldsTo : ℕ → ℕ → ℕ → Result ℕ Error → Place → Type 0
HoldsTo c k total (Ok depth) new = total_before c k 2 new ≤ total
HoldsTo c k total (Err e) new = new.turns ≤ total

abbrev pub HoldsUntyped : Place → Result ℕ Error → Place → Type 0
HoldsUntyped old result new = IsOpened old → (c k : ℕ) → 1 ≤ c → HoldsTo c k (total_before c k 3 old) result new

-- behind a value, wherever it stands
abbrev pub SettlesBehind : {A E : Type 0} → Place → Result A E → Place → Type 0
SettlesBehind old result new = (c k : ℕ) → 1 ≤ c → Settles c k old result new
