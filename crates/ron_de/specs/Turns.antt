-- What reading by a schema adds to the count, by the longest chain of its options and newtypes, and by that of the shape at hand.
use Rattle.std.specs.Prelude.{ℕ, ◌+◌, true, false, List, Result, OnOk}
use Rattle.ron_spec_words.specs.Exact.{FollowsValue}
use Rattle.ron_spec_words.specs.Openings.{Leads}
use Rattle.ron_spec_grammar.specs.Schema.{Shape}
use Rattle.ron_spec_grammar.specs.Room.{rank, chain}
use Rattle.ron_lex.specs.Place.{Place}
use Rattle.ron_de_steps.specs.Spends.{SpendsTyped, SettlesTyped, SpendsInsideTyped}

-- a value: a look for each member of its chain, and two for a value without a schema at the end of that
abbrev pub SpendsShape : {A E : Type 0} → List Shape → ℕ → Place → Result A E → Place → Type 0
SpendsShape schema i old result new = SpendsTyped false (chain schema) (rank schema i + 2) old result new

-- where an option of this content, or any option at the start of a text, is looked for: one more
abbrev pub SpendsLooked : {A E : Type 0} → List Shape → ℕ → Place → Result A E → Place → Type 0
SpendsLooked schema i old result new = SpendsTyped false (chain schema) (rank schema i + 3) old result new

-- bare content: as many, and those of a first item that stands there
abbrev pub SpendsBare : {A E : Type 0} → List Shape → ℕ → Place → Result A E → Place → Type 0
SpendsBare schema i old result new = SpendsTyped true (chain schema) (rank schema i + 2 + (chain schema + 2)) old result new

-- items, of whatever shapes, behind their mark and its gap
abbrev pub SpendsItems : {A E : Type 0} → List Shape → Place → Result A E → Place → Type 0
SpendsItems schema old result new = SpendsTyped false (chain schema) (chain schema + 2) old result new

-- what begins with its own mark
abbrev pub SettlesShape : {A E : Type 0} → List Shape → Place → Result A E → Place → Type 0
SettlesShape schema old result new = SettlesTyped (chain schema) old result new

-- what begins directly behind a mark
abbrev pub SpendsGroup : {A E : Type 0} → List Shape → Place → Result A E → Place → Type 0
SpendsGroup schema old result new = SpendsInsideTyped (chain schema) old result new

-- Whole tokens lead over what was read, before what may follow a value.
abbrev pub LeadsPast : {A E : Type 0} → Place → Result A E → Place → Type 0
LeadsPast old result new = OnOk result (FollowsValue new.rest → Leads old.rest new.rest)
