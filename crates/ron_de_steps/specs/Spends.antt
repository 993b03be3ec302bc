-- What reading goes over at most: by the bytes that are left, and by those that stand beyond the words at a place.
use Rattle.std.specs.Prelude.{◌≡◌, ◌≤◌, ◌+◌, ◌*◌, ◌-◌, ℕ, suc, Bool, true, false, ◌∷◌, Result, OnOk}
use Rattle.ron_spec_words.specs.Characters.{Text}
use Rattle.ron_spec_words.specs.Scan.{is_opening}
use Rattle.ron_spec_words.specs.Beyond.{bytes_in, beyond}
use Rattle.ron_spec_words.specs.Openings.{Leads, BeginsContent}
use Rattle.ron_lex.specs.Place.{Place}

-- ---- from a text on

-- what one look goes over, at most: the words and the gap at a place
unfoldable pub look : Text → ℕ
look s = bytes_in s - bytes_in (beyond s)

-- What may be gone over from behind a value on, where no chain has more than k members: each byte once as it is gone past, and c times besides; and what stands
-- beyond the words here by all looks, of which there are at most four times k + 1 at a place.
unfoldable pub settled : ℕ → ℕ → Text → ℕ
settled c k s = suc c * bytes_in s + 4 * suc k * bytes_in (beyond s)

-- the same from before a value at whose place m looks are left
unfoldable pub allowed : ℕ → ℕ → ℕ → Text → ℕ
allowed c k m s = settled c k s + m * look s

-- ---- from a place on

-- all that is counted by the end, at most, from a place behind a value
unfoldable pub total_behind : ℕ → ℕ → Place → ℕ
total_behind c k place = place.turns + settled c k place.rest

-- The same from a place before a value. The gap before it is paid for besides, since a raw text takes it.
unfoldable pub total_before : ℕ → ℕ → ℕ → Place → ℕ
total_before c k m place = place.turns + c * bytes_in place.gap + allowed c k m place.rest

-- The same from directly behind an opening mark, where all that is left stands beyond the words of the place before the mark.
unfoldable pub total_inside : ℕ → ℕ → Place → ℕ
total_inside c k place = place.turns + (suc c + 4 * suc k) * bytes_in place.rest

-- The count doesn't pass this total, whatever is answered; and where something is read, neither does what may be counted from behind it on.
pub record KeepsTo {A E : Type 0} (c k total : ℕ) (result : Result A E) (new : Place) : Type 0 where
  pub most : new.turns ≤ total
  pub left : OnOk result (total_behind c k new ≤ total)

-- Reading goes over no more than is allowed before a value, with at most m looks at its place.
abbrev pub Spends : {A E : Type 0} → ℕ → ℕ → ℕ → Place → Result A E → Place → Type 0
Spends c k m old result new = KeepsTo c k (total_before c k m old) result new

-- What begins with its own mark, and what stands behind a value, looks at nothing that isn't paid for already.
abbrev pub Settles : {A E : Type 0} → ℕ → ℕ → Place → Result A E → Place → Type 0
Settles c k old result new = KeepsTo c k (total_behind c k old) result new

-- what stands behind an opening mark, with the gap before it
abbrev pub SpendsInside : {A E : Type 0} → ℕ → ℕ → Place → Result A E → Place → Type 0
SpendsInside c k old result new = KeepsTo c k (total_inside c k old) result new

-- how often each byte is paid for besides: where a raw text is read, it and the gaps around it are read once more; where a schema is read by, bare content that
-- is none twice more
abbrev pub raw_besides : ℕ
raw_besides = 17

abbrev pub paid_besides : ℕ
paid_besides = 45

-- ---- where whole tokens lead

-- Whole tokens lead to this place.
abbrev pub IsReached : Place → Type 0
IsReached place = Leads place.text place.rest

-- Whole tokens lead to an opening bracket, and what it holds begins at this place.
abbrev pub IsOpened : Place → Type 0
IsOpened place = BeginsContent place.text place.rest

-- Whole tokens lead to an opening bracket, and this place is directly behind it.
pub record IsInside (place : Place) : Type 0 where
  pub bracket : ℕ
  pub opens : is_opening bracket ≡ true
  pub leads : Leads place.text (bracket ∷ place.rest)

-- bare content begins behind its bracket, any other value where whole tokens lead
abbrev pub StandsAs : Bool → Place → Type 0
StandsAs true place = IsOpened place
StandsAs false place = IsReached place

-- ---- by a schema whose longest chain has k members

abbrev pub SpendsTyped : {A E : Type 0} → Bool → ℕ → ℕ → Place → Result A E → Place → Type 0
SpendsTyped bare k m old result new = StandsAs bare old → Spends paid_besides k m old result new

abbrev pub SettlesTyped : {A E : Type 0} → ℕ → Place → Result A E → Place → Type 0
SettlesTyped k old result new = IsReached old → Settles paid_besides k old result new

abbrev pub SpendsInsideTyped : {A E : Type 0} → ℕ → Place → Result A E → Place → Type 0
SpendsInsideTyped k old result new = IsInside old → SpendsInside paid_besides k old result new

-- ---- without a schema, whatever is read around it

abbrev pub SpendsAny : {A E : Type 0} → Bool → ℕ → Place → Result A E → Place → Type 0
SpendsAny bare m old result new = StandsAs bare old → (c k : ℕ) → 1 ≤ c → Spends c k m old result new

abbrev pub SpendsUntyped : {A E : Type 0} → ℕ → Place → Result A E → Place → Type 0
SpendsUntyped m old result new = SpendsAny false m old result new

abbrev pub SettlesUntyped : {A E : Type 0} → Place → Result A E → Place → Type 0
SettlesUntyped old result new = IsReached old → (c k : ℕ) → 1 ≤ c → Settles c k old result new

-- a raw text, whatever is read around it
abbrev pub SpendsRaw : {A E : Type 0} → ℕ → Place → Result A E → Place → Type 0
SpendsRaw m old result new = IsReached old → (c k : ℕ) → raw_besides ≤ c → Spends c k m old result new

-- ---- from one place to another

-- no more is left, neither of the text nor beyond the words
pub record Nears (old new : Place) : Type 0 where
  pub less : bytes_in new.rest ≤ bytes_in old.rest
  pub eases : bytes_in (beyond new.rest) ≤ bytes_in (beyond old.rest)

-- no more is left than beyond the words of the old place
abbrev pub Opens : Place → Place → Type 0
Opens old new = bytes_in new.rest ≤ bytes_in (beyond old.rest)

-- No more is left than beyond the words of the old place; and with the gap before the new one, no more than at the old one.
pub record Enters (old new : Place) : Type 0 where
  pub with_gap : bytes_in new.gap + bytes_in new.rest ≤ bytes_in old.rest
  pub past : bytes_in new.rest ≤ bytes_in (beyond old.rest)
