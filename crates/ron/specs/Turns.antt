-- How many turns reading takes: the bytes that all loops over the text go over, from the making of a reader over one value and the end behind it.
use Rattle.std.specs.Prelude.{◌≤◌, ◌+◌, ◌*◌, ℕ, Result, OnOk}
use Rattle.ron_spec_words.specs.Characters.{Text}
use Rattle.ron_spec_words.specs.Beyond.{bytes_in}
use Rattle.ron_spec_words.specs.Openings.{Leads}
use Rattle.ron_de_steps.specs.Spends.{settled, paid_besides}
use Rattle.ron.specs.Reading.{ReaderState}

-- the bound: 64 times one more than the text's bytes, times one more than the members of the schema's longest chain of options and newtypes
abbrev pub turns_allowed : Text → ℕ → ℕ
turns_allowed text k = 64 * (bytes_in text + 1) * (k + 1)

-- What a reader that was made, and has read nothing, has gone over: the head alone, which whole tokens make up, at twice its bytes. `expected` holds what
-- finding the kinds in the text will add, where they aren't known yet.
pub record HasReadHead (d : ReaderState) : Type 0 where
  pub leads : Leads d.text d.rest
  pub size : bytes_in d.gap + bytes_in d.rest ≤ bytes_in d.text
  pub turns : d.turns ≤ d.expected
  pub expected : d.expected + bytes_in d.gap + 2 * bytes_in d.rest ≤ 7 * bytes_in d.text

-- Behind a value, the bound leaves room for what stands behind it.
pub record LeavesRoom (k : ℕ) (d : ReaderState) : Type 0 where
  pub turns : d.turns ≤ d.expected
  pub room : d.expected + settled paid_besides k d.rest ≤ turns_allowed d.text k

-- A value was read, or refused, within the bound; where it was read, what stands behind it keeps within it too.
pub record KeepsWithin {A E : Type 0} (k : ℕ) (result : Result A E) (new : ReaderState) : Type 0 where
  pub most : new.turns ≤ turns_allowed new.text k
  pub left : OnOk result (LeavesRoom k new)
