-- What the calls of a cursor add to its count of turns: a byte of the text that a loop goes over is one.
use Rattle.std.specs.Prelude.{◌≡◌, ◌≤◌, ◌+◌, ◌*◌, ◌-◌, ◌^◌, ◌==◌, if◌then◌else◌, min, ℕ, [], ◌∷◌, Result, OnOk}
use Rattle.ron_spec_words.specs.Characters.{Text, small_b, small_r}
use Rattle.ron_spec_words.specs.Runs.{after_run}
use Rattle.ron_spec_words.specs.Gap.{skip}
use Rattle.ron_spec_words.specs.Reader.{Got, got, failed}
use Rattle.ron_spec_words.specs.Scan.{is_hash}
use Rattle.ron_spec_words.specs.Beyond.{bytes_in, past_words, beyond}
use Rattle.ron_lex_text.specs.Stretch.{IsSuffix}
use Rattle.ron_lex.specs.Place.{Place}

-- the same place, whatever was counted
pub record Stays (old new : Place) : Type 0 where
  pub text : new.text ≡ old.text
  pub rest : new.rest ≡ old.rest
  pub token_start : new.token_start ≡ old.token_start
  pub gap : new.gap ≡ old.gap

-- the highest count
abbrev pub most_turns : ℕ
most_turns = 2 ^ 128 - 1

-- the bytes before an end of a text
abbrev pub passed : Text → Text → ℕ
passed text rest = bytes_in text - bytes_in rest

-- what is counted at a place: what was gone over beside the bytes before it, and these; the highest count at most
abbrev pub count_at : ℕ → Text → Text → ℕ
count_at beside text rest = min (beside + passed text rest) most_turns

-- At least n are counted, up to the highest count.
abbrev pub Counts : ℕ → Place → Place → Type 0
Counts n old new = min (old.counted + n) most_turns ≤ new.counted

-- At least the bytes that are gone forward are counted.
abbrev pub Grows : Place → Place → Type 0
Grows old new = Counts (passed old.rest new.rest) old new

-- Where this is read, at least its bytes and those of the gap behind it are counted.
abbrev pub CountsPast : {A : Type 0} → Got A → Place → Place → Type 0
CountsPast (got a rest) old new = Counts (passed old.rest (skip rest)) old new
CountsPast (failed f) old new = Unit {0}

-- Where this is read, at least its bytes are counted.
abbrev pub CountsTo : {A : Type 0} → Got A → Place → Place → Type 0
CountsTo (got a rest) old new = Counts (passed old.rest rest) old new
CountsTo (failed f) old new = Unit {0}

-- Where the kinds are found, they stay so: nothing is owed for them.
abbrev pub StaysFound : Place → Place → Type 0
StaysFound old new = old.counted ≡ old.turns → new.counted ≡ new.turns

-- Nothing is added.
abbrev pub Rests : Place → Place → Type 0
Rests old new = new.turns ≡ old.turns

-- At most c times the bytes from the one place to the other are added.
abbrev pub GoesOver : ℕ → Place → Place → Type 0
GoesOver c old new = new.turns + c * bytes_in new.rest ≤ old.turns + c * bytes_in old.rest

-- At most c times the bytes of what is left are added.
abbrev pub Scans : ℕ → Place → Place → Type 0
Scans c old new = new.turns ≤ old.turns + c * bytes_in old.rest

-- At most c times the bytes of the words and the gap that stand here are added.
abbrev pub Looks : ℕ → Place → Place → Type 0
Looks c old new = new.turns + c * bytes_in (beyond old.rest) ≤ old.turns + c * bytes_in old.rest

-- Where something is read, at most c times its bytes are added, and never more than c times the bytes of what is left.
pub record Moves {A E : Type 0} (c : ℕ) (old : Place) (result : Result A E) (new : Place) : Type 0 where
  pub moved : OnOk result (GoesOver c old new)
  pub most : Scans c old new

-- An end of a text up to which a look has gone over it: no further than over the words and the gap that stand there.
pub record IsLook (text end : Text) : Type 0 where
  pub is_end : IsSuffix end text
  pub within : bytes_in (beyond text) ≤ bytes_in end

-- what follows the hashes behind an `r` that stands here
abbrev pub behind_hashes : Text → Text
behind_hashes [] = []
behind_hashes (c ∷ s) = if c == small_r then after_run is_hash s else c ∷ s

-- the same behind a `b` that stands here
abbrev pub behind_byte_hashes : Text → Text
behind_byte_hashes [] = []
behind_byte_hashes (c ∷ s) = if c == small_b then behind_hashes s else c ∷ s

-- Where this is read, a look goes on over the gap behind it, up to this end.
abbrev pub LooksPast : {A : Type 0} → Got A → Text → Type 0
LooksPast (got a rest) end = end ≡ past_words rest
LooksPast (failed f) end = Unit {0}

-- Where this is read, a look goes on to what follows it.
abbrev pub LooksTo : {A : Type 0} → Got A → Text → Type 0
LooksTo (got a rest) end = end ≡ rest
LooksTo (failed f) end = Unit {0}

-- An end of a text behind words, where a gap may stand.
pub record IsBehindWords (text rest : Text) : Type 0 where
  pub is_end : IsSuffix rest text
  pub within : bytes_in (beyond text) ≤ bytes_in (past_words rest)

-- An end of a text up to which a look behind a gap has gone over it.
pub record IsGapLook (text end : Text) : Type 0 where
  pub is_end : IsSuffix end text
  pub within : bytes_in (past_words text) ≤ bytes_in end

-- The bytes before an end of a text are added to a number, which stays at the highest one.
pub record Covers (old : ℕ) (text rest : Text) (new : ℕ) : Type 0 where
  pub all : new ≡ min (old + (bytes_in text - bytes_in rest)) (2 ^ 64 - 1)
  pub most : new + bytes_in rest ≤ old + bytes_in text

-- At most c times these bytes are added.
abbrev pub CoversAtMost : ℕ → ℕ → Text → Text → ℕ → Type 0
CoversAtMost c old text rest new = new + c * bytes_in rest ≤ old + c * bytes_in text
