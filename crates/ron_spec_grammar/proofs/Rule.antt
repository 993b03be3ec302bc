-- What the rule of a shape owes, as one record that each file of `Shapes` gives and `Levels` puts together.
use Rattle.std.proofs.Common.{◌≡◌, ℕ, ◌+◌, ◌≤◌, ◌<◌, ◌⊎◌, inl, inr, arith, Bool, true, false, List, [], ◌∷◌}
use Rattle.std.specs.List.{list_all}
use Rattle.ron_spec_words.specs.Characters.{Text, right_parenthesis}
use Rattle.ron_spec_words.specs.Lang.{Lang}
use Rattle.ron_spec_words.specs.Reader.{Reader}
use Rattle.ron_spec_words.specs.Exact.{Before, FollowsValue}
use Rattle.ron_spec_words.proofs.Exactly.{Opens}
use Rattle.ron_spec_words.proofs.Words.{First}
use Rattle.ron_spec_words.proofs.Parts.{Part, part_more, part_fail, part_with_comma}
use Rattle.ron_spec_grammar.specs.Data.{Data}
use Rattle.ron_spec_grammar.specs.Schema.{Shape, has_distinct_names, OfShape}
use Rattle.ron_spec_grammar.specs.Rule.{Langs, Readers, Plain, plain, WithoutName, without_name, NoGap, no_gap, Allowed, allowed}
use Rattle.ron_spec_grammar.specs.Room.{step}
use Rattle.ron_spec_grammar.proofs.Room.{size}

-- what may follow: bare content stands before the `)` that closes it
abbrev pub After : Bool → Text → Type 0
After false = FollowsValue
After true = Before right_parenthesis

-- data of the shape at an index, where the names of each shape differ, and no deeper than the room, k levels down
pub record IsDataOf (schema : List Shape) (room k i : ℕ) (d : Data) : Type 0 where
  pub of_shape : list_all has_distinct_names schema ≡ true → OfShape schema i d

-- what is owed k levels further down, where each index has this number
pub record Fit (schema : List Shape) (base : ℕ → ℕ) (room k : ℕ) (q r : Readers) (L : Langs) : Type 0 where
  pub part : (bare : Bool) (i : ℕ) (before : Text)
      → Part room (step schema) bare (IsDataOf schema room k i) (q bare i before) (r bare i before) (L bare i before) (After bare) (size schema base bare i + k)
  pub opens : (i : ℕ) (before : Text) → Opens (L false i before)

pub part_plain : {room step e : ℕ} {P : Data → Type 0} (bare : Bool) {q r : Reader Data} {L : Lang Data} → Part room step false P q r L FollowsValue e
    → Part room step bare P (plain bare q) (plain bare r) (Plain bare L) (After bare) e
part_plain false h = h
part_plain true h = part_with_comma h

-- what needs no name
pub part_without : {room step e : ℕ} {commas : Bool} {A : Type 0} {P : A → Type 0} {F : Text → Type 0} (required : Bool) {q r : Reader A} {L : Lang A}
    → Part room step commas P q r L F e → Part room step commas P (without_name required q) (without_name required r) (WithoutName required L) F e
part_without false h = h
part_without true h = part_fail

pub first_without : {A : Type 0} {P : Text → Type 0} {L : Lang A} (required : Bool) → First P L → First P (WithoutName required L)
first_without false h = h
first_without true h = record { holds = λ t next a z. absurd z }

-- directly behind a word
pub part_no_gap : {room step e : ℕ} {commas : Bool} {A : Type 0} {P : A → Type 0} {F : Text → Type 0} (gap : Text) {q r : Reader A} {L : Lang A}
    → Part room step commas P q r L F e → Part room step commas P (no_gap gap q) (no_gap gap r) (NoGap gap L) F e
part_no_gap [] h = h
part_no_gap (c ∷ gap) h = part_fail

-- what an extension allows
pub part_allowed : {room step e : ℕ} {commas : Bool} {A : Type 0} {P : A → Type 0} {F : Text → Type 0} (b : Bool) {q r : Reader A} {L : Lang A}
    → Part room step commas P q r L F e → Part room step commas P (allowed b q) (allowed b r) (Allowed b L) F e
part_allowed false h = part_fail
part_allowed true h = h

pub first_allowed : {A : Type 0} {P : Text → Type 0} {L : Lang A} (b : Bool) → First P L → First P (Allowed b L)
first_allowed false h = record { holds = λ t next a z. absurd z }
first_allowed true h = h

-- no more is needed, or more than there is room
pub part_either : {room step d e : ℕ} {commas : Bool} {A : Type 0} {P : A → Type 0} {q r : Reader A} {L : Lang A} {F : Text → Type 0}
    → Part room step commas P q r L F d → (d ≤ e) ⊎ (room < e) → Part room step commas P q r L F e
part_either h (inl le) = part_more h le
part_either h (inr lt) =
    record { exact = h.exact; begins = h.begins; agrees = h.agrees; shallow = λ n w. absurd (omega (arith, w, lt)); values = h.values; passes = h.passes }
