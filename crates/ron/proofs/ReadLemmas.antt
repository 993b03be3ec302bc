-- What the reader's answer says, by the laws of the grammar.
use Rattle.std.proofs.Common.{◌≡◌, ◌⊎◌, ℕ, Bool, List, [], false, true, ◌++◌, length, Result, Ok, Err, Option, Some, None, IfOk, IfErr, IsSome, refl, ap, ◌∙◌}
use Rattle.std.proofs.Common.{arith, inl, inr}
use Rattle.std.proofs.lemmas.Bool.{and_parts}
use Rattle.ron_spec_words.specs.Characters.{Text}
use Rattle.ron_spec_words.specs.Quoted.{String}
use Rattle.ron_lex.specs.Quoted.{HoldsEscape}
use Rattle.ron_spec_words.specs.Reader.{Got, got, failed, deep, bad}
use Rattle.ron_spec_grammar.specs.Data as plain
use Rattle.ron_spec_grammar.specs.Schema.{Shape, bool, int, char, unit, str, OfShape, is_well_formed, is_in_range, has_no_cycle}
use Rattle.ron_spec_grammar.specs.Room.{enough}
use Rattle.ron_spec_grammar.specs.Reading.{read, read_at}
use Rattle.ron_spec_grammar.proofs.Place as place
use Rattle.ron_base.specs.declared.error.Error.{Error}
use Rattle.ron_base.specs.declared.error.Error.TheVariants.{OutOfMemory, ExceededRecursionLimit}
use Rattle.ron_base.specs.Class.{ErrorClass, memory, depth, other, class_of}
use Rattle.ron_de_steps.specs.Reads.{Reads, IsFaultOf}
use Rattle.ron_de_steps.proofs.ErrorLemmas.{memory_is, depth_is}
use Rattle.ron_data.specs.declared.data.Data.{Data}
use Rattle.ron_data.specs.Datum.{data_view}
use Rattle.ron_data_schema.specs.Table.{Table}
use Rattle.ron_de_parts.specs.Room.{IsRoom}
use Rattle.ron_spec_grammar.proofs.RawTurns.{anywhere}
use Rattle.ron_spec_grammar.specs.Rule.{Extensions}
use Rattle.ron_spec_words.specs.Characters.{Text}
use Rattle.ron_de_parts.specs.Errors.{HasLeafShape, IsOfReading}
use Rattle.ron_de_parts.specs.Kept.{Kept}
use Rattle.ron_de_parts.specs.Slices.{IsSliced, StringsAreSliced}
use Rattle.ron.specs.Kept.{IsKeptRefused}
use Rattle.ron.specs.Reading.{ReaderState, is_first, IsSlicedFrom, SpellsWithin, TakesWithin, Takes, IsDataOrMemory, IsLimitOrMemory, AnswersSpelled}
use Rattle.ron.specs.Reading.{RefusesDeep, AnswersAsReader, IsLeaf, IsString, ReadsNone, IsValueRefused}

-- options and newtypes of a well-formed schema form no cycle
pub no_cycle_in : (table : Table) → is_well_formed table.shapes table.root ≡ true → has_no_cycle table.shapes ≡ true
no_cycle_in table w = (and_parts (has_no_cycle table.shapes) _ (and_parts (is_in_range table.shapes table.root) _ w).1).0

fault_for_value : (e : Error) (k : ErrorClass) (answer : Got plain.Data) (d : plain.Data) (next : Text) → class_of e ≡ k → IsFaultOf k answer
    → answer ≡ got d next → e ≡ OutOfMemory
fault_for_value e memory answer d next c g h = memory_is e c
fault_for_value e depth answer d next c g h = cc
fault_for_value e other answer d next c g h = cc

pub data_or_memory : (result : Result Data Error) (rest : Text) (answer : Got plain.Data) (d : plain.Data) (next : Text) → Reads data_view result answer rest
    → answer ≡ got d next → IsDataOrMemory result rest d next
data_or_memory (Ok e) rest answer d next g h = ((cc), (cc))
data_or_memory (Err e) rest answer d next g h = fault_for_value e (class_of e) answer d next refl g h

fault_for_limit : (e : Error) (k : ErrorClass) (answer : Got plain.Data) → class_of e ≡ k → IsFaultOf k answer → answer ≡ failed deep
    → IsLimitOrMemory {A = Data} (Err e)
fault_for_limit e memory answer c g h = inr (memory_is e c)
fault_for_limit e depth answer c g h = inl (depth_is e c)
fault_for_limit e other answer c g h = cc

limit_or_memory : (result : Result Data Error) (rest : Text) (answer : Got plain.Data) → Reads data_view result answer rest → answer ≡ failed deep
    → IsLimitOrMemory result
limit_or_memory (Ok e) rest answer g h = cc
limit_or_memory (Err e) rest answer g h = fault_for_limit e (class_of e) answer refl g h

module _ (state : ReaderState) (table : Table) where
  -- what the reader function answers in this room
  answer_in : ℕ → Got plain.Data
  answer_in room = read_at (is_first state) state.extensions table.shapes room false table.root state.gap state.rest

  -- what is answered under this limit
  Answers : Option ℕ → Result Data Error → Text → Type 0
  Answers limit result rest = (room : ℕ) → IsRoom limit (enough table.shapes false table.root (length state.rest)) room
      → Reads data_view result (read_at (is_first state) state.extensions table.shapes room false table.root state.gap state.rest) rest

  -- a front of what is left spells what is answered
  takes : (result : Result Data Error) (rest : Text) → AnswersAsReader state table result rest → IfOk result (λ d. TakesWithin state table (data_view d) rest)
  unfolding Answers
  takes (Err e) rest a = tt
  takes (Ok e) rest a = by_limit state.limit a
    where
      by_limit : (limit : Option ℕ) → Answers limit (Ok e) rest
          → (t : Text) × (state.rest ≡ t ++ rest) × SpellsWithin (is_first state) state.extensions limit table state.gap t rest (data_view e)
      by_limit (Some room) b = let z =
          place.sound (is_first state) state.extensions table.shapes table.root room state.gap state.rest rest (data_view e) (b room refl) in
          (z.stretch, z.split, z.spelled)
      by_limit None b =
          let room : ℕ = enough table.shapes false table.root (length state.rest) in
          let z = place.sound (is_first state) state.extensions table.shapes table.root room state.gap state.rest rest (data_view e) (b room (omega arith)) in
          (z.stretch, z.split, (room, z.spelled))

  pub takes_all : (result : Result Data Error) (new : ReaderState) → AnswersAsReader state table result new.rest → new.gap ≡ []
      → IfOk result (λ d. Takes state table (data_view d) new)
  takes_all (Err e) new a g = tt
  takes_all (Ok e) new a g = record { spelled = takes (Ok e) new.rest a; gap = g }

  pub of_schema : (result : Result Data Error) (rest : Text) → is_well_formed table.shapes table.root ≡ true → AnswersAsReader state table result rest
      → IfOk result (λ d. OfShape table.shapes table.root (data_view d))
  of_schema (Err e) rest w a = tt
  of_schema (Ok e) rest w a = let z = takes (Ok e) rest a in by_limit state.limit z.0 z.2
    where
      by_limit : (limit : Option ℕ) (t : Text) → SpellsWithin (is_first state) state.extensions limit table state.gap t rest (data_view e)
          → OfShape table.shapes table.root (data_view e)
      by_limit (Some room) t z = place.of_schema (is_first state) state.extensions table.shapes table.root table.root room state.gap t rest (data_view e) w z
      by_limit None t z = place.of_schema (is_first state) state.extensions table.shapes table.root table.root z.0 state.gap t rest (data_view e) w z.1

  pub answers_spelled : has_no_cycle table.shapes ≡ true → (result : Result Data Error) (rest : Text) → AnswersAsReader state table result rest
      → AnswersSpelled state table result rest
  unfolding Answers
  answers_spelled ends result rest a t next d e z follows = by_limit state.limit a z
    where
      by_limit : (limit : Option ℕ) → Answers limit result rest → SpellsWithin (is_first state) state.extensions limit table state.gap t next d
          → IsDataOrMemory result rest d next
      by_limit (Some room) b y =
          data_or_memory result rest (read_at (is_first state) state.extensions table.shapes room false table.root state.gap state.rest) d next (b room refl)
          (ap (read_at (is_first state) state.extensions table.shapes room false table.root state.gap) e
          ∙ place.complete (is_first state) state.extensions table.shapes table.root room state.gap t next d y follows)
      by_limit None b y =
          let room : ℕ = enough table.shapes false table.root (length (t ++ next)) in
          let same : enough table.shapes false table.root (length state.rest) ≡ room = ap (λ s. enough table.shapes false table.root (length s)) e in
          data_or_memory result rest (read_at (is_first state) state.extensions table.shapes room false table.root state.gap state.rest) d next
          (b room (omega (arith, same)))
          (ap (read_at (is_first state) state.extensions table.shapes room false table.root state.gap) e
          ∙ place.complete (is_first state) state.extensions table.shapes table.root room state.gap t next d
          (place.bounded (is_first state) state.extensions table.shapes table.root ends y.0 state.gap t next d y.1 follows) follows)

  pub refuses_deep : (result : Result Data Error) (rest : Text) → AnswersAsReader state table result rest → RefusesDeep state table result
  unfolding Answers
  refuses_deep result rest a t next d n e z follows beyond = by_limit state.limit a beyond
    where
      by_limit : (limit : Option ℕ) → Answers limit result rest → (SpellsWithin (is_first state) state.extensions limit table state.gap t next d → ⊥)
          → IsLimitOrMemory result
      by_limit (Some room) b out =
          limit_or_memory result rest (read_at (is_first state) state.extensions table.shapes room false table.root state.gap state.rest) (b room refl)
          (ap (read_at (is_first state) state.extensions table.shapes room false table.root state.gap) e
          ∙ place.too_deep (is_first state) state.extensions table.shapes table.root room n state.gap t next d z follows out)
      by_limit None b out = absurd (out (n, z))

  only_limited : has_no_cycle table.shapes ≡ true → (result : Result Data Error) (rest : Text) → AnswersAsReader state table result rest
      → result ≡ Err ExceededRecursionLimit → IsSome state.limit
  unfolding Answers
  only_limited ends result rest a e = by_limit state.limit result a e
    where
      by_limit : (limit : Option ℕ) (result : Result Data Error) → Answers limit result rest → result ≡ Err ExceededRecursionLimit → IsSome limit
      by_limit (Some room) result b e = refl
      by_limit None (Ok d) b e = cc
      by_limit None (Err code) b e =
          let room : ℕ = enough table.shapes false table.root (length state.rest) in
          let is : code ≡ ExceededRecursionLimit = cc in
          let g : read_at (is_first state) state.extensions table.shapes room false table.root state.gap state.rest ≡ failed deep =
          rw is at (b room (omega arith)) in
          absurd (place.roomy (is_first state) state.extensions table.shapes table.root ends false room state.gap state.rest (omega arith) g)

-- ---- what takes no memory

-- these shapes are read alike wherever they stand
leaf_anywhere : (first : Bool) (x : Extensions) (schema : List Shape) (room i : ℕ) (before s : Text) → HasLeafShape schema i
    → read_at first x schema room false i before s ≡ read x schema room false i before s
leaf_anywhere first x schema room i before s (inl e) = anywhere first x schema room i before s bool refl e
leaf_anywhere first x schema room i before s (inr (inl p)) = anywhere first x schema room i before s (int p.0) refl p.1
leaf_anywhere first x schema room i before s (inr (inr (inl e))) = anywhere first x schema room i before s char refl e
leaf_anywhere first x schema room i before s (inr (inr (inr e))) = anywhere first x schema room i before s unit refl e

-- a refusal, also one for want of memory, says that none is read
abbrev pub RefusesLeaves : ReaderState → Table → Result Data Error → Type 0
RefusesLeaves state table result =
    HasLeafShape table.shapes table.root
    → IfErr result (λ _. (room : ℕ) → read state.extensions table.shapes room false table.root state.gap state.rest ≡ failed bad)

reads_none : (state : ReaderState) (table : Table) (result : Result Data Error) → RefusesLeaves state table result → IsLeaf table
    → IfErr result (λ _. ReadsNone state table)
reads_none state table (Ok d) h i = tt
reads_none state table (Err e) h i = λ room r. leaf_anywhere (is_first state) state.extensions table.shapes room table.root state.gap state.rest i ∙ h i room

-- or that a string holds an escape, where slices are taken of the text
abbrev pub RefusesStrings : Option Text → ReaderState → Table → Result Data Error → Type 0
RefusesStrings source state table result =
    IsString table → source ≡ Some state.text → IfErr result
    (λ _. HoldsEscape String state.rest ⊎ ((room : ℕ) → read state.extensions table.shapes room false table.root state.gap state.rest ≡ failed bad))

escaped_or_none : (source : Option Text) (state : ReaderState) (table : Table) (result : Result Data Error) → RefusesStrings source state table result
    → source ≡ Some state.text → IsString table → IfErr result (λ _. HoldsEscape String state.rest ⊎ ReadsNone state table)
escaped_or_none source state table (Ok d) h k i = tt
escaped_or_none source state table (Err e) h k i = elim (h i k) [
  | inl escaped ↦ inl escaped
  | inr none ↦ inr (λ room r. anywhere (is_first state) state.extensions table.shapes room table.root state.gap state.rest str refl i ∙ none room)
]

-- what an error tells
pub tells : (source : Option Text) (state : ReaderState) (table : Table) → has_no_cycle table.shapes ≡ true → (result : Result Data Error) (rest : Text)
    → AnswersAsReader state table result rest → IfErr result IsOfReading → RefusesLeaves state table result → RefusesStrings source state table result
    → IfErr result (IsKeptRefused source state table)
tells source state table ends (Ok d) rest a fault leaf string = tt
tells source state table ends (Err e) rest a fault leaf string = record {
  fault = fault;
  only_limited = λ is. only_limited state table ends (Err e) rest a (ap (λ k. Err k) is);
  memory = reads_none state table (Err e) leaf;
  string = escaped_or_none source state table (Err e) string;
}

-- ---- where slices are taken of the text

pub value_refused : (source : Option Text) (state : ReaderState) (table : Table) (result : Result Data Error) → source ≡ Some state.text
    → IfErr result (IsKeptRefused source state table) → IfErr result (IsValueRefused state table)
value_refused source state table (Ok d) k h = tt
value_refused source state table (Err e) k h = record { fault = h.fault; only_limited = h.only_limited; memory = h.memory; string = h.string k }

pub sliced_from : (source : Option Text) (state : ReaderState) (rest : Text) (result : Result Data Error)
    → (source ≡ Some state.text → IfOk result (IsSliced state.rest rest)) → IfOk result (Kept source (StringsAreSliced state.rest) state.text)
    → source ≡ Some state.text → IfOk result (IsSlicedFrom state rest)
sliced_from source state rest (Ok d) h g k = record { own = h k; strings = g k }
sliced_from source state rest (Err e) h g k = tt
