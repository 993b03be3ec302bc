-- What reading a whole text answers, from what reading its value does.
use Rattle.std.proofs.Common.{◌≡◌, ◌≢◌, ◌⊎◌, inl, inr, ℕ, ◌+◌, ◌==◌, Bool, true, false, [], ◌∷◌, length, ◌≤◌, Option, Some, None, arith, refl, sym, ap, subst}
use Rattle.std.proofs.Common.{◌∙◌}
use Rattle.ron_spec_words.specs.Characters.{Text, hash}
use Rattle.ron_spec_words.specs.Runs.{is_at}
use Rattle.ron_spec_words.specs.Gap.{skip}
use Rattle.ron_spec_words.specs.Reader.{Got, got, failed, bad}
use Rattle.ron_spec_grammar.specs.Data as plain
use Rattle.ron_spec_grammar.specs.Room.{enough}
use Rattle.ron_spec_grammar.specs.Reading.{read_at}
use Rattle.ron_spec_grammar.specs.Rule.{Extensions}
use Rattle.ron_spec_grammar.specs.Attribute.{value_start}
use Rattle.ron_spec_grammar.specs.Document.{Answer, ok, err, at_end, whole, answer_document}
use Rattle.ron_base.specs.declared.error.Error.{Error}
use Rattle.ron_base.specs.declared.error.Error.TheVariants.{OutOfMemory, TrailingCharacters}
use Rattle.ron_base.specs.Class.{ErrorClass, memory, depth, other, class_of}
use Rattle.ron_de_steps.specs.Reads.{IsFaultOf}
use Rattle.ron_data.specs.declared.data.Data.{Data}
use Rattle.ron_data.specs.Datum.{data_view}
use Rattle.ron_data_schema.specs.Table.{Table}
use Rattle.ron_de_parts.specs.Room.{IsRoom}
use Rattle.ron_de_parts.specs.Errors.{IsOfReading, IsMemoryOr, IsMemoryOrClass}
use Rattle.ron.specs.Reading.{IsOfDocument}
use Rattle.ron.specs.Whole.{IsFaultOfText, HasAttribute}
use Rattle.ron_spec_words.specs.Directly.{and_directly}
use Rattle.ron_spec_grammar.proofs.Room.{enough_rises}
use Rattle.ron_spec_grammar.proofs.AttributeTurns.{document_from, start_no_longer}
use Rattle.ron_de_steps.proofs.ErrorLemmas.{memory_is}

fault_whole : (k : ErrorClass) (g : Got plain.Data) → IsFaultOf k g → IsFaultOfText k (whole g)
fault_whole memory g h = tt
fault_whole depth g h = ap whole h
fault_whole other g h = ap whole h

more_at_end : (d : plain.Data) (s : Text) → s ≢ [] → at_end d s ≡ err bad
more_at_end d [] more = absurd (more refl)
more_at_end d (c ∷ s) more = refl

wants_memory : (k : ErrorClass) (d : plain.Data) (next : Text) → IsFaultOf k (got d next) → k ≡ memory
wants_memory memory d next h = refl
wants_memory depth d next h = cc
wants_memory other d next h = cc

-- what is room for more is room for less
room_less : (limit : Option ℕ) (less more room : ℕ) → less ≤ more → IsRoom limit more room → IsRoom limit less room
room_less (Some levels) less more room le r = r
room_less None less more room le r = omega (arith, le, r)

module _ (x : Extensions) (limit : Option ℕ) (table : Table) (s : Text) where
  -- the room that the limit leaves to the text
  abbrev pub IsRoomOf : ℕ → Type 0
  IsRoomOf room = IsRoom limit (enough table.shapes false table.root (length s)) room

  -- what is read where a value begins
  abbrev read_of : ℕ → Got (Extensions × Text) → Got plain.Data
  read_of room o =
      and_directly o (λ (p : Extensions × Text) rest. read_at (length p.1 + length rest == length s) p.0 table.shapes room false table.root p.1 rest)

  -- where no value begins, nothing is read
  pub nowhere : value_start x s ≡ failed bad → (room : ℕ) → answer_document x table.shapes table.root room s ≡ err bad
  nowhere e room = document_from x table.shapes table.root room s ∙ ap (λ o. whole (read_of room o)) e

  pub no_value : value_start x s ≡ failed bad → (y : Extensions) (gap body : Text) → value_start x s ≡ got (y, gap) body → ⊥
  no_value e y gap body h = cc

  -- the value begins here
  module _ (y : Extensions) (gap body rest : Text) (h : value_start x s ≡ got (y, gap) body) where
    -- what the reader function answers of the value
    abbrev pub front : ℕ → Got plain.Data
    front room = read_at (length gap + length body == length s) y table.shapes room false table.root gap body

    -- the room that the limit leaves to the value
    abbrev pub IsRoomHere : ℕ → Type 0
    IsRoomHere room = IsRoom limit (enough table.shapes false table.root (length body)) room

    here : (room : ℕ) → IsRoomOf room → IsRoomHere room
    here room r = room_less limit _ _ room (enough_rises table.shapes false table.root (length body) (length s) (start_no_longer x s (y, gap) body h)) r

    value_whole : (room : ℕ) → answer_document x table.shapes table.root room s ≡ whole (front room)
    value_whole room = document_from x table.shapes table.root room s ∙ ap (λ o. whole (read_of room o)) h

    -- it begins nowhere else
    pub same_front : (z : Extensions) (before at : Text) → value_start x s ≡ got (z, before) at → (room : ℕ)
        → read_at (length before + length at == length s) z table.shapes room false table.root before at ≡ front room
    same_front z before at k room = let e : got (z, before) at ≡ got (y, gap) body = sym k ∙ h in ap (read_of room) e

    pub none_whole : ((room : ℕ) → IsRoomHere room → front room ≡ failed bad) → (room : ℕ) → IsRoomOf room
        → answer_document x table.shapes table.root room s ≡ err bad
    none_whole a room r = value_whole room ∙ ap whole (a room (here room r))

    module _ (e : Data) (a : (room : ℕ) → IsRoomHere room → front room ≡ got (data_view e) rest) where
      pub read_whole : skip rest ≡ [] → (room : ℕ) → IsRoomOf room → answer_document x table.shapes table.root room s ≡ ok (data_view e)
      read_whole ends room r = value_whole room ∙ ap whole (a room (here room r)) ∙ ap (at_end (data_view e)) ends

      pub rest_whole : skip rest ≢ [] → (room : ℕ) → IsRoomOf room → answer_document x table.shapes table.root room s ≡ err bad
      rest_whole more room r = value_whole room ∙ ap whole (a room (here room r)) ∙ more_at_end (data_view e) (skip rest) more

      -- what is behind a value is behind it in each room
      pub same_rest : (z : Extensions) (before at : Text) (room : ℕ) (d : plain.Data) (next : Text) → value_start x s ≡ got (z, before) at → IsRoomOf room
          → read_at (length before + length at == length s) z table.shapes room false table.root before at ≡ got d next → rest ≡ next
      same_rest z before at room d next k r g = let m = a room (here room r) in let f = same_front z before at k room in cc

    module _ (code : Error) (a : (room : ℕ) → IsRoomHere room → IsFaultOf (class_of code) (front room)) where
      pub refused_whole : (room : ℕ) → IsRoomOf room → IsFaultOfText (class_of code) (answer_document x table.shapes table.root room s)
      refused_whole room r = rw (value_whole room) (fault_whole (class_of code) (front room) (a room (here room r)))

      -- a refused value where one can be read wants memory
      pub refused_value : (z : Extensions) (before at : Text) (room : ℕ) (d : plain.Data) (next : Text) → value_start x s ≡ got (z, before) at → IsRoomOf room
          → read_at (length before + length at == length s) z table.shapes room false table.root before at ≡ got d next → code ≡ OutOfMemory
      refused_value z before at room d next k r g = memory_is code
          (wants_memory (class_of code) d next (subst (IsFaultOf (class_of code)) (sym (same_front z before at k room) ∙ g) (a room (here room r))))

-- a refused start is the fault of the text
pub start_fault : (k : ErrorClass) {P : Type 0} {g : Answer} → IsMemoryOrClass P k → (P → g ≡ err bad) → IsFaultOfText k g
start_fault memory h f = tt
start_fault depth h f = absurd h
start_fault other h f = f h

-- where one begins, memory was wanted
pub start_memory : {P : Type 0} (e : Error) → IsMemoryOr P e → (P → ⊥) → e ≡ OutOfMemory
start_memory {P} e h never = go (class_of e) refl h
  where
    go : (k : ErrorClass) → class_of e ≡ k → IsMemoryOrClass P k → e ≡ OutOfMemory
    go memory c t = memory_is e c
    go depth c t = absurd t
    go other c t = absurd (never t)

-- and where memory isn't wanted, no value begins
pub start_refused : {P : Type 0} (e : Error) → class_of e ≡ other → IsMemoryOr P e → P
start_refused {P} e c h = subst (IsMemoryOrClass P) c h

-- an error that is neither want of memory nor the limit's is the fault `bad`
pub fault_of_text : {g : Answer} (e : Error) → class_of e ≡ other → g ≡ err bad → IsFaultOfText (class_of e) g
fault_of_text {g} e c h = subst (λ k. IsFaultOfText k g) (ap (λ k. k) (let z : other ≡ class_of e = cc in z)) h

pub of_document : (e : Error) → IsOfReading e → IsOfDocument e
of_document TrailingCharacters h = tt
of_document _ h = h

-- reading a value tells no rest
pub not_of_end : (e : Error) → e ≡ TrailingCharacters → IsOfReading e → ⊥
not_of_end e is h = subst IsOfReading is h

-- an attribute begins, or what is said where none does
pub attribute_or : {P : Type 0} (s : Text) → (is_at hash (skip s) ≡ false → P) → HasAttribute s ⊎ P
attribute_or {P} s h = go (is_at hash (skip s)) refl
  where
    go : (b : Bool) → is_at hash (skip s) ≡ b → (b ≡ true) ⊎ P
    go true e = inl refl
    go false e = inr (h e)

pub attribute_or_else : {P Q : Type 0} (s : Text) → (is_at hash (skip s) ≡ false → Q ⊎ P) → (HasAttribute s ⊎ Q) ⊎ P
attribute_or_else {P} {Q} s h = elim (attribute_or s h) [ inl a ↦ inl (inl a) | inr z ↦ elim z [ inl q ↦ inl (inr q) | inr p ↦ inr p ] ]
