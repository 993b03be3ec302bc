-- The turns of a whole text: the head, one value, and what stands behind it.
use Rattle.std.proofs.Common.{◌≡◌, ℕ, suc, ◌+◌, ◌*◌, ◌≤◌, true, List, length, Result, Ok, Err, [], ◌∷◌, ◌++◌, refl, sym, ap, subst, ◌∙◌, ltb-true, arith}
use Rattle.std.proofs.lemmas.Bool.{and_parts}
use Rattle.std.specs.Prelude.{nat_lt}
use Rattle.ron_spec_words.specs.Characters.{Text}
use Rattle.ron_spec_words.specs.Beyond.{bytes_in}
use Rattle.ron_spec_words.specs.Openings.{Leads}
use Rattle.ron_spec_words.proofs.Sizes.{size_append, size_end}
use Rattle.ron_lex_text.specs.Stretch.{IsSuffix, is_ended}
use Rattle.ron_spec_grammar.specs.Schema.{Shape, is_in_range, is_well_formed}
use Rattle.ron_spec_grammar.specs.Room.{rank, chain}
use Rattle.ron_lex.specs.Place.{Place}
use Rattle.ron_lex.specs.Turns.{Moves}
use Rattle.ron_de_steps.specs.Spends.{Spends, paid_besides, settled, total_behind, total_before}
use Rattle.ron_de_steps.proofs.SpendLemmas.{scans_behind}
use Rattle.ron_de_steps.proofs.KeepLemmas.{read_bound, item_looks}
use Rattle.ron_de.proofs.ReachLemmas.{rank_in_chain}
use Rattle.ron.specs.Turns.{turns_allowed, HasReadHead, LeavesRoom, KeepsWithin}
use Rattle.ron.specs.Reading.{ReaderState}

-- a gap and what follows it, at the end of a text
pub gap_within : (gap rest text : Text) → IsSuffix (gap ++ rest) text → bytes_in gap + bytes_in rest ≤ bytes_in text
gap_within gap rest text h = omega (arith, size_end h.front (gap ++ rest) text h.is, size_append gap rest)

-- what a reader's cursor stands for
pub record IsPlaceOf (d : ReaderState) (place : Place) : Type 0 where
  pub text : d.text ≡ place.text
  pub rest : d.rest ≡ place.rest
  pub gap : d.gap ≡ place.gap
  pub turns : d.turns ≡ place.counted
  pub expected : d.expected ≡ place.turns

module _ (k m : ℕ) (few : m ≤ 4 * suc k) (old : ReaderState) (made : HasReadHead old) (start : Place) (here : IsPlaceOf old start) where
  within : (t : ℕ) → t ≤ total_before paid_besides k m start → t ≤ turns_allowed old.text k
  within t h =
      let size : bytes_in start.gap + bytes_in start.rest ≤ bytes_in old.text = omega (arith, made.size, ap bytes_in here.rest, ap bytes_in here.gap) in
      let begun : start.turns + bytes_in start.gap + 2 * bytes_in start.rest ≤ 16 * bytes_in old.text =
      omega (arith, made.expected, ap bytes_in here.rest, ap bytes_in here.gap, here.expected) in
      read_bound k m (bytes_in old.text) start t few size begun h

  -- a value that is read within its account keeps to the bound, and leaves room
  pub kept : {A E : Type 0} (r : Result A E) (read there : Place) (new : ReaderState) → Spends paid_besides k m start r read → there.rest ≡ read.rest
      → there.turns ≤ read.turns → there.counted ≤ there.turns → IsPlaceOf new there → new.text ≡ old.text → KeepsWithin k r new
  unfolding total_behind
  kept (Ok a) read there new s same rests counted at text =
      let bound : (t : ℕ) → t ≤ total_before paid_besides k m start
      → t ≤ turns_allowed new.text k = λ t h. subst (λ u. t ≤ turns_allowed u k) (sym text) (within t h) in
      let here : settled paid_besides k new.rest ≡ settled paid_besides k read.rest = ap (settled paid_besides k) (at.rest ∙ same) in
      record {
        most = omega (arith, bound read.turns s.most, rests, counted, at.turns);
        left = record {
          turns = omega (arith, counted, at.turns, at.expected);
          room = omega (arith, bound (total_behind paid_besides k read) s.left, rests, at.expected, here);
        };
      }
  kept (Err e) read there new s same rests counted at text =
      let bound : read.turns ≤ turns_allowed new.text k = subst (λ u. read.turns ≤ turns_allowed u k) (sym text) (within read.turns s.most) in
      record { most = omega (arith, bound, rests, counted, at.turns); left = tt }

-- behind it a step that goes past a gap, or is refused
pub end_within : {A E : Type 0} (k : ℕ) (old : ReaderState) (here : Place) (r : Result A E) (there : Place) → IsPlaceOf old here → Moves 1 here r there
    → there.counted ≤ there.turns → there.text ≡ old.text → LeavesRoom k old → there.counted ≤ turns_allowed there.text k
unfolding total_behind
end_within k old here r there at moves counted text room =
    let scans : there.turns ≤ here.turns + settled paid_besides k here.rest = scans_behind paid_besides k 1 here there (omega arith) moves.most in
    let same : settled paid_besides k old.rest ≡ settled paid_besides k here.rest = ap (settled paid_besides k) at.rest in
    subst (λ u. there.counted ≤ turns_allowed u k) (sym text) (omega (arith, scans, same, room.room, at.expected, counted))

-- the looks at the root of a schema
pub root_looks : (schema : List Shape) (root : ℕ) → is_well_formed schema root ≡ true → rank schema root + 3 ≤ 4 * suc (chain schema)
root_looks schema root h =
    let range = and_parts (is_in_range schema root) _ h in
    let lt = and_parts (nat_lt root (length schema)) _ range.0 in
    item_looks (chain schema) (rank schema root) (rank_in_chain schema root (ltb-true root (length schema) lt.0))

-- no byte is left where the text has ended
pub ended_text : (rest : Text) → is_ended rest ≡ true → bytes_in rest ≡ 0
unfolding bytes_in
ended_text [] e = refl
ended_text (c ∷ rest) e = absurd (cc)

-- whole tokens lead over the head
pub head_led : (input text rest old : Text) → text ≡ input → old ≡ input → Leads old rest → Leads text rest
head_led input text rest old e f h = subst (λ u. Leads u rest) (f ∙ sym e) h
