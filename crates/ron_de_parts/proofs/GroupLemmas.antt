-- A group in brackets, by what stands in it as it is read a level deeper: for lists and tuples alike.
use Rattle.std.proofs.Common.{◌≡◌, ℕ, suc, ◌+◌, ◌<◌, ◌≤◌, false, true, List, length, refl, sym, ap, ap₂, subst, ◌∙◌, arith}
use Rattle.std.proofs.lemmas.Bool.{le-leb}
use Rattle.ron_spec_words.specs.Characters.{Text}
use Rattle.ron_spec_words.specs.Gap.{skip, gap_of}
use Rattle.ron_spec_words.specs.Runs.{is_at}
use Rattle.ron_spec_words.specs.Reader.{deep, bad, Got, failed, after_gap, needs}
use Rattle.ron_spec_words.proofs.Turns.{after_slash, after_other}
use Rattle.ron_spec_grammar.specs.Data as plain
use Rattle.ron_spec_grammar.specs.Schema.{Shape}
use Rattle.ron_spec_grammar.specs.Room.{enough}
use Rattle.ron_lex.specs.Place.{Place}
use Rattle.ron_de_parts.specs.Terms.{Terms, IsDeeper}
use Rattle.ron_de_parts.specs.Room.{IsRoom, enough_for_items}
use Rattle.ron_de_parts.proofs.RoomLemmas.{room_below, items_inside}

-- behind the opening character, and where a level is left, what is answered is what the inside answers
abbrev pub Opening : (ℕ → Text → Text → Got plain.Data) → Text → Got plain.Data → ℕ → Type 0
Opening inside u answer room = answer ≡ after_gap (λ gap. needs 1 room (inside room gap)) u

module _ (inside : ℕ → Text → Text → Got plain.Data) (u : Text) (answer : Got plain.Data) (room : ℕ) (o : Opening inside u answer room) where
  pub group_slash : is_at 47 (skip u) ≡ true → answer ≡ failed bad
  group_slash e = o ∙ after_slash (λ gap. needs 1 room (inside room gap)) u e

  module _ (no_slash : is_at 47 (skip u) ≡ false) where
    behind_gap : answer ≡ needs 1 room (inside room (gap_of u)) (skip u)
    behind_gap = o ∙ after_other (λ gap. needs 1 room (inside room gap)) u no_slash

    pub group_deep : room ≡ 0 → answer ≡ failed deep
    group_deep e = let level : needs 1 room (inside room (gap_of u)) (skip u) ≡ needs 1 0 (inside 0 (gap_of u)) (skip u) =
        ap (λ k. needs 1 k (inside k (gap_of u)) (skip u)) e in
        behind_gap ∙ level

    group_read : (left : ℕ) (gap rest : Text) → room ≡ suc left → gap ≡ gap_of u → rest ≡ skip u → answer ≡ inside (suc left) gap rest
    group_read left gap rest e g r =
        let level : needs 1 room (inside room (gap_of u)) (skip u) ≡ needs 1 (suc left) (inside (suc left) (gap_of u)) (skip u) =
        ap (λ k. needs 1 k (inside k (gap_of u)) (skip u)) e in
        let left_over : needs 1 (suc left) (inside (suc left) (gap_of u)) (skip u) ≡ inside (suc left) (gap_of u) (skip u) =
        rw (le-leb 1 (suc left) (omega arith)) refl in
        let place : inside (suc left) (gap_of u) (skip u) ≡ inside (suc left) gap rest = ap₂ (inside (suc left)) (sym g) (sym r) in
        behind_gap ∙ level ∙ left_over ∙ place

    -- what is said of the inside, in each room that the limit leaves to it, is said of the group
    module _ (terms inner : Terms) (d : IsDeeper terms inner) (place : Place) (g : place.gap ≡ gap_of u) (w : place.rest ≡ skip u) (levels : ℕ)
        (le : enough_for_items terms.schema (length place.rest) + 1 ≤ levels) (r : IsRoom terms.limit levels room) where
      pub group_said : (P : Got plain.Data → Type 0)
          → ((k : ℕ) → IsRoom inner.limit (enough_for_items inner.schema (length place.rest)) k → P (inside (suc k) place.gap place.rest)) → P answer
      group_said P h =
          let below = room_below terms.limit inner.limit _ _ room d.2 r le in
          subst P (sym (group_read below.left place.gap place.rest below.is g w))
          (h below.left (subst (λ (s : List Shape). IsRoom inner.limit (enough_for_items s (length place.rest)) below.left) (sym d.1) below.is_room))

    -- likewise of the group of a value
    module _ (terms inner : Terms) (d : IsDeeper terms inner) (i : ℕ) (old place : Place) (g : place.gap ≡ gap_of u) (w : place.rest ≡ skip u)
        (shorter : length place.rest < length old.rest) (r : IsRoom terms.limit (enough terms.schema false i (length old.rest)) room) where
      pub group_inside : (P : Got plain.Data → Type 0)
          → ((k : ℕ) → IsRoom inner.limit (enough_for_items inner.schema (length place.rest)) k → P (inside (suc k) place.gap place.rest)) → P answer
      group_inside = group_said terms inner d place g w _ (items_inside terms.schema i (length place.rest) (length old.rest) shorter) r
