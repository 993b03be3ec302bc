-- Items, a turn of the loop in `read` at a time.
use Rattle.std.proofs.Common.{◌≡◌, ℕ, ◌≤◌, ◌==◌, Bool, true, false, not, ◌&&◌, cond, List, [], ◌∷◌, ◌++◌, length, map, Option, Some, None, refl, sym, ap, subst}
use Rattle.std.proofs.Common.{◌∙◌, arith}
use Rattle.std.proofs.lemmas.Bool.{eqb-true, not-false, not-true}
use Rattle.std.proofs.lemmas.List.{map-append}
use Rattle.std.proofs.lemmas.Option.{same_Some}
use Rattle.ron_spec_words.specs.Characters.{Text}
use Rattle.ron_spec_words.specs.Gap.{skip, gap_of}
use Rattle.ron_spec_words.specs.Runs.{is_at}
use Rattle.ron_spec_words.specs.Turns.{all_items}
use Rattle.ron_spec_words.specs.Reader.{bad, Got, got, failed, Reader, items}
use Rattle.ron_spec_words.proofs.Turns.{Shrinks, after_slash, after_other, in_order}
use Rattle.ron_base.specs.declared.error.Error.{Error}
use Rattle.ron_base.specs.Class.{ErrorClass, class_of}
use Rattle.ron_lex.specs.Place.{Place}
use Rattle.ron_de_steps.proofs.ErrorLemmas.{fault_of, is_fault, memory_or_more}
use Rattle.ron_de_steps.proofs.RoomLemmas.{room_less}
use Rattle.ron_de_steps.proofs.StepLemmas.{unless_some, unless_none}
use Rattle.ron_de_steps.specs.Errors.{IsMemoryOr}
use Rattle.ron_de_steps.specs.Reads.{IsFaultOf}
use Rattle.ron_de_steps.specs.Room.{IsRoom}
use Rattle.ron_de_steps.specs.Steps.{unless_slash, at_comma, past_comma}
use Rattle.ron_de_untyped.specs.Room.{enough_for_items}
use Rattle.ron_de_untyped.specs.Comma.{FollowsBy}
use Rattle.ron_de_untyped.proofs.ItemTurns.{all_from, all_over, all_failed, all_last, all_slash, all_more, meant_same}

-- ---- a comma, or none

-- a comma, and the gap behind it
abbrev IsComma : Text → Text × Text → Type 0
IsComma s there = (u : Text) × (s ≡ 44 ∷ u) × (is_at 47 (skip u) ≡ false) × (there ≡ (gap_of u, skip u))

-- Where the step past a comma led: behind one, or nowhere else.
abbrev Led : Text → Text → Bool → Text × Text → Type 0
Led gap s true there = IsComma s there
Led gap s false there = (is_at 44 s ≡ false) × (there ≡ (gap, s))

told : (one other : Bool × (Text × Text)) → Some one ≡ Some other → (other.0 ≡ one.0) × (other.1 ≡ one.1)
told one other e = let same : other ≡ one = same_Some other one (sym e) in
    (ap (λ (z : Bool × (Text × Text)). z.0) same, ap (λ (z : Bool × (Text × Text)). z.1) same)

module _ (gap : Text) where
  comma_led : (s : Text) (passed : Bool) (there : Text × Text) → at_comma gap s ≡ Some (passed, there) → Led gap s passed there
  comma_led [] passed there e = let n = told (false, (gap, [])) (passed, there) e in subst (λ (b : Bool). Led gap [] b there) (sym n.0) (refl, n.1)
  comma_led (c ∷ s) passed there e = go (c == 44) refl e
    where
      go : (a : Bool) → (c == 44) ≡ a → cond {A = Option (Bool × (Text × Text))} a (unless_slash s (Some (true, (gap_of s, skip s))))
          (Some (false, (gap, c ∷ s))) ≡ Some (passed, there) → Led gap (c ∷ s) passed there
      go true p r =
          let n = unless_some s (Some (true, (gap_of s, skip s))) (passed, there) r in
          let m = told (true, (gap_of s, skip s)) (passed, there) n.1 in
          subst (λ (b : Bool). Led gap (c ∷ s) b there) (sym m.0) (s, ap (λ k. k ∷ s) (eqb-true c 44 p), n.0, m.1)
      go false p r = let m = told (false, (gap, c ∷ s)) (passed, there) r in subst (λ (b : Bool). Led gap (c ∷ s) b there) (sym m.0) (p, m.1)

  comma_none : (s : Text) → at_comma gap s ≡ None → (u : Text) × (s ≡ 44 ∷ u) × (is_at 47 (skip u) ≡ true)
  comma_none [] e = absurd (cc)
  comma_none (c ∷ s) e = go (c == 44) refl e
    where
      go : (a : Bool) → (c == 44) ≡ a → cond {A = Option (Bool × (Text × Text))} a (unless_slash s (Some (true, (gap_of s, skip s))))
          (Some (false, (gap, c ∷ s))) ≡ None → (u : Text) × (c ∷ s ≡ 44 ∷ u) × (is_at 47 (skip u) ≡ true)
      go true p r = (s, ap (λ k. k ∷ s) (eqb-true c 44 p), unless_none s (true, (gap_of s, skip s)) r)
      go false p r = absurd (cc)

-- ---- the loop

module _ {A V : Type 0} (item : ℕ → Text → Reader A) (view : V → A) (close : ℕ) (shrink : (room : ℕ) → Shrinks (λ (seen : List A). item room))
    (limit : Option ℕ) where
  -- all items from a place on, with those before it
  abbrev pub from : ℕ → List A → Text → Text → Got (List A)
  from room = all_from (λ _. item room) close

  -- what is answered from a place on: that of all items, or where none follows these
  abbrev pub Goes : Bool → ℕ → List A → Place → Got (List A)
  Goes true room seen place = from room seen place.gap place.rest
  Goes false room seen place = got (all_items seen []) place.rest

  -- so far: these items are read, in this order, and what is answered follows from here
  pub record ItemsRead (more : Bool) (vs : List V) (old now : Place) : Type 0 where
    pub seen : List A
    pub seen_in_order : all_items seen [] ≡ map view vs
    pub no_longer : length now.rest ≤ length old.rest
    pub stands : (room : ℕ) → IsRoom limit (enough_for_items (length old.rest)) room → from room [] old.gap old.rest ≡ Goes more room seen now
    pub still : more ≡ true → is_at close now.rest ≡ false

  -- what is read of the whole
  abbrev pub whole : ℕ → Place → Got (List A)
  whole room place = items (λ _. item room) close place.gap place.rest

  is_whole : (room : ℕ) (place : Place) → whole room place ≡ from room [] place.gap place.rest
  is_whole room place = sym (meant_same (whole room place))

  pub all_read : (more : Bool) (vs : List V) (old now : Place) → more ≡ false → ItemsRead more vs old now → (room : ℕ)
      → IsRoom limit (enough_for_items (length old.rest)) room → whole room old ≡ got (map view vs) now.rest
  all_read true vs old now e h room r = absurd (cc)
  all_read false vs old now e h room r = is_whole room old ∙ h.stands room r ∙ ap (λ xs. got xs now.rest) h.seen_in_order

  module _ (flag : Bool) (vs : List V) (old now : Place) (e : flag ≡ true) (g : ItemsRead flag vs old now) where
    h : ItemsRead true vs old now
    h = subst (λ (b : Bool). ItemsRead b vs old now) e g

    -- what reading the next item gives, in each room
    abbrev pub ReadsNext : (Got A → Type 0) → Type 0
    ReadsNext P = (room : ℕ) → IsRoom limit (enough_for_items (length now.rest)) room → P (item room now.gap now.rest)

    room_now : (room : ℕ) → IsRoom limit (enough_for_items (length old.rest)) room → IsRoom limit (enough_for_items (length now.rest)) room
    room_now room r = room_less limit _ _ room r (let le = h.no_longer in omega (arith, le))

    from_here : (room : ℕ) → IsRoom limit (enough_for_items (length old.rest)) room → whole room old ≡ from room h.seen now.gap now.rest
    from_here room r = is_whole room old ∙ h.stands room r

    pub item_fails : (k : ErrorClass) → ReadsNext (IsFaultOf k) → (room : ℕ) → IsRoom limit (enough_for_items (length old.rest)) room
        → IsFaultOf k (whole room old)
    item_fails k next room r = fault_of k _ _
        (λ x f. from_here room r ∙ all_failed (λ _. item room) close (shrink room) h.seen now.gap now.rest (h.still refl) x f) (next room (room_now room r))

    module _ (v : V) (rest : Text) (next : ReadsNext (λ o. o ≡ got (view v) rest)) where
      pub comma_fails : (code : Error) → IsMemoryOr (past_comma rest ≡ None) code → (room : ℕ) → IsRoom limit (enough_for_items (length old.rest)) room
          → IsFaultOf (class_of code) (whole room old)
      comma_fails code t room r = is_fault (class_of code) _ (memory_or_more code (λ n. from_here room r ∙ at_gap (is_at 47 (skip rest)) refl n) t)
        where
          at_gap : (b : Bool) → is_at 47 (skip rest) ≡ b → cond b None (at_comma (gap_of rest) (skip rest)) ≡ None
              → from room h.seen now.gap now.rest ≡ failed bad
          at_gap true k q = all_slash (λ _. item room) close (shrink room) h.seen now.gap now.rest (h.still refl) (view v) rest (next room (room_now room r)) k
          at_gap false k q =
              let n = comma_none (gap_of rest) (skip rest) q in
              all_more (λ _. item room) close (shrink room) h.seen now.gap now.rest (h.still refl) (view v) rest (next room (room_now room r)) n.0 n.1
              ∙ after_slash (from room (view v ∷ h.seen)) n.0 n.2

      -- where the step past a comma led
      led : (passed : Bool) (place : Place) → past_comma rest ≡ Some (passed, (place.gap, place.rest))
          → (is_at 47 (skip rest) ≡ false) × Led (gap_of rest) (skip rest) passed (place.gap, place.rest)
      led passed place e =
          let n = unless_some rest (at_comma (gap_of rest) (skip rest)) (passed, (place.gap, place.rest)) e in
          (n.0, comma_led (gap_of rest) (skip rest) passed (place.gap, place.rest) n.1)

      -- behind a comma all goes on
      past : (place : Place) → IsComma (skip rest) (place.gap, place.rest) → (room : ℕ) → IsRoom limit (enough_for_items (length old.rest)) room
          → from room h.seen now.gap now.rest ≡ from room (view v ∷ h.seen) place.gap place.rest
      past place c room r =
          all_more (λ _. item room) close (shrink room) h.seen now.gap now.rest (h.still refl) (view v) rest (next room (room_now room r)) c.0 c.1
          ∙ after_other (from room (view v ∷ h.seen)) c.0 c.2
          ∙ ap (λ (z : Text × Text). from room (view v ∷ h.seen) z.0 z.1) (sym c.3)

      turn : (passed more : Bool) (place : Place) → past_comma rest ≡ Some (passed, (place.gap, place.rest)) → more ≡ (passed && not (is_at close place.rest))
          → (room : ℕ) → IsRoom limit (enough_for_items (length old.rest)) room → from room h.seen now.gap now.rest ≡ Goes more room (view v ∷ h.seen) place
      turn true true place e m room r = past place (led true place e).1 room r
      turn true false place e m room r = past place (led true place e).1 room r
          ∙ all_over (λ _. item room) close (shrink room) (view v ∷ h.seen) place.gap place.rest (not-false (is_at close place.rest) (sym m))
      turn false true place e m room r = absurd (cc)
      turn false false place e m room r =
          let c = led false place e in
          all_last (λ _. item room) close (shrink room) h.seen now.gap now.rest (h.still refl) (view v) rest (next room (room_now room r)) c.0 c.1.0
          ∙ ap (λ (z : Text × Text). got (all_items (view v ∷ h.seen) []) z.1) (sym c.1.1)

      still_there : (passed more : Bool) (s : Text) → more ≡ (passed && not (is_at close s)) → more ≡ true → is_at close s ≡ false
      still_there true more s m t = not-true (is_at close s) (sym m ∙ t)
      still_there false more s m t = absurd (let k : true ≡ false = sym t ∙ m in cc)

      pub one_more : (more : Bool) (place : Place) (ws : List V) → ws ≡ vs ++ v ∷ [] → FollowsBy close (past_comma rest) more place
          → length place.rest ≤ length now.rest → ItemsRead more ws old place
      one_more more place ws m follows shorter = record {
        seen = view v ∷ h.seen;
        seen_in_order = in_order h.seen [] (view v ∷ []) ∙ ap (λ xs. xs ++ view v ∷ []) h.seen_in_order ∙ sym (ap (map view) m ∙ map-append view vs (v ∷ []));
        no_longer = let le = h.no_longer in omega (arith, shorter, le);
        stands = λ room r. h.stands room r ∙ turn follows.passed more place follows.is follows.more_is room r;
        still = still_there follows.passed more place.rest follows.more_is;
      }
