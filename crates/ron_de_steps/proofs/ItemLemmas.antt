-- Items between brackets, a turn of the code's loop at a time: for lists, tuples, maps and fields alike.
use Rattle.std.proofs.Common.{◌≡◌, ℕ, ◌≤◌, eqb, ◌==◌, Bool, true, false, cond, ◌⊎◌, inl, inr, List, [], ◌∷◌, length, Option, Some, None, option_and_then, refl}
use Rattle.std.proofs.Common.{sym, ap, ap₂, ◌∙◌, arith}
use Rattle.std.proofs.lemmas.Bool.{eqb-true}
use Rattle.std.proofs.lemmas.Option.{same_Some}
use Rattle.ron_spec_words.specs.Characters.{Text}
use Rattle.ron_spec_words.specs.Gap.{skip, gap_of}
use Rattle.ron_spec_words.specs.Runs.{is_at}
use Rattle.ron_spec_words.specs.Turns.{all_items}
use Rattle.ron_spec_words.specs.Reader.{Fault, bad, Got, got, failed, given, after_gap}
use Rattle.ron_spec_words.proofs.Exactly.{is_at_other}
use Rattle.ron_spec_words.proofs.Turns.{after_slash, after_other}
use Rattle.ron_base.specs.declared.error.Error.{Error}
use Rattle.ron_base.specs.Class.{ErrorClass, class_of}
use Rattle.ron_lex.specs.Place.{Place}
use Rattle.ron_de_steps.specs.Errors.{IsMemoryOr}
use Rattle.ron_de_steps.specs.Reads.{IsFaultOf}
use Rattle.ron_de_steps.specs.Room.{IsRoom}
use Rattle.ron_de_steps.specs.Steps.{unless_slash, at_comma, or_closed, past_item}
use Rattle.ron_de_steps.proofs.ErrorLemmas.{fault_of, is_fault, memory_or_more}
use Rattle.ron_de_steps.proofs.RoomLemmas.{room_less}
use Rattle.ron_de_steps.proofs.StepLemmas.{unless_some, unless_none}

-- ---- a gap, and no slash behind it

-- a mark that stands there is followed by the rest
pub at_mark : (c : ℕ) (s : Text) → is_at c s ≡ true → (u : Text) × (s ≡ c ∷ u)
at_mark c [] e = absurd (cc)
at_mark c (d ∷ s) e = (s, ap (λ k. k ∷ s) (eqb-true d c e))

-- and texts that are the same have the same rest
pub tail_same : {A : Type 0} (xs ys : List A) {a b : A} → a ∷ xs ≡ b ∷ ys → xs ≡ ys
tail_same xs ys e = cc

-- ---- a comma, or the closing character

-- behind this gap, behind a comma and its gap, or at the closing character
abbrev pub at_item : ℕ → Text → Text → Option (Text × Text)
at_item close gap [] = None
at_item close gap (c ∷ s) = cond (c == 44) (unless_slash s (Some (gap_of s, skip s))) (cond (c == close) (Some (gap, c ∷ s)) None)

-- the step behind an item leads there
pub item_is : (close : ℕ) (s : Text) → past_item close s ≡ unless_slash s (at_item close (gap_of s) (skip s))
item_is close s = go (is_at 47 (skip s))
  where
    behind : (c : Bool) (u : Text) → option_and_then (λ (p : Bool × (Text × Text)). or_closed close p.0 p.1) (cond c None (Some (true, (gap_of u, skip u))))
        ≡ cond c None (Some (gap_of u, skip u))
    behind true u = refl
    behind false u = refl

    led : (b : Bool) (gap : Text) (c : ℕ) (u : Text) → option_and_then (λ (p : Bool × (Text × Text)). or_closed close p.0 p.1)
        (cond b (unless_slash u (Some (true, (gap_of u, skip u)))) (Some (false, (gap, c ∷ u))))
        ≡ cond b (unless_slash u (Some (gap_of u, skip u))) (cond (c == close) (Some (gap, c ∷ u)) None)
    led true gap c u = behind (is_at 47 (skip u)) u
    led false gap c u = refl

    at : (gap t : Text) → option_and_then (λ (p : Bool × (Text × Text)). or_closed close p.0 p.1) (at_comma gap t) ≡ at_item close gap t
    at gap [] = refl
    at gap (c ∷ u) = led (c == 44) gap c u

    go : (b : Bool) → option_and_then (λ (p : Bool × (Text × Text)). or_closed close p.0 p.1) (cond b None (at_comma (gap_of s) (skip s)))
        ≡ cond b None (at_item close (gap_of s) (skip s))
    go true = refl
    go false = at (gap_of s) (skip s)

module _ (close : ℕ) (gap : Text) where
  pub comma_cases : (s g t : Text) → at_item close gap s ≡ Some (g, t)
      → ((u : Text) × (s ≡ 44 ∷ u) × (is_at 47 (skip u) ≡ false) × (gap_of u ≡ g) × (skip u ≡ t)) ⊎ ((u : Text) × (s ≡ close ∷ u) × (close ∷ u ≡ t))
  comma_cases [] g t e = absurd (cc)
  comma_cases (c ∷ s) g t e = go (eqb c 44) (eqb c close) refl refl e
    where
      go : (a b : Bool) → eqb c 44 ≡ a → eqb c close ≡ b
          → cond {A = Option (Text × Text)} a (unless_slash s (Some (gap_of s, skip s))) (cond b (Some (gap, c ∷ s)) None) ≡ Some (g, t)
          → ((u : Text) × (c ∷ s ≡ 44 ∷ u) × (is_at 47 (skip u) ≡ false) × (gap_of u ≡ g) × (skip u ≡ t)) ⊎ ((u : Text) × (c ∷ s ≡ close ∷ u) × (close ∷ u ≡ t))
      go true b p q r =
          let n = unless_some s (Some (gap_of s, skip s)) (g, t) r in
          let k = same_Some (gap_of s, skip s) (g, t) n.1 in
          inl (s, ap (λ k. k ∷ s) (eqb-true c 44 p), n.0, ap (λ (z : Text × Text). z.0) k, ap (λ (z : Text × Text). z.1) k)
      go false true p q r =
          let same : c ≡ close = eqb-true c close q in
          let k = same_Some (gap, c ∷ s) (g, t) r in
          inr (s, ap (λ k. k ∷ s) same, ap (λ k. k ∷ s) (sym same) ∙ ap (λ (z : Text × Text). z.1) k)
      go false false p q r = absurd (cc)

  comma_none : (s : Text) → at_item close gap s ≡ None
      → ((is_at 44 s ≡ false) × (is_at close s ≡ false)) ⊎ ((u : Text) × (s ≡ 44 ∷ u) × (is_at 47 (skip u) ≡ true))
  comma_none [] e = inl (refl, refl)
  comma_none (c ∷ s) e = go (eqb c 44) (eqb c close) refl refl e
    where
      go : (a b : Bool) → eqb c 44 ≡ a → eqb c close ≡ b
          → cond {A = Option (Text × Text)} a (unless_slash s (Some (gap_of s, skip s))) (cond b (Some (gap, c ∷ s)) None) ≡ None
          → ((eqb c 44 ≡ false) × (eqb c close ≡ false)) ⊎ ((u : Text) × (c ∷ s ≡ 44 ∷ u) × (is_at 47 (skip u) ≡ true))
      go true b p q r = inr (s, ap (λ k. k ∷ s) (eqb-true c 44 p), unless_none s (gap_of s, skip s) r)
      go false true p q r = absurd (cc)
      go false false p q r = inl (p, q)

-- ---- a turn of the reader function

-- Of a group, `item` reads an item and `group` all from a place on, each in a room, with the items before the place, the last of them first, and behind a gap:
-- over, an item that fails, the last one, one with neither a comma nor the bracket behind it, and one with more behind it.
pub record HasTurns {A B : Type 0} (item : ℕ → List A → Text → Text → Got A) (group : ℕ → List A → Text → Text → Got B) (close : ℕ)
    (f : List A → Option B) : Type 0 where
  pub over : (room : ℕ) (seen : List A) (gap s u : Text) → s ≡ close ∷ u → group room seen gap s ≡ given (f (all_items seen [])) u
  pub fails : (room : ℕ) (seen : List A) (gap s : Text) → is_at close s ≡ false → (x : Fault) → item room seen gap s ≡ failed x
      → group room seen gap s ≡ failed x
  pub last : (room : ℕ) (seen : List A) (gap s : Text) → is_at close s ≡ false → (a : A) (rest u : Text) → item room seen gap s ≡ got a rest
      → skip rest ≡ close ∷ u → group room seen gap s ≡ given (f (all_items (a ∷ seen) [])) u
  pub stays_open : (room : ℕ) (seen : List A) (gap s : Text) → is_at close s ≡ false → (a : A) (rest : Text) → item room seen gap s ≡ got a rest
      → is_at 44 (skip rest) ≡ false → is_at close (skip rest) ≡ false → group room seen gap s ≡ failed bad
  pub goes_on : (room : ℕ) (seen : List A) (gap s : Text) → is_at close s ≡ false → (a : A) (rest u : Text) → item room seen gap s ≡ got a rest
      → skip rest ≡ 44 ∷ u → group room seen gap s ≡ after_gap (group room (a ∷ seen)) u
  pub no_slash : (47 == close) ≡ false

-- ---- a turn of the loop

module _ {A B : Type 0} (item : ℕ → List A → Text → Text → Got A) (group : ℕ → List A → Text → Text → Got B) (close : ℕ) (f : List A → Option B)
    (turns : HasTurns item group close f) (limit : Option ℕ) (levels : ℕ → ℕ) (rises : (m n : ℕ) → m ≤ n → levels m ≤ levels n) where
  -- the room that the limit leaves to the items from a place on
  abbrev pub IsRoomAt : Text → ℕ → Type 0
  IsRoomAt s room = IsRoom limit (levels (length s)) room

  -- so far: these items are read, and what is answered follows from here
  pub record ItemsRead (seen : List A) (old now : Place) : Type 0 where
    pub no_longer : length now.rest ≤ length old.rest
    pub reads : (room : ℕ) → IsRoom limit (levels (length old.rest)) room → group room [] old.gap old.rest ≡ group room seen now.gap now.rest

  pub no_items : (place : Place) → ItemsRead [] place place
  no_items place = record { no_longer = omega arith; reads = λ room r. refl }

  module _ (seen : List A) (old now : Place) (z : ItemsRead seen old now) where
    pub room_now : (room : ℕ) → IsRoomAt old.rest room → IsRoomAt now.rest room
    room_now room r = room_less limit _ _ room r (rises (length now.rest) (length old.rest) z.no_longer)

    pub items_over : (u : Text) → now.rest ≡ close ∷ u → (room : ℕ) → IsRoomAt old.rest room → group room [] old.gap old.rest ≡ given (f (all_items seen [])) u
    items_over u e room r = z.reads room r ∙ turns.over room seen now.gap now.rest u e

    module _ (still : is_at close now.rest ≡ false) where
      pub item_fails : (k : ErrorClass) → ((room : ℕ) → IsRoomAt now.rest room → IsFaultOf k (item room seen now.gap now.rest)) → (room : ℕ)
          → IsRoomAt old.rest room → IsFaultOf k (group room [] old.gap old.rest)
      item_fails k g room r = fault_of k _ _ (λ x e. z.reads room r ∙ turns.fails room seen now.gap now.rest still x e) (g room (room_now room r))

      module _ (a : A) (rest : Text) (g : (room : ℕ) → IsRoomAt now.rest room → item room seen now.gap now.rest ≡ got a rest) where
        pub comma_fails : (e : Error) → IsMemoryOr (past_item close rest ≡ None) e → (room : ℕ) → IsRoomAt old.rest room
            → IsFaultOf (class_of e) (group room [] old.gap old.rest)
        comma_fails e t room r = is_fault (class_of e) _ (memory_or_more e open_still t)
          where
            open_still : past_item close rest ≡ None → group room [] old.gap old.rest ≡ failed bad
            open_still h = z.reads room r ∙ at_gap (is_at 47 (skip rest)) refl (sym (item_is close rest) ∙ h)
              where
                read_here : item room seen now.gap now.rest ≡ got a rest
                read_here = g room (room_now room r)

                at_gap : (b : Bool) → is_at 47 (skip rest) ≡ b → cond b None (at_item close (gap_of rest) (skip rest)) ≡ None
                    → group room seen now.gap now.rest ≡ failed bad
                at_gap true k q = turns.stays_open room seen now.gap now.rest still a rest read_here (is_at_other 47 44 (skip rest) k refl)
                    (is_at_other 47 close (skip rest) k turns.no_slash)
                at_gap false k q = elim (comma_none close (gap_of rest) (skip rest) q) [
                  | inl n ↦ turns.stays_open room seen now.gap now.rest still a rest read_here n.0 n.1
                  | inr n ↦ turns.goes_on room seen now.gap now.rest still a rest n.0 read_here n.1 ∙ after_slash (group room (a ∷ seen)) n.0 n.2
                ]

        pub one_more : (next : Place) → past_item close rest ≡ Some (next.gap, next.rest) → length next.rest ≤ length now.rest → ItemsRead (a ∷ seen) old next
        one_more next c shorter =
            record { no_longer = omega (arith, shorter, z.no_longer); reads = λ room r. z.reads room r ∙ step room (g room (room_now room r)) }
          where
            step : (room : ℕ) → item room seen now.gap now.rest ≡ got a rest → group room seen now.gap now.rest ≡ group room (a ∷ seen) next.gap next.rest
            step room e = elim
                (comma_cases close (gap_of rest) (skip rest) next.gap next.rest (unless_some rest _ (next.gap, next.rest) (sym (item_is close rest) ∙ c)).1) [
                  | inl p ↦ turns.goes_on room seen now.gap now.rest still a rest p.0 e p.1 ∙ after_other (group room (a ∷ seen)) p.0 p.2
                      ∙ ap₂ (group room (a ∷ seen)) p.3 p.4
                  | inr p ↦ turns.last room seen now.gap now.rest still a rest p.0 e p.1 ∙ sym (turns.over room (a ∷ seen) next.gap next.rest p.0 (sym p.2))
                ]
