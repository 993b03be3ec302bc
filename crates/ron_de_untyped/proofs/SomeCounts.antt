-- What the way in over Somes, what they hold, and the way out add to the count of turns.
use Rattle.std.proofs.Common.{◌≡◌, ℕ, ◌≤◌, Bool, true, false, codes, drop, ◌∷◌, Result, Ok, Err, subst, arith}
use Rattle.ron_spec_words.specs.Directly.{stands}
use Rattle.ron_spec_words.specs.Gap.{skip, gap_of}
use Rattle.ron_base.specs.declared.error.Error.{Error}
use Rattle.ron_lex.specs.Place.{Place}
use Rattle.ron_lex.specs.Turns.{Stays, GoesOver, Looks, Scans}
use Rattle.ron_de_steps.specs.Spends.{total_behind, total_before, IsReached, IsOpened, SpendsAny, SettlesUntyped, Nears, Enters}
use Rattle.ron_de_steps.proofs.SpendLemmas.{before_more, behind_before, turns_behind, turns_before, before_same, nears_settles, enters_allows, looks_leave}
use Rattle.ron_de_steps.proofs.SpendLemmas.{scans_behind}
use Rattle.ron_de_steps.proofs.NearLemmas.{some_enters}
use Rattle.ron_de_steps.proofs.KeepLemmas.{keeps_ok, keeps_err, keeps_more, keeps_then, over_on, goes_scan}
use Rattle.ron_de_steps.proofs.LeadLemmas.{opened_reached, opened_stays, reached_stays, inside_some, inside_opened}
use Rattle.ron_de_untyped.specs.Count.{EntersUntyped, SettlesBehind}

-- ---- behind a value

pub behind_here : {A E : Type 0} (place : Place) (a : A) → SettlesBehind {E = E} place (Ok a) place
behind_here place a = λ c k i. keeps_ok c k (total_behind c k place) a place (omega arith)

-- what is read so far, and what stands behind it
pub behind_then : {A B E F : Type 0} (old mid new : Place) (a : A) (r : Result B F) → SettlesBehind {E = E} old (Ok a) mid → SettlesBehind mid r new
    → SettlesBehind old r new
behind_then old mid new a r h s = λ c k i. keeps_then c k (total_behind c k old) a mid r new (h c k i) (s c k i)

-- a step, and what is made of it
pub behind_so : {A E : Type 0} (old new : Place) (r : Result A E) → GoesOver 1 old new → Nears old new → SettlesBehind old r new
behind_so old new (Ok a) h near = λ c k i. keeps_ok c k (total_behind c k old) a new (nears_settles c k 1 old new (omega arith) h near)
behind_so old new (Err e) h near =
    λ c k i. keeps_err c k (total_behind c k old) e new (omega (arith, turns_behind c k new, nears_settles c k 1 old new (omega arith) h near))

pub behind_open : {A E : Type 0} (old new : Place) (e : E) → Scans 1 old new → SettlesBehind {A = A} old (Err e) new
behind_open old new e h = λ c k i. keeps_err c k (total_behind c k old) e new (scans_behind c k 1 old new (omega arith) h)

-- ---- in parentheses

module _ (old inner : Place) (over : GoesOver 1 old inner) (enters : Enters old inner) (opens : IsReached old → IsOpened inner) where
  within : (c k : ℕ) → total_before c k 3 inner ≤ total_behind c k old
  within c k = enters_allows c k 3 old inner (omega arith) over enters

  pub in_refused : {A E : Type 0} (new : Place) (e : E) → (IsOpened inner → (c k : ℕ) → 1 ≤ c → new.turns ≤ total_before c k 3 inner)
      → SettlesUntyped {A = A} old (Err e) new
  in_refused new e h = λ reached c k i. keeps_err c k (total_behind c k old) e new (omega (arith, h (opens reached) c k i, within c k))

  -- where no level is left
  pub in_ended : {A E : Type 0} (e : E) → SettlesUntyped {A = A} old (Err e) inner
  in_ended e = in_refused inner e (λ o c k i. turns_before c k 3 inner)

  -- however deep, what is held, and what closes all
  module _ (mid : Place) (h : IsOpened inner → (c k : ℕ) → 1 ≤ c → total_before c k 2 mid ≤ total_before c k 3 inner) (on : IsOpened inner → IsOpened mid) where
    deep_within : IsReached old → (c k : ℕ) → 1 ≤ c → total_before c k 2 mid ≤ total_behind c k old
    deep_within reached c k i = omega (arith, h (opens reached) c k i, within c k)

    pub in_unread : {A B E F : Type 0} (new : Place) (e : E) (f : F) → SpendsAny {A = A} true 2 mid (Err e) new → SettlesUntyped {A = B} old (Err f) new
    in_unread new e f s = λ reached c k i. let held = s (on (opens reached)) c k i in
        keeps_err c k (total_behind c k old) f new (omega (arith, held.most, deep_within reached c k i))

    pub in_settled : {A B E F : Type 0} (end new : Place) (a : A) (r : Result B F) → SpendsAny {E = E} true 2 mid (Ok a) end → SettlesBehind end r new
        → SettlesUntyped old r new
    in_settled end new a r s behind = λ reached c k i. keeps_more c k (total_before c k 2 mid) (total_behind c k old) r new (deep_within reached c k i)
        (keeps_then c k (total_before c k 2 mid) a end r new (s (on (opens reached)) c k i) (behind c k i))

-- ---- a further Some, behind the kind of what is held

module _ (old mid : Place) (s : Stays old mid) (l : IsOpened old → mid.turns ≤ old.turns) where
  -- what is allowed here is allowed before
  still : IsOpened old → (c k m : ℕ) → total_before c k m mid ≤ total_before c k m old
  still o c k m = before_same c k m old mid s (l o)

  pub next_unknown : (e : Error) → EntersUntyped old (Err e) mid
  next_unknown e = λ o c k i. omega (arith, l o, turns_before c k 3 old)

  pub next_other : EntersUntyped old (Ok false) mid
  next_other = λ o c k i. omega (arith, still o c k 2, before_more c k 2 3 old (omega arith))

  pub next_none : (new : Place) → Stays mid new → Looks 1 mid new → EntersUntyped old (Ok false) new
  next_none new t looks = λ o c k i. omega (arith, still o c k 3, looks_leave c k 1 2 3 mid new (omega arith) t looks)

  module _ (there new : Place) (over : GoesOver 1 mid there) where
    pub next_slash : (e : Error) → Scans 1 there new → EntersUntyped old (Err e) new
    next_slash e scans =
        λ o c k i. omega (arith, still o c k 3, behind_before c k 3 mid, scans_behind c k 1 mid new (omega arith) (goes_scan 1 mid there new over scans))

    module _ (h : stands (codes "Some") mid.rest ≡ true) (f : skip (drop 4 mid.rest) ≡ 40 ∷ there.rest) (g : new.rest ≡ skip there.rest) where
      pub next_some : new.gap ≡ gap_of there.rest → GoesOver 1 there new → EntersUntyped old (Ok true) new
      next_some e gap = λ o c k i. omega (
        arith,
        still o c k 3,
        behind_before c k 3 mid,
        enters_allows c k 3 mid new (omega arith) (over_on 1 mid there new over gap) (some_enters mid there new h f e g),
      )

      pub next_opens : there.text ≡ mid.text → new.text ≡ there.text → IsOpened old → IsOpened new
      next_opens t u o = inside_opened there new u g (inside_some mid there t h f (reached_stays old mid s (opened_reached old o)))

  pub other_opens : (new : Place) → Stays mid new → IsOpened old → IsOpened new
  other_opens new t o = opened_stays mid new t (opened_stays old mid s o)

-- whether there is one, as it is told
module _ (b : Bool) (old new : Place) (h : EntersUntyped old (Ok b) new) where
  pub entered_counts : b ≡ true → IsOpened old → (c k : ℕ) → 1 ≤ c → total_before c k 3 new ≤ total_before c k 3 old
  entered_counts e = subst (λ (z : Bool). EntersUntyped old (Ok z) new) e h

  pub stayed_counts : b ≡ false → IsOpened old → (c k : ℕ) → 1 ≤ c → total_before c k 2 new ≤ total_before c k 3 old
  stayed_counts e = subst (λ (z : Bool). EntersUntyped old (Ok z) new) e h
