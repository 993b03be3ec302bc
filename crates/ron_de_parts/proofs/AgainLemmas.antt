-- A bare raw text that is refused, and what stands there read again.
use Rattle.std.proofs.Common.{◌≡◌, ℕ, ◌+◌, ◌*◌, ◌≤◌, true, false, length, List, [], ◌∷◌, ◌++◌, chars, IsUtf8, Result, Ok, Err, OnOk, sym, ap, ◌∙◌, arith}
use Rattle.ron_spec_words.specs.Characters.{Text}
use Rattle.ron_spec_words.specs.Beyond.{bytes_in}
use Rattle.ron_spec_words.proofs.Sizes.{size_append, size_chars, size_one}
use Rattle.ron_base.specs.declared.error.Error.{Error}
use Rattle.ron_lex_text.specs.Stretch.{IsSuffix}
use Rattle.ron_lex.specs.Place.{Place}
use Rattle.ron_lex.specs.Turns.{Stays, GoesOver, Scans, Moves}
use Rattle.ron_de_steps.specs.Spends.{total_before, allowed, settled, IsReached, IsOpened, Nears, Spends, SpendsAny, SpendsUntyped, SpendsRaw, raw_besides}
use Rattle.ron_de_steps.specs.Spends.{paid_besides}
use Rattle.ron_de_steps.proofs.KeepLemmas.{any_most, then_moves, keeps_as, keeps_but, keeps_err}
use Rattle.ron_de_steps.proofs.LeadLemmas.{opened_stays, opened_reached}
use Rattle.ron_de_steps.proofs.SpendLemmas.{scans_behind}
use Rattle.ron_de_parts.specs.Turns.{SpendsLeaf}
use Rattle.ron_de_parts.proofs.TurnLemmas.{moved_so}

-- ---- what stands before a place

-- of two ends of a text, the one that takes no more bytes is an end of the other
less_end : (f g u v : Text) → f ++ u ≡ g ++ v → bytes_in u ≤ bytes_in v → IsSuffix u v
less_end f [] u v e le = record { front = f; is = sym e }
less_end [] (y ∷ g) u v e le = absurd (omega (arith, ap bytes_in e, size_one y (g ++ v), size_append g v, le))
less_end (x ∷ f) (y ∷ g) u v e le = less_end f g u v (let k = e in cc) le

pub end_within : (rest content : List ℕ) (text : Text) → IsUtf8 rest → IsUtf8 content → IsSuffix (chars rest) text → IsSuffix (chars content) text
    → length rest ≤ length content → IsSuffix (chars rest) (chars content)
end_within rest content text u v h k le =
    less_end h.front k.front (chars rest) (chars content) (sym h.is ∙ k.is) (omega (arith, size_chars rest u, size_chars content v, le))

-- ---- what is gone over again

pub reached_most : {A : Type 0} (here : Place) (r : Result A Error) (new : Place) → SpendsUntyped 2 here r new → IsReached here
    → new.turns ≤ here.turns + (bytes_in here.gap + 6 * bytes_in here.rest)
reached_most here r new h reached = omega (arith, any_most false 2 here r new (omega arith) reached h)

-- a value, and a step behind it
pub any_then : {A B : Type 0} (old mid : Place) (a : A) (r : Result B Error) (new : Place) → SpendsUntyped {E = Error} 2 old (Ok a) mid → Moves 1 mid r new
    → OnOk r (Nears mid new) → SpendsUntyped 2 old r new
any_then old mid a r new h moves near = λ reached c k i. then_moves c k 1 (total_before c k 2 old) a mid r new (h reached c k i) (omega (arith, i)) moves near

-- what stands at the start of bare content, as such
module _ {A : Type 0} (start here : Place) (same : Stays start here) (r : Result A Error) (there : Place) (h : SpendsAny true 2 here r there) where
  first : IsOpened start → there.turns ≤ here.turns + (bytes_in start.gap + 6 * bytes_in start.rest)
  first opened = omega (arith, any_most true 2 here r there (omega arith) (opened_stays start here same opened) h, ap bytes_in same.gap, ap bytes_in same.rest)

  pub bare_again : IsOpened start → there.turns ≤ here.turns + (2 * bytes_in start.gap + 12 * bytes_in start.rest)
  bare_again opened = omega (arith, first opened)

  -- and as one value
  pub both_again : (back new : Place) → Stays start back → back.turns ≡ there.turns
      → (IsReached back → new.turns ≤ back.turns + (bytes_in back.gap + 6 * bytes_in back.rest)) → IsOpened start
      → new.turns ≤ here.turns + (2 * bytes_in start.gap + 12 * bytes_in start.rest)
  both_again back new place turns one opened =
      omega (arith, first opened, turns, one (opened_reached back (opened_stays start back place opened)), ap bytes_in place.gap, ap bytes_in place.rest)

-- all of it
told_within : (k : ℕ) (old start mid : Place) (t : ℕ) → Stays old start → mid.turns ≤ total_before raw_besides k 2 old
    → t ≤ mid.turns + (2 * bytes_in start.gap + 13 * bytes_in start.rest) → t ≤ total_before paid_besides k 2 old
unfolding total_before allowed settled
told_within k old start mid t same most more = omega (arith, most, more, ap bytes_in same.gap, ap bytes_in same.rest)

-- ---- a raw text, and what stands behind it

module _ {A B : Type 0} (old mid : Place) (a : A) (h : SpendsRaw {E = Error} 2 old (Ok a) mid) where
  -- whatever is made of it there
  pub raw_made : (r : Result B Error) → SpendsRaw 2 old r mid
  raw_made (Ok b) = λ reached c k i. keeps_as c k (total_before c k 2 old) a b mid (h reached c k i)
  raw_made (Err e) = λ reached c k i. keeps_err c k (total_before c k 2 old) e mid (h reached c k i).most

module _ {A B : Type 0} (old mid : Place) (a : A) (h : SpendsRaw {E = Error} 2 old (Ok a) mid) (new : Place) where
  pub raw_open : (e : Error) → Scans 1 mid new → SpendsRaw {A = B} 2 old (Err e) new
  raw_open e scans = λ reached c k i. keeps_but c k (total_before c k 2 old) a e mid new (h reached c k i) (scans_behind c k 1 mid new (omega arith) scans)

  pub raw_closed : (b : B) → GoesOver 1 mid new → Nears mid new → SpendsRaw {E = Error} 2 old (Ok b) new
  raw_closed b over near =
      λ reached c k i. then_moves c k 1 (total_before c k 2 old) a mid (Ok b) new (h reached c k i) (omega arith) (moved_so 1 mid new (Ok b) over) near

pub raw_within : {A : Type 0} (old : Place) (r : Result A Error) (new : Place) → SpendsRaw 2 old r new → SpendsLeaf true 2 old r new
raw_within old r new h = λ k opened. h (opened_reached old opened) paid_besides k (omega arith)

pub raw_told : {A B : Type 0} (old start : Place) (r : Result A Error) (mid : Place) → Stays old start → SpendsRaw 2 old r mid → (e : Error) (new : Place)
    → (IsOpened start → new.turns ≤ mid.turns + (2 * bytes_in start.gap + 13 * bytes_in start.rest)) → SpendsLeaf {A = B} true 2 old (Err e) new
raw_told old start r mid same h e new more = λ k opened.
    let one : Spends raw_besides k 2 old r mid = h (opened_reached old opened) raw_besides k (omega arith) in
    keeps_err paid_besides k (total_before paid_besides k 2 old) e new
    (told_within k old start mid new.turns same one.most (more (opened_stays old start same opened)))
