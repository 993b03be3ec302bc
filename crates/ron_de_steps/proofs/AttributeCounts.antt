-- What reading a head adds to the count of turns: twice what is gone past.
use Rattle.std.proofs.Common.{◌≡◌, ℕ, ◌≤◌, Bool, true, false, MatchBool, ◌++◌, Result, Ok, Err, OnOk, ◌∷◌, ap, subst, arith}
use Rattle.ron_spec_words.specs.Beyond.{bytes_in}
use Rattle.ron_spec_words.specs.Characters.{Text}
use Rattle.ron_spec_words.specs.Gap.{skip}
use Rattle.ron_spec_words.proofs.Sizes.{size_one, size_skip}
use Rattle.ron_lex.specs.Place.{Place}
use Rattle.ron_lex.specs.Turns.{GoesOver, Moves}
use Rattle.ron_lex.proofs.TurnLemmas.{mark_over}
use Rattle.ron_de_steps.specs.Spends.{Nears}

-- what is gone past once is gone past twice
pub over_twice : (old new : Place) → GoesOver 1 old new → bytes_in new.rest ≤ bytes_in old.rest → GoesOver 2 old new
over_twice old new h le = omega (arith, h, le)

pub mark_twice : (c : ℕ) (old new : Place) → GoesOver 1 old new → old.rest ≡ c ∷ new.rest → GoesOver 2 old new
mark_twice c old new h e = over_twice old new h (omega (arith, size_one c new.rest, ap bytes_in e))

pub gap_twice : (old new : Place) → GoesOver 1 old new → new.rest ≡ skip old.rest → GoesOver 2 old new
gap_twice old new h e = over_twice old new h (omega (arith, size_skip old.rest, ap bytes_in e))

pub same_twice : (old mid new : Place) → mid ≡ old → GoesOver 2 mid new → GoesOver 2 old new
same_twice old mid new e h = subst (λ (p : Place). GoesOver 2 p new) e h

-- a mark, and the gap behind it
pub mark_and_gap : {A E : Type 0} (c : ℕ) (old mid : Place) (r : Result A E) (new : Place) → GoesOver 1 old mid → old.rest ≡ c ∷ mid.rest → Moves 1 mid r new
    → OnOk r (new.rest ≡ skip mid.rest) → Moves 2 old r new
mark_and_gap c old mid (Ok a) new h e m s =
    record { moved = omega (arith, mark_twice c old mid h e, gap_twice mid new m.moved s); most = omega (arith, mark_twice c old mid h e, m.most) }
mark_and_gap c old mid (Err x) new h e m s = record { moved = tt; most = omega (arith, mark_twice c old mid h e, m.most) }

pub moved_twice : {A E : Type 0} (old : Place) (r : Result A E) (new : Place) → Moves 1 old r new → OnOk r (Nears old new) → Moves 2 old r new
moved_twice old (Ok a) new m near = record { moved = over_twice old new m.moved near.less; most = omega (arith, m.most) }
moved_twice old (Err x) new m near = record { moved = tt; most = omega (arith, m.most) }

-- what goes over twice its bytes, and something behind it
pub then_moved : {A E : Type 0} (old mid : Place) (r : Result A E) (new : Place) → GoesOver 2 old mid → Moves 2 mid r new → Moves 2 old r new
then_moved old mid (Ok a) new h m = record { moved = omega (arith, h, m.moved); most = omega (arith, h, m.most) }
then_moved old mid (Err x) new h m = record { moved = tt; most = omega (arith, h, m.most) }

-- a word that stands there, or doesn't
pub word_twice : (b : Bool) (word : Text) (old new : Place) → MatchBool b (old.rest ≡ word ++ new.rest) (new ≡ old) → GoesOver 1 old new → GoesOver 2 old new
word_twice true word old new e h = mark_over word old new e h
word_twice false word old new e h = subst (λ (p : Place). GoesOver 2 p new) e (omega arith)
