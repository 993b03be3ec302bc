-- The laws of a value at a place, for reader functions and languages with a level for each number of room.
use Rattle.std.proofs.Common.{◌≡◌, ℕ, ◌+◌, ◌≤◌, ◌++◌, ◌⊎◌, inl, inr, sym, ap, ◌∙◌, subst, arith}
use Rattle.std.proofs.lemmas.List.{append_cancel_right}
use Rattle.ron_spec_words.specs.Characters.{Text}
use Rattle.ron_spec_words.specs.Gap.{skip}
use Rattle.ron_spec_words.specs.Lang.{Lang}
use Rattle.ron_spec_words.specs.Reader.{deep, got, failed, Reader}
use Rattle.ron_spec_words.specs.Exact.{Takes, Exact, FollowsValue}
use Rattle.ron_spec_words.proofs.Room.{Agrees}

-- at each level exact, with less room the same or too deep, and behind no gap
pub record AreLevels {A : Type 0} (r : ℕ → Reader A) (L : ℕ → Lang A) : Type 0 where
  pub exact : (room : ℕ) → Exact (r room) (L room) FollowsValue
  pub agrees : (m n : ℕ) → m ≤ n → Agrees (r m) (r n)
  pub solid : (room : ℕ) (t next : Text) (a : A) → L room t next a → skip (t ++ next) ≡ t ++ next

got_same : {A : Type 0} (d e : A) (s t : Text) → got d s ≡ got e t → (d ≡ e) × (s ≡ t)
got_same d e s t h = (cc, cc)

module _ {A : Type 0} {r : ℕ → Reader A} {L : ℕ → Lang A} (h : AreLevels r L) where
  pub place_complete : (room : ℕ) (t next : Text) (a : A) → L room t next a → FollowsValue next → r room (t ++ next) ≡ got a next
  place_complete room t next a z f = ((h.exact room).complete t next a z f (h.solid room t next a z)).answer

  -- what is read of a front is that front
  front : (room : ℕ) (t next : Text) (a : A) → Takes (L room) (t ++ next) a next → L room t next a
  front room t next a z = subst (λ u. L room u next a) (sym (append_cancel_right t z.stretch next z.split)) z.spelled

  -- the answer with more room is the answer with less, or less is too deep
  pub place_or_deep : (m n : ℕ) (t next : Text) (a : A) → L n t next a → FollowsValue next → m ≤ n → L m t next a ⊎ (r m (t ++ next) ≡ failed deep)
  place_or_deep m n t next a z f le = go ((h.agrees m n le).at (t ++ next))
    where
      go : (r m (t ++ next) ≡ r n (t ++ next)) ⊎ (r m (t ++ next) ≡ failed deep) → L m t next a ⊎ (r m (t ++ next) ≡ failed deep)
      go (inl e) = inl (front m t next a ((h.exact m).sound (t ++ next) a next (e ∙ place_complete n t next a z f)))
      go (inr e) = inr e

  pub place_monotone : (m n : ℕ) (t next : Text) (a : A) → m ≤ n → L m t next a → FollowsValue next → L n t next a
  place_monotone m n t next a le z f = front n t next a ((h.exact n).sound (t ++ next) a next (go ((h.agrees m n le).at (t ++ next))))
    where
      go : (r m (t ++ next) ≡ r n (t ++ next)) ⊎ (r m (t ++ next) ≡ failed deep) → r n (t ++ next) ≡ got a next
      go (inl e) = sym e ∙ place_complete m t next a z f
      go (inr e) = absurd (let k = place_complete m t next a z f in let w : failed deep ≡ got a next = sym e ∙ k in cc)

  pub place_unique : (m n : ℕ) (t next u other : Text) (a b : A) → t ++ next ≡ u ++ other → L m t next a → FollowsValue next → L n u other b
      → FollowsValue other → (t ≡ u) × (a ≡ b)
  place_unique m n t next u other a b split y f z g = (append_cancel_right t u other (ap (λ k. t ++ k) (sym same.1) ∙ split), same.0)
    where
      answers : got a next ≡ got b other
      answers =
          sym (place_complete (m + n) t next a (place_monotone m (m + n) t next a (omega arith) y f) f)
          ∙ ap (r (m + n)) split
          ∙ place_complete (m + n) u other b (place_monotone n (m + n) u other b (omega arith) z g) g

      same : (a ≡ b) × (next ≡ other)
      same = got_same a b next other answers

  pub place_deep : (room n : ℕ) (t next : Text) (a : A) → L n t next a → FollowsValue next → (L room t next a → ⊥) → r room (t ++ next) ≡ failed deep
  place_deep room n t next a z f other = go (place_or_deep room (room + n) t next a (place_monotone n (room + n) t next a (omega arith) z f) f (omega arith))
    where
      go : L room t next a ⊎ (r room (t ++ next) ≡ failed deep) → r room (t ++ next) ≡ failed deep
      go (inl s) = absurd (other s)
      go (inr e) = e

  -- where some room is never too deep
  pub place_bounded : (room n : ℕ) (t next : Text) (a : A) → (r room (t ++ next) ≡ failed deep → ⊥) → L n t next a → FollowsValue next → L room t next a
  place_bounded room n t next a roomy z f = go (place_or_deep room (room + n) t next a (place_monotone n (room + n) t next a (omega arith) z f) f (omega arith))
    where
      go : L room t next a ⊎ (r room (t ++ next) ≡ failed deep) → L room t next a
      go (inl s) = s
      go (inr e) = absurd (roomy e)
