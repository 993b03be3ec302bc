-- Items and bracketed lists a turn at a time, without the bound on its length: for the loops of code over items.
use Rattle.std.proofs.Common.{◌≡◌, ℕ, zero, suc, ◌≤◌, ◌<◌, ◌==◌, nat_le, Bool, true, false, cond, if◌then◌else◌, List, [], ◌∷◌, ◌++◌, length, Option, Some}
use Rattle.std.proofs.Common.{None, refl, ap, ◌∙◌, arith, eq-eqb}
use Rattle.ron_spec_words.specs.Characters.{Text, is_blank, comma, slash}
use Rattle.ron_spec_words.specs.Runs.{is_at}
use Rattle.ron_spec_words.specs.Gap.{gap_of, skip}
use Rattle.ron_spec_words.specs.Lang.{done}
use Rattle.ron_spec_words.specs.Reader.{Fault, deep, bad, Got, got, failed, Reader, give, mark, after_gap, and_then, in_sequence, given, meant, means, pick}
use Rattle.ron_spec_words.specs.Reader.{tail, tail_all, items_from, items, group, needs}
use Rattle.ron_spec_words.specs.Turns.{all_items, rest_of_group}
use Rattle.ron_spec_words.proofs.Gaps.{length-skip, skip-other, skip-skip}

-- further items stand behind those before them
pub in_order : {A : Type 0} (seen xs ys : List A) → all_items seen (xs ++ ys) ≡ all_items seen xs ++ ys
in_order [] xs ys = refl
in_order (b ∷ seen) xs ys = in_order seen (b ∷ xs) ys

-- behind a gap two reader functions that are the same there are the same
after_same : {A : Type 0} (f g : Text → Reader A) (s : Text) → f (gap_of s) (skip s) ≡ g (gap_of s) (skip s) → after_gap f s ≡ after_gap g s
after_same f g s e = ap (λ o. if is_at 47 (skip s) then failed bad else o) e

-- nothing is read behind a gap where a slash stands, and else what is read there
pub after_slash : {A : Type 0} (f : Text → Reader A) (s : Text) → is_at 47 (skip s) ≡ true → after_gap f s ≡ failed bad
after_slash f s e = rw e refl

pub after_other : {A : Type 0} (f : Text → Reader A) (s : Text) → is_at 47 (skip s) ≡ false → after_gap f s ≡ f (gap_of s) (skip s)
after_other f s e = rw e refl

-- an item's reader function answers no more than the text that it is given
pub record Shrinks {A : Type 0} (r : List A → Text → Reader A) : Type 0 where
  pub at_most : (seen : List A) (before s : Text) (a : A) (rest : Text) → r seen before s ≡ got a rest → length rest ≤ length s

module _ {A : Type 0} (r : List A → Text → Reader A) (close : ℕ) (h : Shrinks r) where
  -- an item, and then what f reads
  abbrev item_and : (A → Reader (List A)) → List A → Text → Reader (List A)
  item_and f seen before = pick (is_at close) (give []) (in_sequence (r seen before) (λ a _. means (f a) (λ xs. Some (a ∷ xs))))

  same_items : (f g : A → Reader (List A)) (seen : List A) (before s : Text) → ((a : A) (u : Text) → length u ≤ length s → f a u ≡ g a u)
      → item_and f seen before s ≡ item_and g seen before s
  same_items f g seen before s k = elim (is_at close s) as (λ b. cond b (got [] s) (and_then (r seen before s) (λ a _. means (f a) (λ xs. Some (a ∷ xs))))
      ≡ cond b (got [] s) (and_then (r seen before s) (λ a _. means (g a) (λ xs. Some (a ∷ xs))))) [ true ↦ refl | false ↦ go (r seen before s) refl ]
    where
      go : (o : Got A) → r seen before s ≡ o → and_then o (λ a _. means (f a) (λ xs. Some (a ∷ xs))) ≡ and_then o (λ a _. means (g a) (λ xs. Some (a ∷ xs)))
      go (got a rest) e = after_same (λ _. means (f a) (λ xs. Some (a ∷ xs))) (λ _. means (g a) (λ xs. Some (a ∷ xs))) rest
          (ap (λ o. meant o (λ xs. Some (a ∷ xs))) (k a (skip rest) (let z = h.at_most seen before s a rest e in omega (arith, length-skip rest, z))))
      go (failed x) e = refl

  -- more fuel changes nothing
  same_fuel : (m n : ℕ) (seen : List A) (s : Text) → length s < m → length s < n → tail r close m seen s ≡ tail r close n seen s
  unfolding tail
  same_fuel zero n seen s l k = absurd (omega (arith, l))
  same_fuel (suc m) zero seen s l k = absurd (omega (arith, k))
  same_fuel (suc m) (suc n) seen [] l k = refl
  same_fuel (suc m) (suc n) seen (c ∷ s) l k = go (same_items (λ a. tail r close m (a ∷ seen)) (λ a. tail r close n (a ∷ seen)) seen (gap_of s) (skip s)
      (λ a u z. same_fuel m n (a ∷ seen) u (omega (arith, l, z, length-skip s)) (omega (arith, k, z, length-skip s))))
    where
      go : item_and (λ a. tail r close m (a ∷ seen)) seen (gap_of s) (skip s) ≡ item_and (λ a. tail r close n (a ∷ seen)) seen (gap_of s) (skip s)
          → pick (is_at 44) (in_sequence (mark 44 done) (λ _ gap. item_and (λ a. tail r close m (a ∷ seen)) seen gap)) (give []) (c ∷ s)
          ≡ pick (is_at 44) (in_sequence (mark 44 done) (λ _ gap. item_and (λ a. tail r close n (a ∷ seen)) seen gap)) (give []) (c ∷ s)
      go e = elim (c == 44)
          as (λ b. cond b (and_then (cond b (got done s) (failed bad)) (λ _ gap. item_and (λ a. tail r close m (a ∷ seen)) seen gap)) (got [] (c ∷ s))
          ≡ cond b (and_then (cond b (got done s) (failed bad)) (λ _ gap. item_and (λ a. tail r close n (a ∷ seen)) seen gap)) (got [] (c ∷ s))) [
            | true ↦ after_same (λ gap. item_and (λ a. tail r close m (a ∷ seen)) seen gap) (λ gap. item_and (λ a. tail r close n (a ∷ seen)) seen gap) s e
            | false ↦ refl
          ]

  -- behind a comma the items go on
  pub tail_comma : (seen : List A) (u : Text) → tail_all r close seen (44 ∷ u) ≡ after_gap (items_from r close seen) u
  unfolding tail
  tail_comma seen u = after_same (λ gap. item_and (λ a. tail r close (length (44 ∷ u)) (a ∷ seen)) seen gap) (items_from r close seen) u
      (same_items (λ a. tail r close (length (44 ∷ u)) (a ∷ seen)) (λ a. tail_all r close (a ∷ seen)) seen (gap_of u) (skip u)
      (λ a w z. same_fuel (length (44 ∷ u)) (suc (length w)) (a ∷ seen) w (omega (arith, z, length-skip u)) (omega arith)))

  pub tail_other : (seen : List A) (s : Text) → is_at 44 s ≡ false → tail_all r close seen s ≡ got [] s
  unfolding tail
  tail_other seen s e = rw e refl

  -- a turn: the items are over, or an item is no item, or is the last, or another follows
  module _ (seen : List A) (before s : Text) where
    items_over : is_at close s ≡ true → items_from r close seen before s ≡ got [] s
    items_over e = rw e refl

    module _ (e : is_at close s ≡ false) where
      items_failed : (f : Fault) → r seen before s ≡ failed f → items_from r close seen before s ≡ failed f
      items_failed f k = rw (e, k) refl

      items_last : (a : A) (rest : Text) → r seen before s ≡ got a rest → is_at 47 (skip rest) ≡ false → is_at 44 (skip rest) ≡ false
          → items_from r close seen before s ≡ got (a ∷ []) (skip rest)
      items_last a rest k n o = rw (e, k, n, tail_other (a ∷ seen) (skip rest) o) refl

      items_slash : (a : A) (rest : Text) → r seen before s ≡ got a rest → is_at 47 (skip rest) ≡ true → items_from r close seen before s ≡ failed bad
      items_slash a rest k n = rw (e, k, n) refl

      items_more : (a : A) (rest u : Text) → r seen before s ≡ got a rest → skip rest ≡ 44 ∷ u
          → items_from r close seen before s ≡ meant (after_gap (items_from r close (a ∷ seen)) u) (λ xs. Some (a ∷ xs))
      items_more a rest u k o = rw (e, k, o, tail_comma (a ∷ seen) u) refl

-- ---- a bracketed list from a place within it

pub no_mark : {A : Type 0} (c : ℕ) (a : A) (s : Text) → is_at c s ≡ false → mark c a s ≡ failed bad
no_mark c a [] e = refl
no_mark c a (d ∷ s) e = rw e refl

-- behind a gap a mark that is not there, whatever would stand behind it
pub behind_no_mark : {A B : Type 0} (c : ℕ) (a : A) (s : Text) (q : A → Text → Reader B) → is_at c (skip s) ≡ false
    → after_gap (λ _. in_sequence (mark c a) q) s ≡ failed bad
behind_no_mark c a s q e = elim (is_at 47 (skip s))
    as (λ b. (if b then failed bad else and_then (mark c a (skip s)) q) ≡ failed bad) [ true ↦ refl | false ↦ ap (λ o. and_then o q) (no_mark c a (skip s) e) ]

-- what is meant behind an item is meant of all items
meant_twice : {A B C : Type 0} (o : Got A) (f : A → Option B) (g : A → B) (h : B → Option C) → ((a : A) → f a ≡ Some (g a))
    → meant (meant o f) h ≡ meant o (λ a. h (g a))
meant_twice (got a rest) f g h e = rw e refl
meant_twice (failed x) f g h e = refl

-- a character that closes a list is neither a blank nor a comma nor a slash
abbrev pub Closes : ℕ → Type 0
Closes close = (is_blank close ≡ false) × ((close == comma) ≡ false) × ((close == slash) ≡ false)

-- what is meant, and the closing character
close_got : {B : Type 0} (close : ℕ) (o : Option B) (u : Text) → Closes close → and_then (given o (close ∷ u)) (λ b _. mark close b) ≡ given o u
close_got close None u c = refl
close_got close (Some b) u c = rw (skip-other close u c.0 c.2, c.2, eq-eqb close close refl) refl

close_other : {B : Type 0} (close : ℕ) (o : Option B) (s : Text) → skip s ≡ s → is_at close s ≡ false → and_then (given o s) (λ b _. mark close b) ≡ failed bad
close_other close None s n e = refl
close_other close (Some b) s n e =
    rw n (elim (is_at 47 s) as (λ x. cond x (failed bad) (mark close b s) ≡ failed bad) [ true ↦ refl | false ↦ no_mark close b s e ])

-- behind the opening character
pub group_opened : {A B : Type 0} (r : List A → Text → Reader A) (close : ℕ) (f : List A → Option B) (open_mark k room : ℕ) (u : Text)
    → group open_mark close (λ gap. needs k room (means (items r close gap) f)) (open_mark ∷ u)
    ≡ after_gap (λ gap. needs k room (rest_of_group r close f [] gap)) u
unfolding rest_of_group
group_opened r close f open_mark k room u = rw (eq-eqb open_mark open_mark refl)
    (after_same (λ gap. in_sequence (needs k room (means (items r close gap) f)) (λ d _. mark close d)) (λ gap. needs k room (rest_of_group r close f [] gap))
    u (elim (nat_le k room) as
    (λ b. and_then (cond b (meant (items r close (gap_of u) (skip u)) f) (failed deep)) (λ d _. mark close d)
    ≡ cond b (rest_of_group r close f [] (gap_of u) (skip u)) (failed deep)) [ true ↦ refl | false ↦ refl ]))

-- a turn: the list is over, or an item is no item, or the last, or not closed, or another follows
module _ {A B : Type 0} (r : List A → Text → Reader A) (close : ℕ) (f : List A → Option B) (c : Closes close) (h : Shrinks r) (seen : List A)
    (before s : Text) where
  pub group_over : (u : Text) → s ≡ close ∷ u → rest_of_group r close f seen before s ≡ given (f (all_items seen [])) u
  unfolding rest_of_group
  group_over u e = rw (items_over r close h seen before s (rw e (eq-eqb close close refl)), e) (close_got close (f (all_items seen [])) u c)

  module _ (open_still : is_at close s ≡ false) where
    pub group_failed : (x : Fault) → r seen before s ≡ failed x → rest_of_group r close f seen before s ≡ failed x
    unfolding rest_of_group
    group_failed x e = rw (items_failed r close h seen before s open_still x e) refl

    module _ (a : A) (rest : Text) (e : r seen before s ≡ got a rest) where
      pub group_last : (u : Text) → skip rest ≡ close ∷ u → rest_of_group r close f seen before s ≡ given (f (all_items (a ∷ seen) [])) u
      unfolding rest_of_group
      group_last u k = rw (items_last r close h seen before s open_still a rest e (rw k c.2) (rw k c.1), k) (close_got close (f (all_items (a ∷ seen) [])) u c)

      pub group_slash : is_at slash (skip rest) ≡ true → rest_of_group r close f seen before s ≡ failed bad
      unfolding rest_of_group
      group_slash n = rw (items_slash r close h seen before s open_still a rest e n) refl

      pub group_not_closed : is_at comma (skip rest) ≡ false → is_at close (skip rest) ≡ false → rest_of_group r close f seen before s ≡ failed bad
      unfolding rest_of_group
      group_not_closed n k = go (is_at 47 (skip rest)) refl
        where
          go : (b : Bool) → is_at 47 (skip rest) ≡ b → rest_of_group r close f seen before s ≡ failed bad
          go true m = group_slash m
          go false m =
              rw (items_last r close h seen before s open_still a rest e m n) (close_other close (f (all_items (a ∷ seen) [])) (skip rest) (skip-skip rest) k)

      pub group_more : (u : Text) → skip rest ≡ comma ∷ u → rest_of_group r close f seen before s ≡ after_gap (rest_of_group r close f (a ∷ seen)) u
      unfolding rest_of_group
      group_more u k = rw (items_more r close h seen before s open_still a rest u e k)
          (ap (λ o. and_then o (λ b _. mark close b))
          (meant_twice (after_gap (items_from r close (a ∷ seen)) u) (λ xs. Some (a ∷ xs)) (λ xs. a ∷ xs) (λ xs. f (all_items seen xs)) (λ xs. refl))
          ∙ elim (is_at 47 (skip u)) as
          (λ b. and_then (meant (cond b (failed bad) (items_from r close (a ∷ seen) (gap_of u) (skip u))) (λ xs. f (all_items seen (a ∷ xs))))
          (λ d _. mark close d) ≡ cond b (failed bad) (rest_of_group r close f (a ∷ seen) (gap_of u) (skip u))) [ true ↦ refl | false ↦ refl ])
