-- Items a turn at a time, without the bound on its length, up to where no comma stands or the closing character.
use Rattle.std.proofs.Common.{◌≡◌, ℕ, Bool, true, false, List, [], ◌∷◌, Some, refl, ◌∙◌}
use Rattle.ron_spec_words.specs.Characters.{Text}
use Rattle.ron_spec_words.specs.Runs.{is_at}
use Rattle.ron_spec_words.specs.Gap.{gap_of, skip}
use Rattle.ron_spec_words.specs.Reader.{Fault, bad, Got, got, failed, Reader, after_gap, meant, items_from}
use Rattle.ron_spec_words.specs.Turns.{all_items}
use Rattle.ron_spec_words.proofs.Turns.{Shrinks, tail_comma, tail_other}

-- all items, those that stand before the place among them
abbrev pub all_from : {A : Type 0} → (List A → Text → Reader A) → ℕ → List A → Text → Reader (List A)
all_from r close seen before s = meant (items_from r close seen before s) (λ xs. Some (all_items seen xs))

module _ {A : Type 0} (r : List A → Text → Reader A) (close : ℕ) (h : Shrinks r) where
  meant_twice : (o : Got (List A)) (a : A) (seen : List A)
      → meant (meant o (λ xs. Some (a ∷ xs))) (λ xs. Some (all_items seen xs)) ≡ meant o (λ xs. Some (all_items (a ∷ seen) xs))
  meant_twice (got xs rest) a seen = refl
  meant_twice (failed x) a seen = refl

  -- a turn: the items are over, or an item is no item, or is the last, or another follows
  module _ (seen : List A) (before s : Text) where
    pub all_over : is_at close s ≡ true → all_from r close seen before s ≡ got (all_items seen []) s
    all_over e = rw e refl

    module _ (e : is_at close s ≡ false) where
      pub all_failed : (f : Fault) → r seen before s ≡ failed f → all_from r close seen before s ≡ failed f
      all_failed f k = rw (e, k) refl

      module _ (a : A) (rest : Text) (k : r seen before s ≡ got a rest) where
        pub all_last : is_at 47 (skip rest) ≡ false → is_at 44 (skip rest) ≡ false → all_from r close seen before s ≡ got (all_items (a ∷ seen) []) (skip rest)
        all_last n o = rw (e, k, n, tail_other r close h (a ∷ seen) (skip rest) o) refl

        pub all_slash : is_at 47 (skip rest) ≡ true → all_from r close seen before s ≡ failed bad
        all_slash n = rw (e, k, n) refl

        pub all_more : (u : Text) → skip rest ≡ 44 ∷ u → all_from r close seen before s ≡ after_gap (all_from r close (a ∷ seen)) u
        all_more u o = more ∙ behind (is_at 47 (skip u)) refl
          where
            more : all_from r close seen before s
                ≡ meant (meant (after_gap (items_from r close (a ∷ seen)) u) (λ xs. Some (a ∷ xs))) (λ xs. Some (all_items seen xs))
            more = rw (e, k, o, tail_comma r close h (a ∷ seen) u) refl

            behind : (b : Bool) → is_at 47 (skip u) ≡ b → meant (meant (after_gap (items_from r close (a ∷ seen)) u) (λ xs. Some (a ∷ xs)))
                (λ xs. Some (all_items seen xs)) ≡ after_gap (all_from r close (a ∷ seen)) u
            behind true m = rw m refl
            behind false m = rw m (meant_twice (items_from r close (a ∷ seen) (gap_of u) (skip u)) a seen)

pub meant_same : {A : Type 0} (o : Got (List A)) → meant o (λ xs. Some xs) ≡ o
meant_same (got xs rest) = refl
meant_same (failed x) = refl
