-- Pieces that are written in a row, each behind what stands before the item of its number: of a list, a tuple, a map or a struct. The first n stand, and one
-- more comes.
use Rattle.std.proofs.Common.{◌≡◌, ℕ, ◌+◌, ◌<◌, ◌≤◌, Option, List, length, take, get_or, map, refl, subst}
use Rattle.std.specs.Fmt.{WritesInCalls}
use Rattle.std.specs.List.{list_all}
use Rattle.std.proofs.lemmas.List.{take_all}
use Rattle.ron_spec_layout.proofs.Firsts.{deepest, first_name, names-more, names-not, first_name-more, first_name-behind, deepest-more, deepest-at}
use Rattle.ron_spec_layout.proofs.Firsts.{laid_from, so_far-more, so_far-front}
use Rattle.ron_ser.specs.declared.refusal.Refusal.{Refusal}
use Rattle.ron_base_device.specs.Begun.{HasBegun}
use Rattle.ron_ser.specs.Piece.{Piece, IsWritten, IsStopped}
use Rattle.ron_ser.proofs.Pieces.{nothing, both}
use Rattle.ron_ser.proofs.LimitLemmas.{within_less, within_max, within_zero}
use Rattle.ron_ser.proofs.RefusalLemmas.{refuses_wider, holds_same}
use Rattle.ron_ser.proofs.FrontLemmas.{begun_behind, begun_longer}

-- the pieces of a list's elements, in a row
abbrev pub row_piece : {A : Type 0} → (ℕ → List ℕ) → (A → Piece) → List A → Piece
row_piece before f xs = record {
  bytes = laid_from before 0 (map (λ a. (f a).bytes) xs);
  names = list_all (λ a. (f a).names) xs;
  refused = first_name (λ a. (f a).refused) xs;
  depth = deepest (λ a. (f a).depth) xs;
  encodable = list_all (λ a. (f a).encodable) xs;
}

module _ {A W : Type 0} (before : ℕ → List ℕ) (f : A → Piece) (took : W → List ℕ → W → Type 0) (limit : Option ℕ) where
  -- the first n
  abbrev pub Stand : ℕ → List A → W → W → Type 0
  Stand n xs w v = IsWritten took limit w (row_piece before f (take n xs)) v

  pub none_stand : (xs : List A) (w : W) → Stand 0 xs w w
  none_stand xs w = record { text = nothing took w; names = refl; clear = refl; within = within_zero limit; encodable = refl }

  pub all_stand : (n : ℕ) (xs : List A) {w v : W} → length xs ≤ n → Stand n xs w v → IsWritten took limit w (row_piece before f xs) v
  all_stand n xs {w = w} {v = v} h k = subst (λ ys. IsWritten took limit w (row_piece before f ys) v) (take_all n xs h) k

  module _ (xs : List A) (n : ℕ) (a : A) (less : n < length xs) (is : a ≡ get_or xs n a) {w v z u : W} (stand : Stand n xs w v)
      (comma : WritesInCalls took v (before n) z) where
    pub more_stand : IsWritten took limit z (f a) u → Stand (n + 1) xs w u
    more_stand h = record {
      text = rw (so_far-more before xs n a less is (λ a. (f a).bytes)) (both took _ _ _ _ _ stand.text (both took _ _ _ _ _ comma h.text));
      names = names-more xs n a less is (λ a. (f a).names) stand.names h.names;
      clear = first_name-more xs n a less is (λ a. (f a).refused) stand.clear h.clear;
      within = rw (deepest-more xs n a less is (λ a. (f a).depth)) (within_max limit _ _ stand.within h.within);
      encodable = names-more xs n a less is (λ a. (f a).encodable) stand.encodable h.encodable;
    }

    -- what stops the one stops the whole
    pub item_stopped : {e : Refusal} → IsStopped took limit z (f a) u e → IsStopped took limit w (row_piece before f xs) u e
    item_stopped {e = e} h = record {
      refused = refuses_wider e (names-not xs n a less is (λ a. (f a).names)) (within_less limit _ _ (deepest-at xs n a less is (λ a. (f a).depth))) h.refused;
      refused_name = holds_same {part = (f a).refused} e (first_name-behind xs n a less is (λ a. (f a).refused) stand.clear) h.refused_name;
      beginning = begun h.beginning;
    }
      where
        begun : HasBegun took z (f a).bytes u → HasBegun took w (laid_from before 0 (map (λ a. (f a).bytes) xs)) u
        begun k =
            let more = so_far-front before (λ a. (f a).bytes) (n + 1) xs in
            rw (more.1, so_far-more before xs n a less is (λ a. (f a).bytes))
            (begun_longer took _ _ more.0 _ (begun_behind took _ _ _ _ _ stand.text (begun_behind took _ _ _ _ _ comma k)))
