-- Items, of each of which a fact holds that depends on the items before it.
use Rattle.std.proofs.Common.{◌≡◌, ℕ, ◌==◌, true, false, List, [], ◌∷◌}
use Rattle.ron_spec_words.specs.Characters.{Text, comma}
use Rattle.ron_spec_words.specs.Gap.{is_delimiter}
use Rattle.ron_spec_words.specs.Lang.{Lang, Tail, Items}
use Rattle.ron_spec_words.specs.Reader.{Reader, items}
use Rattle.ron_spec_words.specs.Exact.{Before, FollowsValue}
use Rattle.ron_spec_words.proofs.Exactly.{Opens}
use Rattle.ron_spec_words.proofs.Values.{Values, AnyValue}
use Rattle.ron_spec_words.proofs.Parts.{Part, part_weaker, part_items}

-- a fact of each element and of those before it, the last of them first
abbrev pub EachBehind : {A : Type 0} → (List A → A → Type 0) → List A → List A → Type 0
EachBehind P seen [] = Unit {0}
EachBehind P seen (a ∷ xs) = P seen a × EachBehind P (a ∷ seen) xs

module _ {A : Type 0} (P : List A → A → Type 0) (L : List A → Text → Lang A) (h : (seen : List A) (gap : Text) → Values (P seen) (L seen gap)) where
  tail_values : (seen : List A) (t next : Text) (xs : List A) → Tail L seen t next xs → EachBehind P seen xs
  tail_values seen t next [] z = tt
  tail_values seen t next (a ∷ xs) z = ((h seen z.gap).are _ _ a z.second.first, tail_values (a ∷ seen) z.second.right next xs z.second.second)

  items_values : (before t next : Text) (xs : List A) → Items L before t next xs → EachBehind P [] xs
  items_values before t next [] z = tt
  items_values before t next (a ∷ xs) z = ((h [] before).are _ _ a z.first, tail_values (a ∷ []) z.right next xs z.second)

module _ {room step : ℕ} {A : Type 0} (P : List A → A → Type 0) (q r : List A → Text → Reader A) (L : List A → Text → Lang A) (close : ℕ) {e : ℕ} where
  -- the lemma on items, with such a fact
  pub part_items_behind : is_delimiter close ≡ true → (close == comma) ≡ false → ((seen : List A) (before : Text) → Opens (L seen before))
      → ((seen : List A) (before : Text) → Part room step false (P seen) (q seen before) (r seen before) (L seen before) FollowsValue e)
      → (before : Text) → Part room step true (EachBehind P []) (items q close before) (items r close before) (Items L before) (Before close) e
  part_items_behind s c o h before =
      let p = part_items {P = AnyValue} q r L close s c o (λ seen gap. part_weaker (λ _ _. tt) (h seen gap)) before in
      record {
        exact = p.exact;
        begins = p.begins;
        agrees = p.agrees;
        shallow = p.shallow;
        values = record { are = items_values P L (λ seen gap. (h seen gap).values) before };
        passes = p.passes;
      }
