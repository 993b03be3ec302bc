-- Texts with what stands before, between and behind them stand for items: of a list, a tuple, a map or a struct.
use Rattle.std.proofs.Common.{◌≡◌, ℕ, List, [], ◌∷◌, ◌++◌, inl, inr, refl, sym, ap, subst, ◌∙◌, append_assoc, append-nil}
use Rattle.std.specs.List.{flat_map}
use Rattle.ron_spec_words.specs.Characters.{Text}
use Rattle.ron_spec_words.specs.Gap.{none, LongGap}
use Rattle.ron_spec_words.specs.Lang.{Lang, done, Then, At, Tail, Items}
use Rattle.ron_spec_layout.specs.Brackets.{joined}
use Rattle.ron_spec_layout.specs.Stand.{Stands, Ends}
use Rattle.ron_spec_layout.specs.Config.{Spacing, led_by, spaced}
use Rattle.ron_spec_layout.proofs.Stands.{ends_delimiter, whole}
use Rattle.ron_spec_layout.proofs.Closed.{before_any, IsLast, IsSpacing}

-- the items after the first, each behind a comma
abbrev pub behind_commas : List Text → Text
behind_commas = flat_map (λ t. 44 ∷ t)

module _ {A : Type 0} (L : List A → Text → Lang A) where
  -- behind the items before it, the last of them first, the text stands for this item, whatever follows
  pub record IsItem (seen : List A) (t : Text) (a : A) : Type 0 where
    pub stands : (next : Text) → Ends next → Stands (L seen) t next a

  -- likewise each of the texts
  abbrev pub AreItems : List A → List Text → List A → Type 0
  AreItems seen [] [] = Unit {0}
  AreItems seen [] (a ∷ xs) = ⊥
  AreItems seen (t ∷ ts) [] = ⊥
  AreItems seen (t ∷ ts) (a ∷ xs) = IsItem seen t a × AreItems (a ∷ seen) ts xs

module _ {A : Type 0} (L : List A → Text → Lang A) (close : ℕ) (next : Text) (closes : Ends (close ∷ next)) (last : Text) (is_last : IsLast last) where
  -- further items, each behind a comma, and what stands behind the last
  more : List Text → Text
  more [] = last
  more (t ∷ ts) = 44 ∷ (t ++ more ts)

  more_is : (ts : List Text) → behind_commas ts ++ last ≡ more ts
  unfolding more
  more_is [] = refl
  more_is (t ∷ ts) = ap (λ u. 44 ∷ u) (append_assoc t (behind_commas ts) last ∙ ap (λ u. t ++ u) (more_is ts))

  more_ends : (ts : List Text) → Ends (more ts ++ (close ∷ next))
  unfolding more
  more_ends [] = go is_last
    where
      go : IsLast last → Ends (last ++ (close ∷ next))
      go (inl e) = subst (λ u. Ends (u ++ (close ∷ next))) (sym e) closes
      go (inr h) = subst (λ u. Ends (u ++ (close ∷ next))) (sym h.1) (ends_delimiter 44 (h.0 ++ (close ∷ next)) refl refl)
  more_ends (t ∷ ts) = ends_delimiter 44 ((t ++ more ts) ++ (close ∷ next)) refl refl

  -- an item, and what stands behind it
  item_then : (seen : List A) (t : Text) (a : A) (ts : List Text) (xs : List A) (h : Stands (L seen) t (more ts ++ (close ∷ next)) a)
      → Tail L (a ∷ seen) (more ts) (close ∷ next) xs
      → Then (At (L seen h.before) a) (λ _ _ u n _. Tail L (a ∷ seen) u n xs) (h.text_from ++ more ts) (close ∷ next) done
  item_then seen t a ts xs h z = record {
    value = done;
    left = h.from.stretch;
    gap = h.from.after;
    right = more ts;
    split = ap (λ u. u ++ more ts) h.from.split ∙ append_assoc h.from.stretch h.from.after (more ts);
    first = h.from.spelled;
    is_gap = h.from.is_after;
    second = z;
  }

  gap_then : (t u : Text) {a : A} {seen : List A} (h : Stands (L seen) t (u ++ (close ∷ next)) a) → LongGap h.before ((h.text_from ++ u) ++ (close ∷ next))
  gap_then t u h =
      record { is_gap = rw (append_assoc h.text_from u (close ∷ next)) h.is_before; longest = rw (append_assoc h.text_from u (close ∷ next)) h.from.solid }

  last_tail : (seen : List A) → Tail L seen last (close ∷ next) []
  last_tail seen = go is_last
    where
      go : IsLast last → Tail L seen last (close ∷ next) []
      go (inl e) = inl (e, refl)
      go (inr h) = inr (record {
        value = done;
        left = 44 ∷ [];
        gap = h.0;
        right = [];
        split = h.1 ∙ ap (λ u. 44 ∷ u) (sym (append-nil h.0));
        first = (refl, refl);
        is_gap = record { is_gap = before_any h.2 (close ∷ next); longest = closes.1 };
        second = (refl, refl);
      })

  tail : (seen : List A) (ts : List Text) (xs : List A) → AreItems L seen ts xs → Tail L seen (more ts) (close ∷ next) xs
  unfolding more
  tail seen [] [] h = last_tail seen
  tail seen [] (a ∷ xs) h = absurd h
  tail seen (t ∷ ts) [] h = absurd h
  tail seen (t ∷ ts) (a ∷ xs) h =
      let p = h.0.stands (more ts ++ (close ∷ next)) (more_ends ts) in
      record {
        value = done;
        left = 44 ∷ [];
        gap = p.before;
        right = p.text_from ++ more ts;
        split = ap (λ u. 44 ∷ u) (ap (λ u. u ++ more ts) p.split ∙ append_assoc p.before p.text_from (more ts));
        first = (refl, refl);
        is_gap = gap_then t (more ts) p;
        second = item_then seen t a ts xs p (tail (a ∷ seen) ts xs h.1);
      }

  items_last : (t : Text) (ts : List Text) (xs : List A) → AreItems L [] (t ∷ ts) xs → Stands (Items L) (t ++ more ts) (close ∷ next) xs
  items_last t ts [] h = absurd h
  items_last t ts (a ∷ xs) h =
      let p = h.0.stands (more ts ++ (close ∷ next)) (more_ends ts) in
      let g = gap_then t (more ts) p in
      record {
        before = p.before;
        text_from = p.text_from ++ more ts;
        split = ap (λ u. u ++ more ts) p.split ∙ append_assoc p.before p.text_from (more ts);
        is_before = g.is_gap;
        from = whole g.longest closes.1 (item_then [] t a ts xs p (tail (a ∷ []) ts xs h.1));
      }

  pub items_closed : (t : Text) (ts : List Text) (xs : List A) → AreItems L [] (t ∷ ts) xs → Stands (Items L) (joined (t ∷ ts) ++ last) (close ∷ next) xs
  items_closed t ts xs h =
      subst (λ u. Stands (Items L) u (close ∷ next) xs) (sym (append_assoc t (behind_commas ts) last ∙ ap (λ u. t ++ u) (more_is ts))) (items_last t ts xs h)

pub spaced_items : {A : Type 0} (L : List A → Text → Lang A) (close : ℕ) (next : Text) → Ends (close ∷ next) → (s : Spacing) → IsSpacing s
    → (ts : List Text) (xs : List A) → AreItems L [] (led_by s.first s.between ts) xs → Stands (Items L) (spaced s ts) (close ∷ next) xs
spaced_items L close next e s h [] [] a = record { before = []; text_from = []; split = refl; is_before = none; from = whole e.1 e.1 refl }
spaced_items L close next e s h [] (x ∷ xs) a = absurd a
spaced_items L close next e s h (t ∷ ts) xs a = items_closed L close next e s.last h.last (s.first ++ t) (led_by s.between s.between ts) xs a
