-- The smallest width is found: the first of a list with ascending bits that passes a test has the fewest of those that do.
use Rattle.std.proofs.Common.{◌≡◌, ◌≤◌, nat_lt, ltb-true, Bool, true, false, not, ◌&&◌, cond, find, List, [], ◌∷◌, Some, ◌⊎◌, inl, inr, refl, sym, ap, subst}
use Rattle.std.proofs.Common.{◌∙◌, arith}
use Rattle.std.proofs.lemmas.Bool.{and_parts, not-true}
use Rattle.std.specs.List.{list_all}
use Rattle.ron_value_number.specs.declared.width.Width.{Width}
use Rattle.ron_value_number.specs.declared.width.Width.TheVariants.{I8, I16, I32, I64, I128, U8, U16, U32, U64, U128}
use Rattle.ron_value_number.specs.Width.{bits, is_signed, fits}
use Rattle.ron_value_number.specs.Smallest.{widths_of, smallest_width, IsSmallest, FindsSmallest}

abbrev Member : Width → List Width → Type 0
Member v [] = ⊥
Member v (w ∷ ws) = (v ≡ w) ⊎ Member v ws

all_members : (q : Width → Bool) (ws : List Width) → list_all q ws ≡ true → (v : Width) → Member v ws → q v ≡ true
all_members q [] e v m = absurd m
all_members q (w ∷ ws) e v (inl s) = ap q s ∙ (and_parts (q w) (list_all q ws) e).0
all_members q (w ∷ ws) e v (inr m) = all_members q ws (and_parts (q w) (list_all q ws) e).1 v m

-- each has more bits than those before it
abbrev ascends : List Width → Bool
ascends [] = true
ascends (w ∷ ws) = list_all (λ v. nat_lt (bits w) (bits v)) ws && ascends ws

module _ (p : Width → Bool) where
  abbrev Fewest : List Width → Width → Type 0
  Fewest ws w = (v : Width) → Member v ws → p v ≡ true → bits w ≤ bits v

  no_fewer : (w : Width) (ws : List Width) → ascends (w ∷ ws) ≡ true → Fewest (w ∷ ws) w
  no_fewer w ws a v (inl s) f = rw s (omega arith)
  no_fewer w ws a v (inr m) f =
      let lt = ltb-true (bits w) (bits v)
      (all_members (λ x. nat_lt (bits w) (bits x)) ws (and_parts (list_all (λ x. nat_lt (bits w) (bits x)) ws) (ascends ws) a).0 v m) in
      omega arith

  fails : (v w : Width) → v ≡ w → p w ≡ false → p v ≡ true → ⊥
  fails v w s h f = let x : true ≡ false = sym f ∙ ap p s ∙ h in cc

  first_is : (ws : List Width) → ascends ws ≡ true → (w : Width) → find p ws ≡ Some w → Member w ws × (p w ≡ true) × Fewest ws w
  first_is [] a w e = absurd (cc)
  first_is (x ∷ ws) a w e = go (first_is ws (and_parts (list_all (λ v. nat_lt (bits x) (bits v)) ws) (ascends ws) a).1 w) (p x) refl e
    where
      go : (find p ws ≡ Some w → Member w ws × (p w ≡ true) × Fewest ws w) → (b : Bool) → p x ≡ b → cond b (Some x) (find p ws) ≡ Some w
          → Member w (x ∷ ws) × (p w ≡ true) × Fewest (x ∷ ws) w
      go again true h k = let same : x ≡ w = cc in (inl (sym same), ap p (sym same) ∙ h, subst (Fewest (x ∷ ws)) same (no_fewer x ws a))
      go again false h k = let r = again k in (inr r.0, r.1, behind r.2)
        where
          behind : Fewest ws w → Fewest (x ∷ ws) w
          behind l v (inl s) f = absurd (fails v x s h f)
          behind l v (inr m) f = l v m f

  finds : (ws : List Width) → ascends ws ≡ true → (w : Width) → Member w ws → p w ≡ true → Fewest ws w → find p ws ≡ Some w
  finds [] a w m f l = absurd m
  finds (x ∷ ws) a w m f l =
      go (λ n. finds ws (and_parts (list_all (λ v. nat_lt (bits x) (bits v)) ws) (ascends ws) a).1 w n f (λ v k. l v (inr k))) (p x) refl m
    where
      go : (Member w ws → find p ws ≡ Some w) → (b : Bool) → p x ≡ b → Member w (x ∷ ws) → cond b (Some x) (find p ws) ≡ Some w
      go again true h (inl s) = ap Some (sym s)
      go again true h (inr n) =
          let lt = ltb-true (bits x) (bits w)
          (all_members (λ v. nat_lt (bits x) (bits v)) ws (and_parts (list_all (λ v. nat_lt (bits x) (bits v)) ws) (ascends ws) a).0 w n) in
          let le = l x (inl refl) h in
          absurd (omega (arith, lt, le))
      go again false h (inl s) = absurd (fails w x s h f)
      go again false h (inr n) = again n

-- ---- the two lists

up : (with_sign : Bool) → ascends (widths_of with_sign) ≡ true
up true = refl
up false = refl

kind : (with_sign : Bool) (v : Width) → Member v (widths_of with_sign) → is_signed v ≡ with_sign
kind true v m = all_members is_signed (widths_of true) refl v m
kind false v m = not-true (is_signed v) (all_members (λ w. not (is_signed w)) (widths_of false) refl v m)

listed : (v : Width) → Member v (widths_of (is_signed v))
listed I8 = inl refl
listed I16 = inr (inl refl)
listed I32 = inr (inr (inl refl))
listed I64 = inr (inr (inr (inl refl)))
listed I128 = inr (inr (inr (inr (inl refl))))
listed U8 = inl refl
listed U16 = inr (inl refl)
listed U32 = inr (inr (inl refl))
listed U64 = inr (inr (inr (inl refl)))
listed U128 = inr (inr (inr (inr (inl refl))))

member : (with_sign : Bool) (v : Width) → is_signed v ≡ with_sign → Member v (widths_of with_sign)
member with_sign v e = subst (λ b. Member v (widths_of b)) e (listed v)

pub finds_smallest : FindsSmallest
unfolding smallest_width
finds_smallest with_sign z w = (to, from)
  where
    to : find (λ v. fits v z) (widths_of with_sign) ≡ Some w → IsSmallest with_sign z w
    to e =
        let r = first_is (λ v. fits v z) (widths_of with_sign) (up with_sign) w e in
        record { of_kind = kind with_sign w r.0; holds = r.1; least = λ v k f. r.2 v (member with_sign v k) f }

    from : IsSmallest with_sign z w → find (λ v. fits v z) (widths_of with_sign) ≡ Some w
    from h = finds (λ v. fits v z) (widths_of with_sign) (up with_sign) w (member with_sign w h.of_kind) h.holds (λ v m f. h.least v (kind with_sign v m) f)
