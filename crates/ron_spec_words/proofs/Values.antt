-- What the values of a language are like, one lemma for each way to make a language: so that what is read is of the shape.
use Rattle.std.proofs.Common.{◌≡◌, ◌≤◌, ℕ, List, [], ◌∷◌, ◌++◌, inl, inr, Option, Some, subst}
use Rattle.ron_spec_words.specs.Characters.{Text}
use Rattle.ron_spec_words.specs.Lang.{Lang, Nothing, Then, Means, Or, OptComma, Tail, Items, Group, Needs}

pub record Values {A : Type 0} (P : A → Type 0) (L : Lang A) : Type 0 where
  pub are : (t next : Text) (a : A) → L t next a → P a

-- nothing is known of the value
abbrev pub AnyValue : {A : Type 0} → A → Type 0
AnyValue a = Unit {0}

-- a fact of each element
abbrev pub Each : {A : Type 0} → (A → Type 0) → List A → Type 0
Each P [] = Unit {0}
Each P (a ∷ xs) = P a × Each P xs

pub values_any : {A : Type 0} {L : Lang A} → Values AnyValue L
values_any = record { are = λ t next a z. tt }

pub values_nothing : {A : Type 0} {P : A → Type 0} → Values P Nothing
values_nothing = record { are = λ t next a z. absurd z }

pub values_means : {A B : Type 0} {P : A → Type 0} {Q : B → Type 0} {L : Lang A} {f : A → Option B} → ((a : A) (b : B) → P a → f a ≡ Some b → Q b) → Values P L
    → Values Q (Means L f)
values_means k h = record { are = λ t next b z. k z.value b (h.are t next z.value z.spelled) z.meant }

pub values_then : {A B : Type 0} {P : A → Type 0} {Q : B → Type 0} {L : Lang A} {M : A → Text → Lang B} → Values P L
    → ((a : A) (gap : Text) → Values (λ b. P a → Q b) (M a gap)) → Values Q (Then L M)
values_then h k = record { are = λ t next b z. (k z.value z.gap).are z.right next b z.second (h.are z.left (z.gap ++ (z.right ++ next)) z.value z.first) }

pub values_or : {A : Type 0} {P : A → Type 0} {L M : Lang A} → Values P L → Values P M → Values P (Or L M)
values_or {A} {P} {L} {M} h k = record { are = both }
  where
    both : (t next : Text) (a : A) → Or L M t next a → P a
    both t next a (inl z) = h.are t next a z
    both t next a (inr z) = k.are t next a z

pub values_needs : {A : Type 0} {P : A → Type 0} {L : Lang A} {k room : ℕ} → Values (λ a. k ≤ room → P a) L → Values P (Needs k room L)
values_needs h = record { are = λ t next a z. h.are t next a z.1 z.0 }

-- a comma behind a value, or nothing, spells that value
pub values_opt_comma : {A : Type 0} {P : A → Type 0} (a : A) → Values (λ b. P a → P b) (OptComma a)
values_opt_comma {P = P} a = values_or (record { are = λ t next b z p. subst P z.1 p }) (record { are = λ t next b z p. subst P z.1 p })

pub values_group : {A : Type 0} {P : A → Type 0} {L : Text → Lang A} {o c : ℕ} → ((gap : Text) → Values P (L gap)) → Values P (Group o c L)
values_group {P = P} h = record { are = λ t next b z. subst P z.second.second.1 ((h z.gap).are _ _ z.second.value z.second.first) }

module _ {A : Type 0} {P : A → Type 0} (L : List A → Text → Lang A) (h : (seen : List A) (gap : Text) → Values P (L seen gap)) where
  tail_values : (seen : List A) (t next : Text) (xs : List A) → Tail L seen t next xs → Each P xs
  tail_values seen t next [] z = tt
  tail_values seen t next (a ∷ xs) z = ((h seen z.gap).are _ _ a z.second.first, tail_values (a ∷ seen) z.second.right next xs z.second.second)

  items_values : (before t next : Text) (xs : List A) → Items L before t next xs → Each P xs
  items_values before t next [] z = tt
  items_values before t next (a ∷ xs) z = ((h [] before).are _ _ a z.first, tail_values (a ∷ []) z.right next xs z.second)

  pub values_items : (before : Text) → Values (Each P) (Items L before)
  values_items before = record { are = items_values before }
