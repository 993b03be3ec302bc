-- Languages: which stretches of a text, before which text, spell which values; and how languages are made of languages.
--
-- Items that see the items before them. The rule of a list's item is told the items that stand before it. A struct
-- refuses a name that stood before at the name itself; a tuple counts them. So one rule and one proof by induction
-- serve all lists, and the reader function refuses a second `x` before it looks at its value, as the code does.
-- Refusing it at the end of the items relates the same pairs.
use Rattle.std.specs.Prelude.{◌≡◌, ℕ, ◌≤◌, ◌⊎◌, Bool, true, false, List, [], ◌∷◌, ◌++◌, Option, Some}
use Rattle.ron_spec_words.specs.Characters.{Text, comma}
use Rattle.ron_spec_words.specs.Runs.{Every, begins}
use Rattle.ron_spec_words.specs.Gap.{LongGap}

-- a stretch, the text that follows it, and what the stretch spells there
abbrev pub Lang : Type 0 → Type 1
Lang A = Text → Text → A → Type 0

-- what a mark spells
pub data Done : Type 0 where
  done : Done

-- ---- words: no gap stands within

-- no stretch
abbrev pub Nothing : {A : Type 0} → Lang A
Nothing t next a = ⊥

-- the empty stretch
abbrev pub Empty : {A : Type 0} → A → Lang A
Empty a t next b = (t ≡ []) × (a ≡ b)

-- one character
abbrev pub Mark : {A : Type 0} → ℕ → A → Lang A
Mark c a t next b = (t ≡ c ∷ []) × (a ≡ b)

-- a character of the first class, and then characters of the second
abbrev pub BeginsAndGoesOn : (ℕ → Bool) → (ℕ → Bool) → Text → Type 0
BeginsAndGoesOn p q [] = ⊥
BeginsAndGoesOn p q (c ∷ t) = (p c ≡ true) × Every q t

-- a character of the first class and then the longest run of characters of the second: none of these follows
pub record Run (p q : ℕ → Bool) (t next run : Text) : Type 0 where
  pub same : t ≡ run
  pub every : BeginsAndGoesOn p q t
  pub longest : begins q next ≡ false

-- a character, and directly behind it the other
pub record Behind {A : Type 0} (c : ℕ) (L : Lang A) (t next : Text) (a : A) : Type 0 where
  pub rest : Text
  pub split : t ≡ c ∷ rest
  pub spelled : L rest next a

-- where no character of the class follows
pub record NotBefore {A : Type 0} (p : ℕ → Bool) (L : Lang A) (t next : Text) (a : A) : Type 0 where
  pub spelled : L t next a
  pub other : begins p next ≡ false

-- with a meaning, which may be refused
pub record Means {A B : Type 0} (L : Lang A) (f : A → Option B) (t next : Text) (b : B) : Type 0 where
  pub value : A
  pub spelled : L t next value
  pub meant : f value ≡ Some b

-- the one or the other
abbrev pub Or : {A : Type 0} → Lang A → Lang A → Lang A
Or L M t next a = L t next a ⊎ M t next a

-- where the text from here on passes a test
abbrev pub When : {A : Type 0} → (Text → Bool) → Lang A → Lang A
When p L t next a = (p (t ++ next) ≡ true) × L t next a

-- ---- what gaps join

-- one, the longest gap, and the other, which may depend on what the first spells and on the gap
pub record Then {A B : Type 0} (L : Lang A) (M : A → Text → Lang B) (t next : Text) (b : B) : Type 0 where
  pub value : A
  pub left : Text
  pub gap : Text
  pub right : Text
  pub split : t ≡ left ++ (gap ++ right)
  pub first : L left (gap ++ (right ++ next)) value
  pub is_gap : LongGap gap (right ++ next)
  pub second : M value gap right next b

-- this value and no other
abbrev pub At : {A : Type 0} → Lang A → A → Lang Done
At L a t next u = L t next a

-- a comma or nothing
abbrev pub OptComma : {A : Type 0} → A → Lang A
OptComma a = Or (Mark comma a) (Empty a)

-- Each further item behind a comma, and perhaps a last comma. The language of an item may depend on the items before it, the last of them first, and on the gap
-- before it.
abbrev pub Tail : {A : Type 0} → (List A → Text → Lang A) → List A → Lang (List A)
Tail L seen t next [] = Or (Empty done) (Then (Mark comma done) (λ _ _. Empty done)) t next done
Tail L seen t next (a ∷ xs) = Then (Mark comma done) (λ _ gap. Then (At (L seen gap) a) (λ _ _ u n _. Tail L (a ∷ seen) u n xs)) t next done

-- items with one comma between neighbours and, after the last item if there is one, perhaps one more
abbrev pub Items : {A : Type 0} → (List A → Text → Lang A) → Text → Lang (List A)
Items L before t next [] = t ≡ []
Items L before t next (a ∷ xs) = Then (At (L [] before) a) (λ _ _ u n _. Tail L (a ∷ []) u n xs) t next done

-- between an opening and a closing character
abbrev pub Group : {A : Type 0} → ℕ → ℕ → (Text → Lang A) → Lang A
Group open_mark close_mark L = Then (Mark open_mark done) (λ _ gap. Then (L gap) (λ a _. Mark close_mark a))

-- perhaps with a comma behind it
abbrev pub WithComma : {A : Type 0} → Lang A → Lang A
WithComma L = Then L (λ a _. OptComma a)

-- where the room is that many levels or more
abbrev pub Needs : {A : Type 0} → ℕ → ℕ → Lang A → Lang A
Needs k room L t next a = (k ≤ room) × L t next a
