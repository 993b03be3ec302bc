-- In a text of Unicode scalar values strings and names spell such texts: agreement asks it of strings and of field names.
use Rattle.std.proofs.Common.{◌≡◌, ℕ, ◌==◌, Bool, true, false, ◌&&◌, ◌||◌, [], ◌∷◌, ◌++◌, inl, inr, Option, Some, None, cond, refl, subst}
use Rattle.std.proofs.lemmas.Bool.{and_parts}
use lib.Utf8.{scalar, scalars}
use Rattle.ron_spec_words.specs.Characters.{Text}
use Rattle.ron_spec_words.specs.Number.{place_value}
use Rattle.ron_spec_words.specs.Name.{Name}
use Rattle.ron_spec_words.specs.Escape.{Escape, HexCharacter, UnicodeEscape, escape_meaning, named_character}
use Rattle.ron_spec_words.specs.Quoted.{Pieces, close, piece, StringPiece, StringEscape, itself, String, hashes}

pub scalars_before : (s t : Text) → scalars (s ++ t) ≡ true → scalars s ≡ true
scalars_before [] t e = refl
scalars_before (c ∷ s) t e = let p = and_parts (scalar c) (scalars (s ++ t)) e in rw (p.0, scalars_before s t p.1) refl

pub scalars_behind : (s t : Text) → scalars (s ++ t) ≡ true → scalars t ≡ true
scalars_behind [] t e = e
scalars_behind (c ∷ s) t e = scalars_behind s t (and_parts (scalar c) (scalars (s ++ t)) e).1

scalars_both : (s t : Text) → scalars s ≡ true → scalars t ≡ true → scalars (s ++ t) ≡ true
scalars_both [] t e f = f
scalars_both (c ∷ s) t e f = let p = and_parts (scalar c) (scalars s) e in rw (p.0, scalars_both s t p.1 f) refl

one : (c : ℕ) → scalar c ≡ true → scalars (c ∷ []) ≡ true
one c e = rw e refl

first_of : (c : ℕ) (s : Text) → scalars (c ∷ s) ≡ true → (scalar c ≡ true) × (scalars s ≡ true)
first_of c s e = and_parts (scalar c) (scalars s) e

-- ---- escapes

step : (b : Bool) (x : ℕ) (o : Option ℕ) (d : ℕ) → cond b (Some x) o ≡ Some d → scalar x ≡ true → (o ≡ Some d → scalar d ≡ true) → scalar d ≡ true
step true x o d e f g = let same : x ≡ d = cc in subst (λ y. scalar y ≡ true) same f
step false x o d e f g = g e

abbrev tail_four : ℕ → Option ℕ
tail_four c = cond (c == 48) (Some 0) None

abbrev tail_three : ℕ → Option ℕ
tail_three c = cond (c == 116) (Some 9) (tail_four c)

abbrev tail_two : ℕ → Option ℕ
tail_two c = cond (c == 114) (Some 13) (tail_three c)

abbrev tail_one : ℕ → Option ℕ
tail_one c = cond (c == 110) (Some 10) (tail_two c)

escape_scalar : (c d : ℕ) → scalar c ≡ true → escape_meaning c ≡ Some d → scalar d ≡ true
escape_scalar c d k e =
    step ((c == 39) || ((c == 34) || (c == 92))) c (tail_one c) d e k (λ e. step (c == 110) 10 (tail_two c) d e refl (λ e.
    step (c == 114) 13 (tail_three c) d e refl
    (λ e. step (c == 116) 9 (tail_four c) d e refl (λ e. step (c == 48) 0 None d e refl (λ e. absurd (let x : None ≡ Some d = e in cc))))))

unicode_scalar : (t : Text) (c : ℕ) → named_character t ≡ Some c → scalar c ≡ true
unicode_scalar t c e = go _ (scalar (place_value 16 t)) refl e
  where
    go : (a b : Bool) → scalar (place_value 16 t) ≡ b → cond (a && b) (Some (place_value 16 t)) None ≡ Some c → scalar c ≡ true
    go true true k q = let same : place_value 16 t ≡ c = cc in subst (λ y. scalar y ≡ true) same k
    go false b k q = absurd (cc)
    go true false k q = absurd (cc)

escapes : (t next : Text) (c : ℕ) → Escape HexCharacter UnicodeEscape t next c → scalars t ≡ true → scalar c ≡ true
escapes t next c (inl z) s = z.0
escapes t next c (inr (inl z)) s = subst (λ y. scalar y ≡ true) z.spelled.spelled.spelled.second.1
    (unicode_scalar z.spelled.spelled.spelled.first.value z.spelled.spelled.spelled.value z.spelled.spelled.spelled.first.meant)
escapes t next c (inr (inr z)) s = escape_scalar z.spelled.value c (first_of z.spelled.value []
    (subst (λ v. scalars v ≡ true) z.spelled.spelled (first_of 92 z.rest (subst (λ v. scalars v ≡ true) z.split s)).1)).0 z.spelled.meant

-- ---- strings

one_is : (c : ℕ) (a : Text) (b : Bool) → cond b None (Some (c ∷ [])) ≡ Some a → scalar c ≡ true → scalars a ≡ true
one_is c a true e k = absurd (cc)
one_is c a false e k = let same : c ∷ [] ≡ a = cc in subst (λ v. scalars v ≡ true) same (one c k)

string_piece : (t next a : Text) → StringPiece itself StringEscape t next a → scalars t ≡ true → scalars a ≡ true
string_piece t next a (inl z) s = let same : [] ≡ a = (let q = z.meant in cc) in subst (λ v. scalars v ≡ true) same refl
string_piece t next a (inr (inl z)) s = one_is z.value a false z.meant (escapes t next z.value z.spelled s)
string_piece t next a (inr (inr z)) s = one_is z.value a _ z.meant (first_of z.value [] (subst (λ v. scalars v ≡ true) z.spelled s)).0

pieces_scalar : (t next a : Text) → Pieces (StringPiece itself StringEscape) t next a → scalars t ≡ true → scalars a ≡ true
pieces_scalar _ _ _ close s = refl
pieces_scalar _ next _ (piece t u _ a b z more) s =
    scalars_both a b (string_piece t (u ++ next) a z (scalars_before t u s)) (pieces_scalar u next b more (scalars_behind t u s))

pub string_scalars : (t next s : Text) → scalars (t ++ next) ≡ true → String t next s → scalars s ≡ true
string_scalars t next s k (inl z) =
    pieces_scalar z.rest next s z.spelled (first_of 34 z.rest (subst (λ v. scalars v ≡ true) z.split (scalars_before t next k))).1
string_scalars t next s k (inr z) =
    let inner = subst (λ v. scalars v ≡ true) z.spelled.same (first_of 114 z.rest (subst (λ v. scalars v ≡ true) z.split (scalars_before t next k))).1 in
    scalars_before s (34 ∷ hashes z.spelled.count)
    (first_of 34 (s ++ 34 ∷ hashes z.spelled.count) (scalars_behind (hashes z.spelled.count) (34 ∷ (s ++ 34 ∷ hashes z.spelled.count)) inner)).1

-- ---- names

pub name_scalars : (t next n : Text) → scalars (t ++ next) ≡ true → Name t next n → scalars n ≡ true
name_scalars t next n k (inl z) = subst (λ v. scalars v ≡ true) z.spelled.spelled.same (first_of 35 z.spelled.rest
    (subst (λ v. scalars v ≡ true) z.spelled.split (first_of 114 z.rest (subst (λ v. scalars v ≡ true) z.split (scalars_before t next k))).1)).1
name_scalars t next n k (inr z) = subst (λ v. scalars v ≡ true) z.1.spelled.same (scalars_before t next k)
