-- The coordinates in a struct, by how many fields it has.
use Rattle.std.proofs.Common.{◌≡◌, ℕ, ◌<◌, ◌≤◌, List, [], ◌∷◌, length, get_or, ◌++◌, codes, chars, string_bytes, Option, None, Some, IfSome, Vec, String}
use Rattle.std.proofs.Common.{Global, refl, ap, sym, subst, arith, ◌∙◌}
use Rattle.std.specs.Option.{option_zip}
use lib.IntN.{ℤ}
use mir.Val.{SFits, to_z, of_z}
use mir.Syntax.{w32}
use Rattle.std.specs.Fmt.{signed_decimal, option_append}
use Rattle.std.proofs.lemmas.Int.{to_z-of_z}
use Rattle.ron.specs.Characters.{Text}
use Rattle.ron.specs.PlainData as plain
use Rattle.ron_data.specs.declared.data.Data.{Data}
use Rattle.ron_data.specs.declared.data.Data.TheVariants as held
use Rattle.ron_data.specs.Datum.{data_view, fields_view}
use Rattle.ron_data.proofs.DatumLemmas.{view-struct}
use Rattle.ron_example_types.specs.Point.{coordinates_in, integer_in, told_of}

abbrev pub Named : Type 0
Named = String Global × Data

few : (name : Text) (fs : List Named) → length fs < 2 → None ≡ coordinates_in (plain.struct_of name (fields_view fs))
few name [] h = refl
few name (f ∷ []) h = refl
few name (f ∷ g ∷ fs) h = absurd (omega (arith, h))

many : (name : Text) (fs : List Named) → 3 ≤ length fs → None ≡ coordinates_in (plain.struct_of name (fields_view fs))
many name [] h = refl
many name (f ∷ []) h = refl
many name (f ∷ g ∷ []) h = absurd (omega (arith, h))
many name (f ∷ g ∷ i ∷ fs) h = refl

-- what two fields tell
abbrev pub of_both : Named → Named → Option (ℤ × ℤ)
of_both x y = option_zip (integer_in (data_view x.1)) (integer_in (data_view y.1))

two : (name : Text) (fs : List Named) (x y : Named) → 2 ≤ length fs → length fs < 3 → x ≡ get_or fs 0 x → y ≡ get_or fs 1 y
    → of_both x y ≡ coordinates_in (plain.struct_of name (fields_view fs))
two name [] x y h k p q = absurd (omega (arith, h))
two name (f ∷ []) x y h k p q = absurd (omega (arith, h))
two name (f ∷ g ∷ []) x y h k p q = ap (λ v. of_both v y) p ∙ ap (λ v. of_both f v) q
two name (f ∷ g ∷ i ∷ fs) x y h k p q = absurd (omega (arith, k))

-- what data tells, by the fields that it has
seen : (d : Data) (name : String Global) (fields : Vec Named Global) → d ≡ held.Struct name fields
    → coordinates_in (data_view d) ≡ coordinates_in (plain.struct_of (chars (string_bytes name)) (fields_view fields.items))
seen d name fields is = ap (λ v. coordinates_in (data_view v)) is ∙ ap coordinates_in (view-struct name fields)

pub none_of_few : (d : Data) (name : String Global) (fields : Vec Named Global) (fs : List Named) → d ≡ held.Struct name fields → fs ≡ fields.items
    → length fs < 2 → None ≡ coordinates_in (data_view d)
none_of_few d name fields fs is items h =
    let P : List Named → Type 0 = λ l. length l < 2 in
    few (chars (string_bytes name)) fields.items (subst P items h) ∙ sym (seen d name fields is)

pub none_of_many : (d : Data) (name : String Global) (fields : Vec Named Global) (fs : List Named) → d ≡ held.Struct name fields → fs ≡ fields.items
    → 3 ≤ length fs → None ≡ coordinates_in (data_view d)
none_of_many d name fields fs is items h =
    let P : List Named → Type 0 = λ l. 3 ≤ length l in
    many (chars (string_bytes name)) fields.items (subst P items h) ∙ sym (seen d name fields is)

pub both_of_two : (d : Data) (name : String Global) (fields : Vec Named Global) (fs : List Named) (x y : Named) (one other : Option ℤ) (both : Option (ℤ × ℤ))
    → d ≡ held.Struct name fields → fs ≡ fields.items → 2 ≤ length fs → length fs < 3 → x ≡ get_or fs 0 x → y ≡ get_or fs 1 y → one ≡ integer_in (data_view x.1)
    → other ≡ integer_in (data_view y.1) → both ≡ option_zip one other → both ≡ coordinates_in (data_view d)
both_of_two d name fields fs x y one other both is items h k p q first last zip =
    zip ∙ ap (λ v. option_zip v other) first ∙ ap (λ v. option_zip (integer_in (data_view x.1)) v) last ∙ two (chars (string_bytes name)) fs x y h k p q
    ∙ ap (λ l. coordinates_in (plain.struct_of (chars (string_bytes name)) (fields_view l))) items ∙ sym (seen d name fields is)

-- ---- the words for them

pub words_are : (x y : ℤ) (p : Option (ℤ × ℤ)) (written words : List ℕ) → SFits w32 x → SFits w32 y → Some (x, y) ≡ p → words ≡ signed_decimal
    (to_z w32 (of_z w32 x)) ++ (codes " right and " ++ (signed_decimal (to_z w32 (of_z w32 y)) ++ (codes " up: " ++ written))) → words ≡ told_of p written
words_are x y p written words fx fy is h = (rw (to_z-of_z w32 x fx, to_z-of_z w32 y fy) at h) ∙ ap (λ v. told_of v written) is

pub words_behind : (front : List ℕ) (o : Option (List ℕ)) (words : List ℕ) → IfSome (option_append (Some front) o) (λ all. words ≡ all)
    → IfSome o (λ why. words ≡ front ++ why)
words_behind front None words h = tt
words_behind front (Some why) words h = h
