-- One level of data of code: what it stands for, and that it is accepted where what it holds is.
use Rattle.std.proofs.Common.{◌≡◌, ◌≤◌, ◌∙◌, ℕ, zero, suc, length, take, List, [], ◌∷◌, ◌++◌, map, Some, Box, Vec, String, Global, chars, string_bytes, rules}
use Rattle.std.proofs.Common.{refl, ap, arith}
use Rattle.ron_spec_grammar.specs.Data as plain
use Rattle.ron_spec_grammar.specs.Data.{datas}
use Rattle.ron_data.specs.declared.data.Data.{Data, the_lemmas}
use Rattle.ron_data.specs.declared.data.Data.TheVariants as held
use Rattle.ron_data.specs.Datum.{data_view, items_view, pairs_view, fields_view, seen_fields}
use Rattle.ron_types.specs.Accepts.{IsOption, IsList, IsTuple, IsMap}
use Rattle.ron_types.specs.Lists.{Each}
use Rattle.ron_types.specs.Normal.{items_normal}

pub view-Some : (b : Box Data Global) → data_view (held.Option (Some b)) ≡ plain.some_of (data_view b.value)
view-Some b = search (rules, the_lemmas)

pub view-Seq : (v : Vec Data Global) → data_view (held.Seq v) ≡ plain.list_of (items_view v.items)
view-Seq v = search (rules, the_lemmas)

pub view-Tuple : (v : Vec Data Global) → data_view (held.Tuple v) ≡ plain.tuple_of (items_view v.items)
view-Tuple v = search (rules, the_lemmas)

pub view-Map : (v : Vec (Data × Data) Global) → data_view (held.Map v) ≡ plain.map_of (pairs_view v.items)
view-Map v = search (rules, the_lemmas)

pub accepts-Some : (P : Data → Type 0) (b : Box Data Global) → P b.value → IsOption P (held.Option (Some b))
accepts-Some P b h = search (rules, the_lemmas)

pub accepts-Seq : (P : List Data → Type 0) (v : Vec Data Global) → P v.items → IsList P (held.Seq v)
accepts-Seq P v h = search (rules, the_lemmas)

pub accepts-Tuple : (P : List Data → Type 0) (v : Vec Data Global) → P v.items → IsTuple P (held.Tuple v)
accepts-Tuple P v h = search (rules, the_lemmas)

pub accepts-Map : (P : List (Data × Data) → Type 0) (v : Vec (Data × Data) Global) → P v.items → IsMap P (held.Map v)
accepts-Map P v h = search (rules, the_lemmas)

-- ---- items

pub items_normal-map : {X : Type 0} (f : plain.Data → plain.Data) (g : X → plain.Data) (xs : List X)
    → items_normal f (datas (map g xs)) ≡ datas (map (λ x. f (g x)) xs)
items_normal-map f g [] = refl
items_normal-map f g (x ∷ xs) = ap (plain.data_and (f (g x))) (items_normal-map f g xs)

pub taken : {X : Type 0} (n : ℕ) (xs ys : List X) → length xs ≤ n → xs ≡ ys → take n xs ≡ ys
taken n xs ys h e = all n xs h ∙ e
  where
    all : {X : Type 0} (n : ℕ) (xs : List X) → length xs ≤ n → take n xs ≡ xs
    all zero [] h = refl
    all (suc n) [] h = refl
    all zero (x ∷ xs) h = absurd (omega arith)
    all (suc n) (x ∷ xs) h = ap (λ ys. x ∷ ys) (all n xs (omega arith))

pub each_more : {X : Type 0} (P : X → Type 0) (xs : List X) (x : X) → Each P xs → P x → Each P (xs ++ x ∷ [])
each_more P [] x h k = (k, tt)
each_more P (y ∷ xs) x h k = (h.0, each_more P xs x h.1 k)

pub each_map : {X Y : Type 0} (P : Y → Type 0) (f : X → Y) (xs : List X) → Each (λ x. P (f x)) xs → Each P (map f xs)
each_map P f [] h = tt
each_map P f (x ∷ xs) h = (h.0, each_map P f xs h.1)

-- ---- structs

pub view-Struct : (name : String Global) (fields : Vec (String Global × Data) Global)
    → data_view (held.Struct name fields) ≡ plain.struct_of (chars (string_bytes name)) (fields_view fields.items)
view-Struct name fields = search (rules, the_lemmas, seen-named fields.items)
  where
    seen-named : (fs : List (String Global × Data)) → seen_fields (map (λ f. (f.0, data_view f.1)) fs) ≡ fields_view fs
    seen-named [] = refl
    seen-named (f ∷ fs) = ap (plain.field_and (chars (string_bytes f.0)) (data_view f.1)) (seen-named fs)
