-- Values with equal data are equal: of types that hold no other, and of those that hold others where it is so of these.
use Rattle.std.specs.Prelude.{◌≡◌, ℕ, pos, nat_abs, Bool, true, false, ◌&&◌, nat_eq, List, [], ◌∷◌, map, Option, Some, None, String, chars, string_bytes}
use Rattle.std.proofs.Common.{refl, sym, ap, ◌∙◌, subst, true≢false}
use Rattle.std.specs.declared.alloc.Global.{Global}
use Rattle.std.specs.declared.cmp.Ordering.{Ordering}
use Rattle.std.specs.Ordering.{eq_by_cmp, is_eq, int_eq}
use mathlib.Core.Bool.{beq}
use Rattle.std.specs.Option.{option_eq}
use Rattle.std.specs.String.{string_eq}
use Rattle.std.specs.Cmp.{IsEquivalence, IsTotalOrder, nat_eq_equiv, int_eq_equiv, tied_itself}
use Rattle.std.specs.Cmp.Lexicographic.{pointwise, bytes_decides}
use Rattle.std.proofs.lemmas.Str.{IsUtf8-from_is_utf8}
use Rattle.ron_value_number.specs.declared.width.Width.{Width}
use Rattle.ron_value.specs.Tree.{Tree}
use Rattle.ron_value.specs.Order.{tree_cmp}
use Rattle.ron_value.specs.OrderLaws.{tree_cmp_total}
use Rattle.ron_spec_grammar.specs.Data.{Data, bool_of, char_of, int_of, str_of, the_unit, some_of, tuple_of, map_of, value_of, raw_of, datas, Pairs, no_pairs}
use Rattle.ron_spec_grammar.specs.Data.{pair_and}
use Rattle.ron_data.specs.Datum.{pairs_of}
use Rattle.ron_de_raw.specs.declared.raw.RawValue.{RawValue}
use Rattle.ron_de_raw.specs.Raw.{raw_bytes, raw_text_of}
use Rattle.ron_spec_words.specs.Characters.{Text}
use Rattle.ron_types.specs.Keys.{bool_in, char_in, number_in, bytes_in, tree_in, items_of, items_in}
use Rattle.ron_types.specs.Normal.{option_data, list_data, entries_data, map_data}
use Rattle.ron_types.specs.Recovery.{Recovers, AreEqual}
use Rattle.ron_types.specs.Texts.{text_of_bytes, bytes_of_text}
use Rattle.ron_types.specs.TextLaws.{chars_back, bytes_back, string_back}

-- ---- types that hold no other

pub booleans_recover : Recovers bool_of beq
booleans_recover x y e = subst (λ z. beq x z ≡ true) (ap bool_in e) (itself x)
  where
    itself : (b : Bool) → beq b b ≡ true
    itself true = refl
    itself false = refl

pub characters_recover : Recovers char_of nat_eq
characters_recover x y e = let equal = nat_eq_equiv in subst (λ z. nat_eq x z ≡ true) (ap char_in e) (equal.refl x)

pub signed_recover : (w : Width) → Recovers (int_of w) int_eq
signed_recover w x y e = let equal = int_eq_equiv in subst (λ z. int_eq x z ≡ true) (ap number_in e) (equal.refl x)

pub unsigned_recover : (w : Width) → Recovers (λ n. int_of w (pos n)) nat_eq
unsigned_recover w x y e = let equal = nat_eq_equiv in subst (λ z. nat_eq x z ≡ true) (ap (λ d. nat_abs (number_in d)) e) (equal.refl x)

pub strings_recover : Recovers (λ (s : String Global). str_of (chars (string_bytes s))) string_eq
strings_recover x y e = (bytes_decides (string_bytes x) (string_bytes y)).1 (sym (string_back x) ∙ ap bytes_in e ∙ string_back y)

pub texts_recover : Recovers (λ bs. str_of (text_of_bytes bs)) (pointwise nat_eq)
texts_recover x y e = (bytes_decides x y).1 (sym (bytes_back x) ∙ ap bytes_in e ∙ bytes_back y)

pub values_recover : Recovers value_of (eq_by_cmp tree_cmp)
values_recover s t e = ap (λ u. is_eq (tree_cmp s u)) (sym (ap tree_in e)) ∙ ap is_eq (tied_itself tree_cmp_total s)

abbrev raw_in : Data → Text
raw_in (raw_of t) = t
raw_in _ = []

-- the bytes of a raw text are UTF-8, so they are those of its characters
pub raw_texts_recover : Recovers (λ r. raw_of (raw_text_of r)) (λ p q. pointwise nat_eq (raw_bytes p) (raw_bytes q))
raw_texts_recover x y e = (bytes_decides (raw_bytes x) (raw_bytes y)).1 (sym (kept x) ∙ ap (λ d. bytes_of_text (raw_in d)) e ∙ kept y)
  where
    kept : (r : RawValue) → bytes_of_text (raw_text_of r) ≡ raw_bytes r
    kept r = chars_back (raw_bytes r) (IsUtf8-from_is_utf8 (raw_bytes r) r.spelled)

-- ---- types that hold others

-- items, from what holds them
pub items_back : (ds : List Data) → items_of (datas ds) ≡ ds
items_back [] = refl
items_back (d ∷ ds) = ap (λ es. d ∷ es) (items_back ds)

-- what stands first, what stands behind it, and whether anything does
abbrev first_or : {X : Type 0} → X → List X → X
first_or x [] = x
first_or x (y ∷ ys) = y

abbrev others_of : {X : Type 0} → List X → List X
others_of [] = []
others_of (x ∷ xs) = xs

abbrev is_more : {X : Type 0} → List X → Bool
is_more [] = false
is_more (x ∷ xs) = true

pub equal_lists : (ds es : List Data) → ds ≡ es → AreEqual ds es
equal_lists [] [] e = tt
equal_lists [] (d ∷ ds) e = absurd (true≢false (sym (ap is_more e)))
equal_lists (d ∷ ds) [] e = absurd (true≢false (ap is_more e))
equal_lists (d ∷ ds) (c ∷ cs) e = (ap (first_or d) e, equal_lists ds cs (ap others_of e))

-- tuples, by the data of their items
pub tuples_tell : {T : Type 0} (x y : T) (items : T → List Data) → tuple_of (datas (items x)) ≡ tuple_of (datas (items y)) → AreEqual (items x) (items y)
tuples_tell x y items e = equal_lists (items x) (items y) (sym (items_back (items x)) ∙ ap items_in e ∙ items_back (items y))

abbrev is_there : Data → Bool
is_there (some_of d) = true
is_there _ = false

abbrev held_in : Data → Data
held_in (some_of d) = d
held_in d = d

-- each item is told, so all are
module _ {T D : Type 0} (f : T → D) (equal : T → T → Bool) (recover : (x y : T) → f x ≡ f y → equal x y ≡ true) where
  each_recovers : (xs ys : List T) → map f xs ≡ map f ys → pointwise equal xs ys ≡ true
  each_recovers [] [] e = refl
  each_recovers [] (y ∷ ys) e = absurd (true≢false (sym (ap is_more e)))
  each_recovers (x ∷ xs) [] e = absurd (true≢false (ap is_more e))
  each_recovers (x ∷ xs) (y ∷ ys) e = λ i. recover x y (ap (first_or (f x)) e) i && each_recovers xs ys (ap others_of e) i

module _ {T : Type 0} (f : T → Data) (equal : T → T → Bool) (recover : Recovers f equal) where
  pub options_recover : Recovers (option_data f) (option_eq equal)
  options_recover None None e = refl
  options_recover None (Some y) e = absurd (true≢false (sym (ap is_there e)))
  options_recover (Some x) None e = absurd (true≢false (ap is_there e))
  options_recover (Some x) (Some y) e = recover x y (ap held_in e)

  pub lists_recover : Recovers (list_data f) (pointwise equal)
  lists_recover xs ys e = each_recovers f equal recover xs ys (sym (items_back (map f xs)) ∙ ap items_in e ∙ items_back (map f ys))

-- ---- maps

-- keys that compare as their data do are told by them
keys_recover : {K : Type 0} (cmp : K → K → Ordering) (equal : K → K → Bool) (f : K → Data) (key_cmp : Data → Data → Ordering)
    → ((x y : K) → cmp x y ≡ key_cmp (f x) (f y)) → IsTotalOrder cmp → ((x y : K) → equal x y ≡ eq_by_cmp cmp x y) → Recovers f equal
keys_recover cmp equal f key_cmp alike total ties x y e =
    ties x y ∙ ap is_eq (alike x y ∙ ap (key_cmp (f x)) (sym e) ∙ sym (alike x x) ∙ tied_itself total x)

abbrev pairs_in : Pairs → List (Data × Data)
pairs_in no_pairs = []
pairs_in (pair_and k d ps) = (k, d) ∷ pairs_in ps

abbrev entries_in : Data → List (Data × Data)
entries_in (map_of ps) = pairs_in ps
entries_in _ = []

pairs_back : (es : List (Data × Data)) → pairs_in (pairs_of es) ≡ es
pairs_back [] = refl
pairs_back (e ∷ es) = ap (λ fs. e ∷ fs) (pairs_back es)

module _ {K V : Type 0} (cmp : K → K → Ordering) (equal_keys : K → K → Bool) (f : K → Data) (key_cmp : Data → Data → Ordering)
    (alike : (x y : K) → cmp x y ≡ key_cmp (f x) (f y)) (total : IsTotalOrder cmp) (ties : (x y : K) → equal_keys x y ≡ eq_by_cmp cmp x y) where
  pub maps_recover : (g : V → Data) (equal : V → V → Bool) → Recovers g equal
      → Recovers (map_data f g) (pointwise (λ (d e : K × V). equal_keys d.0 e.0 && equal d.1 e.1))
  maps_recover g equal recover xs ys e =
      each_recovers (λ (d : K × V). (f d.0, g d.1)) (λ d e. equal_keys d.0 e.0 && equal d.1 e.1)
      (λ d e same. λ i. keys_recover cmp equal_keys f key_cmp alike total ties d.0 e.0 (ap (λ p. p.0) same) i && recover d.1 e.1 (ap (λ p. p.1) same) i)
      xs ys (sym (pairs_back (entries_data f g xs)) ∙ ap entries_in e ∙ pairs_back (entries_data f g ys))
