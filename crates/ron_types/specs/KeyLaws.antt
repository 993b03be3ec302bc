-- Keys compare as their data do.
use Rattle.std.specs.Prelude.{◌≡◌, ℕ, pos, List, [], ◌∷◌, map, Option, Some, None, String, string_bytes, chars}
use Rattle.std.proofs.Common.{refl, sym}
use Rattle.std.specs.declared.alloc.Global.{Global}
use Rattle.std.specs.declared.cmp.Ordering.{Ordering}
use Rattle.std.specs.Ordering.{nat_cmp, int_cmp, ordering_then}
use Rattle.std.specs.Option.{option_cmp}
use Rattle.std.specs.Cmp.Lexicographic.{slice_cmp}
use Rattle.ron_spec_grammar.specs.Data.{Data, datas}
use Rattle.ron_value.specs.OrderLaws.{unsigned_cmp}
use Rattle.ron_types.specs.Normal.{option_data}
use Rattle.ron_types.specs.Keys.{content_in, items_of}
use Rattle.ron_types.specs.Texts.{text_of_bytes, bytes_of_text}
use Rattle.ron_types.specs.TextLaws.{bytes_back, string_back}

pub unsigned_alike : (x y : ℕ) → nat_cmp x y ≡ int_cmp (pos x) (pos y)
unsigned_alike x y = sym (unsigned_cmp x y)

pub texts_alike : (x y : List ℕ) → slice_cmp nat_cmp x y ≡ slice_cmp nat_cmp (bytes_of_text (text_of_bytes x)) (bytes_of_text (text_of_bytes y))
texts_alike x y = λ i. slice_cmp nat_cmp (sym (bytes_back x) i) (sym (bytes_back y) i)

pub strings_alike : (x y : String Global)
    → slice_cmp nat_cmp (string_bytes x) (string_bytes y) ≡ slice_cmp nat_cmp (bytes_of_text (chars (string_bytes x))) (bytes_of_text (chars (string_bytes y)))
strings_alike x y = λ i. slice_cmp nat_cmp (sym (string_back x) i) (sym (string_back y) i)

-- ---- keys that hold keys

module _ {K : Type 0} (cmp : K → K → Ordering) (data_of : K → Data) (key_cmp : Data → Data → Ordering)
    (alike : (x y : K) → cmp x y ≡ key_cmp (data_of x) (data_of y)) where
  pub options_alike : (p q : Option K) → option_cmp cmp p q ≡ option_cmp key_cmp (content_in (option_data data_of p)) (content_in (option_data data_of q))
  options_alike None None = refl
  options_alike None (Some y) = refl
  options_alike (Some x) None = refl
  options_alike (Some x) (Some y) = alike x y

  pub lists_alike : (xs ys : List K) → slice_cmp cmp xs ys ≡ slice_cmp key_cmp (items_of (datas (map data_of xs))) (items_of (datas (map data_of ys)))
  lists_alike [] [] = refl
  lists_alike [] (y ∷ ys) = refl
  lists_alike (x ∷ xs) [] = refl
  lists_alike (x ∷ xs) (y ∷ ys) = λ i. ordering_then (alike x y i) (lists_alike xs ys i)
