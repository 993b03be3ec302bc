-- Indices that lie below a number lie below any greater one: for `Schema::import`, which shifts them.
use Rattle.std.proofs.Common.{◌≡◌, ◌≤◌, ◌<◌, ℕ, Bool, true, nat_lt, List, [], ◌∷◌, map, length, get_or, refl, arith}
use Rattle.std.specs.List.{list_all}
use Rattle.std.proofs.lemmas.Bool.{and_parts}
use borrow.Author.Tests.{ltb-true, lt-ltb}
use Rattle.ron_spec_grammar.specs.Schema.{Field, Variant, VariantShape, unit_variant, newtype_variant, tuple_variant, struct_variant, Shape, bool, int, char}
use Rattle.ron_spec_grammar.specs.Schema.{str, bytes, unit, optional, unit_struct, seq, tuple, tuple_struct, map as map_, newtype, struct, enum, any_value}
use Rattle.ron_spec_grammar.specs.Schema.{any_raw, holds_below, variant_below}
use Rattle.ron_spec_grammar.proofs.Finding.{all_get}
use Rattle.ron_data_schema.proofs.TableLemmas.{view_at}

-- what each element passes, the one at an index passes
pub passes_at : {X Y : Type 0} (view : X → Y) (test : Y → Bool) (xs : List X) (i : ℕ) (x : X) → list_all test (map view xs) ≡ true → i < length xs
    → x ≡ get_or xs i x → test (view x) ≡ true
passes_at view test xs i x all lt e = all_get test (map view xs) i (view x) all (view_at view xs i x (lt-ltb i (length xs) lt) e)

all_more : {A : Type 0} (p q : A → Bool) → ((a : A) → p a ≡ true → q a ≡ true) → (xs : List A) → list_all p xs ≡ true → list_all q xs ≡ true
all_more p q more [] h = refl
all_more p q more (x ∷ xs) h = let k = and_parts (p x) (list_all p xs) h in rw (more x k.0, all_more p q more xs k.1) refl

module _ (m n : ℕ) (le : m ≤ n) where
  below : (j : ℕ) → nat_lt j m ≡ true → nat_lt j n ≡ true
  below j h = let lt = ltb-true j m h in lt-ltb j n (omega arith)

  variant_more : (v : VariantShape) → variant_below m v ≡ true → variant_below n v ≡ true
  variant_more unit_variant h = refl
  variant_more (newtype_variant j) h = below j h
  variant_more (tuple_variant js) h = all_more (λ j. nat_lt j m) (λ j. nat_lt j n) below js h
  variant_more (struct_variant list) h = all_more (λ (f : Field). nat_lt f.shape m) (λ f. nat_lt f.shape n) (λ f. below f.shape) list.fields h

  shape_more : (s : Shape) → holds_below m s ≡ true → holds_below n s ≡ true
  shape_more (optional j) h = below j h
  shape_more (newtype name j) h = below j h
  shape_more (seq j) h = below j h
  shape_more (tuple js) h = all_more (λ j. nat_lt j m) (λ j. nat_lt j n) below js h
  shape_more (tuple_struct name js) h = all_more (λ j. nat_lt j m) (λ j. nat_lt j n) below js h
  shape_more (map_ k v) h = let both = and_parts (nat_lt k m) (nat_lt v m) h in rw (below k both.0, below v both.1) refl
  shape_more (struct name list) h = all_more (λ (f : Field). nat_lt f.shape m) (λ f. nat_lt f.shape n) (λ f. below f.shape) list.fields h
  shape_more (enum name variants) h =
      all_more (λ (v : Variant). variant_below m v.content) (λ v. variant_below n v.content) (λ v. variant_more v.content) variants h
  shape_more bool h = refl
  shape_more (int w) h = refl
  shape_more char h = refl
  shape_more str h = refl
  shape_more bytes h = refl
  shape_more unit h = refl
  shape_more (unit_struct name) h = refl
  shape_more any_value h = refl
  shape_more any_raw h = refl

  pub table_more : (shapes : List Shape) → list_all (holds_below m) shapes ≡ true → list_all (holds_below n) shapes ≡ true
  table_more = all_more (holds_below m) (holds_below n) shape_more
