-- Doc comments are equal where they are the same tree.
use Rattle.std.specs.Prelude.{◌≡◌, Bool, true, false, ◌&&◌}
use mathlib.Core.Path.{refl, ap, subst}
use Rattle.std.specs.Str.{bytes_eq}
use Rattle.std.specs.Cmp.{IsEquivalence, both_ways}
use Rattle.std.specs.Cmp.Lexicographic.{bytes_decides}
use Rattle.ron_ser_config.specs.Tree.{FieldTree, plain, holding, FieldsTree, no_fields, field_and}
use Rattle.ron_ser_config.specs.Same.{same_field, same_fields}

left : (a b : Bool) → a && b ≡ true → a ≡ true
left true b t = refl
left false b t = t

right : (a b : Bool) → a && b ≡ true → b ≡ true
right true b t = t
right false b t = absurd (cc)

mutual
  pub same_field-is : (s t : FieldTree) → same_field s t ≡ true → s ≡ t
  same_field-is (plain d) (plain e) t = λ i. plain ((bytes_decides d e).0 t i)
  same_field-is (plain d) (holding e gs) t = absurd (cc)
  same_field-is (holding d fs) (plain e) t = absurd (cc)
  same_field-is (holding d fs) (holding e gs) t =
      λ i. holding ((bytes_decides d e).0 (left (bytes_eq d e) (same_fields fs gs) t) i) (same_fields-is fs gs (right (bytes_eq d e) (same_fields fs gs) t) i)

  pub same_fields-is : (s t : FieldsTree) → same_fields s t ≡ true → s ≡ t
  same_fields-is no_fields no_fields t = refl
  same_fields-is no_fields (field_and m g gs) t = absurd (cc)
  same_fields-is (field_and n f fs) no_fields t = absurd (cc)
  same_fields-is (field_and n f fs) (field_and m g gs) t =
      let rest = right (bytes_eq n m) (same_field f g && same_fields fs gs) t in
      λ i. field_and ((bytes_decides n m).0 (left (bytes_eq n m) (same_field f g && same_fields fs gs) t) i)
      (same_field-is f g (left (same_field f g) (same_fields fs gs) rest) i) (same_fields-is fs gs (right (same_field f g) (same_fields fs gs) rest) i)

mutual
  pub same_field-itself : (s : FieldTree) → same_field s s ≡ true
  same_field-itself (plain d) = (bytes_decides d d).1 refl
  same_field-itself (holding d fs) = rw ((bytes_decides d d).1 refl) (same_fields-itself fs)

  pub same_fields-itself : (s : FieldsTree) → same_fields s s ≡ true
  same_fields-itself no_fields = refl
  same_fields-itself (field_and n f fs) = rw ((bytes_decides n n).1 refl, same_field-itself f) (same_fields-itself fs)

module _ (T : Type 0) (same : T → T → Bool) (is : (s t : T) → same s t ≡ true → s ≡ t) (itself : (s : T) → same s s ≡ true) where
  one_way : (s t : T) → same s t ≡ true → same t s ≡ true
  one_way s t e = subst (λ u. same u s ≡ true) (is s t e) (itself s)

  equiv : IsEquivalence same
  equiv = record {
    refl = itself;
    symm = λ s t. both_ways (same s t) (same t s) (one_way s t) (one_way t s);
    congr = λ s t u e. ap (λ v. same v u) (is s t e);
  }

pub same_field_equiv : IsEquivalence same_field
same_field_equiv = equiv FieldTree same_field same_field-is same_field-itself

pub same_fields_equiv : IsEquivalence same_fields
same_fields_equiv = equiv FieldsTree same_fields same_fields-is same_fields-itself
