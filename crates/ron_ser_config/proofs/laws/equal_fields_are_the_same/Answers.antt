use Rattle.std.proofs.Common.{◌≡◌, true, subst}
use Rattle.ron_ser_config.specs.Tree.{FieldTree, FieldsTree}
use Rattle.ron_ser_config.specs.Same.{same_field, same_fields}
use Rattle.ron_ser_config.specs.SameLaws.{same_field-is, same_field-itself, same_fields-is, same_fields-itself}
use Rattle.ron_ser_config.proofs.laws.equal_fields_are_the_same.Goals as goal

pub returns : goal.returns
returns c = record {
  one = λ s t. (same_field-is s t, λ same. subst (λ (u : FieldTree). same_field s u ≡ true) same (same_field-itself s));
  many = λ s t. (same_fields-is s t, λ same. subst (λ (u : FieldsTree). same_fields s u ≡ true) same (same_fields-itself s));
}
