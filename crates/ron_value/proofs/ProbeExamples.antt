-- Worked numbers of binary digits, each computed.
use Rattle.std.proofs.Common.{◌≡◌, refl}
use Rattle.ron_value.specs.Probes.{binary_digits}

none : binary_digits 0 ≡ 0
none = refl

one : binary_digits 1 ≡ 1
one = refl

seven : binary_digits 7 ≡ 3
seven = refl

eight : binary_digits 8 ≡ 4
eight = refl

thousand : binary_digits 1000 ≡ 10
thousand = refl
