-- The two words that may stand where an integer is wanted, an integer or a byte literal: for `split_any_integer`.
use Rattle.std.proofs.Common.{◌≡◌, ℕ, true, false, codes, Some, refl, sym, ap}
use Rattle.ron_spec_words.specs.Characters.{Text}
use Rattle.ron_spec_words.specs.Runs.{begins_with}
use Rattle.ron_spec_words.specs.Reader.{got, failed, bad, given}
use Rattle.ron_spec_words.specs.Quoted.{byte}
use Rattle.ron_spec_words.specs.Number.{Numeral, number}
use Rattle.ron_spec_words.specs.AnyInteger.{byte_numeral, any_integer}

pub any_byte : (s : Text) (b : ℕ) (n : Numeral) (rest : Text) → true ≡ begins_with (codes "b'") s → byte s ≡ got b rest → Some n ≡ byte_numeral b
    → any_integer s ≡ got n rest
unfolding any_integer
any_byte s b n rest e g is = rw (sym e, g) (ap (λ o. given o rest) (sym is))

pub no_byte : (s : Text) → true ≡ begins_with (codes "b'") s → byte s ≡ failed bad → any_integer s ≡ failed bad
unfolding any_integer
no_byte s e g = rw (sym e, g) refl

pub any_number : (s : Text) → false ≡ begins_with (codes "b'") s → any_integer s ≡ number s
unfolding any_integer
any_number s e = rw (sym e) refl
