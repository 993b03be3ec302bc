-- What a fault says of a text where an integer stands and no type is given; and where a float's run goes on.
use Rattle.std.specs.Prelude.{◌≡◌, nat_lt, ℕ, Bool, true, false, ◌&&◌, length}
use Rattle.ron_spec_words.specs.Characters.{Text, dot}
use Rattle.ron_spec_words.specs.Runs.{is_at, run_of, after_run}
use Rattle.ron_spec_words.specs.Number.{in_number}
use Rattle.ron_spec_words.specs.AnyInteger.{in_float, past_sign, before_dots, is_float, any_integer}
use Rattle.ron_lex.specs.AnyInteger.{RefusesAnyInteger}
use Rattle.ron_lex.specs.declared.untyped.UntypedIntegerFault.{UntypedIntegerFault}
use Rattle.ron_lex.specs.declared.untyped.UntypedIntegerFault.TheVariants.{UnsupportedFloat, Integer}

-- what a float is made of goes on, up to the first `..`, behind the digits that stand here
abbrev pub passes_digits : Text → Bool
passes_digits s = nat_lt (length (run_of in_number s)) (length (before_dots (run_of in_float s)))

-- a point stands here, and what a float is made of goes on behind it, up to the first `..`
abbrev pub opens_fraction : Text → Bool
opens_fraction s = is_at dot s && nat_lt 1 (length (before_dots (run_of in_float s)))

-- what an integer and a float may both hold: digits, `e`, `E` and `_`
abbrev pub in_both : ℕ → Bool
in_both c = in_number c && in_float c

-- what follows these behind an optional sign: so far the test for a float goes at least
abbrev pub past_both : Text → Text
past_both s = after_run in_both (past_sign s)

-- A float stands there; or none does, and the fault is that of an integer or a byte literal.
abbrev pub RefusesUntyped : Text → UntypedIntegerFault → Text → Type 0
RefusesUntyped s UnsupportedFloat rest = (is_float s ≡ true) × (rest ≡ s)
RefusesUntyped s (Integer fault) rest = (is_float s ≡ false) × RefusesAnyInteger (any_integer s) fault rest
