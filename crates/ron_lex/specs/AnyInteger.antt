-- What a fault says of a text where an integer is wanted.
use Rattle.std.specs.Prelude.{◌≡◌}
use Rattle.ron_spec_words.specs.Characters.{Text}
use Rattle.ron_spec_words.specs.Reader.{Got, failed, bad}
use Rattle.ron_spec_words.specs.Number as plain
use Rattle.ron_lex.specs.Numeral.{RefusesNumeral}
use Rattle.ron_lex.specs.declared.any_integer.AnyIntegerFault.{AnyIntegerFault}
use Rattle.ron_lex.specs.declared.any_integer.AnyIntegerFault.TheVariants.{Integer, Byte}

-- the fault of an integer says what it says there, and of a byte literal that none is read
abbrev pub RefusesAnyInteger : Got plain.Numeral → AnyIntegerFault → Text → Type 0
RefusesAnyInteger answer (Integer fault) rest = RefusesNumeral answer fault rest
RefusesAnyInteger answer (Byte fault) rest = answer ≡ failed bad
