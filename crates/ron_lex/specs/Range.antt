-- What a number or a range of the code stands for, and what a refusal says of a text.
use Rattle.std.specs.Prelude.{◌≡◌, ◌≤◌, ◌^◌, ◌⊎◌, Option, option_map, IsSomeAnd}
use Rattle.ron_spec_words.specs.Reader.{Got, got, failed, bad}
use Rattle.ron_spec_words.specs.Number as plain
use Rattle.ron_spec_words.specs.Range as words
use Rattle.ron_spec_words.specs.Range.{one, range}
use Rattle.ron_lex.specs.Numeral.{numeral_view}
use Rattle.ron_lex.specs.declared.numeral.Numeral.{Numeral}
use Rattle.ron_lex.specs.declared.interval.Interval.{Interval}
use Rattle.ron_lex.specs.declared.interval.Interval.TheVariants.{One, Range}

-- what a number before two points or behind them spells, if one stands there
abbrev pub start_view : Option Numeral → Option plain.Numeral
start_view start = option_map numeral_view start

-- what a number or a range spells
abbrev pub interval_view : Interval → words.Interval
interval_view (One n) = one (numeral_view n)
interval_view (Range start closed end) = range (start_view start) closed (start_view end)

-- its magnitude passes 128 bits
abbrev pub HasLargeMagnitude : plain.Numeral → Type 0
HasLargeMagnitude n = 2 ^ 128 ≤ n.magnitude

-- some number in it passes 128 bits
abbrev pub HoldsLarge : words.Interval → Type 0
HoldsLarge (one n) = HasLargeMagnitude n
HoldsLarge (range start closed end) = IsSomeAnd start HasLargeMagnitude ⊎ IsSomeAnd end HasLargeMagnitude

-- what was read holds a number that passes 128 bits, or nothing was read
abbrev pub RefusesInterval : Got words.Interval → Type 0
RefusesInterval (got i rest) = HoldsLarge i
RefusesInterval (failed f) = f ≡ bad
