-- Worked widths of numbers that are written without a type, each computed.
use Rattle.std.proofs.Common.{◌≡◌, true, false, Some, None, refl}
use Rattle.ron_value_number.specs.declared.width.Width.TheVariants.{I8, I16, I128, U8, U16, U128}
use Rattle.ron_value_number.specs.Number.{signed}
use Rattle.ron_value_number.specs.Smallest.{smallest_width, written_width}

zero : written_width None false (signed false 0) ≡ Some U8
unfolding smallest_width
zero = refl

-- a minus gives a width with a sign, also before zero
minus_zero : written_width None true (signed true 0) ≡ Some I8
unfolding smallest_width
minus_zero = refl

byte : written_width None false (signed false 255) ≡ Some U8
unfolding smallest_width
byte = refl

past_byte : written_width None false (signed false 256) ≡ Some U16
unfolding smallest_width
past_byte = refl

least_byte : written_width None true (signed true 128) ≡ Some I8
unfolding smallest_width
least_byte = refl

below_byte : written_width None true (signed true 129) ≡ Some I16
unfolding smallest_width
below_byte = refl

-- the largest number of all
largest : written_width None false (signed false 340282366920938463463374607431768211455) ≡ Some U128
unfolding smallest_width
largest = refl

too_large : written_width None false (signed false 340282366920938463463374607431768211456) ≡ None
unfolding smallest_width
too_large = refl

least : written_width None true (signed true 170141183460469231731687303715884105728) ≡ Some I128
unfolding smallest_width
least = refl

too_small : written_width None true (signed true 170141183460469231731687303715884105729) ≡ None
unfolding smallest_width
too_small = refl

-- a suffix names the width
by_suffix : written_width (Some I16) false (signed false 1) ≡ Some I16
unfolding smallest_width
by_suffix = refl

beyond_suffix : written_width (Some U8) false (signed false 256) ≡ None
unfolding smallest_width
beyond_suffix = refl

minus_zero_unsigned : written_width (Some U8) true (signed true 0) ≡ Some U8
unfolding smallest_width
minus_zero_unsigned = refl

minus_one_unsigned : written_width (Some U8) true (signed true 1) ≡ None
unfolding smallest_width
minus_one_unsigned = refl
