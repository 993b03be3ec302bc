-- Integers that compute, with what the format says of them.
use Rattle.std.proofs.Common.{◌≡◌, true, false, [], codes, Some, None, refl}
use Rattle.unicode_ident.proofs.Computing.{unicode_ident}
use Rattle.ron_spec_words.specs.Reader.{bad, got, failed}
use Rattle.ron_spec_words.specs.Number.{i8, i16, u8, opt_suffix, magnitude, number}
use Rattle.ron_spec_words.specs.Escape.{hex_byte}
use Rattle.ron_spec_words.specs.AnyInteger.{any_integer, untyped_integer}
use Rattle.ron_spec_words.specs.Quoted.{byte}

minus_zero : number (codes "-0") ≡ got (record { minus = true; magnitude = 0; suffix = None }) ([])
unfolding number magnitude opt_suffix unicode_ident
minus_zero = refl

three_hundred : number (codes "300") ≡ got (record { minus = false; magnitude = 300; suffix = None }) ([])
unfolding number magnitude opt_suffix unicode_ident
three_hundred = refl

begins_with_underscore : number (codes "_1i8") ≡ failed bad
unfolding number magnitude opt_suffix unicode_ident
begins_with_underscore = refl

digit_of_another_base : number (codes "0b102") ≡ failed bad
unfolding number magnitude opt_suffix unicode_ident
digit_of_another_base = refl

-- `e` is a hexadecimal digit and not below ten
exponent : number (codes "1e5") ≡ failed bad
unfolding number magnitude opt_suffix unicode_ident
exponent = refl

-- a front is an integer; where a number is wanted, what follows refuses it
fraction : number (codes "1.5") ≡ got (record { minus = false; magnitude = 1; suffix = None }) (codes ".5")
unfolding number magnitude opt_suffix unicode_ident
fraction = refl

with_suffix : number (codes "5u8") ≡ got (record { minus = false; magnitude = 5; suffix = Some u8 }) ([])
unfolding number magnitude opt_suffix unicode_ident
with_suffix = refl

underscore_behind_base : number (codes "0x_1") ≡ failed bad
unfolding number magnitude opt_suffix unicode_ident
underscore_behind_base = refl

hexadecimal : number (codes "0xFFi16") ≡ got (record { minus = false; magnitude = 255; suffix = Some i16 }) ([])
unfolding number magnitude opt_suffix unicode_ident
hexadecimal = refl

binary : number (codes "0b1i8") ≡ got (record { minus = false; magnitude = 1; suffix = Some i8 }) ([])
unfolding number magnitude opt_suffix unicode_ident
binary = refl

underscores : number (codes "1_000_u8") ≡ got (record { minus = false; magnitude = 1000; suffix = Some u8 }) ([])
unfolding number magnitude opt_suffix unicode_ident
underscores = refl

two_zeros : number (codes "00") ≡ got (record { minus = false; magnitude = 0; suffix = None }) ([])
unfolding number magnitude opt_suffix unicode_ident
two_zeros = refl

no_octal_digits : number (codes "0o") ≡ failed bad
unfolding number magnitude opt_suffix unicode_ident
no_octal_digits = refl

no_hexadecimal_digits : number (codes "0x") ≡ failed bad
unfolding number magnitude opt_suffix unicode_ident
no_hexadecimal_digits = refl

no_binary_digits : number (codes "0b") ≡ failed bad
unfolding number magnitude opt_suffix unicode_ident
no_binary_digits = refl

-- no suffix stands: an integer ends before it
no_width : number (codes "5u") ≡ got (record { minus = false; magnitude = 5; suffix = None }) (codes "u")
unfolding number magnitude opt_suffix unicode_ident
no_width = refl

no_such_width : number (codes "5u9") ≡ got (record { minus = false; magnitude = 5; suffix = None }) (codes "u9")
unfolding number magnitude opt_suffix unicode_ident
no_such_width = refl

suffix_that_goes_on : number (codes "5i128x") ≡ got (record { minus = false; magnitude = 5; suffix = None }) (codes "i128x")
unfolding number magnitude opt_suffix unicode_ident
suffix_that_goes_on = refl

plus : number (codes "+0x1f") ≡ got (record { minus = false; magnitude = 31; suffix = None }) ([])
unfolding number magnitude opt_suffix unicode_ident
plus = refl

two_signs : number (codes "--1") ≡ failed bad
unfolding number magnitude opt_suffix unicode_ident
two_signs = refl

capital_base : number (codes "0X1") ≡ got (record { minus = false; magnitude = 0; suffix = None }) (codes "X1")
unfolding number magnitude opt_suffix unicode_ident
capital_base = refl

zero_underscore : number (codes "0_o1") ≡ got (record { minus = false; magnitude = 0; suffix = None }) (codes "o1")
unfolding number magnitude opt_suffix unicode_ident
zero_underscore = refl

no_digit : number (codes "abcg") ≡ failed bad
unfolding number magnitude opt_suffix unicode_ident
no_digit = refl

byte_as_integer : any_integer (codes "b'\\xff',") ≡ got (record { minus = false; magnitude = 255; suffix = Some u8 }) (codes ",")
unfolding any_integer byte hex_byte
byte_as_integer = refl

no_signed_byte : any_integer (codes "-b'a'") ≡ failed bad
unfolding any_integer byte number magnitude opt_suffix unicode_ident
no_signed_byte = refl

untyped_fraction : untyped_integer (codes "1.5") ≡ failed bad
unfolding untyped_integer any_integer byte number magnitude opt_suffix unicode_ident
untyped_fraction = refl

untyped_exponent : untyped_integer (codes "1e5") ≡ failed bad
unfolding untyped_integer any_integer byte number magnitude opt_suffix unicode_ident
untyped_exponent = refl

untyped_sum : untyped_integer (codes "1-2") ≡ failed bad
unfolding untyped_integer any_integer byte number magnitude opt_suffix unicode_ident
untyped_sum = refl

untyped_range : untyped_integer (codes "1..5") ≡ got (record { minus = false; magnitude = 1; suffix = None }) (codes "..5")
unfolding untyped_integer any_integer byte number magnitude opt_suffix unicode_ident
untyped_range = refl

untyped_hexadecimal : untyped_integer (codes "0x1e5") ≡ got (record { minus = false; magnitude = 485; suffix = None }) []
unfolding untyped_integer any_integer byte number magnitude opt_suffix unicode_ident
untyped_hexadecimal = refl

untyped_negative : untyped_integer (codes "-1..2") ≡ got (record { minus = true; magnitude = 1; suffix = None }) (codes "..2")
unfolding untyped_integer any_integer byte number magnitude opt_suffix unicode_ident
untyped_negative = refl

untyped_suffix : untyped_integer (codes "5u8.5") ≡ got (record { minus = false; magnitude = 5; suffix = Some u8 }) (codes ".5")
unfolding untyped_integer any_integer byte number magnitude opt_suffix unicode_ident
untyped_suffix = refl

untyped_minus_zero : untyped_integer (codes "-0") ≡ got (record { minus = true; magnitude = 0; suffix = None }) []
unfolding untyped_integer any_integer byte hex_byte number magnitude opt_suffix unicode_ident
untyped_minus_zero = refl

untyped_underscore : untyped_integer (codes "1_000") ≡ got (record { minus = false; magnitude = 1000; suffix = None }) []
unfolding untyped_integer any_integer byte hex_byte number magnitude opt_suffix unicode_ident
untyped_underscore = refl

untyped_based : untyped_integer (codes "0x1F") ≡ got (record { minus = false; magnitude = 31; suffix = None }) []
unfolding untyped_integer any_integer byte hex_byte number magnitude opt_suffix unicode_ident
untyped_based = refl

untyped_width : untyped_integer (codes "1u8") ≡ got (record { minus = false; magnitude = 1; suffix = Some u8 }) []
unfolding untyped_integer any_integer byte hex_byte number magnitude opt_suffix unicode_ident
untyped_width = refl

untyped_byte : untyped_integer (codes "b'\\x41'") ≡ got (record { minus = false; magnitude = 65; suffix = Some u8 }) []
unfolding untyped_integer any_integer byte hex_byte number magnitude opt_suffix unicode_ident
untyped_byte = refl

-- a number is read whatever its magnitude: which width holds it is asked behind it
untyped_largest : untyped_integer (codes "340282366920938463463374607431768211455")
    ≡ got (record { minus = false; magnitude = 340282366920938463463374607431768211455; suffix = None }) []
unfolding untyped_integer any_integer byte hex_byte number magnitude opt_suffix unicode_ident
untyped_largest = refl

untyped_larger : untyped_integer (codes "340282366920938463463374607431768211456")
    ≡ got (record { minus = false; magnitude = 340282366920938463463374607431768211456; suffix = None }) []
unfolding untyped_integer any_integer byte hex_byte number magnitude opt_suffix unicode_ident
untyped_larger = refl

-- words of floats begin with no digit
untyped_infinity : untyped_integer (codes "inf") ≡ failed bad
unfolding untyped_integer any_integer byte hex_byte number magnitude opt_suffix unicode_ident
untyped_infinity = refl

untyped_nan : untyped_integer (codes "NaN") ≡ failed bad
unfolding untyped_integer any_integer byte hex_byte number magnitude opt_suffix unicode_ident
untyped_nan = refl

untyped_negative_fraction : untyped_integer (codes "-.5") ≡ failed bad
unfolding untyped_integer any_integer byte hex_byte number magnitude opt_suffix unicode_ident
untyped_negative_fraction = refl
