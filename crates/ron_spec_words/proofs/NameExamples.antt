-- Names without a schema, computed.
use Rattle.std.proofs.Common.{◌≡◌, [], codes, refl}
use Rattle.unicode_ident.proofs.Computing.{unicode_ident}
use Rattle.ron_spec_words.specs.Reader.{bad, got, failed}
use Rattle.ron_spec_words.specs.Name.{untyped_name}

letter : untyped_name (codes "r,") ≡ got (codes "r") (codes ",")
unfolding untyped_name unicode_ident
letter = refl

group : untyped_name (codes "Foo (1)") ≡ got (codes "Foo") (codes " (1)")
unfolding untyped_name unicode_ident
group = refl

-- words of values are no names
truth : untyped_name (codes "true") ≡ failed bad
unfolding untyped_name unicode_ident
truth = refl

no_value : untyped_name (codes "None") ≡ failed bad
unfolding untyped_name unicode_ident
no_value = refl

option : untyped_name (codes "Some(1)") ≡ failed bad
unfolding untyped_name unicode_ident
option = refl

infinity : untyped_name (codes "inf") ≡ failed bad
unfolding untyped_name unicode_ident
infinity = refl

wide_infinity : untyped_name (codes "inff64") ≡ failed bad
unfolding untyped_name unicode_ident
wide_infinity = refl

no_number : untyped_name (codes "NaN") ≡ failed bad
unfolding untyped_name unicode_ident
no_number = refl

narrow_no_number : untyped_name (codes "NaNf32") ≡ failed bad
unfolding untyped_name unicode_ident
narrow_no_number = refl

-- a longer name is
longer_word : untyped_name (codes "true_") ≡ got (codes "true_") []
unfolding untyped_name unicode_ident
longer_word = refl

other_width : untyped_name (codes "inff16") ≡ got (codes "inff16") []
unfolding untyped_name unicode_ident
other_width = refl

-- and so is a raw identifier, whatever its name
raw_truth : untyped_name (codes "r#true") ≡ got (codes "true") []
unfolding untyped_name unicode_ident
raw_truth = refl

raw_infinity : untyped_name (codes "r#inf") ≡ got (codes "inf") []
unfolding untyped_name unicode_ident
raw_infinity = refl

-- a mark may follow, and is no part of the name
mark_behind : untyped_name (codes "a.b") ≡ got (codes "a") (codes ".b")
unfolding untyped_name unicode_ident
mark_behind = refl

raw_mark : untyped_name (codes "r#a.b") ≡ got (codes "a.b") []
unfolding untyped_name unicode_ident
raw_mark = refl

empty_raw : untyped_name (codes "r#:42") ≡ failed bad
unfolding untyped_name unicode_ident
empty_raw = refl

-- no name begins where a literal does
raw_string : untyped_name (codes "r\"a\"") ≡ failed bad
unfolding untyped_name unicode_ident
raw_string = refl

byte_literal : untyped_name (codes "b'a'") ≡ failed bad
unfolding untyped_name unicode_ident
byte_literal = refl
