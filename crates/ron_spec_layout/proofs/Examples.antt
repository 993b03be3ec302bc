-- Worked texts, each computed; and that one is read back, by the law.
use Rattle.std.proofs.Common.{◌≡◌, ℕ, zero, suc, ◌-◌, ◌^◌, true, false, List, [], ◌∷◌, codes, Some, map, pos, neg_ℤ, refl}
use Rattle.std.specs.Fmt.{digits}
use Rattle.unicode_ident.proofs.Computing.{unicode_ident}
use Rattle.unicode.proofs.GeneralCategoryLemmas.{general_category_stepped}
use Rattle.ron_spec_words.specs.Characters.{Text}
use Rattle.ron_spec_words.specs.Lang.{Lang, Means, Items}
use Rattle.ron_spec_words.specs.AnyInteger.{AnyInteger}
use Rattle.ron_value_number.specs.declared.width.Width.TheVariants.{I8, I32, I128, U8, U128}
use Rattle.ron_spec_grammar.specs.Data.{Data, int_of, char_of, str_of, bytes_of, struct_of, no_fields, field_and}
use Rattle.ron_spec_grammar.specs.Schema.{Shape, int, char, str, bytes, struct, only, field}
use Rattle.ron_spec_grammar.specs.Shapes.Int.{in_width}
use Rattle.ron_spec_grammar.specs.Rule.{Extensions}
use Rattle.ron_spec_grammar.specs.Document.{Document}
use Rattle.ron_spec_layout.specs.Name.{names_ok, first_refused}
use Rattle.ron_spec_layout.specs.Encodable.{is_encodable}
use Rattle.ron_spec_layout.specs.Brackets.{joined}
use Rattle.ron_spec_layout.specs.Config.{no_config, spacing}
use Rattle.ron_spec_layout.specs.Depth.{writer_depth}
use Rattle.ron_spec_layout.specs.Stand.{Stands}
use Rattle.ron_spec_layout.proofs.Computing.{laying, plain}
use Rattle.ron_spec_layout.proofs.Stands.{ends_delimiter}
use Rattle.ron_spec_layout.proofs.Written.{integer_text_stands}
use Rattle.ron_spec_layout.proofs.Items.{spaced_items}
use Rattle.ron_spec_layout.proofs.Closed.{are_gaps, is_spacing}
use Rattle.ron_spec_layout.proofs.Readable.{read_back}

abbrev none : Extensions
none = record { unwrap_newtypes = false; implicit_some = false; unwrap_variant_newtypes = false; explicit_struct_names = false }

abbrev written : Data → Text
written d = plain none false d

-- ---- structs

abbrev point : Data
point = struct_of (codes "Point") (field_and (codes "x") (int_of I32 (pos 3)) (field_and (codes "y") (int_of I32 (neg_ℤ (pos 4))) no_fields))

fields_without_blanks : written point ≡ codes "(x:3,y:-4)"
unfolding laying
fields_without_blanks = refl

bare_fields : plain none true point ≡ codes "x:3,y:-4"
unfolding laying
bare_fields = refl

no_fields_at_all : written (struct_of (codes "S") no_fields) ≡ codes "()"
unfolding laying
no_fields_at_all = refl

-- structs within one another, n of them, and a number in the last
abbrev nested : ℕ → Data
nested zero = int_of I32 (pos 7)
nested (suc n) = struct_of (codes "S") (field_and (codes "a") (nested n) no_fields)

structs_in_structs : written (nested 3) ≡ codes "(a:(a:(a:7)))"
unfolding laying
structs_in_structs = refl

structs_and_numbers : written (struct_of (codes "T") (field_and (codes "p") point
    (field_and (codes "q") (int_of U8 (pos 0)) (field_and (codes "s") (struct_of (codes "S") no_fields) no_fields)))) ≡ codes "(p:(x:3,y:-4),q:0,s:())"
unfolding laying
structs_and_numbers = refl

-- ---- names

-- S with one field of this name, and 1 in it
abbrev one : Text → Data
one n = struct_of (codes "S") (field_and n (int_of U8 (pos 1)) no_fields)

value_word_true : written (one (codes "true")) ≡ codes "(r#true:1)"
unfolding laying
value_word_true = refl

value_word_none : written (one (codes "None")) ≡ codes "(r#None:1)"
unfolding laying
value_word_none = refl

value_word_inff32 : written (one (codes "inff32")) ≡ codes "(r#inff32:1)"
unfolding laying
value_word_inff32 = refl

value_word_and_more : written (one (codes "NaNs")) ≡ codes "(NaNs:1)"
unfolding laying
value_word_and_more = refl

name_r : written (one (codes "r")) ≡ codes "(r:1)"
unfolding laying
name_r = refl

name_b : written (one (codes "b")) ≡ codes "(b:1)"
unfolding laying
name_b = refl

name_br : written (one (codes "br")) ≡ codes "(br:1)"
unfolding laying
name_br = refl

name_with_point : written (one (codes "a.b")) ≡ codes "(r#a.b:1)"
unfolding laying
name_with_point = refl

name_with_plus : written (one (codes "a+b")) ≡ codes "(r#a+b:1)"
unfolding laying
name_with_plus = refl

name_of_digit : written (one (codes "1")) ≡ codes "(r#1:1)"
unfolding laying
name_of_digit = refl

name_of_underscore : written (one (codes "_")) ≡ codes "(_:1)"
unfolding laying
name_of_underscore = refl

-- `Äöß`
name_past_ascii : written (one (0xC4 ∷ 0xF6 ∷ 0xDF ∷ [])) ≡ 40 ∷ 0xC4 ∷ 0xF6 ∷ 0xDF ∷ codes ":1)"
unfolding laying
name_past_ascii = refl

-- a name that cannot be written
name_with_blank : names_ok (one (codes "a b")) ≡ false
unfolding unicode_ident
name_with_blank = refl

no_name : names_ok (one []) ≡ false
unfolding unicode_ident
no_name = refl

struct_name_with_blank : names_ok (struct_of (codes "a b") no_fields) ≡ false
unfolding unicode_ident
struct_name_with_blank = refl

name_with_marks : names_ok (one (codes "-.+")) ≡ true
unfolding unicode_ident
name_with_marks = refl

-- a name in a field's data comes before the next field's
first_of_two_names : first_refused (struct_of (codes "S") (field_and (codes "a") (one (codes "b c")) (field_and [] (int_of U8 (pos 1)) no_fields)))
    ≡ Some (codes "b c")
unfolding unicode_ident
first_of_two_names = refl

struct_name_before_field : first_refused (struct_of (codes "a b") (field_and [] (int_of U8 (pos 1)) no_fields)) ≡ Some (codes "a b")
unfolding unicode_ident
struct_name_before_field = refl

layout_of_name_with_blank : written (one (codes "a b")) ≡ codes "(r#a b:1)"
unfolding laying
layout_of_name_with_blank = refl

-- ---- integers

zero_as_it_is : written (int_of I8 (pos 0)) ≡ codes "0"
unfolding laying
zero_as_it_is = refl

minus_four : written (int_of I8 (neg_ℤ (pos 4))) ≡ codes "-4"
unfolding laying
minus_four = refl

least_i128 : written (int_of I128 (neg_ℤ (pos (2 ^ 127)))) ≡ codes "-170141183460469231731687303715884105728"
unfolding laying
least_i128 = refl

greatest_i128 : written (int_of I128 (pos (2 ^ 127 - 1))) ≡ codes "170141183460469231731687303715884105727"
unfolding laying
greatest_i128 = refl

least_u128 : written (int_of U128 (pos 0)) ≡ codes "0"
unfolding laying
least_u128 = refl

greatest_u128 : written (int_of U128 (pos (2 ^ 128 - 1))) ≡ codes "340282366920938463463374607431768211455"
unfolding laying
greatest_u128 = refl

-- ---- characters, strings and bytes

quote_with_backslash : written (char_of 39) ≡ codes "'\\''"
unfolding laying
quote_with_backslash = refl

backslash_with_backslash : written (char_of 92) ≡ codes "'\\\\'"
unfolding laying
backslash_with_backslash = refl

-- LF stands as it is in a character, and not in a string
line_feed_as_it_is : written (char_of 10) ≡ codes "'\n'"
unfolding laying
line_feed_as_it_is = refl

line_feed_by_letter : written (str_of (codes "\n")) ≡ codes "\"\\n\""
unfolding laying
line_feed_by_letter = refl

quote_in_string : written (str_of (codes "it's")) ≡ codes "\"it\\'s\""
unfolding laying
quote_in_string = refl

-- a letter past ASCII, and a format character, a mark and a control by their numbers
by_number : written (str_of (0xE9 ∷ 0x200B ∷ 0x301 ∷ 0x7F ∷ [])) ≡ 34 ∷ 0xE9 ∷ codes "\\u{200b}\\u{301}\\u{7f}\""
unfolding laying general_category_stepped
by_number = refl

bytes_of_each_kind : written (bytes_of (0 ∷ 97 ∷ 34 ∷ 255 ∷ [])) ≡ codes "b\"\\x00a\\\"\\xff\""
unfolding laying
bytes_of_each_kind = refl

empty_texts : joined (map written (str_of [] ∷ bytes_of [] ∷ [])) ≡ codes "\"\",b\"\""
unfolding laying
empty_texts = refl

-- no character of a text is past U+10FFFF, and no byte past 255
past_unicode : is_encodable false (str_of (0x110000 ∷ [])) ≡ false
past_unicode = refl

past_bytes : is_encodable false (bytes_of (256 ∷ [])) ≡ false
past_bytes = refl

-- ---- depth

depth_of_point : writer_depth no_config point ≡ 1
depth_of_point = refl

depth_of_no_fields : writer_depth no_config (struct_of (codes "S") no_fields) ≡ 0
depth_of_no_fields = refl

depth_of_nested : writer_depth no_config (nested 64) ≡ 64
depth_of_nested = refl

-- ---- items of a list

abbrev Integers : List Data → Text → Lang Data
Integers seen gap = Means AnyInteger (in_width I8)

list_of_integers : Stands (Items Integers) (codes "1,-2") (codes "]") (int_of I8 (pos 1) ∷ int_of I8 (neg_ℤ (pos 2)) ∷ [])
unfolding digits
list_of_integers = spaced_items Integers 93 [] (ends_delimiter 93 [] refl refl) (spacing no_config true 0)
    (is_spacing no_config (are_gaps no_config refl) true 0) (codes "1" ∷ codes "-2" ∷ []) (int_of I8 (pos 1) ∷ int_of I8 (neg_ℤ (pos 2)) ∷ []) (
      record { stands = λ next e. integer_text_stands false I8 (pos 1) next refl e },
      (record { stands = λ next e. integer_text_stands false I8 (neg_ℤ (pos 2)) next refl e }, tt),
    )

-- ---- reading back

-- Point(x: i32, y: i32)
abbrev points : List Shape
points = struct (codes "Point") (only (field (codes "x") 1 ∷ field (codes "y") 1 ∷ [])) ∷ int I32 ∷ []

point_is_read_back : (room : ℕ) × Document none points 0 room (codes "(x:3,y:-4)") point
unfolding laying
point_is_read_back = read_back none points 0 point refl (_, refl, refl, (_, refl, (refl, refl), (_, refl, (refl, refl), tt))) refl refl refl

-- one field, with the name `true`
abbrev flags : List Shape
flags = struct (codes "S") (only (field (codes "true") 1 ∷ [])) ∷ int U8 ∷ []

true_is_read_back : (room : ℕ) × Document none flags 0 room (codes "(r#true:1)") (one (codes "true"))
unfolding laying
true_is_read_back = read_back none flags 0 (one (codes "true")) refl (_, refl, refl, (_, refl, (refl, refl), tt)) refl refl refl

-- a character, a string and bytes
abbrev texts : List Shape
texts = struct (codes "S") (only (field (codes "c") 1 ∷ field (codes "t") 2 ∷ field (codes "b") 3 ∷ [])) ∷ char ∷ str ∷ bytes ∷ []

abbrev one_of_each : Data
one_of_each = struct_of (codes "S")
    (field_and (codes "c") (char_of 39) (field_and (codes "t") (str_of (10 ∷ [])) (field_and (codes "b") (bytes_of (255 ∷ [])) no_fields)))

texts_are_read_back : (room : ℕ) × Document none texts 0 room (codes "(c:'\\'',t:\"\\n\",b:b\"\\xff\")") one_of_each
unfolding laying
texts_are_read_back = read_back none texts 0 one_of_each refl (_, refl, refl, (_, refl, refl, (_, refl, refl, (_, refl, refl, tt)))) refl refl refl
