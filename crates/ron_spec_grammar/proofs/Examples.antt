-- Worked texts, each answered by computing the reader function, and so related by the grammar (the law `exact`).
use Rattle.std.proofs.Common.{true, ◌≡◌, ℕ, zero, suc, false, List, [], ◌∷◌, ◌++◌, map, ℤ, pos, neg_ℤ, codes, refl}
use Rattle.std.specs.List.{range_with_len}
use Rattle.ron_spec_words.specs.Characters.{Text}
use Rattle.ron_spec_words.specs.Reader.{deep, bad}
use Rattle.ron_spec_grammar.specs.Data.{Data, int_of, struct_of, no_fields, field_and}
use Rattle.ron_value_number.specs.declared.width.Width.{Width}
use Rattle.ron_value_number.specs.declared.width.Width.TheVariants.{I8, I16, I32, U16, U32, U8, U128}
use Rattle.ron_spec_grammar.specs.Schema.{Shape, int, struct, only, field}
use Rattle.ron_spec_grammar.specs.Rule.{Extensions}
use Rattle.ron_spec_grammar.specs.Document.{Body, Answer, ok, err, answer, body_depth}
use Rattle.ron_spec_grammar.proofs.Whole.{sound}
use Rattle.ron_spec_grammar.proofs.Computing.{reading}

abbrev none : Extensions
none = record { unwrap_newtypes = false; implicit_some = false; unwrap_variant_newtypes = false; explicit_struct_names = false }

-- Point(x: i32, y: i32)
abbrev points : List Shape
points = struct (codes "Point") (only (field (codes "x") 1 ∷ field (codes "y") 1 ∷ [])) ∷ int I32 ∷ []

abbrev point : ℤ → ℤ → Data
point x y = struct_of (codes "Point") (field_and (codes "x") (int_of I32 x) (field_and (codes "y") (int_of I32 y) no_fields))

abbrev reads : Text → Answer
reads text = answer none points 0 128 text

-- ---- structs

blanks_between_words : reads (codes "Point ( x : 3, y: -4, )") ≡ ok (point (pos 3) (neg_ℤ (pos 4)))
unfolding reading
blanks_between_words = refl

no_name_and_other_order : reads (codes "(y:-4,x:3)") ≡ ok (point (pos 3) (neg_ℤ (pos 4)))
unfolding reading
no_name_and_other_order = refl

raw_names : reads (codes "r#Point(r#x:3,y:-4)") ≡ ok (point (pos 3) (neg_ℤ (pos 4)))
unfolding reading
raw_names = refl

last_comma : reads (codes "(x:3,y:-4,)") ≡ ok (point (pos 3) (neg_ℤ (pos 4)))
unfolding reading
last_comma = refl

two_last_commas : reads (codes "(x:3,y:-4,,)") ≡ err bad
unfolding reading
two_last_commas = refl

first_comma : reads (codes "(,x:3,y:-4)") ≡ err bad
unfolding reading
first_comma = refl

field_twice : reads (codes "(x:1,x:2,y:3)") ≡ err bad
unfolding reading
field_twice = refl

field_missing : reads (codes "(x:3)") ≡ err bad
unfolding reading
field_missing = refl

field_unknown : reads (codes "(x:1,y:2,z:3)") ≡ err bad
unfolding reading
field_unknown = refl

other_name : reads (codes "Pint(x:1,y:2)") ≡ err bad
unfolding reading
other_name = refl

-- `r#` with no name behind it begins no identifier
raw_mark_alone : reads (codes "(r#:1,y:2)") ≡ err bad
unfolding reading
raw_mark_alone = refl

not_closed : reads (codes "(x:1,y:2") ≡ err bad
unfolding reading
not_closed = refl

more_behind : reads (codes "(x:1,y:2) x") ≡ err bad
unfolding reading
more_behind = refl

-- ---- names

-- S with one field of this name, and the data of 1 in it
abbrev one_field : Text → List Shape
one_field n = struct (codes "S") (only (field n 1 ∷ [])) ∷ int U8 ∷ []

abbrev one : Text → Data
one n = struct_of (codes "S") (field_and n (int_of U8 (pos 1)) no_fields)

-- a plain name is not followed by `.`
plain_with_mark : answer none (one_field (codes "x.y")) 0 128 (codes "(x.y:1)") ≡ err bad
unfolding reading
plain_with_mark = refl

raw_with_mark : answer none (one_field (codes "x.y")) 0 128 (codes "(r#x.y:1)") ≡ ok (one (codes "x.y"))
unfolding reading
raw_with_mark = refl

-- a raw name goes on as long as it can
raw_name_runs_on : answer none (one_field (codes "x")) 0 128 (codes "(r#x-:1)") ≡ err bad
unfolding reading
raw_name_runs_on = refl

name_r : answer none (one_field (codes "r")) 0 128 (codes "S(r:1)") ≡ ok (one (codes "r"))
unfolding reading
name_r = refl

-- `Äöß`
name_past_ascii : answer none (one_field (0xC4 ∷ 0xF6 ∷ 0xDF ∷ [])) 0 128 (40 ∷ 0xC4 ∷ 0xF6 ∷ 0xDF ∷ codes ":1)") ≡ ok (one (0xC4 ∷ 0xF6 ∷ 0xDF ∷ []))
unfolding reading
name_past_ascii = refl

-- ---- gaps

-- the eleven blanks before and behind a value
all_blanks : answer none (int U8 ∷ []) 0 0 (9 ∷ 10 ∷ 11 ∷ 12 ∷ 13 ∷ 32 ∷ 49 ∷ 0x85 ∷ 0x200E ∷ 0x200F ∷ 0x2028 ∷ 0x2029 ∷ []) ≡ ok (int_of U8 (pos 1))
unfolding reading
all_blanks = refl

-- U+00A0 is none
no_blank : answer none (int U8 ∷ []) 0 0 (0xA0 ∷ 49 ∷ []) ≡ err bad
unfolding reading
no_blank = refl

no_text : answer none (int U8 ∷ []) 0 0 [] ≡ err bad
unfolding reading
no_text = refl

-- ---- integers

abbrev integer : Width → Text → Answer
integer w text = answer none (int w ∷ []) 0 0 text

minus_zero : integer U8 (codes "-0") ≡ ok (int_of U8 (pos 0))
unfolding reading
minus_zero = refl

plus_and_underscores : integer I16 (codes "+1_000_") ≡ ok (int_of I16 (pos 1000))
unfolding reading
plus_and_underscores = refl

underscore_first : integer I8 (codes "_1") ≡ err bad
unfolding reading
underscore_first = refl

underscore_behind_sign : integer I8 (codes "-_1") ≡ err bad
unfolding reading
underscore_behind_sign = refl

sign_alone : integer I8 (codes "-") ≡ err bad
unfolding reading
sign_alone = refl

blank_behind_sign : integer I8 (codes "- 1") ≡ err bad
unfolding reading
blank_behind_sign = refl

greatest_u8 : integer U8 (codes "255") ≡ ok (int_of U8 (pos 255))
unfolding reading
greatest_u8 = refl

past_u8 : integer U8 (codes "256") ≡ err bad
unfolding reading
past_u8 = refl

below_u8 : integer U8 (codes "-1") ≡ err bad
unfolding reading
below_u8 = refl

least_i8 : integer I8 (codes "-128") ≡ ok (int_of I8 (neg_ℤ (pos 128)))
unfolding reading
least_i8 = refl

below_i8 : integer I8 (codes "-129") ≡ err bad
unfolding reading
below_i8 = refl

greatest_u128 : integer U128 (codes "340282366920938463463374607431768211455") ≡ ok (int_of U128 (pos 340282366920938463463374607431768211455))
unfolding reading
greatest_u128 = refl

past_u128 : integer U128 (codes "340282366920938463463374607431768211456") ≡ err bad
unfolding reading
past_u128 = refl

hexadecimal : integer U16 (codes "0x1F_u16") ≡ ok (int_of U16 (pos 31))
unfolding reading
hexadecimal = refl

digit_not_of_its_base : integer U8 (codes "0b102") ≡ err bad
unfolding reading
digit_not_of_its_base = refl

suffix_of_another_width : integer U32 (codes "5u8") ≡ err bad
unfolding reading
suffix_of_another_width = refl

past_its_suffix : integer U8 (codes "300u8") ≡ err bad
unfolding reading
past_its_suffix = refl

byte_literal : integer U8 (codes "b'a'") ≡ ok (int_of U8 (pos 97))
unfolding reading
byte_literal = refl

byte_literal_as_i8 : integer I8 (codes "b'a'") ≡ err bad
unfolding reading
byte_literal_as_i8 = refl

-- ---- depth

number_at_limit_0 : integer U8 (codes "5") ≡ ok (int_of U8 (pos 5))
unfolding reading
number_at_limit_0 = refl

struct_at_limit_0 : answer none (struct (codes "S") (only []) ∷ []) 0 0 (codes "()") ≡ err deep
unfolding reading
struct_at_limit_0 = refl

empty_struct_at_limit_1 : answer none (struct (codes "S") (only []) ∷ []) 0 1 (codes "()") ≡ ok (struct_of (codes "S") no_fields)
unfolding reading
empty_struct_at_limit_1 = refl

-- a field and its value stand one level below the struct
fields_at_limit_2 : answer none points 0 2 (codes "(x:3,y:-4)") ≡ ok (point (pos 3) (neg_ℤ (pos 4)))
unfolding reading
fields_at_limit_2 = refl

fields_at_limit_1 : answer none points 0 1 (codes "(x:3,y:-4)") ≡ err deep
unfolding reading
fields_at_limit_1 = refl

point_is_of_depth_2 : body_depth none points 0 (codes "(x:3,y:-4)") ≡ 2
unfolding reading
point_is_of_depth_2 = refl

-- structs within one another, n of them, and a number in the last: shape 0 is the number, and shape k + 1 is around shape k
abbrev around : ℕ → List Shape
around n = int I32 ∷ map (λ k. struct (codes "S") (only (field (codes "a") k ∷ []))) (range_with_len 0 n)

abbrev nested : ℕ → Text
nested zero = codes "7"
nested (suc n) = codes "(a:" ++ (nested n ++ codes ")")

abbrev nested_data : ℕ → Data
nested_data zero = int_of I32 (pos 7)
nested_data (suc n) = struct_of (codes "S") (field_and (codes "a") (nested_data n) no_fields)

structs_64_at_limit_128 : answer none (around 64) 64 128 (nested 64) ≡ ok (nested_data 64)
unfolding reading
structs_64_at_limit_128 = refl

structs_65_at_limit_128 : answer none (around 65) 65 128 (nested 65) ≡ err deep
unfolding reading
structs_65_at_limit_128 = refl

-- ---- what is answered is related

point_is_spelled : Body none points 0 128 (codes "Point ( x : 3, y: -4, )") (point (pos 3) (neg_ℤ (pos 4)))
point_is_spelled = sound true none points 0 128 _ _ blanks_between_words

-- ---- comments

comments_between_words : reads (codes "/* a /* b */ */(x// )\n:/**/3,y:-4)//") ≡ ok (point (pos 3) (neg_ℤ (pos 4)))
unfolding reading
comments_between_words = refl

inner_comment_not_closed : reads (codes "/* /* */ (x:3,y:-4)") ≡ err bad
unfolding reading
inner_comment_not_closed = refl

-- CR ends no comment
return_in_a_comment : reads (codes "(x:3,y:-4// a\r)") ≡ err bad
unfolding reading
return_in_a_comment = refl

lone_slash : reads (codes "(x:3,y:-4)/") ≡ err bad
unfolding reading
lone_slash = refl

star_and_slash_apart : reads (codes "/* * / */(x:3,y:-4)") ≡ ok (point (pos 3) (neg_ℤ (pos 4)))
unfolding reading
star_and_slash_apart = refl

-- one star doesn't serve twice
one_star : reads (codes "/*/(x:3,y:-4)") ≡ err bad
unfolding reading
one_star = refl
