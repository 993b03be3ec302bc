-- Worked texts of the shapes that no text of a struct or a number shows, each answered by computing the reader function.
use Rattle.std.proofs.Common.{◌≡◌, ℕ, Bool, true, false, List, [], ◌∷◌, codes, pos, refl, ap, ◌∙◌}
use Rattle.ron_spec_words.specs.Characters.{Text}
use Rattle.ron_spec_words.specs.Reader.{deep, bad, got}
use Rattle.ron_value_number.specs.declared.width.Width.TheVariants.{U8, I32}
use Rattle.ron_spec_grammar.specs.Data.{Data, Datas, bool_of, int_of, the_unit, unit_struct_of, list_of, tuple_of, tuple_struct_of, map_of, no_datas, data_and}
use Rattle.ron_spec_grammar.specs.Data.{Pairs, no_pairs, pair_and, struct_of, no_fields, field_and}
use Rattle.ron_spec_grammar.specs.Schema.{Shape, bool, int, unit, unit_struct, seq, tuple, tuple_struct, map, struct, only, field, FieldList, in_order}
use Rattle.ron_spec_grammar.specs.Schema.{is_well_formed, OfShape}
use Rattle.ron_spec_grammar.specs.Rule.{Extensions}
use Rattle.ron_spec_grammar.specs.Reading.{read}
use Rattle.ron_spec_grammar.specs.Document.{Answer, ok, err, answer}
use Rattle.ron_spec_grammar.proofs.Computing.{reading}

abbrev pub none : Extensions
none = record { unwrap_newtypes = false; implicit_some = false; unwrap_variant_newtypes = false; explicit_struct_names = false }

-- names before structs are required
abbrev named : Extensions
named = record { unwrap_newtypes = false; implicit_some = false; unwrap_variant_newtypes = false; explicit_struct_names = true }

-- ---- booleans

abbrev boolean : Text → Answer
boolean text = answer none (bool ∷ []) 0 0 text

the_word_true : boolean (codes " true /**/") ≡ ok (bool_of true)
unfolding reading
the_word_true = refl

the_word_false : boolean (codes "false") ≡ ok (bool_of false)
unfolding reading
the_word_false = refl

-- a word counts only where no name goes on behind it
a_longer_word : boolean (codes "truest") ≡ err bad
unfolding reading
a_longer_word = refl

-- ---- the unit

unit_brackets : answer none (unit ∷ []) 0 0 (codes " () ") ≡ ok the_unit
unfolding reading
unit_brackets = refl

-- no gap stands between its brackets
unit_with_gap : answer none (unit ∷ []) 0 0 (codes "( )") ≡ err bad
unfolding reading
unit_with_gap = refl

-- ---- unit structs

abbrev marker : Extensions → Text → Answer
marker x text = answer x (unit_struct (codes "Marker") ∷ []) 0 0 text

by_name : marker none (codes "Marker") ≡ ok (unit_struct_of (codes "Marker"))
unfolding reading
by_name = refl

by_raw_name : marker named (codes "r#Marker") ≡ ok (unit_struct_of (codes "Marker"))
unfolding reading
by_raw_name = refl

like_the_unit : marker none (codes "()") ≡ ok (unit_struct_of (codes "Marker"))
unfolding reading
like_the_unit = refl

name_required : marker named (codes "()") ≡ err bad
unfolding reading
name_required = refl

-- no brackets stand behind the name
name_and_brackets : marker none (codes "Marker()") ≡ err bad
unfolding reading
name_and_brackets = refl

-- ---- lists

abbrev small : ℕ → Data
small n = int_of U8 (pos n)

-- lists of lists of numbers, and the list at index 1
abbrev lists : List Shape
lists = seq 1 ∷ seq 2 ∷ int U8 ∷ []

abbrev two : Datas
two = data_and (small 1) (data_and (small 2) no_datas)

numbers_in_brackets : answer none lists 1 2 (codes "[ 1, 2 , ]") ≡ ok (list_of two)
unfolding reading
numbers_in_brackets = refl

booleans_in_brackets : answer none (seq 1 ∷ bool ∷ []) 0 2 (codes "[true,false,]") ≡ ok (list_of (data_and (bool_of true) (data_and (bool_of false) no_datas)))
unfolding reading
booleans_in_brackets = refl

no_comma_between : answer none (seq 1 ∷ bool ∷ []) 0 2 (codes "[true false]") ≡ err bad
unfolding reading
no_comma_between = refl

no_items : answer none lists 1 1 (codes "[]") ≡ ok (list_of no_datas)
unfolding reading
no_items = refl

comma_alone : answer none lists 1 2 (codes "[,]") ≡ err bad
unfolding reading
comma_alone = refl

two_last_commas : answer none lists 1 2 (codes "[1,,]") ≡ err bad
unfolding reading
two_last_commas = refl

-- entering a list takes a level, and each item one
list_at_limit_1 : answer none lists 1 1 (codes "[1]") ≡ err deep
unfolding reading
list_at_limit_1 = refl

list_in_list : answer none lists 0 3 (codes "[[]]") ≡ ok (list_of (data_and (list_of no_datas) no_datas))
unfolding reading
list_in_list = refl

list_in_list_at_limit_2 : answer none lists 0 2 (codes "[[]]") ≡ err deep
unfolding reading
list_in_list_at_limit_2 = refl

-- ---- tuples

abbrev pairs : List Shape
pairs = tuple (1 ∷ 2 ∷ []) ∷ int U8 ∷ bool ∷ tuple [] ∷ []

abbrev pair : Datas
pair = data_and (small 1) (data_and (bool_of true) no_datas)

one_of_each : answer none pairs 0 2 (codes "(1, true,)") ≡ ok (tuple_of pair)
unfolding reading
one_of_each = refl

too_few : answer none pairs 0 2 (codes "(1)") ≡ err bad
unfolding reading
too_few = refl

too_many : answer none pairs 0 2 (codes "(1,true,1)") ≡ err bad
unfolding reading
too_many = refl

other_order : answer none pairs 0 2 (codes "(true,1)") ≡ err bad
unfolding reading
other_order = refl

-- bare, its own last comma is the one comma
bare_tuple : read none pairs 2 true 0 [] (codes "1,true,)") ≡ got (tuple_of pair) (codes ")")
unfolding reading
bare_tuple = refl

-- an empty one, bare, takes it all the same
bare_empty_tuple : read none pairs 1 true 3 [] (codes ",)") ≡ got (tuple_of no_datas) (codes ")")
unfolding reading
bare_empty_tuple = refl

-- ---- tuple structs

abbrev marked_pair : Extensions → Text → Answer
marked_pair x text = answer x (tuple_struct (codes "Pair") (1 ∷ 2 ∷ []) ∷ int U8 ∷ bool ∷ []) 0 2 text

name_before_brackets : marked_pair named (codes "Pair(1,true)") ≡ ok (tuple_struct_of (codes "Pair") pair)
unfolding reading
name_before_brackets = refl

brackets_alone : marked_pair none (codes "(1,true)") ≡ ok (tuple_struct_of (codes "Pair") pair)
unfolding reading
brackets_alone = refl

brackets_alone_refused : marked_pair named (codes "(1,true)") ≡ err bad
unfolding reading
brackets_alone_refused = refl

-- no gap stands between the name and its bracket
gap_behind_name : marked_pair none (codes "Pair (1,true)") ≡ err bad
unfolding reading
gap_behind_name = refl

-- ---- maps

abbrev maps : List Shape
maps = map 1 2 ∷ int U8 ∷ bool ∷ []

abbrev pair_of : ℕ → Bool → Pairs → Pairs
pair_of n b ps = pair_and (small n) (bool_of b) ps

keys_and_values : answer none maps 0 2 (codes "{ 1 : true, 2:false ,}") ≡ ok (map_of (pair_of 1 true (pair_of 2 false no_pairs)))
unfolding reading
keys_and_values = refl

-- a key that comes again keeps its first place and takes the last value
key_comes_again : answer none maps 0 2 (codes "{1:true,2:false,0x1:false}") ≡ ok (map_of (pair_of 1 false (pair_of 2 false no_pairs)))
unfolding reading
key_comes_again = refl

without_value : answer none maps 0 2 (codes "{1}") ≡ err bad
unfolding reading
without_value = refl

value_at_limit_1 : answer none maps 0 1 (codes "{1:true}") ≡ err deep
unfolding reading
value_at_limit_1 = refl

-- ---- structs

abbrev one_field : Extensions → Text → Answer
one_field x text = answer x (struct (codes "S") (only (field (codes "x") 1 ∷ [])) ∷ int U8 ∷ []) 0 2 text

struct_with_its_name : one_field named (codes "S(x:1)") ≡ ok (struct_of (codes "S") (field_and (codes "x") (small 1) no_fields))
unfolding reading
struct_with_its_name = refl

struct_without_its_name : one_field named (codes "(x:1)") ≡ err bad
unfolding reading
struct_without_its_name = refl

-- S(a: u8, b: u8 that may be missing)
abbrev missing_b : Text → Answer
missing_b text =
    answer none (struct (codes "S") (only (field (codes "a") 1 ∷ record (field (codes "b") 1) { may_be_missing = true } ∷ [])) ∷ int U8 ∷ []) 0 2 text

b_is_missing : missing_b (codes "(a:1)") ≡ ok (struct_of (codes "S") (field_and (codes "a") (small 1) no_fields))
unfolding reading
b_is_missing = refl

b_is_there : missing_b (codes "(b:2,a:1)") ≡ ok (struct_of (codes "S") (field_and (codes "a") (small 1) (field_and (codes "b") (small 2) no_fields)))
unfolding reading
b_is_there = refl

a_is_missing : missing_b (codes "(b:2)") ≡ err bad
unfolding reading
a_is_missing = refl

-- ---- aliases

-- P(x: i32, whose aliases are these, y: i32)
abbrev with_aliases : List Text → List Shape
with_aliases names = struct (codes "P") (only (record (field (codes "x") 1) { aliases = names } ∷ field (codes "y") 1 ∷ [])) ∷ int I32 ∷ []

abbrev point : Text → Answer
point text = answer none (with_aliases (codes "left" ∷ codes "l" ∷ [])) 0 2 text

abbrev x_and_y : ℕ → ℕ → Answer
x_and_y x y = ok (struct_of (codes "P") (field_and (codes "x") (int_of I32 (pos x)) (field_and (codes "y") (int_of I32 (pos y)) no_fields)))

by_name_of_its_own : point (codes "(x:1,y:2)") ≡ x_and_y 1 2
unfolding reading
by_name_of_its_own = refl

by_alias : point (codes "(left:1,y:2)") ≡ x_and_y 1 2
unfolding reading
by_alias = refl

by_another_alias : point (codes "(y:2,r#l:1)") ≡ x_and_y 1 2
unfolding reading
by_another_alias = refl

alias_and_name : point (codes "(left:1,x:2,y:3)") ≡ err bad
unfolding reading
alias_and_name = refl

name_and_alias : point (codes "(x:2,left:1,y:3)") ≡ err bad
unfolding reading
name_and_alias = refl

two_aliases : point (codes "(left:1,l:2,y:3)") ≡ err bad
unfolding reading
two_aliases = refl

no_alias : point (codes "(right:1)") ≡ err bad
unfolding reading
no_alias = refl

no_alias_in_place : point (codes "(right:1,y:2)") ≡ err bad
unfolding reading
no_alias_in_place = refl

aliases_of_its_own : is_well_formed (with_aliases (codes "left" ∷ codes "l" ∷ [])) 0 ≡ true
aliases_of_its_own = refl

alias_of_another_name : is_well_formed (with_aliases (codes "y" ∷ [])) 0 ≡ false
alias_of_another_name = refl

alias_of_the_same_name : is_well_formed (with_aliases (codes "x" ∷ [])) 0 ≡ false
alias_of_the_same_name = refl

alias_twice : is_well_formed (with_aliases (codes "left" ∷ codes "left" ∷ [])) 0 ≡ false
alias_twice = refl

alias_of_two_fields : is_well_formed (struct (codes "P") (only
    (record (field (codes "x") 1) { aliases = codes "a" ∷ [] } ∷ record (field (codes "y") 1) { aliases = codes "a" ∷ [] } ∷ [])) ∷ int I32 ∷ []) 0 ≡ false
alias_of_two_fields = refl

-- data has the fields' names, and no aliases
not_of_the_shape : OfShape (with_aliases (codes "left" ∷ [])) 0
    (struct_of (codes "P") (field_and (codes "left") (int_of I32 (pos 1)) (field_and (codes "y") (int_of I32 (pos 2)) no_fields))) → ⊥
not_of_the_shape h = let list = only (record (field (codes "x") 1) { aliases = codes "left" ∷ [] } ∷ field (codes "y") 1 ∷ []) in
    let same : list ≡ h.0 = cc in
    let x : false ≡ true = ap (λ (l : FieldList). in_order l.fields (codes "left" ∷ codes "y" ∷ [])) same ∙ h.2 in
    cc
