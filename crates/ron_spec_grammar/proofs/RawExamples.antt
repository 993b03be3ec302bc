-- Worked documents with raw texts, each answered by computing the reader function.
use Rattle.std.proofs.Common.{◌≡◌, ℕ, zero, suc, true, false, List, [], ◌∷◌, ◌++◌, codes, pos, refl}
use Rattle.ron_spec_words.specs.Characters.{Text}
use Rattle.ron_spec_words.specs.Reader.{deep, bad, got}
use Rattle.ron_value_number.specs.declared.width.Width.TheVariants.{U8}
use Rattle.ron_base.specs.Extensions.{no_extensions}
use Rattle.ron_spec_grammar.specs.Data.{Data, int_of, raw_of, the_none, some_of, list_of, tuple_of, newtype_of, newtype_variant_of, map_of, no_datas, data_and}
use Rattle.ron_spec_grammar.specs.Data.{no_pairs, pair_and}
use Rattle.ron_spec_grammar.specs.Schema.{Shape, any_raw, int, optional, seq, tuple, map, newtype, enum, newtype_variant}
use Rattle.ron_spec_grammar.specs.Rule.{Extensions}
use Rattle.ron_spec_grammar.specs.Reading.{read_at}
use Rattle.ron_spec_grammar.specs.Document.{Answer, ok, err, answer_document}
use Rattle.ron_spec_grammar.proofs.Computing.{reading}

-- by a table of shapes whose root is the first, at the default limit
abbrev reads : Extensions → List Shape → Text → Answer
reads x schema text = answer_document x schema 0 128 text

abbrev implicit : Extensions
implicit = record { unwrap_newtypes = false; implicit_some = true; unwrap_variant_newtypes = false; explicit_struct_names = false }

abbrev unwrapped : Extensions
unwrapped = record { unwrap_newtypes = true; implicit_some = true; unwrap_variant_newtypes = false; explicit_struct_names = false }

abbrev bare : Extensions
bare = record { unwrap_newtypes = false; implicit_some = false; unwrap_variant_newtypes = true; explicit_struct_names = false }

abbrev list : List Shape
list = seq 1 ∷ any_raw ∷ []

abbrev one : Text → Data
one t = list_of (data_and (raw_of t) no_datas)

abbrev two : Text → Text → Data
two t u = list_of (data_and (raw_of t) (data_and (raw_of u) no_datas))

-- ---- what is taken of the gaps

gaps_are_trimmed : reads no_extensions list (codes "[ /*c*/ 5 /*d*/ , ]") ≡ ok (one (codes "/*c*/ 5 /*d*/"))
unfolding reading
gaps_are_trimmed = refl

behind_a_name_the_gap_stays : reads no_extensions list (codes "[ A /*c*/ , B]") ≡ ok (two (codes "A /*c*/ ") (codes "B"))
unfolding reading
behind_a_name_the_gap_stays = refl

a_line_comment_keeps_its_end : reads no_extensions list (codes "[5 // c\n]") ≡ ok (one (codes "5 // c\n"))
unfolding reading
a_line_comment_keeps_its_end = refl

a_direction_mark_is_not_white : reads no_extensions list (codes "[" ++ (0x200E ∷ []) ++ codes "5]") ≡ ok (one ((0x200E ∷ []) ++ codes "5"))
unfolding reading
a_direction_mark_is_not_white = refl

-- ---- at the start of the text

whole_at_start : reads no_extensions (any_raw ∷ []) (codes " 5 ") ≡ ok (raw_of (codes " 5 "))
unfolding reading
whole_at_start = refl

trimmed_behind_extensions : reads no_extensions (any_raw ∷ []) (codes "#![enable(implicit_some)] /*c*/ 5 ") ≡ ok (raw_of (codes "/*c*/ 5"))
unfolding reading
trimmed_behind_extensions = refl

trimmed_behind_a_type : reads no_extensions (any_raw ∷ []) (codes "#![type = \"// \"]\n 5") ≡ ok (raw_of (codes "5"))
unfolding reading
trimmed_behind_a_type = refl

whole_in_an_implicit_some : reads implicit (optional 1 ∷ any_raw ∷ []) (codes " 5 ") ≡ ok (some_of (raw_of (codes " 5 ")))
unfolding reading
whole_in_an_implicit_some = refl

whole_in_an_unwrapped_newtype : reads unwrapped (optional 1 ∷ newtype (codes "N") 2 ∷ any_raw ∷ []) (codes " 5 ")
    ≡ ok (some_of (newtype_of (codes "N") (raw_of (codes " 5 "))))
unfolding reading
whole_in_an_unwrapped_newtype = refl

trimmed_in_a_newtype : reads no_extensions (newtype (codes "N") 1 ∷ any_raw ∷ []) (codes "( 5 )") ≡ ok (newtype_of (codes "N") (raw_of (codes "5")))
unfolding reading
trimmed_in_a_newtype = refl

-- value by value: the first at the start of the text, the second behind it, where no gap is left
the_first_of_two : read_at true no_extensions (any_raw ∷ []) 128 false 0 (codes " ") (codes "5 , A ") ≡ got (raw_of (codes " 5 ")) (codes ", A ")
unfolding reading
the_first_of_two = refl

the_second_of_two : read_at false no_extensions (any_raw ∷ []) 128 false 0 [] (codes "A ") ≡ got (raw_of (codes "A ")) []
unfolding reading
the_second_of_two = refl

-- ---- where raw texts stand

in_a_some : reads implicit (optional 1 ∷ any_raw ∷ []) (codes "Some( None )") ≡ ok (some_of (raw_of (codes "None")))
unfolding reading
in_a_some = refl

no_option_is_raw : reads implicit (optional 1 ∷ any_raw ∷ []) (codes " None ") ≡ ok the_none
unfolding reading
no_option_is_raw = refl

last_in_a_tuple : reads no_extensions (tuple (1 ∷ 2 ∷ []) ∷ int U8 ∷ any_raw ∷ []) (codes "(1, A ,)")
    ≡ ok (tuple_of (data_and (int_of U8 (pos 1)) (data_and (raw_of (codes "A ")) no_datas)))
unfolding reading
last_in_a_tuple = refl

as_keys : reads no_extensions (map 1 2 ∷ any_raw ∷ int U8 ∷ []) (codes "{ A : 1, 5 /*k*/ :2}")
    ≡ ok (map_of (pair_and (raw_of (codes "A ")) (int_of U8 (pos 1)) (pair_and (raw_of (codes "5 /*k*/")) (int_of U8 (pos 2)) no_pairs)))
unfolding reading
as_keys = refl

-- keys are compared by their text
a_key_that_comes_again : reads no_extensions (map 1 2 ∷ any_raw ∷ int U8 ∷ []) (codes "{ 5 : 1, 5:2, 5/**/:3}")
    ≡ ok (map_of (pair_and (raw_of (codes "5")) (int_of U8 (pos 2)) (pair_and (raw_of (codes "5/**/")) (int_of U8 (pos 3)) no_pairs)))
unfolding reading
a_key_that_comes_again = refl

as_values : reads no_extensions (map 1 2 ∷ int U8 ∷ any_raw ∷ []) (codes "{1: [ 2 ] , 3 :A }")
    ≡ ok (map_of (pair_and (int_of U8 (pos 1)) (raw_of (codes "[ 2 ]")) (pair_and (int_of U8 (pos 3)) (raw_of (codes "A ")) no_pairs)))
unfolding reading
as_values = refl

bare_content : reads bare (optional 1 ∷ any_raw ∷ []) (codes "Some( A , )") ≡ ok (some_of (raw_of (codes "A ")))
unfolding reading
bare_content = refl

bare_in_a_variant : reads bare (enum (codes "E") (record { name = codes "V"; content = newtype_variant 1 } ∷ []) ∷ any_raw ∷ []) (codes "V( 5 )")
    ≡ ok (newtype_variant_of (codes "E") (codes "V") (raw_of (codes "5")))
unfolding reading
bare_in_a_variant = refl

-- ---- what is refused

several_in_bare_content : reads bare (optional 1 ∷ any_raw ∷ []) (codes "Some(1,2)") ≡ err bad
unfolding reading
several_in_bare_content = refl

nothing_in_bare_content : reads bare (optional 1 ∷ any_raw ∷ []) (codes "Some( )") ≡ err bad
unfolding reading
nothing_in_bare_content = refl

-- its value stands under the extensions in force, but isn't valid by itself
no_value_by_itself : reads no_extensions list (codes "#![enable(unwrap_variant_newtypes)][Some(1,2)]") ≡ err bad
unfolding reading
no_value_by_itself = refl

an_open_line_comment : reads no_extensions (any_raw ∷ []) (codes "5 //") ≡ err bad
unfolding reading
an_open_line_comment = refl

two_values : reads no_extensions list (codes "[5 5]") ≡ err bad
unfolding reading
two_values = refl

-- ---- how deep

-- so many lists in one another
abbrev nested : ℕ → Text
nested zero = []
nested (suc n) = codes "[" ++ (nested n ++ codes "]")

a_raw_text_of_64_lists : reads no_extensions (any_raw ∷ []) (nested 64) ≡ ok (raw_of (nested 64))
unfolding reading
a_raw_text_of_64_lists = refl

-- by itself it is too deep for the limit of raw texts, where the limit on reading is higher
a_raw_text_of_65_lists : answer_document no_extensions (any_raw ∷ []) 0 200 (nested 65) ≡ err bad
unfolding reading
a_raw_text_of_65_lists = refl

too_deep_for_the_limit : reads no_extensions (any_raw ∷ []) (nested 65) ≡ err deep
unfolding reading
too_deep_for_the_limit = refl
