-- Worked texts under configurations, by computing.
use Rattle.std.proofs.Common.{◌≡◌, ℕ, true, false, [], ◌∷◌, pos, neg_ℤ, codes, refl}
use Rattle.ron_spec_words.specs.Characters.{Text}
use Rattle.ron_value.specs.Tree as tree
use Rattle.ron_base.specs.Extensions.{no_extensions, all_extensions}
use Rattle.ron_value_number.specs.declared.width.Width.TheVariants.{I8, I32, U8}
use Rattle.ron_spec_grammar.specs.Data.{Data, bool_of, int_of, the_unit, the_none, some_of, unit_struct_of, list_of, tuple_of, tuple_struct_of, map_of}
use Rattle.ron_spec_grammar.specs.Data.{struct_of, value_of, unit_variant_of, newtype_variant_of, tuple_variant_of, struct_variant_of, newtype_of, raw_of}
use Rattle.ron_spec_grammar.specs.Data.{Datas, no_datas, data_and, no_pairs, pair_and, no_fields, field_and}
use Rattle.ron_spec_grammar.specs.Rule.{Extensions}
use Rattle.ron_spec_layout.specs.Config.{Config, default_config}
use Rattle.ron_spec_layout.specs.Layout.{full_layout}
use Rattle.ron_spec_layout.proofs.Computing.{laying}

-- where no extension is a default
abbrev pub written : Config → Data → Text
written c d = full_layout no_extensions c d

abbrev pub i32 : ℕ → Data
i32 n = int_of I32 (pos n)

abbrev pub point : Data
point = struct_of (codes "Point") (field_and (codes "x") (i32 3) (field_and (codes "y") (int_of I32 (neg_ℤ (pos 4))) no_fields))

abbrev two : Data → Data → Datas
two d e = data_and d (data_and e no_datas)

abbrev pair : ℕ → ℕ → Data
pair m n = tuple_of (two (i32 m) (i32 n))

-- ---- containers, on lines and in a row

abbrev pairs : Data
pairs = list_of (two (pair 1 2) (pair 3 4))

abbrev list_in_map : Data
list_in_map = map_of (pair_and (i32 1) (list_of (data_and (i32 2) no_datas)) no_pairs)

pairs_in_a_row : written default_config pairs ≡ codes "[\n    (1, 2),\n    (3, 4),\n]"
unfolding laying
pairs_in_a_row = refl

pairs_on_lines : written (record default_config { separate_tuple_members = true }) pairs
    ≡ codes "[\n    (\n        1,\n        2,\n    ),\n    (\n        3,\n        4,\n    ),\n]"
unfolding laying
pairs_on_lines = refl

pairs_in_a_compact_list : written (record default_config { separate_tuple_members = true; compact_arrays = true }) pairs
    ≡ codes "[(\n    1,\n    2,\n), (\n    3,\n    4,\n)]"
unfolding laying
pairs_in_a_compact_list = refl

compact_and_suffixes : written (record default_config { compact_structs = true; number_suffixes = true }) point ≡ codes "(x: 3i32, y: -4i32)"
unfolding laying
compact_and_suffixes = refl

compact_map : written (record default_config { compact_maps = true }) list_in_map ≡ codes "{1: [\n    2,\n]}"
unfolding laying
compact_map = refl

-- each kind of container, and the unit
abbrev empty : Data
empty = tuple_of (data_and (list_of no_datas) (data_and (map_of no_pairs)
    (data_and (struct_of (codes "S") no_fields) (data_and (tuple_of no_datas) (data_and (tuple_struct_of (codes "T") no_datas) (data_and the_unit no_datas))))))

empty_in_a_row : written default_config empty ≡ codes "([], {}, (), (), (), ())"
unfolding laying
empty_in_a_row = refl

empty_on_lines : written (record default_config { separate_tuple_members = true; struct_names = true }) empty
    ≡ codes "(\n    [],\n    {},\n    S(),\n    (),\n    T(),\n    (),\n)"
unfolding laying
empty_on_lines = refl

abbrev variants : Data
variants = list_of (data_and (unit_variant_of (codes "E") (codes "A"))
    (data_and (newtype_variant_of (codes "E") (codes "N") (i32 1)) (data_and (tuple_variant_of (codes "E") (codes "T") (two (i32 1) (i32 2)))
    (data_and (struct_variant_of (codes "E") (codes "S") (field_and (codes "x") (i32 1) no_fields)) no_datas))))

variants_on_lines : written default_config variants ≡ codes "[\n    A,\n    N(1),\n    T(1, 2),\n    S(\n        x: 1,\n    ),\n]"
unfolding laying
variants_on_lines = refl

variants_with_members_apart : written (record default_config { separate_tuple_members = true }) variants
    ≡ codes "[\n    A,\n    N(1),\n    T(\n        1,\n        2,\n    ),\n    S(\n        x: 1,\n    ),\n]"
unfolding laying
variants_with_members_apart = refl

-- ---- the depth limit

no_level : written (record default_config { depth_limit = 0 }) list_in_map ≡ codes "{1: [2]}"
unfolding laying
no_level = refl

one_level : written (record default_config { depth_limit = 1 }) list_in_map ≡ codes "{\n    1: [2],\n}"
unfolding laying
one_level = refl

no_level_of_variants : written (record default_config { depth_limit = 0 }) variants ≡ codes "[A, N(1), T(1, 2), S(x: 1)]"
unfolding laying
no_level_of_variants = refl

one_level_of_variants : written (record default_config { depth_limit = 1 }) variants ≡ codes "[\n    A,\n    N(1),\n    T(1, 2),\n    S(x: 1),\n]"
unfolding laying
one_level_of_variants = refl

one_level_of_pairs : written (record default_config { depth_limit = 1; separate_tuple_members = true }) pairs ≡ codes "[\n    (1, 2),\n    (3, 4),\n]"
unfolding laying
one_level_of_pairs = refl

-- a struct in a tuple in a list, its fields three levels in
abbrev deep : Data
deep = list_of (data_and (tuple_of (data_and point no_datas)) no_datas)

abbrev apart : ℕ → Config
apart limit = record default_config { depth_limit = limit; separate_tuple_members = true }

one_level_short : written (apart 2) deep ≡ codes "[\n    (\n        (x: 3, y: -4),\n    ),\n]"
unfolding laying
one_level_short = refl

at_the_limit : written (apart 3) deep ≡ codes "[\n    (\n        (\n            x: 3,\n            y: -4,\n        ),\n    ),\n]"
unfolding laying
at_the_limit = refl

within_the_limit : written (apart 4) deep ≡ codes "[\n    (\n        (\n            x: 3,\n            y: -4,\n        ),\n    ),\n]"
unfolding laying
within_the_limit = refl

-- ---- texts that are empty

abbrev without_texts : Config
without_texts = record default_config { new_line = []; indentor = []; separator = [] }

-- a comma stands behind the last item all the same
point_without_texts : written without_texts point ≡ codes "(x:3,y:-4,)"
unfolding laying
point_without_texts = refl

map_without_texts : written without_texts list_in_map ≡ codes "{1:[2,],}"
unfolding laying
map_without_texts = refl

pairs_without_texts : written (record without_texts { separate_tuple_members = true }) pairs ≡ codes "[(1,2,),(3,4,),]"
unfolding laying
pairs_without_texts = refl

variants_without_texts : written without_texts variants ≡ codes "[A,N(1),T(1,2),S(x:1,),]"
unfolding laying
variants_without_texts = refl

-- ---- comments on items

abbrev answers : Data
answers = list_of (two (bool_of true) (bool_of false))

abbrev nested : Data
nested = list_of (two (list_of (data_and (i32 1) no_datas)) (list_of (two (i32 2) (i32 3))))

numbered : written (record default_config { enumerate_arrays = true }) answers ≡ codes "[\n    /*[0]*/ true,\n    /*[1]*/ false,\n]"
unfolding laying
numbered = refl

not_numbered : written (record default_config { enumerate_arrays = true; depth_limit = 0 }) answers ≡ codes "[true, false]"
unfolding laying
not_numbered = refl

one_level_numbered : written (record default_config { enumerate_arrays = true; depth_limit = 1 }) nested ≡ codes "[\n    /*[0]*/ [1],\n    /*[1]*/ [2, 3],\n]"
unfolding laying
one_level_numbered = refl

-- a compact list keeps the level, so its items are within any limit
numbered_in_a_row : written (record default_config { enumerate_arrays = true; compact_arrays = true; depth_limit = 0 }) nested
    ≡ codes "[/*[0]*/ [/*[0]*/ 1], /*[1]*/ [/*[0]*/ 2, /*[1]*/ 3]]"
unfolding laying
numbered_in_a_row = refl

tuples_are_not_numbered : written (record default_config { enumerate_arrays = true; separate_tuple_members = true }) pairs
    ≡ codes "[\n    /*[0]*/ (\n        1,\n        2,\n    ),\n    /*[1]*/ (\n        3,\n        4,\n    ),\n]"
unfolding laying
tuples_are_not_numbered = refl

raw_behind_comment : written (record default_config { enumerate_arrays = true }) (list_of (data_and (raw_of (codes " 5 /*d*/ ")) no_datas))
    ≡ codes "[\n    /*[0]*/  5 /*d*/ ,\n]"
unfolding laying
raw_behind_comment = refl

-- ---- announcements

-- what is a default is not announced
all_announced : full_layout (record no_extensions { implicit_some = true }) (record default_config { extensions = all_extensions }) (bool_of true)
    ≡ codes "#![enable(unwrap_newtypes)]\n#![enable(unwrap_variant_newtypes)]\n#![enable(explicit_struct_names)]\ntrue"
unfolding laying
all_announced = refl

implicit_and_unwrapped : written (record default_config { extensions = record no_extensions { unwrap_newtypes = true; implicit_some = true } })
    (some_of (int_of U8 (pos 5))) ≡ codes "#![enable(unwrap_newtypes)]\n#![enable(implicit_some)]\n5"
unfolding laying
implicit_and_unwrapped = refl

abbrev bare_options : Extensions
bare_options = record no_extensions { implicit_some = true; unwrap_variant_newtypes = true }

bare_tuple_on_lines : full_layout bare_options (record default_config { separate_tuple_members = true })
    (newtype_variant_of (codes "E") (codes "N") (some_of (pair 1 2))) ≡ codes "N(\n    1,\n    2,\n)"
unfolding laying
bare_tuple_on_lines = refl

bare_tuple_that_begins_as_an_option : full_layout bare_options (record default_config { separate_tuple_members = true })
    (newtype_variant_of (codes "E") (codes "N") (some_of (tuple_of (two the_none (i32 2))))) ≡ codes "N(Some(\n    None,\n    2,\n))"
unfolding laying
bare_tuple_that_begins_as_an_option = refl

-- ---- names of structs

bare_struct_without_name : full_layout (record no_extensions { unwrap_variant_newtypes = true }) (record default_config { struct_names = true })
    (newtype_variant_of (codes "E") (codes "V") point) ≡ codes "V(\n    x: 3,\n    y: -4,\n)"
unfolding laying
bare_struct_without_name = refl

content_of_a_some : full_layout (record no_extensions { unwrap_variant_newtypes = true }) default_config (some_of point)
    ≡ codes "Some(\n    x: 3,\n    y: -4,\n)"
unfolding laying
content_of_a_some = refl

named_newtype : written (record default_config { struct_names = true }) (newtype_of (codes "N") point) ≡ codes "N(Point(\n    x: 3,\n    y: -4,\n))"
unfolding laying
named_newtype = refl

unwrapped_newtype : full_layout (record no_extensions { unwrap_newtypes = true }) (record default_config { struct_names = true }) (newtype_of (codes "N") point)
    ≡ codes "Point(\n    x: 3,\n    y: -4,\n)"
unfolding laying
unwrapped_newtype = refl

named_unit_struct : written (record default_config { struct_names = true }) (unit_struct_of (codes "Some")) ≡ codes "r#Some"
unfolding laying
named_unit_struct = refl

-- ---- values without a schema

value_plain : written default_config (value_of (tree.number I8 (pos 5))) ≡ codes "5"
unfolding laying
value_plain = refl

value_with_suffix : written (record default_config { number_suffixes = true }) (value_of (tree.number I8 (pos 5))) ≡ codes "5i8"
unfolding laying
value_with_suffix = refl

value_on_lines : written (record default_config { number_suffixes = true }) (value_of (tree.mapping (tree.pair_and (tree.text (107 ∷ []))
    (tree.sequence (tree.item_and (tree.number U8 (pos 5)) (tree.item_and (tree.some tree.unit) tree.no_items))) tree.no_pairs)))
    ≡ codes "{\n    \"k\": [\n        5u8,\n        Some(()),\n    ],\n}"
unfolding laying
value_on_lines = refl
