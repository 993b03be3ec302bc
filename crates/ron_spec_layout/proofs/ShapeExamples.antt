-- Worked layouts of the shapes that no layout of a struct or a number shows, each computed; and that some are read back, by the law.
use Rattle.std.proofs.Common.{◌≡◌, ℕ, zero, suc, Bool, true, false, List, [], ◌∷◌, ◌++◌, codes, pos, Some, refl}
use Rattle.unicode_ident.proofs.Computing.{unicode_ident}
use Rattle.ron_spec_words.specs.Characters.{Text}
use Rattle.ron_value_number.specs.declared.width.Width.TheVariants.{U8}
use Rattle.ron_spec_grammar.specs.Data.{Data, Datas, bool_of, int_of, the_unit, unit_struct_of, list_of, tuple_of, tuple_struct_of, unit_variant_of, map_of}
use Rattle.ron_spec_grammar.specs.Data.{no_datas, data_and, Pairs, no_pairs, pair_and, struct_of, no_fields, field_and}
use Rattle.ron_spec_grammar.specs.Equal.{equal_data}
use Rattle.ron_spec_grammar.specs.Schema.{Shape, bool, int, unit_struct, seq, tuple_struct, map, struct, only, field}
use Rattle.ron_spec_grammar.specs.Rule.{Extensions}
use Rattle.ron_spec_grammar.specs.Document.{Document}
use Rattle.ron_spec_layout.specs.Name.{first_refused}
use Rattle.ron_spec_layout.specs.Config.{no_config}
use Rattle.ron_spec_layout.specs.Depth.{writer_depth}
use Rattle.ron_spec_layout.specs.Normal.{norm_with}
use Rattle.ron_spec_layout.proofs.Computing.{laying, plain}
use Rattle.ron_spec_layout.proofs.Readable.{read_back}

abbrev none : Extensions
none = record { unwrap_newtypes = false; implicit_some = false; unwrap_variant_newtypes = false; explicit_struct_names = false }

-- names before structs are required
abbrev named : Extensions
named = record { unwrap_newtypes = false; implicit_some = false; unwrap_variant_newtypes = false; explicit_struct_names = true }

abbrev written : Data → Text
written d = plain none false d

-- ---- booleans, the unit and unit structs

the_word_true : written (bool_of true) ≡ codes "true"
unfolding laying
the_word_true = refl

unit_brackets : written the_unit ≡ codes "()"
unfolding laying
unit_brackets = refl

bare_unit : plain none true the_unit ≡ []
unfolding laying
bare_unit = refl

abbrev marker : Data
marker = unit_struct_of (codes "Marker")

like_the_unit : written marker ≡ codes "()"
unfolding laying
like_the_unit = refl

by_name : plain named false marker ≡ codes "Marker"
unfolding laying
by_name = refl

-- its name is checked also where it is not written
name_refused : first_refused (unit_struct_of (codes "a b")) ≡ Some (codes "a b")
unfolding unicode_ident
name_refused = refl

marker_is_read_back : (room : ℕ) × Document named (unit_struct (codes "Marker") ∷ []) 0 room (codes "Marker") marker
unfolding laying
marker_is_read_back = read_back named (unit_struct (codes "Marker") ∷ []) 0 marker refl refl refl refl refl

-- ---- lists, tuples and tuple structs

abbrev pair : Datas
pair = data_and (int_of U8 (pos 1)) (data_and (bool_of true) no_datas)

items_in_brackets : written (list_of (data_and (bool_of true) (data_and (bool_of false) no_datas))) ≡ codes "[true,false]"
unfolding laying
items_in_brackets = refl

items_in_round_brackets : written (tuple_of pair) ≡ codes "(1,true)"
unfolding laying
items_in_round_brackets = refl

bare_items : plain none true (tuple_of pair) ≡ codes "1,true"
unfolding laying
bare_items = refl

without_a_name : written (tuple_struct_of (codes "Pair") pair) ≡ codes "(1,true)"
unfolding laying
without_a_name = refl

with_its_name : plain named false (tuple_struct_of (codes "Pair") pair) ≡ codes "Pair(1,true)"
unfolding laying
with_its_name = refl

bare_without_its_name : plain named true (tuple_struct_of (codes "Pair") pair) ≡ codes "1,true"
unfolding laying
bare_without_its_name = refl

-- a list of tuple structs
abbrev tuple_structs : List Shape
tuple_structs = seq 1 ∷ tuple_struct (codes "Pair") (2 ∷ 3 ∷ []) ∷ int U8 ∷ bool ∷ []

list_is_read_back : (room : ℕ)
    × Document named tuple_structs 0 room (codes "[Pair(1,true)]") (list_of (data_and (tuple_struct_of (codes "Pair") pair) no_datas))
unfolding laying
list_is_read_back = read_back named tuple_structs 0 (list_of (data_and (tuple_struct_of (codes "Pair") pair) no_datas)) refl
    (1, refl, ((2 ∷ 3 ∷ [], refl, ((refl, refl), (refl, tt))), tt)) refl refl refl

-- ---- maps

abbrev pair_of : ℕ → Bool → Pairs → Pairs
pair_of n b ps = pair_and (int_of U8 (pos n)) (bool_of b) ps

-- one key twice
abbrev twice : Data
twice = map_of (pair_of 1 true (pair_of 2 false (pair_of 1 false no_pairs)))

abbrev once : Data
once = map_of (pair_of 1 false (pair_of 2 false no_pairs))

-- pairs are written in order, as they are
key_twice : written twice ≡ codes "{1:true,2:false,1:false}"
unfolding laying
key_twice = refl

-- and read back folded
folded_once : norm_with false twice ≡ once
unfolding equal_data
folded_once = refl

twice_is_read_back : (room : ℕ) × Document none (map 1 2 ∷ int U8 ∷ bool ∷ []) 0 room (codes "{1:true,2:false,1:false}") once
unfolding laying equal_data
twice_is_read_back =
    read_back none (map 1 2 ∷ int U8 ∷ bool ∷ []) 0 twice refl (1, 2, refl, ((refl, refl), refl, ((refl, refl), refl, ((refl, refl), refl, tt)))) refl refl refl

-- ---- structs

abbrev alone : Data
alone = struct_of (codes "S") (field_and (codes "a") (int_of U8 (pos 1)) no_fields)

struct_behind_its_name : plain named false alone ≡ codes "S(a:1)"
unfolding laying
struct_behind_its_name = refl

bare_struct : plain named true alone ≡ codes "a:1"
unfolding laying
bare_struct = refl

-- S(a: u8, b: u8 that may be missing)
abbrev missing_b : List Shape
missing_b = struct (codes "S") (only (field (codes "a") 1 ∷ record (field (codes "b") 1) { may_be_missing = true } ∷ [])) ∷ int U8 ∷ []

alone_is_read_back : (room : ℕ) × Document none missing_b 0 room (codes "(a:1)") alone
unfolding laying
alone_is_read_back = read_back none missing_b 0 alone refl (_, refl, refl, (_, refl, (refl, refl), tt)) refl refl refl

-- S(a: u8), which a text may call left too: written by its name
abbrev aliased : List Shape
aliased = struct (codes "S") (only (record (field (codes "a") 1) { aliases = codes "left" ∷ [] } ∷ [])) ∷ int U8 ∷ []

name_is_read_back : (room : ℕ) × Document none aliased 0 room (codes "(a:1)") alone
unfolding laying
name_is_read_back = read_back none aliased 0 alone refl (_, refl, refl, (_, refl, (refl, refl), tt)) refl refl refl

-- ---- depth, and names past ASCII

-- so many lists, one in the other, as data and as a text
abbrev lists : ℕ → Data
lists zero = list_of no_datas
lists (suc n) = list_of (data_and (lists n) no_datas)

abbrev brackets : ℕ → Text
brackets zero = []
brackets (suc n) = codes "[" ++ (brackets n ++ codes "]")

-- 65 lists in one another are written 64 levels deep, and read 129 deep
lists_65 : writer_depth no_config (lists 64) ≡ 64
lists_65 = refl

lists_written : written (lists 64) ≡ brackets 65
unfolding laying
lists_written = refl

no_items_written : written (list_of no_datas) ≡ codes "[]"
unfolding laying
no_items_written = refl

letters : written (tuple_of (data_and (unit_variant_of (codes "E") (codes "Äöß")) (data_and (unit_variant_of (codes "F") (codes "你好世界")) no_datas)))
    ≡ codes "(Äöß,你好世界)"
unfolding laying
letters = refl
