-- Worked texts of compact ranges under configurations, and a writer's depth for them, by computing.
use Rattle.std.proofs.Common.{◌≡◌, ℕ, false, true, codes, pos, refl}
use Rattle.ron_value_number.specs.declared.width.Width.TheVariants.{I8, U32}
use Rattle.ron_value.specs.Tree as tree
use Rattle.ron_base.specs.Extensions.{no_extensions}
use Rattle.ron_spec_grammar.specs.Data.{Data, int_of, value_of, some_of, unit_struct_of, list_of, struct_of, newtype_variant_of, no_datas, data_and, no_fields}
use Rattle.ron_spec_grammar.specs.Data.{field_and}
use Rattle.ron_spec_grammar.specs.Rule.{Extensions}
use Rattle.ron_spec_layout.specs.Depth.{writer_depth}
use Rattle.ron_spec_layout.specs.Config.{Config, default_config, no_docs, doc_and}
use Rattle.ron_spec_layout.specs.Docs.{is_documented}
use Rattle.ron_spec_layout.specs.Layout.{full_layout}
use Rattle.ron_spec_layout.proofs.Computing.{laying}

abbrev u32 : ℕ → Data
u32 n = int_of U32 (pos n)

abbrev range_of : Data → Data → Data
range_of d e = struct_of (codes "Range") (field_and (codes "start") d (field_and (codes "end") e no_fields))

abbrev range : Data
range = range_of (u32 1) (u32 5)

-- a variant that holds the range
abbrev holding : Data
holding = newtype_variant_of (codes "E") (codes "V") range

abbrev variants_unwrapped : Extensions
variants_unwrapped = record no_extensions { unwrap_variant_newtypes = true }

abbrev row : Config
row = record default_config { compact_structs = true }

abbrev compact : Config
compact = record row { compact_ranges = true }

-- ---- bare

bare_fields : full_layout variants_unwrapped row holding ≡ codes "V(start: 1, end: 5)"
unfolding laying
bare_fields = refl

bare_range : full_layout variants_unwrapped compact holding ≡ codes "V(1..5)"
unfolding laying
bare_range = refl

-- ---- which data is one

options : full_layout no_extensions compact (range_of (some_of (u32 1)) (some_of (u32 5))) ≡ codes "(start: Some(1), end: Some(5))"
unfolding laying
options = refl

last : full_layout no_extensions compact (struct_of (codes "RangeInclusive") (field_and (codes "start") (u32 1) (field_and (codes "last") (u32 5) no_fields)))
    ≡ codes "(start: 1, last: 5)"
unfolding laying
last = refl

in_list : full_layout no_extensions (record compact { compact_arrays = true }) (list_of (data_and range (data_and (range_of (u32 2) (u32 3)) no_datas)))
    ≡ codes "[1..5, 2..3]"
unfolding laying
in_list = refl

full : full_layout no_extensions (record compact { struct_names = true }) (unit_struct_of (codes "RangeFull")) ≡ codes ".."
unfolding laying
full = refl

full_by_name : full_layout no_extensions (record row { struct_names = true }) (unit_struct_of (codes "RangeFull")) ≡ codes "RangeFull"
unfolding laying
full_by_name = refl

-- ---- names, suffixes, docs and pending Somes

no_name : full_layout (record no_extensions { explicit_struct_names = true }) compact range ≡ codes "1..5"
unfolding laying
no_name = refl

suffixes : full_layout no_extensions (record compact { number_suffixes = true }) range ≡ codes "1u32..5u32"
unfolding laying
suffixes = refl

of_values : full_layout no_extensions (record compact { number_suffixes = true }) (range_of (value_of (tree.number I8 (pos 1))) (u32 5)) ≡ codes "1i8..5u32"
unfolding laying
of_values = refl

abbrev documented : Config
documented = record default_config { compact_ranges = true; docs = doc_and (codes "start") (codes "first") no_docs no_docs }

without_docs : full_layout no_extensions documented range ≡ codes "1..5"
unfolding laying
without_docs = refl

not_documented : is_documented documented documented.docs range ≡ false
not_documented = refl

dropped : full_layout (record no_extensions { implicit_some = true }) compact (some_of range) ≡ codes "1..5"
unfolding laying
dropped = refl

-- ---- a writer's depth

depth : writer_depth compact range ≡ 0
depth = refl

depth_of_fields : writer_depth row range ≡ 1
depth_of_fields = refl

depth_of_options : writer_depth compact (range_of (some_of (u32 1)) (some_of (u32 5))) ≡ 2
depth_of_options = refl
