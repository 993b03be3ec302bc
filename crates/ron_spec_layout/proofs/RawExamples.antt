-- Worked raw texts that are written and read back, each computed.
use Rattle.std.proofs.Common.{◌≡◌, Bool, true, false, [], codes, refl}
use Rattle.ron_spec_grammar.specs.Data.{raw_of, some_of, list_of, tuple_of, newtype_of, no_datas, data_and}
use Rattle.ron_spec_grammar.specs.Rule.{Extensions}
use Rattle.ron_spec_grammar.proofs.Computing.{values}
use Rattle.ron_spec_layout.specs.Config.{no_config}
use Rattle.ron_spec_layout.specs.Back.{back, back_first}
use Rattle.ron_spec_layout.proofs.Computing.{laying, plain}

abbrev with : Bool → Bool → Bool → Extensions
with a b c = record { unwrap_newtypes = a; implicit_some = b; unwrap_variant_newtypes = c; explicit_struct_names = false }

in_list : plain (with false false false) false (list_of (data_and (raw_of (codes "5 // c\n")) no_datas)) ≡ codes "[5 // c\n]"
unfolding values laying
in_list = refl

in_list_back : back no_config (with false false false) 0 [] (list_of (data_and (raw_of (codes "5 // c\n")) no_datas))
    ≡ list_of (data_and (raw_of (codes "5 // c\n")) no_datas)
unfolding values laying
in_list_back = refl

trims : back no_config (with false false false) 0 [] (raw_of (codes " /*c*/ 5 ")) ≡ raw_of (codes "/*c*/ 5")
unfolding values laying
trims = refl

trims_no_name : back no_config (with false false false) 0 [] (raw_of (codes " A ")) ≡ raw_of (codes "A ")
unfolding values laying
trims_no_name = refl

stays_first : back_first no_config (with true false false) 0 (newtype_of (codes "N") (raw_of (codes " 5 "))) ≡ newtype_of (codes "N") (raw_of (codes " 5 "))
unfolding values laying
stays_first = refl

trimmed_inside : back_first no_config (with false false false) 0 (newtype_of (codes "N") (raw_of (codes " 5 "))) ≡ newtype_of (codes "N") (raw_of (codes "5"))
unfolding values laying
trimmed_inside = refl

some_written : plain (with false true false) false (some_of (raw_of (codes "None"))) ≡ codes "Some(None)"
unfolding values laying
some_written = refl

somes_written : plain (with true true true) false (some_of (some_of (newtype_of (codes "N") (raw_of (codes "5"))))) ≡ codes "Some(Some(5))"
unfolding values laying
somes_written = refl

bare_tuple : plain (with false true true) false (some_of (some_of (tuple_of (data_and (raw_of (codes " None")) no_datas)))) ≡ codes "( None)"
unfolding values laying
bare_tuple = refl
