-- Worked texts of options and newtypes, each answered by computing the reader function.
use Rattle.std.proofs.Common.{◌≡◌, ℕ, Bool, true, false, [], ◌∷◌, codes, pos, refl}
use Rattle.ron_spec_words.specs.Characters.{Text}
use Rattle.ron_spec_words.specs.Reader.{deep, bad}
use Rattle.ron_value_number.specs.declared.width.Width.TheVariants.{U8}
use Rattle.ron_spec_grammar.specs.Data.{Data, bool_of, int_of, the_unit, the_none, some_of, unit_struct_of, tuple_of, newtype_of, struct_of, no_datas, data_and}
use Rattle.ron_spec_grammar.specs.Data.{no_fields}
use Rattle.ron_spec_grammar.specs.Schema.{bool, int, unit, optional, unit_struct, seq, tuple, newtype, struct, is_well_formed, only}
use Rattle.ron_spec_grammar.specs.Rule.{Extensions}
use Rattle.ron_spec_grammar.specs.Room.{rank, chain}
use Rattle.ron_spec_grammar.specs.Document.{Answer, ok, err, answer}
use Rattle.ron_spec_grammar.proofs.Computing.{reading}

-- these extensions: unwrap_newtypes, implicit_some, unwrap_variant_newtypes, explicit_struct_names
abbrev with : Bool → Bool → Bool → Bool → Extensions
with a b c d = record { unwrap_newtypes = a; implicit_some = b; unwrap_variant_newtypes = c; explicit_struct_names = d }

abbrev none : Extensions
none = with false false false false

abbrev implicit : Extensions
implicit = with false true false false

abbrev small : ℕ → Data
small n = int_of U8 (pos n)

-- ---- options

abbrev option : Extensions → Text → Answer
option x text = answer x (optional 1 ∷ int U8 ∷ []) 0 1 text

no_value : option none (codes "None") ≡ ok the_none
unfolding reading
no_value = refl

a_value : option none (codes "Some ( 5 , )") ≡ ok (some_of (small 5))
unfolding reading
a_value = refl

value_alone : option none (codes "5") ≡ err bad
unfolding reading
value_alone = refl

implicit_value : option implicit (codes "5") ≡ ok (some_of (small 5))
unfolding reading
implicit_value = refl

written_value : option implicit (codes "Some(5)") ≡ ok (some_of (small 5))
unfolding reading
written_value = refl

some_without_brackets : option implicit (codes "Some 5") ≡ err bad
unfolding reading
some_without_brackets = refl

-- a Some takes a level, written or not
implicit_value_at_limit_0 : answer implicit (optional 1 ∷ int U8 ∷ []) 0 0 (codes "5") ≡ err deep
unfolding reading
implicit_value_at_limit_0 = refl

-- an option of an option
abbrev twice : Extensions → Text → Answer
twice x text = answer x (optional 1 ∷ optional 2 ∷ unit ∷ []) 0 2 text

-- the same of an option
abbrev twice_of_option : Extensions → Text → Answer
twice_of_option x text = answer x (optional 1 ∷ optional 2 ∷ optional 3 ∷ unit ∷ []) 0 3 text

-- `None` is the outer one's, however many Somes may be left out
outer_none : twice implicit (codes "None") ≡ ok the_none
unfolding reading
outer_none = refl

inner_none : twice implicit (codes "Some(None)") ≡ ok (some_of the_none)
unfolding reading
inner_none = refl

-- and each further Some before it is told by one that is written out
none_in_both : twice_of_option implicit (codes "Some(Some(None))") ≡ ok (some_of (some_of the_none))
unfolding reading
none_in_both = refl

unit_in_both : twice implicit (codes "()") ≡ ok (some_of (some_of the_unit))
unfolding reading
unit_in_both = refl

-- the guard asks for the words: a longer name begins no option, and neither does `Some` without `(`
longer_name : answer implicit (optional 1 ∷ unit_struct (codes "Nones") ∷ []) 0 1 (codes "Nones") ≡ ok (some_of (unit_struct_of (codes "Nones")))
unfolding reading
longer_name = refl

name_some : answer implicit (optional 1 ∷ unit_struct (codes "Some") ∷ []) 0 1 (codes "Some") ≡ ok (some_of (unit_struct_of (codes "Some")))
unfolding reading
name_some = refl

name_none : answer implicit (optional 1 ∷ unit_struct (codes "None") ∷ []) 0 1 (codes "r#None") ≡ ok (some_of (unit_struct_of (codes "None")))
unfolding reading
name_none = refl

-- ---- bare content

abbrev bare : Extensions
bare = with false false true false

abbrev some_pair : Text → Answer
some_pair text = answer bare (optional 1 ∷ tuple (2 ∷ 3 ∷ []) ∷ int U8 ∷ bool ∷ []) 0 3 text

bare_pair : some_pair (codes "Some(1,true,)") ≡ ok (some_of (tuple_of (data_and (small 1) (data_and (bool_of true) no_datas))))
unfolding reading
bare_pair = refl

bare_pair_in_brackets : some_pair (codes "Some((1,true))") ≡ err bad
unfolding reading
bare_pair_in_brackets = refl

two_commas : some_pair (codes "Some(1,true,,)") ≡ err bad
unfolding reading
two_commas = refl

-- behind a bare unit the one comma may stand, behind a bare empty struct it may not
bare_unit : answer bare (optional 1 ∷ unit ∷ []) 0 1 (codes "Some(,)") ≡ ok (some_of the_unit)
unfolding reading
bare_unit = refl

bare_empty_struct : answer bare (optional 1 ∷ struct (codes "S") (only []) ∷ []) 0 2 (codes "Some()") ≡ ok (some_of (struct_of (codes "S") no_fields))
unfolding reading
bare_empty_struct = refl

bare_empty_struct_and_comma : answer bare (optional 1 ∷ struct (codes "S") (only []) ∷ []) 0 2 (codes "Some(,)") ≡ err bad
unfolding reading
bare_empty_struct_and_comma = refl

-- ---- newtypes

abbrev wrapped : Extensions → Text → Answer
wrapped x text = answer x (newtype (codes "N") 1 ∷ int U8 ∷ []) 0 1 text

abbrev five : Data
five = newtype_of (codes "N") (small 5)

behind_its_name : wrapped none (codes "N ( 5 , )") ≡ ok five
unfolding reading
behind_its_name = refl

in_brackets : wrapped none (codes "(5)") ≡ ok five
unfolding reading
in_brackets = refl

content_alone : wrapped none (codes "5") ≡ err bad
unfolding reading
content_alone = refl

unwrapped : wrapped (with true false false false) (codes "5") ≡ ok five
unfolding reading
unwrapped = refl

unwrapped_in_brackets : wrapped (with true false false false) (codes "N(5)") ≡ err bad
unfolding reading
unwrapped_in_brackets = refl

name_required : wrapped (with false false false true) (codes "(5)") ≡ err bad
unfolding reading
name_required = refl

-- bare it is its content, and that is not bare
bare_newtype : answer bare (optional 1 ∷ newtype (codes "N") 2 ∷ tuple (3 ∷ []) ∷ int U8 ∷ []) 0 4 (codes "Some((1),)")
    ≡ ok (some_of (newtype_of (codes "N") (tuple_of (data_and (small 1) no_datas))))
unfolding reading
bare_newtype = refl

-- ---- chains of options and newtypes

chain_of_two : rank (optional 1 ∷ newtype (codes "N") 2 ∷ int U8 ∷ []) 0 ≡ 2
unfolding rank
chain_of_two = refl

-- the longest of all, wherever it begins
longest_chain : chain (int U8 ∷ optional 2 ∷ newtype (codes "N") 0 ∷ seq 1 ∷ []) ≡ 2
unfolding rank
longest_chain = refl

no_cycle : is_well_formed (optional 1 ∷ newtype (codes "N") 2 ∷ int U8 ∷ []) 0 ≡ true
no_cycle = refl

cycle : is_well_formed (newtype (codes "N") 1 ∷ optional 0 ∷ []) 0 ≡ false
cycle = refl
