-- Worked pieces of raw texts: what is taken of the gaps, and which texts are valid by themselves.
use Rattle.std.proofs.Common.{◌≡◌, Bool, true, false, List, [], ◌∷◌, ◌++◌, codes, Some, pos, refl}
use Rattle.ron_spec_words.specs.Characters.{Text, left_bracket, right_bracket, left_parenthesis, right_parenthesis}
use Rattle.ron_spec_words.specs.Reader.{bad, Got, got, failed, after_gap, items, group, with_comma}
use Rattle.ron_value.specs.Tree.{Tree}
use Rattle.ron_value.specs.Tree as tree
use Rattle.ron_value_number.specs.declared.width.Width.TheVariants.{U8}
use Rattle.ron_spec_grammar.proofs.Computing.{values}
use Rattle.ron_spec_grammar.specs.Raw.{without_gaps, trimmed, raw_value, raw_valid}
use Rattle.ron_spec_grammar.specs.Shapes.Raw.{raw_part}

-- a list of raw texts, where no more than a gap stands before the `[`
abbrev list_of_raw : Bool → Text → Got (List Text)
list_of_raw unwrap = group left_bracket right_bracket (λ gap. items (λ _ before. raw_part unwrap 9 false before) right_bracket gap)

record Lists (unwrap : Bool) (s : Text) (ts : List Text) : Type 0 where
  is : list_of_raw unwrap s ≡ got ts []

-- a body that is a raw text
record Whole (at_start : Bool) (s t : Text) : Type 0 where
  is : after_gap (raw_part false 9 at_start) s ≡ got t []

-- the bare content of a Some, in its brackets
record Bare (s t : Text) : Type 0 where
  is : group left_parenthesis right_parenthesis (λ gap. with_comma (raw_part true 9 false gap)) s ≡ got t []

record Refused {A : Type 0} (o : Got A) : Type 0 where
  is : o ≡ failed bad

record Valid (s : Text) (b : Bool) : Type 0 where
  is : raw_valid s ≡ b

record Means (s : Text) (t : Tree) : Type 0 where
  is : raw_value s ≡ Some t

mark_behind : Lists false (codes "[ 5 " ++ ((0x200E ∷ []) ++ (codes " ]"))) ((codes "5 " ++ ((0x200E ∷ []))) ∷ [])
unfolding values
mark_behind = record { is = refl }

lines_behind : Lists false (codes "[5 // c\n \n]") ((codes "5 // c\n") ∷ [])
unfolding values
lines_behind = record { is = refl }

white_comment : Lists false (codes "[5 //  \n ,B]") ((codes "5 //  \n") ∷ (codes "B") ∷ [])
unfolding values
white_comment = record { is = refl }

line_before : Lists false (codes "[ // c\n 5]") ((codes "// c\n 5") ∷ [])
unfolding values
line_before = record { is = refl }

block_last : Lists false (codes "[5 // c\n/* // */ ]") ((codes "5 // c\n/* // */") ∷ [])
unfolding values
block_last = record { is = refl }

raw_name : Lists false (codes "[r#true , true , None ]") ((codes "r#true ") ∷ (codes "true") ∷ (codes "None") ∷ [])
unfolding values
raw_name = record { is = refl }

groups : Lists false (codes "[A () , A( ) ]") ((codes "A ()") ∷ (codes "A( )") ∷ [])
unfolding values
groups = record { is = refl }

some : Lists false (codes "[ Some(1) ]") ((codes "Some(1)") ∷ [])
unfolding values
some = record { is = refl }

some_tuple : Lists true (codes "[Some((1,2),)]") ((codes "Some((1,2),)") ∷ [])
unfolding values
some_tuple = record { is = refl }

fields : Refused (list_of_raw true (codes "[Some(a:1)]"))
unfolding values
fields = record { is = refl }

empty_some : Refused (list_of_raw true (codes "[Some()]"))
unfolding values
empty_some = record { is = refl }

not_at_start : Whole false (codes " /*c*/ 5 ") (codes "/*c*/ 5")
unfolding values
not_at_start = record { is = refl }

name_at_start : Whole true (codes " A /*c*/ ") (codes " A /*c*/ ")
unfolding values
name_at_start = record { is = refl }

open_at_start : Refused (after_gap (raw_part false 9 true) (codes "5 // c"))
unfolding values
open_at_start = record { is = refl }

open_at_end : Refused (after_gap (raw_part false 9 false) (codes " 5 // c"))
unfolding values
open_at_end = record { is = refl }

bare : Bare (codes "( 5 , )") (codes "5")
unfolding values
bare = record { is = refl }

valid_comment : Valid (codes "5 // c\n") true
unfolding values
valid_comment = record { is = refl }

open_comment : Valid (codes "5 // c") false
unfolding values
open_comment = record { is = refl }

attribute : Valid (codes "#![enable(implicit_some)] 5") false
unfolding values
attribute = record { is = refl }

nothing : Valid [] false
unfolding values
nothing = record { is = refl }

gap_alone : Valid (codes " ") false
unfolding values
gap_alone = record { is = refl }

two : Valid (codes "5,") false
unfolding values
two = record { is = refl }

block_open : Valid (codes "5 /*") false
unfolding values
block_open = record { is = refl }

slash : Valid (codes "5 /") false
unfolding values
slash = record { is = refl }

mark_valid : Valid ((0x200E ∷ []) ++ (codes "5" ++ ((0x200F ∷ [])))) true
unfolding values
mark_valid = record { is = refl }

no_break : Valid (codes "5" ++ ((0xA0 ∷ []))) false
unfolding values
no_break = record { is = refl }

block_swallows : Valid (codes "5 /*,*/") true
unfolding values
block_swallows = record { is = refl }

value_of_row_16 : Means (codes "/*c*/ 5 /*d*/") (tree.number U8 (pos 5))
unfolding values
value_of_row_16 = record { is = refl }

value_trimmed : Means (codes "5") (tree.number U8 (pos 5))
unfolding values
value_trimmed = record { is = refl }

-- ---- without gaps, and trimmed

without_comments : without_gaps (codes "/*c*/ 5 /*d*/") ≡ codes "5"
unfolding values
without_comments = refl

without_a_line_comment : without_gaps (codes "5 // c\n") ≡ codes "5"
unfolding values
without_a_line_comment = refl

trimmed_to_a_name_and_its_gap : trimmed (codes " A /*c*/ ") ≡ codes "A /*c*/ "
unfolding values
trimmed_to_a_name_and_its_gap = refl

trimmed_once_more : trimmed (codes "5 // c\n") ≡ codes "5 // c\n"
unfolding values
trimmed_once_more = refl
