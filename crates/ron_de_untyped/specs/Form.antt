-- The grammar's forms, as code names them.
use Rattle.std.specs.Prelude.{ℕ}
use Rattle.ron_spec_grammar.specs.Values.Grammar as plain
use Rattle.ron_de_untyped.specs.declared.form.Form.{Form}
use Rattle.ron_de_untyped.specs.declared.form.Form.TheVariants.{Character, Text, Bytes, List, Map, Group, Number, Word}

abbrev pub form_view : Form → plain.Form
form_view Character = plain.a_character
form_view Text = plain.a_string
form_view Bytes = plain.a_byte_string
form_view List = plain.a_list
form_view Map = plain.a_map
form_view Group = plain.a_group
form_view Number = plain.a_number
form_view Word = plain.a_word

-- how many looks tell it: before a number that may be a range's start there is none
abbrev pub look_of : Form → ℕ
look_of Character = 1
look_of Text = 1
look_of Bytes = 1
look_of List = 1
look_of Map = 1
look_of Group = 1
look_of Number = 0
look_of Word = 1
