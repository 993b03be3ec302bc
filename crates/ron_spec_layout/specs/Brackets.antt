-- Words of a layout: texts in a row, in brackets and behind names, and Somes around a text.
use Rattle.std.specs.Prelude.{ℕ, zero, suc, Bool, true, false, ◌||◌, if◌then◌else◌, List, [], ◌++◌, codes}
use Rattle.std.specs.List.{join_by}
use Rattle.ron_spec_words.specs.Characters.{Text}
use Rattle.ron_spec_words.specs.Gap.{skip}
use Rattle.ron_spec_words.specs.Directly.{stands}
use Rattle.ron_spec_layout.specs.Name.{written_name}

-- the texts in a row, with `,` between neighbours
abbrev pub joined : List Text → Text
joined = join_by (λ t. t) (codes ",")

-- with `(` before it and `)` behind it, where it is not bare
abbrev pub bracketed : Bool → Text → Text
bracketed true t = t
bracketed false t = codes "(" ++ (t ++ codes ")")

-- the word of a boolean
abbrev pub written_bool : Bool → Text
written_bool b = if b then codes "true" else codes "false"

-- A unit struct is its name where names are required, and otherwise like the unit; bare it is nothing.
abbrev pub unit_struct_text : Bool → Bool → Text → Text
unit_struct_text required true name = []
unit_struct_text false false name = codes "()"
unit_struct_text true false name = written_name name

-- behind the name of a struct where names are required and the text is not bare
abbrev pub behind_name : Bool → Bool → Text → Text → Text
behind_name required true name t = t
behind_name false false name t = t
behind_name true false name t = written_name name ++ t

-- the word `Some`, and the text between `(` and `)`
abbrev pub in_some : Text → Text
in_some t = codes "Some" ++ bracketed false t

-- so many Somes written out around the text
abbrev pub in_somes : ℕ → Text → Text
in_somes zero t = t
in_somes (suc n) t = in_some (in_somes n t)

-- What would be taken for an option. Around a bare tuple pending `Some`s are written out where its text begins with
-- the word `None` or `Some` (`opens_as_option`). Reading asks besides that a gap and `(` stand behind `Some`
-- (`opens_option`). In a layout the word `Some` has its parenthesis, since a name `Some` stands behind `r#`, so the
-- shorter test is enough.
--
-- After a gap, the text begins with the word `None` or `Some`.
abbrev pub opens_as_option : Text → Bool
opens_as_option t = stands (codes "None") (skip t) || stands (codes "Some") (skip t)

-- A tuple, from its items' text. Where it is bare and its text would be taken for an option, the pending Somes are written out around it.
abbrev pub tuple_text : Bool → ℕ → Text → Text
tuple_text false pending t = bracketed false t
tuple_text true pending t = if opens_as_option t then in_somes pending t else t
