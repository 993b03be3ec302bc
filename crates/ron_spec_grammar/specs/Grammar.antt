-- The grammar: which stretch of a text spells which data of a shape.
use Rattle.std.specs.Prelude.{ℕ, Bool, false, List, Option, Some, None, slice_get}
use Rattle.ron_spec_words.specs.Characters.{Text}
use Rattle.ron_spec_words.specs.Lang.{Lang, Nothing}
use Rattle.ron_spec_grammar.specs.Data.{Data}
use Rattle.ron_spec_grammar.specs.Schema.{Shape, bool, int, char, str, bytes, unit, optional, unit_struct, seq, tuple, tuple_struct, map, newtype, struct, enum}
use Rattle.ron_spec_grammar.specs.Schema.{any_value, any_raw}
use Rattle.ron_spec_grammar.specs.Rule.{Extensions, Langs, inside, below}
use Rattle.ron_spec_grammar.specs.Shapes.Bool.{BoolText}
use Rattle.ron_spec_grammar.specs.Shapes.Int.{IntText}
use Rattle.ron_spec_grammar.specs.Shapes.Char.{CharText}
use Rattle.ron_spec_grammar.specs.Shapes.Str.{StrText}
use Rattle.ron_spec_grammar.specs.Shapes.Bytes.{BytesText}
use Rattle.ron_spec_grammar.specs.Shapes.Unit.{UnitText}
use Rattle.ron_spec_grammar.specs.Shapes.UnitStruct.{UnitStructText}
use Rattle.ron_spec_grammar.specs.Shapes.Seq.{SeqText}
use Rattle.ron_spec_grammar.specs.Shapes.Tuple.{TupleText, TupleStructText}
use Rattle.ron_spec_grammar.specs.Shapes.Map.{MapText}
use Rattle.ron_spec_grammar.specs.Shapes.Option.{OptionText}
use Rattle.ron_spec_grammar.specs.Shapes.Newtype.{NewtypeText}
use Rattle.ron_spec_grammar.specs.Shapes.Enum.{EnumText}
use Rattle.ron_spec_grammar.specs.Shapes.Struct.{StructText}
use Rattle.ron_spec_grammar.specs.Shapes.Value.{ValueText}
use Rattle.ron_spec_grammar.specs.Shapes.Raw.{RawText}

-- the text of a shape, where there is room for so many levels; `sub k` may stand k + 1 levels deeper. With `true` first nothing but the gap stands before it in
-- the whole text, and `sub k true` says so of what stands deeper
abbrev pub ShapeText : Extensions → List Shape → ℕ → (ℕ → Bool → Langs) → Bool → Bool → Text → Option Shape → Lang Data
ShapeText x schema room sub at_start bare before None = Nothing
ShapeText x schema room sub at_start bare before (Some bool) = BoolText bare
ShapeText x schema room sub at_start bare before (Some (int w)) = IntText w bare
ShapeText x schema room sub at_start bare before (Some char) = CharText bare
ShapeText x schema room sub at_start bare before (Some str) = StrText bare
ShapeText x schema room sub at_start bare before (Some bytes) = BytesText room bare
ShapeText x schema room sub at_start bare before (Some unit) = UnitText bare
ShapeText x schema room sub at_start bare before (Some (optional j)) = OptionText x j (inside sub) (sub 0 at_start) bare before
ShapeText x schema room sub at_start bare before (Some (unit_struct name)) = UnitStructText x.explicit_struct_names name bare
ShapeText x schema room sub at_start bare before (Some (seq j)) = SeqText j room (inside sub) bare
ShapeText x schema room sub at_start bare before (Some (tuple js)) = TupleText js room (inside sub) bare before
ShapeText x schema room sub at_start bare before (Some (tuple_struct name js)) = TupleStructText x.explicit_struct_names name js room (inside sub) bare before
ShapeText x schema room sub at_start bare before (Some (map k v)) = MapText k v room (inside sub) bare
ShapeText x schema room sub at_start bare before (Some (newtype name j)) =
    NewtypeText x.explicit_struct_names x.unwrap_newtypes name j (inside sub) (sub 0 at_start) bare before
ShapeText x schema room sub at_start bare before (Some (struct name list)) = StructText x schema name list room (inside sub) bare before
ShapeText x schema room sub at_start bare before (Some (enum name variants)) = EnumText x name variants room (inside sub) bare
ShapeText x schema room sub at_start bare before (Some any_value) = ValueText x room bare before
ShapeText x schema room sub at_start bare before (Some any_raw) = RawText x room at_start bare before

-- the rule of the shape at an index
abbrev pub Rule : Extensions → List Shape → ℕ → (ℕ → Bool → Langs) → Bool → Langs
Rule x schema room sub at_start bare i before = ShapeText x schema room sub at_start bare before (slice_get schema i)

-- what is spelled where no level is left
abbrev pub nothing_spelled : Bool → Langs
nothing_spelled at_start bare i before = Nothing

-- Raw texts at the start. Whether nothing but a gap stands before a value in its text is a flag beside that gap
-- (`SpellsAt`, `read_at`). Options and newtypes hand it on to content that stands alone, raw texts look at it, all
-- else is spelled alike either way; what stands a level deeper is never at the start. Of a document it says that the
-- head is empty: behind `#![type = "a"]` a raw text is trimmed. In code it is no part of what is handed on from value
-- to value: `ron_de::first` reads where the cursor stands at the start, going through the same options and newtypes.
--
-- With these extensions in force and so much room, the stretch spells the data of the shape at an index.
unfoldable pub SpellsAt : Bool → Extensions → List Shape → ℕ → Langs
SpellsAt at_start x schema room = Rule x schema room (below (Rule x schema) nothing_spelled room) at_start

-- A budget in place of an exact depth. The plain rule gives each spelling a depth, by counting levels, and asks that
-- it be at most the limit. `Spells` is told instead how many levels are left, and asks at each level that one is
-- (`Needs`, `below`). A spelling of depth d passes these questions exactly where d levels or more are left. Each
-- question asks for the levels from the outside down to one place, and the depth is the greatest of these numbers. So
-- "related with n levels left" is "related at a depth of at most n", and nothing else is ever claimed. It is claimed
-- within the limit (n is the limit), at some depth (there is an n), without a limit (`bounded` gives an n). For whole
-- texts this is proved (clause `depth` of `documents_are_read_exactly`). The depth is the text's and not the data's,
-- since data won't tell how deep its text is once maps drop pairs and ranges have two forms. A budget also lets the
-- rules be one recursion on a number; an exact depth would need the greatest depth of all items in each rule. A
-- field's name stands at the same level as its value and directly before it, so its own question would never be the
-- one that fails, and it isn't asked.
--
-- where more than a gap stands before it
abbrev pub Spells : Extensions → List Shape → ℕ → Langs
Spells = SpellsAt false
