-- The three forms in which messages show a name.
use Rattle.std.specs.Prelude.{ℕ, List, ◌++◌, if◌then◌else◌, codes, chars}
use Rattle.ron_spec_words.specs.Name.{is_name, is_plain_identifier}
use Rattle.ron_base.specs.Escape.{quoted}

-- the bytes that show a name: a plain or raw identifier between backquotes, and another text quoted and marked
unfoldable pub name_text : List ℕ → List ℕ
name_text name =
    if is_plain_identifier (chars name) then codes "`" ++ (name ++ codes "`")
    else if is_name (chars name) then codes "`r#" ++ (name ++ codes "`")
    else quoted name ++ codes "_[invalid identifier]"
