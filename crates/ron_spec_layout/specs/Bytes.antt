-- The layout in UTF-8, as a writer writes it.
use Rattle.std.specs.Prelude.{ℕ, Bool, List}
use Rattle.std.specs.Str.{encode_utf8_all}
use Rattle.ron_spec_words.specs.Characters.{Text}
use Rattle.ron_spec_grammar.specs.Data.{Data}
use Rattle.ron_spec_grammar.specs.Rule.{Extensions}
use Rattle.ron_spec_layout.specs.Name.{written_name}
use Rattle.ron_spec_layout.specs.Config.{Docs, Config}
use Rattle.ron_spec_layout.specs.Layout.{layout, announcements, full_layout}

-- of a name as it is written
abbrev pub name_bytes : Text → List ℕ
name_bytes n = encode_utf8_all (written_name n)

-- Bytes. A writer's contract speaks of UTF-8 bytes (`layout_bytes`), the grammar of characters. Digits and marks are
-- ASCII for every number, also one that no width holds, so the equations in bytes need no premise but that names are
-- UTF-8.
--
-- of data, where no Some is pending
abbrev pub layout_bytes : Config → Extensions → ℕ → Docs → Bool → Data → List ℕ
layout_bytes c x level docs bare d = encode_utf8_all (layout c x level docs bare d)

-- of the announcements, and of the whole text
abbrev pub announcements_bytes : Extensions → Config → List ℕ
announcements_bytes defaults c = encode_utf8_all (announcements defaults c)

abbrev pub full_layout_bytes : Extensions → Config → Data → List ℕ
full_layout_bytes defaults c d = encode_utf8_all (full_layout defaults c d)
