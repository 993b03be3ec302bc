-- The shape of newtypes.
use Rattle.std.specs.Prelude.{ℕ, Bool, true, false, Option, Some}
use Rattle.ron_spec_words.specs.Characters.{Text, left_parenthesis, right_parenthesis}
use Rattle.ron_spec_words.specs.Runs.{is_at}
use Rattle.ron_spec_words.specs.Lang.{Lang, Then, Means, Or, Group, WithComma}
use Rattle.ron_spec_words.specs.Reader.{Reader, in_sequence, means, pick, group, with_comma}
use Rattle.ron_spec_words.specs.Name.{Named, named}
use Rattle.ron_spec_grammar.specs.Data.{Data, newtype_of}
use Rattle.ron_spec_grammar.specs.Rule.{Langs, Readers, WithoutName, without_name}

-- the newtype of this name around a value
abbrev pub newtype_data : Text → Data → Option Data
newtype_data name d = Some (newtype_of name d)

-- ---- the text

-- the content alone, not bare
abbrev pub ContentAlone : Text → ℕ → Langs → Text → Lang Data
ContentAlone name j L before = Means (L false j before) (newtype_data name)

-- the content, not bare, and perhaps one comma, between `(` and `)`
abbrev pub Wrapped : Text → ℕ → Langs → Lang Data
Wrapped name j L = Means (Group left_parenthesis right_parenthesis (λ gap. WithComma (L false j gap))) (newtype_data name)

-- In brackets, with or without the name before them; under unwrap_newtypes the content alone. Bare the content alone, and perhaps the one comma. The content
-- takes one level: `sub k` may stand k + 1 levels deeper.
abbrev pub NewtypeText : Bool → Bool → Text → ℕ → (ℕ → Langs) → Langs → Bool → Text → Lang Data
NewtypeText required unwrap name j sub here true before = WithComma (ContentAlone name j here before)
NewtypeText required true name j sub here false before = ContentAlone name j here before
NewtypeText required false name j sub here false before = Or (WithoutName required (Wrapped name j (sub 0))) (Then (Named name) (λ _ _. Wrapped name j (sub 0)))

-- ---- its reader function

-- the content alone
abbrev pub content_alone : Text → ℕ → Readers → Text → Reader Data
content_alone name j r before = means (r false j before) (newtype_data name)

-- the content in its brackets
abbrev pub wrapped : Text → ℕ → Readers → Reader Data
wrapped name j r = means (group left_parenthesis right_parenthesis (λ gap. with_comma (r false j gap))) (newtype_data name)

-- the newtype
abbrev pub read_newtype : Bool → Bool → Text → ℕ → (ℕ → Readers) → Readers → Bool → Text → Reader Data
read_newtype required unwrap name j sub here true before = with_comma (content_alone name j here before)
read_newtype required true name j sub here false before = content_alone name j here before
read_newtype required false name j sub here false before =
    pick (is_at left_parenthesis) (without_name required (wrapped name j (sub 0))) (in_sequence (named name) (λ _ _. wrapped name j (sub 0)))
