-- The shape of options.
use Rattle.std.specs.Prelude.{ℕ, Bool, true, false, not, ◌&&◌, ◌||◌, drop, codes, Option, Some}
use Rattle.ron_spec_words.specs.Characters.{Text, left_parenthesis, right_parenthesis}
use Rattle.ron_spec_words.specs.Runs.{is_at}
use Rattle.ron_spec_words.specs.Gap.{skip}
use Rattle.ron_spec_words.specs.Lang.{Lang, Done, done, Then, Means, Or, When, Group, WithComma}
use Rattle.ron_spec_words.specs.Reader.{Reader, in_sequence, means, pick, group, with_comma}
use Rattle.ron_spec_words.specs.Directly.{FixedWord, stands, fixed_word}
use Rattle.ron_spec_grammar.specs.Data.{Data, the_none, some_of}
use Rattle.ron_spec_grammar.specs.Rule.{Extensions, Langs, Readers, Plain, plain, Allowed, allowed}

-- no value
abbrev pub none_data : Done → Option Data
none_data u = Some the_none

-- a value, whichever it is
abbrev pub some_data : Data → Option Data
some_data d = Some (some_of d)

-- the word `Some`, a gap and `(` stand here
abbrev pub opens_some : Text → Bool
opens_some s = stands (codes "Some") s && is_at left_parenthesis (skip (drop 4 s))

-- the word `None`, or the word `Some`, a gap and `(`
abbrev pub opens_option : Text → Bool
opens_option s = stands (codes "None") s || opens_some s

-- ---- the text

-- what stands between `(` and `)` behind a name or the word `Some`: bare under unwrap_variant_newtypes, and else a value and perhaps one comma
abbrev pub Content : Bool → Langs → ℕ → Text → Lang Data
Content false L j gap = WithComma (L false j gap)
Content true L j gap = L true j gap

-- the word `None`
abbrev pub NoneText : Lang Data
NoneText = Means (FixedWord (codes "None") done) none_data

-- the word `Some`, and the content between `(` and `)`
abbrev pub SomeText : Bool → ℕ → Langs → Lang Data
SomeText unwrap j L = Then (FixedWord (codes "Some") done) (λ _ _. Means (Group left_parenthesis right_parenthesis (Content unwrap L j)) some_data)

-- An option: the word `None`; the word `Some` with its content; or, under implicit_some, the content itself, bare where the option is, where neither form of a
-- written option begins. A Some takes one level: `sub k` may stand k + 1 levels deeper, and `here` one level deeper at the very place.
abbrev pub OptionText : Extensions → ℕ → (ℕ → Langs) → Langs → Bool → Text → Lang Data
OptionText x j sub here bare before =
    Or (Plain bare NoneText)
    (Or (Plain bare (SomeText x.unwrap_variant_newtypes j (sub 0)))
    (When (λ s. not (opens_option s)) (Allowed x.implicit_some (Means (here bare j before) some_data))))

-- ---- its reader function

-- the content
abbrev pub content : Bool → Readers → ℕ → Text → Reader Data
content false r j gap = with_comma (r false j gap)
content true r j gap = r true j gap

-- no value
abbrev pub read_none : Reader Data
read_none = means (fixed_word (codes "None") done) none_data

-- a value behind the word
abbrev pub read_some : Bool → ℕ → Readers → Reader Data
read_some unwrap j r = in_sequence (fixed_word (codes "Some") done) (λ _ _. means (group left_parenthesis right_parenthesis (content unwrap r j)) some_data)

-- the option
abbrev pub read_option : Extensions → ℕ → (ℕ → Readers) → Readers → Bool → Text → Reader Data
read_option x j sub here bare before =
    pick (stands (codes "None")) (plain bare read_none)
    (pick opens_option (plain bare (read_some x.unwrap_variant_newtypes j (sub 0)))
    (allowed x.implicit_some (means (here bare j before) some_data)))
