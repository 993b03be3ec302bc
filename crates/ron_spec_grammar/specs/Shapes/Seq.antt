-- The shape of lists.
use Rattle.std.specs.Prelude.{ℕ, Bool, false, List, Option, Some}
use Rattle.ron_spec_words.specs.Characters.{left_bracket, right_bracket}
use Rattle.ron_spec_words.specs.Lang.{Lang, Means, Items, Group, Needs}
use Rattle.ron_spec_words.specs.Reader.{Reader, means, items, group, needs}
use Rattle.ron_spec_grammar.specs.Data.{Data, list_of, datas}
use Rattle.ron_spec_grammar.specs.Rule.{Langs, Readers, Plain, plain}

-- the list of these items, whichever they are
abbrev pub list_data : List Data → Option Data
list_data ds = Some (list_of (datas ds))

-- `[`, items of one shape with a comma between neighbours and perhaps a last comma, and `]`. Entering the list takes one level, and in it each item one: `sub
-- k` may stand k + 1 levels deeper.
abbrev pub SeqText : ℕ → ℕ → (ℕ → Langs) → Bool → Lang Data
SeqText j room sub bare =
    Plain bare (Group left_bracket right_bracket (λ gap. Needs 1 room (Means (Items (λ seen before. sub 1 false j before) gap) list_data)))

-- its reader function
abbrev pub read_seq : ℕ → ℕ → (ℕ → Readers) → Bool → Reader Data
read_seq j room sub bare =
    plain bare (group left_bracket right_bracket (λ gap. needs 1 room (means (items (λ seen before. sub 1 false j before) right_bracket gap) list_data)))
