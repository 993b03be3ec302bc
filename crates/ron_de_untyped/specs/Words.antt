-- Values that begin with a word, the word apart from what it holds.
use Rattle.std.specs.Prelude.{◌≡◌, Bool, true, false, codes, Result, Ok, Err}
use Rattle.ron_spec_words.specs.Directly.{stands, fixed_word}
use Rattle.ron_spec_words.specs.Lang.{done}
use Rattle.ron_spec_words.specs.Lookahead.{opens_named_group}
use Rattle.ron_spec_words.specs.Name.{untyped_name}
use Rattle.ron_spec_words.specs.Reader.{Got, failed, bad, Reader, in_sequence, pick}
use Rattle.ron_base.specs.declared.error.Error.{Error}
use Rattle.ron_lex.specs.Place.{Place}
use Rattle.ron_value.specs.Tree.{Tree}
use Rattle.ron_value.specs.Tree as tree
use Rattle.ron_de_steps.specs.Errors.{IsMemoryOr}

-- the word of a boolean, or `None`, or else this
abbrev pub fixed_or : Reader Tree → Reader Tree
fixed_or other =
    pick (stands (codes "true")) (fixed_word (codes "true") (tree.boolean true))
    (pick (stands (codes "false")) (fixed_word (codes "false") (tree.boolean false))
    (pick (stands (codes "None")) (fixed_word (codes "None") tree.none) other))

-- the word `Some` and what it holds, or else this
abbrev pub some_or : Reader Tree → Reader Tree → Reader Tree
some_or held other = pick (stands (codes "Some")) (in_sequence (fixed_word (codes "Some") done) (λ _ _. held)) other

-- a name and its group, or else this
abbrev pub named_or : Reader Tree → Reader Tree → Reader Tree
named_or group other = pick opens_named_group (in_sequence untyped_name (λ _ _. group)) other

-- the answer is that of what stands behind the word, or else of the other; or nothing is read
abbrev pub EntersBy : Got Tree → Reader Tree → Reader Tree → Place → Result Bool Error → Place → Type 0
EntersBy answer held other old (Ok true) new = answer ≡ held new.rest
EntersBy answer held other old (Ok false) new = (answer ≡ other old.rest) × (new.rest ≡ old.rest)
EntersBy answer held other old (Err e) new = IsMemoryOr (answer ≡ failed bad) e

-- likewise whatever is held and whatever the other is
abbrev pub Enters : (Reader Tree → Reader Tree → Reader Tree) → Place → Result Bool Error → Place → Type 0
Enters join old result new = (held other : Reader Tree) → EntersBy (join held other old.rest) held other old result new
