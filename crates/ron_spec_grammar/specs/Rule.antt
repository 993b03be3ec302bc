-- What the rule of a shape is given, and rules over levels.
use Rattle.std.specs.Prelude.{ℕ, zero, suc, Bool, true, false, [], ◌∷◌}
use Rattle.ron_spec_words.specs.Characters.{Text}
use Rattle.ron_spec_words.specs.Lang.{Lang, Nothing, WithComma}
use Rattle.ron_spec_words.specs.Reader.{Reader, bad, fail, with_comma}
use Rattle.ron_base.specs.Extensions.{ExtensionSet}
use Rattle.ron_spec_grammar.specs.Data.{Data}

-- the extensions in force
abbrev pub Extensions : Type 0
Extensions = ExtensionSet

-- What the shape at an index spells behind a gap. With `true` it is bare: it is the content of `(` and `)`, its one comma among it.
abbrev pub Langs : Type 1
Langs = Bool → ℕ → Text → Lang Data

-- what reads the shape at an index behind a gap
abbrev pub Readers : Type 0
Readers = Bool → ℕ → Text → Reader Data

-- Content with its one comma in place of a bareness flag. In `( t , )`, where t is the content of a newtype variant
-- or a `Some`, the plain rule puts one optional comma behind t. It says of bare content, by a flag, when its own last
-- comma is that comma and when none may stand. Here the bare text of a shape is defined as everything between `(` and
-- `)`, the one comma among it. A shape with no bare form of its own takes the comma behind it (`Plain`), a bare
-- struct is its items, whose last comma is optional already and cannot stand where there are no items. The cases are
-- those of the flag, each written where its shape is; and no rule has to look at what stood before the closing
-- bracket.
--
-- content that has no bare form of its own takes the one comma behind it
abbrev pub Plain : Bool → Lang Data → Lang Data
Plain false L = L
Plain true L = WithComma L

-- the same for reader functions
abbrev pub plain : Bool → Reader Data → Reader Data
plain false r = r
plain true r = with_comma r

-- what may stand without a name before it, where none is required
abbrev pub WithoutName : {A : Type 0} → Bool → Lang A → Lang A
WithoutName false L = L
WithoutName true L = Nothing

-- the same for reader functions
abbrev pub without_name : {A : Type 0} → Bool → Reader A → Reader A
without_name false r = r
without_name true r = fail bad

-- what may stand only where an extension allows it
abbrev pub Allowed : {A : Type 0} → Bool → Lang A → Lang A
Allowed false L = Nothing
Allowed true L = L

-- the same for reader functions
abbrev pub allowed : {A : Type 0} → Bool → Reader A → Reader A
allowed false r = fail bad
allowed true r = r

-- what stands directly behind a word, with no gap between them
abbrev pub NoGap : {A : Type 0} → Text → Lang A → Lang A
NoGap [] L = L
NoGap (c ∷ gap) L = Nothing

-- the same for reader functions
abbrev pub no_gap : {A : Type 0} → Text → Reader A → Reader A
no_gap [] r = r
no_gap (c ∷ gap) r = fail bad

-- what stands deeper, where more than a gap stands before it
abbrev pub inside {ℓ} : {X : Type ℓ} → (ℕ → Bool → X) → ℕ → X
inside sub k = sub k false

-- A rule says what is spelled where so many levels are left, from what is spelled deeper: k stands for k + 1 levels down. Where they are not left, nothing is.
abbrev pub below {ℓ} : {X : Type ℓ} → (ℕ → (ℕ → X) → X) → X → ℕ → ℕ → X
below rule nothing zero k = nothing
below rule nothing (suc n) zero = rule n (below rule nothing n)
below rule nothing (suc n) (suc k) = below rule nothing n k
