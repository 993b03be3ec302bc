-- What is claimed of the layout.
use Rattle.std.specs.Prelude.{◌≡◌, ◌≤◌, ℕ, zero, suc, nat_lt, Bool, true, false, List, [], ◌++◌, codes}
use Rattle.ron_spec_words.specs.Characters.{Text}
use Rattle.ron_spec_words.specs.Gap.{Gap, skip}
use Rattle.ron_spec_words.specs.Exact.{FollowsValue}
use Rattle.ron_spec_grammar.specs.Data.{Data, some_of}
use Rattle.ron_spec_grammar.specs.Schema.{Shape, is_well_formed, OfShape}
use Rattle.ron_spec_grammar.specs.Rule.{Extensions}
use Rattle.ron_spec_grammar.specs.Grammar.{Spells}
use Rattle.ron_spec_grammar.specs.Document.{Document}
use Rattle.ron_spec_layout.specs.Name.{names_ok}
use Rattle.ron_spec_layout.specs.Encodable.{is_encodable}
use Rattle.ron_spec_layout.specs.Normal.{norm_with}
use Rattle.ron_spec_layout.specs.Same.{AreSame, has_plain_keys, IsReadBackWith}
use Rattle.ron_spec_layout.specs.Depth.{writer_depth}
use Rattle.ron_spec_layout.specs.Stand.{Stands, MayBeBare, MayFollow}
use Rattle.ron_spec_layout.specs.Config.{Docs, no_docs, Config, no_config, blank, ends_lines}
use Rattle.ron_spec_layout.specs.Docs.{is_documented}
use Rattle.ron_spec_layout.specs.Layout.{layout_within, layout, announcements, extensions_under, full_layout}
use Rattle.ron_spec_layout.specs.Back.{back, back_first}

-- What follows a value may, behind the gap, follow its layout.
abbrev pub FollowsLayout : Type 0
FollowsLayout = (next : Text) → FollowsValue next → MayFollow false (skip next)

-- The layout can be read back: its texts are blank, and where doc comments are written a new line ends them.
pub record IsReadable (c : Config) (docs : Docs) (d : Data) : Type 0 where
  pub blank : blank c ≡ true
  pub ends : is_documented c docs d ≡ true → ends_lines c ≡ true

-- Behind any gap that something follows, the layout of data of a well-formed schema, that code can hold and whose names can be written, stands for what it is
-- read back as, not bare or, where that may be, bare, at some depth.
abbrev pub IsSpelled : Type 0
IsSpelled = (c : Config) (x : Extensions) (schema : List Shape) (root i level : ℕ) (docs : Docs) (bare : Bool) (lead next : Text) (d : Data)
    → IsReadable c docs d → is_well_formed schema root ≡ true → OfShape schema i d → is_encodable x.implicit_some d ≡ true → names_ok d ≡ true
    → MayBeBare x bare → (bare ≡ true → lead ≡ []) → Gap lead (codes ",") → MayFollow bare next
    → (room : ℕ) × Stands (Spells x schema room bare i) (lead ++ layout c x level docs bare d) next (back c x level lead d)

-- What it is read back as is the same as the normal form, where no key of a map holds a raw text.
abbrev pub IsBackSame : Type 0
IsBackSame = (c : Config) (x : Extensions) (schema : List Shape) (i level : ℕ) (lead : Text) (d : Data) → blank c ≡ true → Gap lead (codes ",")
    → OfShape schema i d → has_plain_keys d ≡ true → AreSame (back c x level lead d) (norm_with c.number_suffixes d)

-- The whole text, with its announcements, is a document under the default extensions alone, at some depth, of data that is the same as the normal form, and
-- equal to it where no raw text stands in the data.
abbrev pub IsReadBack : Type 0
IsReadBack = (c : Config) (defaults : Extensions) (schema : List Shape) (root : ℕ) (d : Data) → IsReadable c c.docs d → is_well_formed schema root ≡ true
    → OfShape schema root d → is_encodable (extensions_under defaults c).implicit_some d ≡ true → names_ok d ≡ true
    → (room : ℕ) × (e : Data) × IsReadBackWith c.number_suffixes d e × Document defaults schema root room (full_layout defaults c d) e

-- Where nothing is announced, it is a document of what is read back at the very start of a text.
abbrev pub IsReadBackFirst : Type 0
IsReadBackFirst = (c : Config) (defaults : Extensions) (schema : List Shape) (root : ℕ) (d : Data) → announcements defaults c ≡ [] → IsReadable c c.docs d
    → is_well_formed schema root ≡ true → OfShape schema root d → is_encodable (extensions_under defaults c).implicit_some d ≡ true → names_ok d ≡ true
    → (room : ℕ) × Document defaults schema root room (full_layout defaults c d) (back_first c (extensions_under defaults c) 0 d)

-- Whatever data the texts under two configurations are documents of, where both write suffixes or neither does, is the same.
abbrev pub AreAlike : Type 0
AreAlike = (b c : Config) (defaults : Extensions) (schema : List Shape) (root m n : ℕ) (d e f : Data) → b.number_suffixes ≡ c.number_suffixes
    → IsReadable b b.docs d → IsReadable c c.docs d → is_well_formed schema root ≡ true → OfShape schema root d
    → is_encodable (extensions_under defaults b).implicit_some d ≡ true → is_encodable (extensions_under defaults c).implicit_some d ≡ true → names_ok d ≡ true
    → has_plain_keys d ≡ true
    → Document defaults schema root m (full_layout defaults b d) e → Document defaults schema root n (full_layout defaults c d) f → AreSame e f

-- so many Somes around data
abbrev pub somes : ℕ → Data → Data
somes zero d = d
somes (suc n) d = some_of (somes n d)

-- Under implicit_some, the layout of data within pending Somes is that of the data inside so many Somes.
abbrev pub IsPending : Type 0
IsPending = (c : Config) (x : Extensions) (level : ℕ) (docs : Docs) (bare : Bool) (n : ℕ) (d : Data) → x.implicit_some ≡ true
    → layout_within c x level docs bare n d ≡ layout c x level docs bare (somes n d)

-- Past the depth limit a level more does not matter.
abbrev pub IsPastLimit : Type 0
IsPastLimit = (c : Config) (x : Extensions) (level : ℕ) (docs : Docs) (bare : Bool) (n : ℕ) (d : Data) → nat_lt c.depth_limit level ≡ true
    → layout_within c x (suc level) docs bare n d ≡ layout_within c x level docs bare n d

-- Without a configuration no level matters.
abbrev pub IsAtAnyLevel : Type 0
IsAtAnyLevel = (x : Extensions) (level : ℕ) (docs : Docs) (bare : Bool) (n : ℕ) (d : Data)
    → layout_within no_config x level docs bare n d ≡ layout_within no_config x 0 docs bare n d

-- And the whole text is the layout alone.
abbrev pub IsAlone : Type 0
IsAlone = (x : Extensions) (d : Data) → full_layout x no_config d ≡ layout no_config x 0 no_docs false d

-- A writer goes as deep without a configuration as under one that makes no ranges compact, and under any other no deeper.
abbrev pub IsDepth : Type 0
IsDepth = (c : Config) (d : Data) → (writer_depth c d ≤ writer_depth no_config d) × (c.compact_ranges ≡ false → writer_depth c d ≡ writer_depth no_config d)

-- A normal form is its own, with suffixes or without.
abbrev pub IsNormal : Type 0
IsNormal = (suffixes : Bool) (d : Data) → norm_with suffixes (norm_with suffixes d) ≡ norm_with suffixes d
