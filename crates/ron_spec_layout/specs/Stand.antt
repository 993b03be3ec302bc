-- A text that stands for what a language spells, with gaps at either end.
--
-- A layout stands for data. The law says that a layout is a gap, a stretch that spells the data, and the longest gap
-- behind it (`Stands`), and not that it spells it. A raw text at either end takes the gaps with it, and layouts with
-- line ends begin or end with one.
use Rattle.std.specs.Prelude.{◌≡◌, Bool, true, false, ◌∷◌, ◌++◌}
use Rattle.ron_spec_words.specs.Characters.{Text, right_parenthesis, continues_word}
use Rattle.ron_spec_words.specs.Runs.{begins}
use Rattle.ron_spec_words.specs.Gap.{Gap, LongGap, skip, ends_value}
use Rattle.ron_spec_words.specs.Lang.{Lang}
use Rattle.ron_spec_grammar.specs.Rule.{Extensions}

-- No gap begins the text: it is a stretch that the language spells, and the longest gap.
pub record StandsFirst {A : Type 0} (L : Lang A) (text next : Text) (a : A) : Type 0 where
  pub stretch : Text
  pub after : Text
  pub split : text ≡ stretch ++ after
  pub solid : skip (text ++ next) ≡ text ++ next
  pub spelled : L stretch (after ++ next) a
  pub is_after : LongGap after next

-- The text is a gap, a stretch that the language spells behind that gap, and the longest gap.
pub record Stands {A : Type 0} (L : Text → Lang A) (text next : Text) (a : A) : Type 0 where
  pub before : Text
  pub text_from : Text
  pub split : text ≡ before ++ text_from
  pub is_before : Gap before (text_from ++ next)
  pub from : StandsFirst (L before) text_from next a

-- What may stand behind a value. The law of layouts asks that the text ends there or goes on with `,`, `:` or a
-- closing bracket (`Ends`); bare, with the `)`. None of these is a character that a word would go on with (one of a
-- raw name, a quote or `#`) or that begins a gap. `Ends` says both besides, so that proofs need not derive it. Clause
-- `follows` shows that it is what the reader asks for, behind the gap.
--
-- The text ends, or goes on with `,`, `:` or a closing bracket: so no word goes on there, and no gap begins.
abbrev pub Ends : Text → Type 0
Ends next = (begins continues_word next ≡ false) × (skip next ≡ next) × (ends_value next ≡ true)

-- Data stands bare only under unwrap_variant_newtypes.
abbrev pub MayBeBare : Extensions → Bool → Type 0
MayBeBare x bare = bare ≡ true → x.unwrap_variant_newtypes ≡ true

-- What may follow a layout. Behind a bare one stands its `)`.
abbrev pub MayFollow : Bool → Text → Type 0
MayFollow false next = Ends next
MayFollow true next = (rest : Text) × (next ≡ right_parenthesis ∷ rest)
