-- Two texts of the same words, between which the gaps may differ where the format lets them.
use Rattle.std.specs.Prelude.{◌≡◌, ℕ, Bool, true, false, not, ◌||◌, ◌==◌, if◌then◌else◌, [], ◌∷◌, ◌++◌, Some}
use Rattle.ron_spec_words.specs.Characters.{Text, left_parenthesis, right_parenthesis, comma}
use Rattle.ron_spec_words.specs.Runs.{begins, is_at, is_ended}
use Rattle.ron_spec_words.specs.Gap.{LongGap, is_delimiter}
use Rattle.ron_spec_words.specs.Scan.{token, starts_gap, is_opening, is_closing}

-- `,`, `:` or a bracket: a token by itself, whatever stands around it
abbrev pub is_mark : ℕ → Bool
is_mark c = is_delimiter c || is_opening c

-- a character with which neither a gap nor a mark begins: a word's first one
abbrev pub is_solid : ℕ → Bool
is_solid c = not (starts_gap c || is_mark c)

-- what stands directly before a gap: the text's beginning or a mark, or a word. Only `(` is told from the other marks.
pub data Before : Type 0 where
  a_parenthesis : Before
  a_mark : Before
  an_end : Before
  a_word : Before

abbrev pub mark_before : ℕ → Before
mark_before c = if c == left_parenthesis then a_parenthesis else if is_closing c then an_end else a_mark

-- an item may end there: a word or a closing bracket
abbrev pub ends_item : Before → Bool
ends_item a_parenthesis = false
ends_item a_mark = false
ends_item an_end = true
ends_item a_word = true

-- both are empty, or neither is
abbrev pub as_empty : Text → Text → Bool
as_empty g h = if is_ended g then is_ended h else not (is_ended h)

-- Behind this, before the rest, the second gap may stand in place of the first. Beside a mark any gap may, but for two places: `()` is the unit and `( )` is
-- none, and a name stands directly before the `(` of a tuple struct.
-- Between two words a gap stays one, and no gap none.
abbrev pub may_replace : Before → Text → Text → Text → Bool
may_replace a_parenthesis g h rest = if is_at right_parenthesis rest then as_empty g h else true
may_replace a_mark g h rest = true
may_replace an_end g h rest = true
may_replace a_word g h rest =
    if is_at left_parenthesis rest then not (is_ended g) || is_ended h else if is_ended rest || begins is_mark rest then true else as_empty g h

-- a gap and the rest, and the gap that stands in its place before the other rest
pub record Gapped (b : Before) (s u rest other : Text) : Type 0 where
  pub gap : Text
  pub instead : Text
  pub split : s ≡ gap ++ rest
  pub splits : u ≡ instead ++ other
  pub is_gap : LongGap gap rest
  pub is_other : LongGap instead other
  pub may : may_replace b gap instead rest ≡ true

-- a gap and the rest; a gap, a comma, a gap and the rest
pub record OnlyGap (s rest : Text) : Type 0 where
  pub gap : Text
  pub split : s ≡ gap ++ rest
  pub is_gap : LongGap gap rest

pub record WithLast (s rest : Text) : Type 0 where
  pub gap : Text
  pub second : Text
  pub split : s ≡ gap ++ (comma ∷ (second ++ rest))
  pub is_gap : LongGap gap (comma ∷ (second ++ rest))
  pub is_second : LongGap second rest

-- Where last commas may come and go is a test of what is left of the first text behind them: anywhere, or nowhere.
abbrev pub anywhere : Text → Bool
anywhere rest = true

abbrev pub nowhere : Text → Bool
nowhere rest = false

-- From a word or a mark to the next: the gaps may stand in each other's place; and where commas may come and go, a last comma does before a closing bracket,
-- behind an item.
pub data Step (commas : Text → Bool) (b : Before) (s u rest other : Text) : Type 0 where
  plain : Gapped b s u rest other → Step commas b s u rest other
  added : commas rest ≡ true → ends_item b ≡ true → begins is_closing rest ≡ true → OnlyGap s rest → WithLast u other → Step commas b s u rest other
  dropped : commas rest ≡ true → ends_item b ≡ true → begins is_closing rest ≡ true → WithLast s rest → OnlyGap u other → Step commas b s u rest other

-- The two texts, where no gap begins, are made of the same tokens, but for last commas.
pub data Alike (commas : Text → Bool) : Text → Text → Type 0 where
  ended : Alike commas [] []
  mark : (c : ℕ) (s u rest other : Text) → is_mark c ≡ true → Step commas (mark_before c) s u rest other → Alike commas rest other
      → Alike commas (c ∷ s) (c ∷ u)
  word : (c : ℕ) (t s u rest other : Text) → is_solid c ≡ true → token (c ∷ (t ++ s)) ≡ Some s → token (c ∷ (t ++ u)) ≡ Some u
      → Step commas a_word s u rest other → Alike commas rest other → Alike commas (c ∷ (t ++ s)) (c ∷ (t ++ u))

-- whole texts, with a gap before them
pub record SameWords (commas : Text → Bool) (s u : Text) : Type 0 where
  pub rest : Text
  pub other : Text
  pub gapped : Gapped a_mark s u rest other
  pub alike : Alike commas rest other
