-- What is claimed of gaps and words.
use Rattle.std.specs.Prelude.{◌≡◌, ◌↔◌, [], ◌++◌}
use Rattle.ron_spec_words.specs.Characters.{Text}
use Rattle.ron_spec_words.specs.Gap.{Gap, LongGap, skip, gap_of}
use Rattle.ron_spec_words.specs.Name.{Name, name, UntypedName, untyped_name}
use Rattle.ron_spec_words.specs.Exact.{IsWordReader}

-- A text is its longest gap and what follows it.
pub record CutsAtGap (s : Text) : Type 0 where
  pub split : s ≡ gap_of s ++ skip s
  pub is_gap : LongGap (gap_of s) (skip s)

-- Every text is cut at its longest gap.
abbrev pub IsCut : Type 0
IsCut = (s : Text) → CutsAtGap s

-- Each gap is passed over.
abbrev pub IsLongest : Type 0
IsLongest = (gap next : Text) → Gap gap next → skip (gap ++ next) ≡ skip next

-- Nothing follows the longest gap exactly where the whole text is a gap.
abbrev pub IsGapToEnd : Type 0
IsGapToEnd = (s : Text) → (skip s ≡ []) ↔ Gap s []

-- A name is read exactly where one stands.
abbrev pub ReadsNames : Type 0
ReadsNames = IsWordReader name Name

-- So is a name where no type is given.
abbrev pub ReadsUntypedNames : Type 0
ReadsUntypedNames = IsWordReader untyped_name UntypedName
