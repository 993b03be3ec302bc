-- What is claimed of tokens: a word is the longest one where it stands.
use Rattle.std.specs.Prelude.{◌≡◌, ℕ, false, ◌∷◌, ◌++◌, Some}
use Rattle.ron_spec_words.specs.Characters.{Text}
use Rattle.ron_spec_words.specs.Gap.{LongGap}
use Rattle.ron_spec_words.specs.Lang.{Lang}
use Rattle.ron_spec_words.specs.Exact.{FollowsValue}
use Rattle.ron_spec_words.specs.Name.{Name, UntypedName}
use Rattle.ron_spec_words.specs.Quoted.{Char, Byte, String, ByteString}
use Rattle.ron_spec_words.specs.AnyInteger.{AnyInteger}
use Rattle.ron_spec_words.specs.Range.{NumberOrRange}
use Rattle.ron_spec_words.specs.Scan.{token, Passes}

-- A token is a front of the text that is not empty.
abbrev pub IsFront : Type 0
IsFront = (s rest : Text) → token s ≡ Some rest → (c : ℕ) × (t : Text) × (s ≡ c ∷ (t ++ rest))

-- The longest gap is one token, where it is not empty.
abbrev pub AreGapsTokens : Type 0
AreGapsTokens = (c : ℕ) (gap next : Text) → LongGap (c ∷ gap) next → token (c ∷ (gap ++ next)) ≡ Some next

-- what the language spells is one token, whatever follows
abbrev pub IsOneToken : {A : Type 0} → Lang A → Type 0
IsOneToken {A} L = (t next : Text) (a : A) → L t next a → token (t ++ next) ≡ Some next

-- A name is one token, and so is one where no type is given.
abbrev pub AreNamesTokens : Type 0
AreNamesTokens = IsOneToken Name × IsOneToken UntypedName

-- So is a string, a byte string, a char literal and a byte literal.
abbrev pub AreLiteralsTokens : Type 0
AreLiteralsTokens = IsOneToken String × IsOneToken ByteString × IsOneToken Char × IsOneToken Byte

-- An integer is a walk over whole tokens, a sign and the rest, before what may follow a value.
abbrev pub AreIntegersWalks : Type 0
AreIntegersWalks = Passes false AnyInteger FollowsValue

-- So is a number without a type, or a range.
abbrev pub AreRangesWalks : Type 0
AreRangesWalks = Passes false NumberOrRange FollowsValue
