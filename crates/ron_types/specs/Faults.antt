-- How types refuse data.
use Rattle.std.specs.Prelude.{◌≡◌, ◌⊎◌, ℕ, List, ◌++◌, codes, string_bytes}
use Rattle.ron_base.specs.declared.error.Error.{Error}
use Rattle.ron_base.specs.declared.error.Error.TheVariants.{OutOfMemory, InvalidValueForType, ExpectedDifferentLength, ExpectedDifferentStructName}
use Rattle.ron_base.specs.declared.error.Error.TheVariants.{MissingStructField, NoSuchEnumVariant}
use Rattle.ron_base.specs.Escape.{quoted}
use Rattle.ron_lex_text.specs.declared.parsed.ParsedStr.TheVariants.{Allocated}
use Rattle.ron_data.specs.declared.data.Data.{Data}
use Rattle.ron_data.specs.declared.data.Data.TheVariants as held

-- want of memory, a value of another kind or range, another number of items, a struct of another name, a missing field, or an unknown variant
abbrev pub IsRefusal : Error → Type 0
IsRefusal OutOfMemory = Unit {0}
IsRefusal (InvalidValueForType expected found) = Unit {0}
IsRefusal (ExpectedDifferentLength expected found) = Unit {0}
IsRefusal (ExpectedDifferentStructName expected found) = Unit {0}
IsRefusal (MissingStructField field outer) = Unit {0}
IsRefusal (NoSuchEnumVariant expected found outer) = Unit {0}
IsRefusal _ = ⊥

-- A text that is not borrowed: a string where a borrowed one is wanted, which the error quotes. Or there is no memory.
abbrev pub TellsNotBorrowed : List ℕ → Error → Type 0
TellsNotBorrowed bytes OutOfMemory = Unit {0}
TellsNotBorrowed bytes (InvalidValueForType expected found) =
    (string_bytes expected ≡ codes "a borrowed string") × (string_bytes found ≡ codes "the string " ++ quoted bytes)
TellsNotBorrowed bytes _ = ⊥

-- the error that refuses data where a borrowed text is wanted tells of a text that is not
abbrev pub TellsNotBorrowedOf : Data → Error → Type 0
TellsNotBorrowedOf (held.Str (Allocated s)) e = TellsNotBorrowed (string_bytes s) e
TellsNotBorrowedOf d e = Unit {0}

-- a refusal of data, and of a text that is not borrowed this one
abbrev pub RefusesBorrowed : Data → Error → Type 0
RefusesBorrowed d e = IsRefusal e × TellsNotBorrowedOf d e

-- ---- types that hold others

-- what the type of a part refuses some data by, or what the other parts' do
abbrev pub PartOr : (Data → Error → Type 0) → (Error → Type 0) → Error → Type 0
PartOr refuses Others e = ((d : Data) × refuses d e) ⊎ Others e

-- no part does
abbrev pub NoPart : Error → Type 0
NoPart e = ⊥

-- a refusal of data of the type's own, or one of its parts'
abbrev pub OwnOr : (Error → Type 0) → Error → Type 0
OwnOr Parts e = IsRefusal e ⊎ Parts e
