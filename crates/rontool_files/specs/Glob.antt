-- Globs, and the texts that they stand for.
use Rattle.std.specs.Prelude.{◌≡◌, ℕ, ◌==◌, Bool, true, not, ◌++◌, List, [], ◌∷◌, Option, Some, None, if◌then◌else◌}
use Rattle.std.specs.List.{list_all}
use Rattle.rontool_files.specs.declared.glob.Piece.{Piece}
use Rattle.rontool_files.specs.declared.glob.Piece.TheVariants as piece
use Rattle.rontool_files.specs.declared.glob.Run.{Run}
use Rattle.rontool_files.specs.declared.glob.Run.TheVariants as run

abbrev pub Text : Type 0
Text = List ℕ

abbrev pub slash : ℕ
slash = 0x2f

abbrev pub star : ℕ
star = 0x2a

abbrev pub question_mark : ℕ
question_mark = 0x3f

-- whether a name may hold a character
abbrev pub is_in_name : ℕ → Bool
is_in_name c = not (c == slash)

-- the last character of a text, or this one where it has none
abbrev pub last_of : ℕ → Text → ℕ
last_of c [] = c
last_of c (d ∷ s) = last_of d s

-- whether a text is such a run, before which this character stands: of folders each has a slash behind it
abbrev pub is_run : Run → ℕ → Text → Bool
is_run run.Name last s = list_all is_in_name s
is_run run.Any last s = true
is_run run.Folders last s = last_of last s == slash

-- whether a run may end behind a character
abbrev pub ends : Run → ℕ → Bool
ends r last = is_run r last []

-- whether a run may hold a character
abbrev pub takes : Run → ℕ → Bool
takes run.Name c = is_in_name c
takes run.Any c = true
takes run.Folders c = true

-- `**/` are folders, `**` is any text
abbrev pub two_star_run : Text → Run × Text
two_star_run [] = (run.Any, [])
two_star_run (c ∷ glob) = if c == slash then (run.Folders, glob) else (run.Any, c ∷ glob)

-- and `*` a name
abbrev pub star_run : Text → Run × Text
star_run [] = (run.Name, [])
star_run (c ∷ glob) = if c == star then two_star_run glob else (run.Name, c ∷ glob)

-- a run as a piece
abbrev pub as_piece : Run × Text → Piece × Text
as_piece (r, glob) = (piece.Run r, glob)

-- the first piece of a glob, and what follows it
abbrev pub first_piece : Text → Option (Piece × Text)
first_piece [] = None
first_piece (c ∷ glob) = Some
    (if c == star then as_piece (star_run glob) else (if c == question_mark then (piece.One, glob) else (piece.Itself c, glob)))

-- The text is what a piece of a glob may stand for.
abbrev pub StandsFor : Piece → Text → Type 0
StandsFor (piece.Itself c) s = s ≡ c ∷ []
StandsFor piece.One s = (c : ℕ) × (s ≡ c ∷ []) × (is_in_name c ≡ true)
StandsFor (piece.Run r) s = is_run r slash s ≡ true

-- The glob stands for the text: each of its pieces for a stretch, one behind the other.
pub data Stands : Text → Text → Type 0 where
  ended : Stands [] []
  on : (glob rest : Text) (p : Piece) (front s : Text) → first_piece glob ≡ Some (p, rest) → StandsFor p front → Stands rest s → Stands glob (front ++ s)

-- A run, before which this character stands, and a glob behind it stand for the text.
pub record StandsRun (r : Run) (last : ℕ) (glob s : Text) : Type 0 where
  pub front : Text
  pub behind : Text
  pub is : s ≡ front ++ behind
  pub run : is_run r last front ≡ true
  pub stands : Stands glob behind
