-- What a run leaves of files.
use Rattle.std.specs.Prelude.{◌≡◌, ◌||◌, ◌⊎◌, ℕ, Bool, false, List, ◌∷◌, ◌++◌, Option, Some, None, String, chars, string_bytes}
use Rattle.std.specs.Borrow.{Bor}
use Rattle.std.specs.declared.alloc.Global.{Global}
use Rattle.ron_spec_words.specs.Characters.{Text}
use Rattle.ron_spec_words.specs.Runs.{is_at}
use Rattle.ron_format_words.specs.Written.{Kept}
use Rattle.rontool_files.specs.Thing.{Paths, bytes_of}
use Rattle.rontool_files.specs.Thing.Thing.{file}
use Rattle.rontool_files.specs.Replace.{new_path}
use Rattle.rontool_command.specs.declared.ask.Formatting.{Formatting}
use Rattle.rontool_command.specs.declared.opening.Held.{Held}

-- what may stand before a text: it says that what follows is UTF-8
abbrev pub utf8_mark : ℕ
utf8_mark = 0xfeff

-- A text laid out, once or again: its words stay but for last commas, each comment stays between the same words, and so does a mark before it.
pub data Relaid : Text → Text → Type 0 where
  once : (s u : Text) → Kept s u → Relaid s u
  behind : (s u : Text) → Kept s u → Relaid (utf8_mark ∷ s) (utf8_mark ∷ u)
  again : (s t u : Text) → Relaid s t → Relaid t u → Relaid s u

-- A text with a value put in the place of a stretch of it: what stands before the stretch and what follows it are the same.
pub record HasPut (value s u : Text) : Type 0 where
  pub front : Text
  pub old : Text
  pub behind : Text
  pub was : s ≡ front ++ (old ++ behind)
  pub is : u ≡ front ++ (value ++ behind)

-- What a path has afterwards: what it had; its file's text changed so, under the same permissions; or, where nothing stood, a new file's beginning.
pub data Keeps (Changed : Text → Text → Type 0) (before after : Paths) (at : List ℕ) : Type 0 where
  same : after at ≡ before at → Keeps Changed before after at
  changed : (mode : ℕ) (old new : List ℕ) → before at ≡ Some (file mode old) → after at ≡ Some (file mode new) → Changed (chars old) (chars new)
      → Keeps Changed before after at
  begun : (path : List ℕ) → at ≡ new_path path → before at ≡ None → Keeps Changed before after at

-- so at each path
abbrev pub KeepsAll : (Text → Text → Type 0) → Paths → Paths → Type 0
KeepsAll Changed before after = (at : List ℕ) → Keeps Changed before after at

-- Each file has what it had, or all files that changed are laid out, or one of them has another value in the place of one.
pub data KeepsText (before after : Paths) : Type 0 where
  relaid : KeepsAll Relaid before after → KeepsText before after
  put : (value : Text) → KeepsAll (HasPut value) before after → KeepsText before after

-- nothing is to be written
abbrev pub only_looks : Formatting → Bool
only_looks asked = asked.checks || asked.shows

-- What stands behind the mark of a text, or the text where none stands.
abbrev pub IsBehindMark : Text → Text → Type 0
IsBehindMark s rest = (s ≡ utf8_mark ∷ rest) ⊎ ((is_at utf8_mark s ≡ false) × (rest ≡ s))

-- A text has the mark before it where another has it.
abbrev pub MarksAs : Text → Text → Text → Type 0
MarksAs s u marked = ((rest : Text) × (s ≡ utf8_mark ∷ rest) × (marked ≡ utf8_mark ∷ u)) ⊎ ((is_at utf8_mark s ≡ false) × (marked ≡ u))

-- Bytes are a text, and beside it stands the text laid out.
abbrev pub IsLaidOut : List ℕ → Option (Bor (List ℕ) × String Global) → Type 0
IsLaidOut bytes None = Unit {0}
IsLaidOut bytes (Some (text, laid)) = (text.now ≡ bytes) × Relaid (chars bytes) (chars (string_bytes laid))

-- a file's own path, and what it holds
abbrev pub IsHeld : Paths → Option Held → Type 0
IsHeld paths None = Unit {0}
IsHeld paths (Some held) = bytes_of (paths (string_bytes held.file)) ≡ Some held.bytes.items
