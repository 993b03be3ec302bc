-- Bytes, and the text that they begin with.
use Rattle.std.specs.Prelude.{◌≡◌, ℕ, List, take, chars}
use Rattle.std.specs.Str.Lossy.{utf8_valid_len}
use Rattle.ron_spec_words.specs.Position.{line_after, column_after}
use Rattle.ron_base.specs.declared.error.Error.{Error}
use Rattle.ron_base.specs.declared.error.Error.TheVariants.{Utf8Error}
use Rattle.ron_base.specs.declared.error.Span.{Span}
use Rattle.ron_base.specs.declared.error.SpannedError.{SpannedError}

-- the longest front that is UTF-8
abbrev pub valid_front : List ℕ → List ℕ
valid_front bytes = take (utf8_valid_len bytes) bytes

-- from 1:1 to the end of the valid front
pub record SpansValidFront (bytes : List ℕ) (s : Span) : Type 0 where
  pub start_line : s.start.line ≡ 1
  pub start_col : s.start.col ≡ 1
  pub end_line : s.end.line ≡ line_after (chars (valid_front bytes))
  pub end_col : s.end.col ≡ column_after (chars (valid_front bytes))

-- The bytes are no UTF-8.
abbrev pub IsUtf8Error : Error → Type 0
IsUtf8Error (Utf8Error fault) = Unit {0}
IsUtf8Error _ = ⊥

-- an `Utf8Error` at the valid front
pub record RefusesBytes (bytes : List ℕ) (e : SpannedError) : Type 0 where
  pub code : IsUtf8Error e.code
  pub span : SpansValidFront bytes e.span
