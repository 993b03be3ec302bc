-- What a raw value holds, and when a text is refused as one.
use Rattle.std.specs.Prelude.{◌≡◌, ◌⊎◌, ℕ, Bool, false, List, Some}
use Rattle.std.specs.declared.cmp.Ordering.{Ordering}
use Rattle.std.specs.Ordering.{nat_cmp}
use Rattle.std.specs.Cmp.Lexicographic.{slice_cmp}
use Rattle.ron_spec_words.specs.Characters.{Text}
use Rattle.ron_base.specs.Place.{IsNotAfter}
use Rattle.ron_base.specs.declared.error.Error.{Error}
use Rattle.ron_base.specs.declared.error.Error.TheVariants.{OutOfMemory, TrailingCharacters}
use Rattle.ron_base.specs.declared.error.SpannedError.{SpannedError}
use Rattle.ron_value.specs.Tree.{Tree}
use Rattle.ron_spec_grammar.specs.Raw.{raw_value, raw_valid}
use Rattle.ron_spec_grammar.specs.RawStatement.{IsBareOf}
use Rattle.ron_lex_text.specs.Parsed.{text_bytes, parsed_text, is_slice}
use Rattle.ron_lex.specs.Place.{IsPositionIn}
use Rattle.ron_de_steps.specs.Errors.{IsOfReading}
use Rattle.ron_de_raw.specs.declared.raw.RawValue.{RawValue}

-- the UTF-8 of its text
abbrev pub raw_bytes : RawValue → List ℕ
raw_bytes r = text_bytes r.text

-- by its bytes
abbrev pub raw_cmp : RawValue → RawValue → Ordering
raw_cmp one other = slice_cmp nat_cmp (raw_bytes one) (raw_bytes other)

-- its text
abbrev pub raw_text_of : RawValue → Text
raw_text_of r = parsed_text r.text

-- it is borrowed
abbrev pub is_borrowed : RawValue → Bool
is_borrowed r = is_slice r.text

-- want of memory, or the text is not valid
abbrev pub RefusesRaw : Text → Error → Type 0
RefusesRaw text e = (e ≡ OutOfMemory) ⊎ (raw_valid text ≡ false)

-- The error is want of memory or the text is not valid, it is one of reading or tells of what follows the value, and its span lies in the text.
pub record IsRefusedRaw (text : Text) (e : SpannedError) : Type 0 where
  pub refuses : RefusesRaw text e.code
  pub fault : (e.code ≡ TrailingCharacters) ⊎ IsOfReading e.code
  pub start : IsPositionIn text e.span.start
  pub end : IsPositionIn text e.span.end
  pub ordered : IsNotAfter e.span.start e.span.end

-- The one has the value of the other, and is that value's stretch alone.
pub record IsWithoutGaps (text core : Text) : Type 0 where
  pub value : Tree
  pub is : raw_value text ≡ Some value
  pub bare : IsBareOf value core
