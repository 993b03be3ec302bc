-- When code reads a raw text as the reader function does.
use Rattle.std.specs.Prelude.{◌≡◌, ◌⊎◌, ◌+◌, ◌*◌, ℕ, Bool, true, false, List, ◌++◌, length, chars, if◌then◌else◌, Result, Ok, Err}
use denote.Ref.{Bor}
use Rattle.ron_spec_words.specs.Characters.{Text}
use Rattle.ron_spec_words.specs.Beyond.{bytes_in}
use Rattle.ron_base.specs.declared.error.Error.{Error}
use Rattle.ron_base.specs.declared.error.Error.TheVariants.{TrailingCharacters}
use Rattle.ron_base.specs.Class.{class_of}
use Rattle.ron_value.specs.Tree.{Tree}
use Rattle.ron_spec_words.specs.Reader.{got}
use Rattle.ron_spec_grammar.specs.Values.Grammar.{read_any}
use Rattle.ron_spec_grammar.specs.Raw.{trim_front, kept, is_name_alone, raw_valid, raw_limit}
use Rattle.ron_spec_grammar.specs.Shapes.Raw.{raw_part}
use Rattle.ron_spec_grammar.specs.Values.Statement.{enough_for_value}
use Rattle.ron_lex_text.specs.Stretch.{IsSuffix}
use Rattle.ron_lex.specs.Place.{Place}
use Rattle.ron_de_steps.specs.Conditions.{Conditions}
use Rattle.ron_de_steps.specs.Errors.{IsOfReading}
use Rattle.ron_de_steps.specs.Reads.{Reads, IsFaultOf}
use Rattle.ron_de_steps.specs.Room.{IsRoom}
use Rattle.ron_de_untyped.specs.Values.{unwraps}
use Rattle.ron_de_raw.specs.declared.raw.RawValue.{RawValue}
use Rattle.ron_de_raw.specs.Raw.{raw_text_of, is_borrowed, RefusesRaw}

-- In each room that the limit leaves, the answer is the reader function's behind the gap that stands before the place.
abbrev pub ReadsRaw : Conditions → Bool → Place → Result (RawValue × Bor (List ℕ)) Error → Text → Type 0
ReadsRaw conditions at_start place result rest =
    (room : ℕ) → IsRoom conditions.limit (enough_for_value false (length place.rest)) room
    → Reads (λ read. raw_text_of read.0) result (raw_part (unwraps conditions) room at_start place.gap place.rest) rest

-- It is borrowed, and the end of the text beside it begins with it.
pub record IsStretchOf (text : Text) (read : RawValue × Bor (List ℕ)) : Type 0 where
  pub borrowed : is_borrowed read.0 ≡ true
  pub end : IsSuffix (chars read.1.now) text
  pub rest : Text
  pub split : chars read.1.now ≡ raw_text_of read.0 ++ rest

-- of the gap before the value, what a raw text takes
abbrev pub taken_before : Bool → Text → Text
taken_before at_start gap = if at_start then gap else trim_front gap

-- of the gap behind it
abbrev pub taken_behind : Bool → Text → Text → Text
taken_behind at_start core gap = if at_start then gap else (if is_name_alone core then gap else kept gap)

-- what is looked through of the value and of the gap behind it: a name alone takes that gap as it is
abbrev pub looked_behind : Text → Text → ℕ
looked_behind core gap = bytes_in core + (if is_name_alone core then 0 else 3 * bytes_in gap)

-- It is read to its end exactly where it is a raw text; or memory is wanted.
abbrev pub ReadsAlone : Text → Result (Unit {0}) Error → Type 0
ReadsAlone text (Ok u) = raw_valid text ≡ true
ReadsAlone text (Err e) = RefusesRaw text e × ((e ≡ TrailingCharacters) ⊎ IsOfReading e)

-- The front of what is left spells some value by itself, and is passed; or it spells none, by the error's class.
abbrev pub PassesValue : {A : Type 0} → Place → Result A Error → Text → Type 0
PassesValue place (Ok core) rest = (t : Tree) × (read_any false raw_limit false place.gap place.rest ≡ got t rest)
PassesValue place (Err e) rest = IsFaultOf (class_of e) (read_any false raw_limit false place.gap place.rest)
