-- How texts are kept: as slices of the text that is read, where slices are taken of it; else as copies.
use Rattle.std.specs.Prelude.{◌≡◌, ℕ, List, ◌∷◌, ◌++◌, encode_utf8_all, Option, Some}
use Rattle.ron_spec_words.specs.Characters.{Text, double_quote}
use Rattle.ron_spec_words.specs.Runs.{after_run}
use Rattle.ron_lex_text.specs.Stretch.{IsSuffix, in_class}
use Rattle.ron_lex_text.specs.declared.text.Class.TheVariants.{Unquoted}

-- where slices are taken of this text, this holds of it and of what is answered
abbrev pub Kept : {A : Type 0} → Option Text → (Text → A → Type 0) → Text → A → Type 0
Kept source Holds text a = source ≡ Some text → Holds text a

-- slices are taken of a text that ends with this
abbrev pub EndsSource : Option Text → Text → Type 0
EndsSource source end = (text : Text) × (source ≡ Some text) × IsSuffix end text

-- behind the first quote in the text stands this content
abbrev pub BeginsBehindQuote : Text → Text → Type 0
BeginsBehindQuote text content = (more : Text) × (after_run (in_class Unquoted) text ≡ double_quote ∷ (content ++ more))

-- behind it stands what these bytes are the UTF-8 of
abbrev pub BeginsAsBytes : Text → List ℕ → Type 0
BeginsAsBytes text bytes = (content : Text) × BeginsBehindQuote text content × (encode_utf8_all content ≡ bytes)
