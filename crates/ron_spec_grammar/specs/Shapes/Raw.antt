-- The shape of raw texts.
use Rattle.std.specs.Prelude.{ℕ, Bool, false, Option, Some, None, if◌then◌else◌}
use Rattle.ron_spec_words.specs.Characters.{Text}
use Rattle.ron_spec_words.specs.Lang.{Lang, Done, done, Empty, Then, Means}
use Rattle.ron_spec_words.specs.Reader.{Reader, give, in_sequence, means}
use Rattle.ron_spec_grammar.specs.Rule.{Extensions, Plain, plain}
use Rattle.ron_spec_grammar.specs.Data.{Data, raw_of}
use Rattle.ron_spec_grammar.specs.Values.Grammar.{AnySpells, read_any}
use Rattle.ron_spec_words.specs.Stretch.{Stretch, stretch}
use Rattle.ron_spec_grammar.specs.Raw.{raw_text, raw_valid}

-- the raw text of these, where it is valid by itself
abbrev pub if_valid : Text → Option Text
if_valid t = if raw_valid t then Some t else None

-- the raw text as data
abbrev pub raw_data : Text → Option Data
raw_data t = Some (raw_of t)

abbrev pub taken : Bool → Text → Text → Text → Done → Option Text
taken at_start before core after u = if_valid (raw_text before core after at_start)

-- A value under the extensions in force, and the longest gap behind it, whose raw text with the gap before them is valid. So no gap is left behind it.
abbrev pub RawPart : Bool → ℕ → Bool → Text → Lang Text
RawPart unwrap room at_start before = Then (Stretch (AnySpells unwrap room false before)) (λ core after. Means (Empty done) (taken at_start before core after))

-- Bare, one value with perhaps a comma behind it: nothing, fields or several items would be no valid text by themselves.
abbrev pub RawText : Extensions → ℕ → Bool → Bool → Text → Lang Data
RawText x room at_start bare before = Plain bare (Means (RawPart x.unwrap_variant_newtypes room at_start before) raw_data)

-- ---- its reader function

abbrev pub raw_part : Bool → ℕ → Bool → Text → Reader Text
raw_part unwrap room at_start before =
    in_sequence (stretch (read_any unwrap room false before)) (λ core after. means (give done) (taken at_start before core after))

abbrev pub read_raw : Extensions → ℕ → Bool → Bool → Text → Reader Data
read_raw x room at_start bare before = plain bare (means (raw_part x.unwrap_variant_newtypes room at_start before) raw_data)
