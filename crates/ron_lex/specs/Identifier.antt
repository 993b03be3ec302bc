-- The two forms of an identifier, as reader functions, and the run that a fault names.
use Rattle.std.specs.Prelude.{ℕ, [], ◌∷◌, if◌then◌else◌, chars}
use Rattle.ron_spec_words.specs.Characters.{Text, starts_name, continues_name, in_raw_name}
use Rattle.ron_spec_words.specs.Name.{is_name_mark}
use Rattle.ron_spec_words.specs.Runs.{after_run}
use Rattle.ron_spec_words.specs.Reader.{Reader, run, behind, not_before}
use Rattle.ron_spec_words.specs.Beyond.{bytes_in}
use Rattle.ron_lex.specs.declared.identifier.IdentifierFault.{IdentifierFault}
use Rattle.ron_lex.specs.declared.identifier.IdentifierFault.TheVariants.{Eof, NoIdentifier, OnlyRaw}

-- `r#` and a raw name
abbrev pub raw_name_behind_mark : Reader Text
raw_name_behind_mark = behind 114 (behind 35 (run in_raw_name in_raw_name))

-- a plain name that none of `.`, `+` and `-` follows
abbrev pub plain_name : Reader Text
plain_name = not_before is_name_mark (run starts_name continues_name)

-- what follows the first character of a name, and all behind it that a raw name goes on with
abbrev pub past_name_run : Text → Text
past_name_run [] = []
past_name_run (c ∷ s) = after_run in_raw_name (if starts_name c then s else c ∷ s)

-- the bytes of the run that a fault names, if it names one
abbrev pub run_bytes : IdentifierFault → ℕ
run_bytes (OnlyRaw run) = bytes_in (chars run.now)
run_bytes Eof = 0
run_bytes NoIdentifier = 0
