-- Why writing is refused.
--
-- One predicate for every refusal of writing. `Refuses names Within` says when each error of writing comes; what
-- refuses a field refuses the whole, by one lemma.
use Rattle.std.specs.Prelude.{◌≡◌, ℕ, Bool, not, if◌then◌else◌, Option, Some, true, false, List, ◌++◌, codes, chars, string_bytes}
use Rattle.std.specs.List.{list_all}
use Rattle.ron_spec_words.specs.Characters.{Text, is_blank}
use Rattle.ron_spec_grammar.specs.Data.{Data}
use Rattle.ron_spec_layout.specs.Name.{names_ok, first_refused}
use Rattle.ron_spec_layout.specs.Config.{Config, blank}
use Rattle.ron_spec_layout.specs.Depth.{writer_depth}
use Rattle.ron_base.specs.declared.error.Error.{Error}
use Rattle.ron_base.specs.declared.error.Error.TheVariants.{Io, Message, InvalidIdentifier, ExceededRecursionLimit, OutOfMemory}
use Rattle.ron_base.specs.Limit.{IsWithin}

-- A name is refused where the names cannot be written, and then memory for the error may not be found; the depth where it is not within the limit. Nothing else
-- is refused.
abbrev pub Refuses : Bool → Type 0 → Error → Type 0
Refuses names Within OutOfMemory = names ≡ false
Refuses names Within (InvalidIdentifier given) = names ≡ false
Refuses names Within ExceededRecursionLimit = Within → ⊥
Refuses names Within _ = ⊥

-- when the writing of data is refused by an error
abbrev pub RefusesWriting : Config → Option ℕ → Data → Error → Type 0
RefusesWriting c limit d = Refuses (names_ok d) (IsWithin limit (writer_depth c d))

-- An `InvalidIdentifier` holds this name.
abbrev pub HoldsName : Option Text → Error → Type 0
HoldsName name (InvalidIdentifier given) = name ≡ Some (chars (string_bytes given))
HoldsName name _ = Unit {0}

-- refused so, where an `InvalidIdentifier` holds the first name that no identifier spells
abbrev pub RefusesData : Config → Option ℕ → Data → Error → Type 0
RefusesData c limit d e = RefusesWriting c limit d e × HoldsName (first_refused d) e

-- an error with this message, or want of memory for it
abbrev pub IsMessageOr : List ℕ → Error → Type 0
IsMessageOr message OutOfMemory = Unit {0}
IsMessageOr message (Message given) = string_bytes given ≡ message
IsMessageOr message _ = ⊥

-- the name of the first text of a configuration that holds anything but blanks
abbrev pub first_filled : Config → List ℕ
first_filled c =
    if not (list_all is_blank c.new_line) then codes "new_line" else (if not (list_all is_blank c.indentor) then codes "indentor" else codes "separator")

-- A text of the configuration is not blank, and the error names the first such; or no memory is found for it.
abbrev pub RefusesBlank : Config → Error → Type 0
RefusesBlank c e = (blank c ≡ false) × IsMessageOr (codes "Invalid non-whitespace `PrettyConfig::" ++ (first_filled c ++ codes "`")) e

-- A text in memory is refused where a text of the configuration is not blank, then as its writing is, or for want of memory.
abbrev pub RefusesText : Config → Option ℕ → Data → Error → Type 0
RefusesText c limit d OutOfMemory = Unit {0}
RefusesText c limit d (Message given) = RefusesBlank c (Message given)
RefusesText c limit d e = RefusesWriting c limit d e

-- A sink is refused as a text is, or it has failed.
abbrev pub RefusesSink : Bool → Config → Option ℕ → Data → Error → Type 0
RefusesSink failed c limit d (Io text) = failed ≡ true
RefusesSink failed c limit d e = RefusesText c limit d e
