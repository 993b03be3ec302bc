-- What an error says of a fault.
use Rattle.std.specs.Prelude.{ℕ, List, codes}
use Rattle.ron_base.specs.declared.error.fault.EscapeFault.{EscapeFault}
use Rattle.ron_base.specs.declared.error.fault.EscapeFault.TheVariants.{UnknownCharacter, NonHexDigit, BytesOfNoCharacter, MissingBrace, NoDigits}
use Rattle.ron_base.specs.declared.error.fault.EscapeFault.TheVariants.{MissingClosingBrace, NoCharacter, UnicodeInByte}
use Rattle.ron_base.specs.declared.error.fault.SchemaFault.{SchemaFault}
use Rattle.ron_base.specs.declared.error.fault.SchemaFault.TheVariants.{IndexOutOfRange, Cycle, DuplicateName, MissingRangeField}

-- the text of an escape's fault
abbrev pub escape_text : EscapeFault → List ℕ
escape_text UnknownCharacter = codes "Unknown escape character"
escape_text NonHexDigit = codes "Non-hex digit found"
escape_text BytesOfNoCharacter = codes "Not a valid byte-escaped Unicode character"
escape_text MissingBrace = codes "Missing { in Unicode escape"
escape_text NoDigits = codes "Expected 1-6 digits, got 0 digits in Unicode escape"
escape_text MissingClosingBrace = codes "No } at the end of Unicode escape"
escape_text NoCharacter = codes "Not a valid Unicode-escaped character"
escape_text UnicodeInByte = codes "Unexpected Unicode escape in byte literal"

-- the text of a table's fault
abbrev pub schema_text : SchemaFault → List ℕ
schema_text IndexOutOfRange = codes "index out of range"
schema_text Cycle = codes "options and newtypes form a cycle"
schema_text DuplicateName = codes "a name stands twice"
schema_text MissingRangeField = codes "a range field may be missing"
