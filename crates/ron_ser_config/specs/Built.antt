-- What a builder of fields makes of a field.
use Rattle.std.specs.Prelude.{◌≡◌, [], None, Some, MatchOption, Result, Ok, Err, String, string_bytes}
use Rattle.std.specs.Global.{Global}
use Rattle.ron_ser_config.specs.declared.path_meta.field.Field.{Field}
use Rattle.ron_ser_config.specs.declared.path_meta.fields.Fields.{Fields}
use Rattle.ron_ser_config.specs.View.{doc_bytes, fields_within, Entries, entries}
use Rattle.ron_ser_config.specs.Entries.{field_at, with_entry}

-- what a builder answers of some fields, and what it leaves of them
abbrev pub Builds : Type 0 → Type 1
Builds E = Fields → Result (Unit {0}) E → Fields → Type 0

-- the builder makes these fields of none
abbrev pub MakesOfNone : {E : Type 0} → Builds E → Fields → Type 0
MakesOfNone builds fs = (fresh : Fields) × (entries fresh ≡ []) × builds fresh (Ok tt) fs

-- f holds fields that the builder makes of none
abbrev pub HoldsBuilt : {E : Type 0} → Builds E → Field → Type 0
HoldsBuilt builds f = (fs : Fields) × (fields_within f ≡ Some fs) × MakesOfNone builds fs

-- the builder refuses no fields by this error
abbrev pub RefusesNone : {E : Type 0} → Builds E → E → Type 0
RefusesNone builds e = (fresh : Fields) × (left : Fields) × (entries fresh ≡ []) × builds fresh (Err e) left

-- f says nothing, and holds nothing
pub record IsEmptyField (f : Field) : Type 0 where
  pub doc : doc_bytes f ≡ []
  pub fields : fields_within f ≡ None

-- an empty field stands at the name, where there was none
abbrev pub PutsMissing : String Global → Entries → Entries → Type 0
PutsMissing name old new = MatchOption (field_at (string_bytes name) old) ((f : Field) × IsEmptyField f × (new ≡ with_entry name f old)) (λ _. new ≡ old)
