-- What becomes of a field and of fields when a borrow of what they hold ends.
use Rattle.std.specs.Prelude.{◌≡◌, ℕ, List, Option, Some, OnSome, Result, String}
use Rattle.std.specs.Global.{Global}
use Rattle.std.specs.Borrow.{Lends, LendsIf, LendsSo, LendsSoOk, MutBor, Fml}
use Rattle.std.specs.contracts.alloc.Global as global
use Rattle.std.specs.contracts.string.String as text
use Rattle.std.specs.contracts.impls.GlobalAllocator.TheImpl.{ghosts}
use Rattle.ron_base.specs.declared.error.Error.{Error}
use Rattle.ron_ser_config.specs.declared.path_meta.field.Field.{Field, roll-Field, out-Field}
use Rattle.ron_ser_config.specs.declared.path_meta.fields.Fields.{Fields}
use Rattle.ron_ser_config.specs.contracts.path_meta.field.Field.{the_row as field_row}
use Rattle.ron_ser_config.specs.contracts.path_meta.fields.Fields.{the_row as fields_row}
use Rattle.ron_ser_config.specs.View.{entries}
use Rattle.ron_ser_config.specs.Entries.{with_entry, with_field}

-- f with this doc comment
abbrev pub with_doc : Field → String Global → Field
with_doc f doc = roll-Field (record (out-Field f) { doc = doc })

-- f with these fields within
abbrev pub with_fields : Field → Fields → Field
with_fields f fs = roll-Field (record (out-Field f) { fields = Some fs })

-- f ends with the last doc comment behind r
abbrev pub LendsDoc : MutBor Field → MutBor (String Global) → Fml
LendsDoc f r = Lends field_row (text.the_row global.the_row ghosts) f r (with_doc f.now)

-- f ends with the last fields behind r, and as it was where there are none
abbrev pub LendsFields : MutBor Field → Option (MutBor Fields) → Fml
LendsFields f r = LendsIf field_row fields_row f r (with_fields f.now) f.now

-- fs ends with the last field behind r at the name, and with its entries as they were where there is no r
abbrev pub LendsField : MutBor Fields → List ℕ → Option (MutBor Field) → Fml
LendsField fs name r = LendsSo fields_row field_row fs r (λ n f. OnSome r (entries n ≡ with_field name f (entries fs.now))) (λ n. entries n ≡ entries fs.now)

-- fs ends with the last field behind r at the name, put in its place where it was not there, and with its entries as they were where there is no r
abbrev pub LendsFieldPut : MutBor Fields → String Global → Result (MutBor Field) Error → Fml
LendsFieldPut fs name r = LendsSoOk fields_row field_row fs r (λ n f. entries n ≡ with_entry name f (entries fs.now)) (λ n. entries n ≡ entries fs.now)
