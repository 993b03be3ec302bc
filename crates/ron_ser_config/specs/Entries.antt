-- What the calls of fields make of their entries.
use Rattle.std.specs.Prelude.{ℕ, List, [], ◌∷◌, Option, String, string_bytes}
use Rattle.std.specs.Global.{Global}
use Rattle.std.specs.declared.cmp.Ordering.{Ordering}
use Rattle.std.specs.Ordering.{nat_cmp}
use Rattle.std.specs.Cmp.Lexicographic.{slice_cmp}
use Rattle.std.specs.String.{string_cmp}
use Rattle.std.specs.BTreeMap.{insert_entry, is_at}
use Rattle.std.specs.Map.{lookup, remove_entry, set_value}
use Rattle.ron_ser_config.specs.declared.path_meta.field.Field.{Field}
use Rattle.ron_ser_config.specs.View.{Entries}

-- a text against a name, as texts of bytes are ordered
abbrev pub name_cmp : List ℕ → String Global → Ordering
name_cmp text name = slice_cmp nat_cmp text (string_bytes name)

-- the field of this name
abbrev pub field_at : List ℕ → Entries → Option Field
field_at text = lookup (is_at (name_cmp text))

-- the entries with a field at the name, which is put in its place where it is not there
abbrev pub with_entry : String Global → Field → Entries → Entries
with_entry name f es = insert_entry string_cmp es name f

-- the entries without this name
abbrev pub without_name : List ℕ → Entries → Entries
without_name text = remove_entry (is_at (name_cmp text))

-- the entries with f in place of the field of this name, if it is there
abbrev pub with_field : List ℕ → Field → Entries → Entries
with_field text f es = set_value (is_at (name_cmp text)) es f

-- the entries with each of the pairs put in, one after another
abbrev pub with_entries : Entries → Entries → Entries
with_entries [] es = es
with_entries (p ∷ ps) es = with_entries ps (with_entry p.0 p.1 es)
