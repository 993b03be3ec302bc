-- The shape of structs.
--
-- What a skipped field leaves. A field that the schema doesn't know, where those are skipped, is read as a value
-- without a schema and dropped. Its name and the unit stand among the items while the fields are put in order, and no
-- field of the schema has that name, so nothing of it is in the data. An unknown name may come twice; one of the
-- schema's may not. Each item of the list counts its levels, a skipped one too.
use Rattle.std.specs.Prelude.{ℕ, Bool, true, false, not, ◌&&◌, List, [], ◌∷◌, Option, Some, None, option_map, if◌then◌else◌, find}
use Rattle.std.specs.List.{list_any}
use Rattle.std.specs.Option.{option_and_then}
use Rattle.ron_spec_words.specs.Characters.{Text, left_parenthesis, right_parenthesis, colon}
use Rattle.ron_spec_words.specs.Runs.{same_text, is_at}
use Rattle.ron_spec_words.specs.Lang.{Lang, done, Mark, Then, Means, Or, Items, Group, Needs}
use Rattle.ron_spec_words.specs.Reader.{Reader, mark, in_sequence, means, pick, items, group, needs}
use Rattle.ron_spec_words.specs.Name.{Name, name, Named, named}
use Rattle.ron_value.specs.Tree.{Tree}
use Rattle.ron_spec_grammar.specs.Data.{Data, the_unit, struct_of, Fields, no_fields, field_and}
use Rattle.ron_spec_grammar.specs.Schema.{Shape, Field, FieldList, is_called}
use Rattle.ron_spec_grammar.specs.Rule.{Extensions, Langs, Readers, WithoutName, without_name}
use Rattle.ron_spec_words.specs.Range.{opens_interval}
use Rattle.ron_spec_grammar.specs.Shapes.Range.{range_data, RangeText, read_range}
use Rattle.ron_spec_grammar.specs.Values.Grammar.{AnyBelow, read_any_below}

-- an item that was read: a field's name, whatever the text called it, and its data
abbrev pub Item : Type 0
Item = Text × Data

-- the item is of this name
abbrev pub is_of : Text → Item → Bool
is_of name item = same_text item.0 name

-- the field, where no item is of its name
abbrev pub unless_seen : List Item → Field → Option Field
unless_seen seen f = if list_any (is_of f.name) seen then None else Some f

-- The field that a name calls: one that the schema knows, and of which no item stands before it.
abbrev pub new_field : List Field → List Item → Text → Option Field
new_field fields seen name = option_and_then (unless_seen seen) (find (is_called name) fields)

-- what a name in a list of fields stands for: a field, or none that the schema knows
pub data Target : Type 0 where
  known : Field → Target
  unknown : Text → Target

-- a new field; or, where unknown fields are skipped, a name that calls no field
abbrev pub target : FieldList → List Item → Text → Option Target
target list seen name =
    if list.skips_unknown && not (list_any (is_called name) list.fields) then Some (unknown name) else option_map known (new_field list.fields seen name)

-- An unknown field's value is dropped.
abbrev pub skipped : Text → Tree → Option Item
skipped name t = Some (name, the_unit)

-- An alias is looked up, and forgotten. `is_called` alone asks for aliases: where a name of a text, or a key of a
-- map, is looked up. An item has the field's own name (`item_of`), so what stands behind it, what was seen and the
-- order go by that (`is_named`). Where all names and aliases differ, a name calls one field at most; where they
-- don't, text and conversion both take the first, so that they agree needs no premise.
--
-- the item of a field
abbrev pub item_of : Field → Data → Option Item
item_of f d = Some (f.name, d)

-- The item's data, and the fields behind it. Without an item the fields alone, where the field may be missing.
abbrev pub with_item : Bool → Option Item → Option Fields → Option Fields
with_item may_be_missing None fields = if may_be_missing then fields else None
with_item may_be_missing (Some item) fields = option_map (field_and item.0 item.1) fields

-- Missing fields. The plain rule picks out of the schema's fields those that the text has. `arranged` goes along the
-- schema's fields and looks each up among the items; a field that isn't found is left out where it may be missing,
-- else there is no data. Each item is one of the fields and comes once (`new_field`), so both pick the same.
--
-- the fields in the schema's order, from items in any order; each must be there that may not be missing
abbrev pub arranged : List Field → List Item → Option Fields
arranged [] xs = Some no_fields
arranged (f ∷ fields) xs = with_item f.may_be_missing (find (is_of f.name) xs) (arranged fields xs)

-- the struct, from items in any order
abbrev pub struct_from : Text → List Field → List Item → Option Data
struct_from name fields xs = option_map (struct_of name) (arranged fields xs)

-- ---- the text

-- the value of a field by its shape, and of an unknown one whatever a value may be
abbrev pub FieldValue : Langs → (Text → Lang Tree) → Text → Target → Lang Item
FieldValue L U gap (known f) = Means (L false f.shape gap) (item_of f)
FieldValue L U gap (unknown name) = Means (U gap) (skipped name)

-- A field's name, `:`, and its value. Name and value each stand one level below the struct's, so the room for the value is there for the name.
abbrev pub FieldItem : FieldList → Langs → (Text → Lang Tree) → List Item → Lang Item
FieldItem list L U seen = Then (Means Name (target list seen)) (λ t _. Then (Mark colon done) (λ _ gap. FieldValue L U gap t))

-- the fields, in any order and each once, with a comma between neighbours and perhaps a last comma
abbrev pub FieldItems : Text → FieldList → Langs → (Text → Lang Tree) → Text → Lang Data
FieldItems name list L U before = Means (Items (λ seen _. FieldItem list L U seen) before) (struct_from name list.fields)

-- `(`, the fields and `)`, with the struct's name before it, or without it where no name is required. Bare, the fields alone. A range takes no name and no
-- level, bare or not. Entering a struct takes one level, and `sub k` may stand k + 1 levels deeper.
abbrev pub StructText : Extensions → List Shape → Text → FieldList → ℕ → (ℕ → Langs) → Bool → Text → Lang Data
StructText x schema name list room sub false before =
    let G : Lang Data =
    Group left_parenthesis right_parenthesis (λ gap. Needs 1 room (FieldItems name list (sub 1) (AnyBelow x.unwrap_variant_newtypes room 1) gap)) in
    Or (RangeText false (range_data schema name list.fields)) (Or (WithoutName x.explicit_struct_names G) (Then (Named name) (λ _ _. G)))
StructText x schema name list room sub true before =
    Or (RangeText true (range_data schema name list.fields)) (Needs 1 room (FieldItems name list (sub 1) (AnyBelow x.unwrap_variant_newtypes room 1) before))

-- ---- its reader function

-- a field's value
abbrev pub field_value : Readers → (Text → Reader Tree) → Text → Target → Reader Item
field_value r u gap (known f) = means (r false f.shape gap) (item_of f)
field_value r u gap (unknown name) = means (u gap) (skipped name)

-- a field
abbrev pub field_item : FieldList → Readers → (Text → Reader Tree) → List Item → Reader Item
field_item list r u seen = in_sequence (means name (target list seen)) (λ t _. in_sequence (mark colon done) (λ _ gap. field_value r u gap t))

-- the fields
abbrev pub field_items : Text → FieldList → Readers → (Text → Reader Tree) → Text → Reader Data
field_items name list r u before = means (items (λ seen _. field_item list r u seen) right_parenthesis before) (struct_from name list.fields)

-- the struct
abbrev pub read_struct : Extensions → List Shape → Text → FieldList → ℕ → (ℕ → Readers) → Bool → Text → Reader Data
read_struct x schema name list room sub false before =
    let g : Reader Data =
    group left_parenthesis right_parenthesis (λ gap. needs 1 room (field_items name list (sub 1) (read_any_below x.unwrap_variant_newtypes room 1) gap)) in
    pick opens_interval (read_range false (range_data schema name list.fields))
    (pick (is_at left_parenthesis) (without_name x.explicit_struct_names g) (in_sequence (named name) (λ _ _. g)))
read_struct x schema name list room sub true before = pick opens_interval (read_range true (range_data schema name list.fields))
    (needs 1 room (field_items name list (sub 1) (read_any_below x.unwrap_variant_newtypes room 1) before))
