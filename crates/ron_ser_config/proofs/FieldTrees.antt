-- The tree of a field, by its doc comment and the fields within.
use Rattle.std.proofs.Common.{◌≡◌, true, refl, ap, ◌∙◌, [], ◌∷◌, map, Option, None, Some, string_bytes}
use Rattle.std.specs.Prelude.{String}
use Rattle.std.specs.Global.{Global}
use Rattle.std.specs.Option.{option_map}
use Rattle.std.specs.Str.{bytes_eq}
use Rattle.ron_ser_config.specs.declared.path_meta.field.Field.{Field, out-Field}
use Rattle.ron_ser_config.specs.declared.path_meta.field.Field.TheFolds.{map-Field, fold_out-Field, fold_out-Fields}
use Rattle.ron_ser_config.specs.declared.path_meta.fields.Fields.{Fields, fold-Fields}
use Rattle.ron_ser_config.specs.Tree.{FieldTree, field_from, FieldsTree, field_and, fields_from}
use Rattle.ron_ser_config.specs.Same.{same_field, same_fields}
use Rattle.ron_ser_config.specs.View.{doc_bytes, fields_within, Entries, entries, entry_tree, field_step, fields_step, field_tree, fields_tree}

folded : (es : Entries) → fields_from (map (λ (e : String Global × FieldTree). (string_bytes e.0, e.1))
    (map (λ (e : String Global × Field). (e.0, field_tree e.1)) es)) ≡ fields_from (map entry_tree es)
folded [] = refl
folded (e ∷ es) = ap (λ (rest : FieldsTree). field_and (string_bytes e.0) (field_tree e.1) rest) (folded es)

abbrev folded_fields : Fields → FieldsTree
folded_fields = fold-Fields FieldTree FieldsTree field_step fields_step

fields-folded : (fs : Fields) → folded_fields fs ≡ fields_tree fs
fields-folded fs = fold_out-Fields FieldTree FieldsTree field_step fields_step fs ∙ folded (entries fs)

one_level : (doc : String Global) (o : Option Fields) → field_step (map-Field Field Fields FieldTree FieldsTree field_tree folded_fields
    (record { doc = doc; fields = o })) ≡ field_from (string_bytes doc) (option_map fields_tree o)
one_level doc None = refl
one_level doc (Some fs) = ap (λ (t : FieldsTree). field_from (string_bytes doc) (Some t)) (fields-folded fs)

pub field_tree-is : (f : Field) → field_tree f ≡ field_from (doc_bytes f) (option_map fields_tree (fields_within f))
field_tree-is f = fold_out-Field FieldTree FieldsTree field_step fields_step f ∙ one_level (out-Field f).doc (out-Field f).fields

-- two fields that hold others are equal where their doc comments are, and those that they hold
pub same-held : (f g : Field) (fs gs : Fields) → fields_within f ≡ Some fs → fields_within g ≡ Some gs → bytes_eq (doc_bytes f) (doc_bytes g) ≡ true
    → same_fields (fields_tree fs) (fields_tree gs) ≡ same_field (field_tree f) (field_tree g)
same-held f g fs gs held holds same = rw (field_tree-is f, field_tree-is g, held, holds, same) refl
