-- Equality of doc comments: by their texts, and of fields by name.
use Rattle.std.specs.Prelude.{Bool, true, false, ◌&&◌}
use Rattle.std.specs.Str.{bytes_eq}
use Rattle.ron_ser_config.specs.Tree.{FieldTree, plain, holding, FieldsTree, no_fields, field_and}

abbrev mutual
  pub same_field : FieldTree → FieldTree → Bool
  same_field (plain d) (plain e) = bytes_eq d e
  same_field (plain d) (holding e gs) = false
  same_field (holding d fs) (plain e) = false
  same_field (holding d fs) (holding e gs) = bytes_eq d e && same_fields fs gs

  pub same_fields : FieldsTree → FieldsTree → Bool
  same_fields no_fields no_fields = true
  same_fields no_fields (field_and m g gs) = false
  same_fields (field_and n f fs) no_fields = false
  same_fields (field_and n f fs) (field_and m g gs) = bytes_eq n m && (same_field f g && same_fields fs gs)
