-- What fields stand for.
use Rattle.std.specs.Prelude.{ℕ, List, [], map, Option, None, Some, chars, string_bytes, String}
use Rattle.std.specs.Global.{Global}
use Rattle.std.specs.Option.{option_map}
use Rattle.std.specs.Cow.{cow_str_bytes}
use Rattle.std.specs.declared.borrow.CowStr.{CowStr}
use Rattle.ron_spec_words.specs.Characters.{Text}
use Rattle.ron_spec_layout.specs.Config.{Docs, no_docs, doc_and, Config, no_config}
use Rattle.ron_ser_config.specs.declared.config.PrettyConfig.{PrettyConfig}
use Rattle.ron_ser_config.specs.declared.path_meta.field.Field.{Field, fold-Field, out-Field}
use Rattle.ron_ser_config.specs.declared.path_meta.field.Field.TheOpen.{Field-F, Fields-F}
use Rattle.ron_ser_config.specs.declared.path_meta.fields.Fields.{Fields, out-Fields}
use Rattle.ron_ser_config.specs.Tree.{FieldTree, plain, holding, FieldsTree, no_fields, field_and, field_from, fields_from}

-- the doc comment of a field
abbrev pub doc_bytes : Field → List ℕ
doc_bytes f = string_bytes (out-Field f).doc

-- the fields within a field
abbrev pub fields_within : Field → Option Fields
fields_within f = (out-Field f).fields

-- names with their fields, in the order of the names
abbrev pub Entries : Type 0
Entries = List (String Global × Field)

abbrev pub entries : Fields → Entries
entries fs = (out-Fields fs).by_name.entries

-- one level, with each field inside already seen as its tree
abbrev pub field_step : Field-F FieldTree FieldsTree → FieldTree
field_step f = field_from (string_bytes f.doc) f.fields

abbrev pub fields_step : Fields-F FieldTree FieldsTree → FieldsTree
fields_step fs = fields_from (map (λ e. (string_bytes e.0, e.1)) fs.by_name.entries)

-- the tree of a field
abbrev pub field_tree : Field → FieldTree
field_tree = fold-Field FieldTree FieldsTree field_step fields_step

abbrev pub entry_tree : String Global × Field → List ℕ × FieldTree
entry_tree e = (string_bytes e.0, field_tree e.1)

-- the tree of fields
abbrev pub fields_tree : Fields → FieldsTree
fields_tree fs = fields_from (map entry_tree (entries fs))

-- the tree of a field that may be there
abbrev pub meta_tree : Option Field → Option FieldTree
meta_tree = option_map field_tree

-- ---- doc comments as the layout has them

-- the doc comment of a tree
abbrev pub doc_in : FieldTree → List ℕ
doc_in (plain doc) = doc
doc_in (holding doc within) = doc

-- the doc comments of fields by their names, and those within a field
abbrev mutual
  pub docs_in : FieldsTree → Docs
  docs_in no_fields = no_docs
  docs_in (field_and name field fields) = doc_and (chars name) (chars (doc_in field)) (docs_under field) (docs_in fields)

  pub docs_under : FieldTree → Docs
  docs_under (plain doc) = no_docs
  docs_under (holding doc fields) = docs_in fields

-- the doc comments of fields, in the order of their names
abbrev pub docs_view : Fields → Docs
docs_view fs = docs_in (fields_tree fs)

-- those of fields that may be there
abbrev pub docs_of : Option Fields → Docs
docs_of None = no_docs
docs_of (Some fs) = docs_view fs

-- the doc comment of a field that may be there
abbrev pub doc_told : Option Field → Text
doc_told None = []
doc_told (Some f) = chars (doc_bytes f)

-- those of the fields within a field that may be there
abbrev pub docs_below : Option Field → Docs
docs_below None = no_docs
docs_below (Some f) = docs_of (fields_within f)

-- ---- configurations

-- the characters of a text
abbrev pub text_view : CowStr Global → Text
text_view t = chars (cow_str_bytes t)

-- a configuration as the layout has it
abbrev pub config_view : PrettyConfig → Config
config_view c = record {
  depth_limit = c.depth_limit;
  new_line = text_view c.new_line;
  indentor = text_view c.indentor;
  separator = text_view c.separator;
  struct_names = c.struct_names;
  separate_tuple_members = c.separate_tuple_members;
  enumerate_arrays = c.enumerate_arrays;
  escape_strings = c.escape_strings;
  compact_arrays = c.compact_arrays;
  compact_structs = c.compact_structs;
  compact_maps = c.compact_maps;
  number_suffixes = c.number_suffixes;
  compact_ranges = c.compact_ranges;
  extensions = c.extensions;
  docs = docs_below c.path_meta;
}

-- that which is given, or else no configuration
abbrev pub config_given : Option PrettyConfig → Config
config_given None = no_config
config_given (Some c) = config_view c
