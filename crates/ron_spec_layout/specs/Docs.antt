-- Doc comments, which stand before fields.
use Rattle.std.specs.Prelude.{ℕ, Bool, true, false, not, ◌||◌, ◌&&◌, is_none, nat_le, if◌then◌else◌, List, [], ◌∷◌, ◌++◌, codes}
use Rattle.std.specs.List.{flat_map}
use Rattle.std.specs.Str.Lines.{lines}
use Rattle.ron_spec_words.specs.Characters.{Text}
use Rattle.ron_spec_words.specs.Runs.{same_text}
use Rattle.ron_spec_grammar.specs.Data.{Data, some_of, list_of, tuple_of, tuple_struct_of, map_of, newtype_of, struct_of, newtype_variant_of, tuple_variant_of}
use Rattle.ron_spec_grammar.specs.Data.{struct_variant_of, Datas, no_datas, data_and, Pairs, no_pairs, pair_and, Fields, no_fields, field_and}
use Rattle.ron_spec_layout.specs.Config.{Docs, no_docs, doc_and, Config, times}
use Rattle.ron_spec_layout.specs.Ranges.{compact_range}

-- the doc of a field
abbrev pub doc_of : Docs → Text → Text
doc_of no_docs n = []
doc_of (doc_and name doc within docs) n = if same_text name n then doc else doc_of docs n

-- those of the fields within a field
abbrev pub docs_within : Docs → Text → Docs
docs_within no_docs n = no_docs
docs_within (doc_and name doc within docs) n = if same_text name n then within else docs_within docs n

-- the indentation of a level, where it is within the limit
abbrev pub indentation : Config → ℕ → Text
indentation c level = if nat_le level c.depth_limit then times level c.indentor else []

-- a line of a doc, and the indentation of the line that follows it
abbrev pub doc_line : Config → ℕ → Text → Text
doc_line c level t = codes "/// " ++ (t ++ (c.new_line ++ indentation c level))

-- the lines of a doc
abbrev pub doc_lines : Config → ℕ → Text → Text
doc_lines c level doc = flat_map (doc_line c level) (lines doc)

-- what stands before a field: nothing where structs are compact
abbrev pub doc_comment : Config → ℕ → Docs → Text → Text
doc_comment c level docs name = if c.compact_structs then [] else doc_lines c level (doc_of docs name)

-- ---- where doc comments are written

-- the doc has a line
abbrev pub has_lines : List Text → Bool
has_lines [] = false
has_lines (t ∷ ts) = true

-- A doc comment stands in the layout of the data. In a compact range there is none.
abbrev mutual
  pub is_documented : Config → Docs → Data → Bool
  is_documented c docs (some_of d) = is_documented c docs d
  is_documented c docs (list_of ds) = are_documented c docs ds
  is_documented c docs (tuple_of ds) = are_documented c docs ds
  is_documented c docs (tuple_struct_of name ds) = are_documented c docs ds
  is_documented c docs (map_of ps) = pairs_documented c docs ps
  is_documented c docs (newtype_of name d) = is_documented c docs d
  is_documented c docs (struct_of name fields) = is_none (compact_range c (struct_of name fields)) && fields_documented c docs fields
  is_documented c docs (newtype_variant_of name v d) = is_documented c docs d
  is_documented c docs (tuple_variant_of name v ds) = are_documented c docs ds
  is_documented c docs (struct_variant_of name v fields) = fields_documented c docs fields
  is_documented c docs _ = false

  pub are_documented : Config → Docs → Datas → Bool
  are_documented c docs no_datas = false
  are_documented c docs (data_and d ds) = is_documented c docs d || are_documented c docs ds

  pub pairs_documented : Config → Docs → Pairs → Bool
  pairs_documented c docs no_pairs = false
  pairs_documented c docs (pair_and key d ps) = is_documented c docs key || (is_documented c docs d || pairs_documented c docs ps)

  pub fields_documented : Config → Docs → Fields → Bool
  fields_documented c docs no_fields = false
  fields_documented c docs (field_and name d fields) =
      (not c.compact_structs && has_lines (lines (doc_of docs name))) || (is_documented c (docs_within docs name) d || fields_documented c docs fields)
