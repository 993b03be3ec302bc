-- What is written piece by piece.
use Rattle.std.specs.Prelude.{◌≡◌, ℕ, ◌+◌, Bool, true, false, ◌||◌, if◌then◌else◌, Option, None, Result, MatchResult, List, [], ◌++◌, codes}
use Rattle.std.specs.Fmt.{WritesInCalls}
use Rattle.std.specs.Str.{encode_utf8_all}
use Rattle.ron_spec_words.specs.Characters.{Text}
use Rattle.ron_value.specs.Tree as tree
use Rattle.ron_spec_grammar.specs.Data.{Data, Datas, Pairs, Fields}
use Rattle.ron_spec_layout.specs.Name.{names_ok, all_names_ok, pair_names_ok, field_names_ok, first_refused, first_refused_among, first_refused_in_pairs}
use Rattle.ron_spec_layout.specs.Name.{first_refused_of}
use Rattle.ron_spec_layout.specs.Config.{spacing, inner_level, spaced}
use Rattle.ron_spec_layout.specs.Layout.{value_texts, entry_texts, numbered_texts, item_texts, pair_texts, field_texts}
use Rattle.ron_spec_layout.specs.Bytes.{name_bytes}
use Rattle.ron_spec_layout.specs.Bytes.{layout_bytes}
use Rattle.ron_spec_layout.specs.Depth.{writer_depth, items_writer_depth, pairs_writer_depth, fields_writer_depth, values_writer_depth, entries_writer_depth}
use Rattle.ron_spec_layout.specs.Encodable.{is_encodable, items_encodable, pairs_encodable, are_encodable, values_encodable, entries_encodable}
use Rattle.ron_data.specs.Datum.{Content, no_content, one_of, items_of, named_of}
use Rattle.ron_base.specs.Limit.{IsWithin}
use Rattle.ron_ser.specs.Refusal.{IsRefused, TellsName}
use Rattle.ron_ser.specs.declared.refusal.Refusal.{Refusal}
use Rattle.ron_ser.specs.declared.somes.Somes.{Somes}
use Rattle.ron_ser.specs.declared.somes.Somes.TheVariants as somes
use Rattle.ron_ser.specs.declared.container.Container.{Container}
use Rattle.ron_ser.specs.declared.container.Container.TheVariants as container
use Rattle.ron_base_device.specs.Begun.{HasBegun}
use Rattle.ron_ser.specs.Place.{Place, is_compact, spacing_in}

-- A piece of the text: its bytes, whether the names in it can be written, the first that cannot, how deep a writer goes for it, and whether it is of what code
-- can hold.
pub record Piece : Type 0 where
  pub bytes : List ℕ
  pub names : Bool
  pub refused : Option Text
  pub depth : ℕ
  pub encodable : Bool

-- From w to v the piece was written, within the limit.
pub record IsWritten {W : Type 0} (took : W → List ℕ → W → Type 0) (limit : Option ℕ) (w : W) (p : Piece) (v : W) : Type 0 where
  pub text : WritesInCalls took w p.bytes v
  pub names : p.names ≡ true
  pub clear : p.refused ≡ None
  pub within : IsWithin limit p.depth
  pub encodable : p.encodable ≡ true

-- From w to v a front of the piece was written, and a refusal stopped it.
pub record IsStopped {W : Type 0} (took : W → List ℕ → W → Type 0) (limit : Option ℕ) (w : W) (p : Piece) (v : W) (r : Refusal) : Type 0 where
  pub refused : IsRefused p.names (IsWithin limit p.depth) r
  pub refused_name : TellsName p.refused r
  pub beginning : HasBegun took w p.bytes v

-- From w to v the piece was tried, with this result: it was written, or a refusal stopped it.
abbrev pub Tries : {W : Type 0} → (W → List ℕ → W → Type 0) → Option ℕ → W → Piece → W → Result (Unit {0}) Refusal → Type 0
Tries took limit w p v result = MatchResult result (λ _. IsWritten took limit w p v) (IsStopped took limit w p v)

-- ---- the texts of what stands in brackets

-- the items of a list, which are numbered, or of a tuple
abbrev pub items_text : Place → Container → Datas → Text
items_text p container.List ds =
    spaced (spacing_in p container.List) (numbered_texts p.config p.extensions (inner_level p.config.compact_arrays p.level) p.docs 0 ds)
items_text p k ds = spaced (spacing_in p k) (item_texts p.config p.extensions (inner_level (is_compact p.config k) p.level) p.docs ds)

-- the keys of a map with their values
abbrev pub pairs_text : Place → Pairs → Text
pairs_text p ps = spaced (spacing_in p container.Map) (pair_texts p.config p.extensions (inner_level p.config.compact_maps p.level) p.docs ps)

-- the fields of a struct
abbrev pub fields_text : Place → Fields → Text
fields_text p fields =
    spaced (spacing p.config p.config.compact_structs p.level) (field_texts p.config p.extensions (inner_level p.config.compact_structs p.level) p.docs fields)

-- the items of a value without a schema, and its keys with their values
abbrev pub values_text : Place → tree.Items → Text
values_text p ts = spaced (spacing_in p container.List) (value_texts p.config p.extensions (inner_level p.config.compact_arrays p.level) 0 ts)

abbrev pub entries_text : Place → tree.Pairs → Text
entries_text p ps = spaced (spacing_in p container.Map) (entry_texts p.config p.extensions (inner_level p.config.compact_maps p.level) ps)

-- ---- the layout's pieces

-- data, bare or not. Code can hold a Some in a value, also where the text leaves it out.
abbrev pub value_piece : Place → Bool → Data → Piece
value_piece p bare d = record {
  bytes = layout_bytes p.config p.extensions p.level p.docs bare d;
  names = names_ok d;
  refused = first_refused d;
  depth = writer_depth p.config d;
  encodable = is_encodable false d;
}

-- what stands in its brackets: items
abbrev pub items_piece : Place → Container → Datas → Piece
items_piece p k ds = record {
  bytes = encode_utf8_all (items_text p k ds);
  names = all_names_ok ds;
  refused = first_refused_among ds;
  depth = items_writer_depth p.config ds;
  encodable = items_encodable false ds;
}

-- keys and values
abbrev pub pairs_piece : Place → Pairs → Piece
pairs_piece p ps = record {
  bytes = encode_utf8_all (pairs_text p ps);
  names = pair_names_ok ps;
  refused = first_refused_in_pairs ps;
  depth = pairs_writer_depth p.config ps;
  encodable = pairs_encodable false ps;
}

-- fields
abbrev pub fields_piece : Place → Fields → Piece
fields_piece p fields = record {
  bytes = encode_utf8_all (fields_text p fields);
  names = field_names_ok fields;
  refused = first_refused_of fields;
  depth = fields_writer_depth p.config fields;
  encodable = are_encodable false fields;
}

-- the items of a value without a schema: no names stand in them
abbrev pub values_piece : Place → tree.Items → Piece
values_piece p ts = record {
  bytes = encode_utf8_all (values_text p ts);
  names = true;
  refused = None;
  depth = values_writer_depth ts;
  encodable = values_encodable false ts;
}

-- its keys and values
abbrev pub entries_piece : Place → tree.Pairs → Piece
entries_piece p ps = record {
  bytes = encode_utf8_all (entries_text p ps);
  names = true;
  refused = None;
  depth = entries_writer_depth ps;
  encodable = entries_encodable false ps;
}

-- ---- what is made of them

-- bytes alone
abbrev pub plain : List ℕ → Piece
plain bytes = record { bytes = bytes; names = true; refused = None; depth = 0; encodable = true }

-- one level deeper
abbrev pub deeper : Piece → Piece
deeper p = record { bytes = p.bytes; names = p.names; refused = p.refused; depth = 1 + p.depth; encodable = p.encodable }

-- between these bytes
abbrev pub enclosed : List ℕ → Piece → List ℕ → Piece
enclosed a p b = record { bytes = a ++ (p.bytes ++ b); names = p.names; refused = p.refused; depth = p.depth; encodable = p.encodable }

-- what a variant holds, in brackets
abbrev pub content_piece : Place → Content → Piece
content_piece p no_content = plain []
content_piece p (one_of d) = enclosed (codes "(") (deeper (value_piece p p.extensions.unwrap_variant_newtypes d)) (codes ")")
content_piece p (items_of ds) = enclosed (codes "(") (items_piece p (container.Tuple false) ds) (codes ")")
content_piece p (named_of fields) = enclosed (codes "(") (fields_piece p fields) (codes ")")

-- ---- what is left out

-- the bracket before what is not bare
abbrev pub opening : Bool → List ℕ
opening bare = if bare then [] else codes "("

-- the bracket behind it
abbrev pub closing : Bool → List ℕ
closing bare = if bare then [] else codes ")"

-- the unit, bare or not
abbrev pub unit_bytes : Bool → List ℕ
unit_bytes bare = if bare then [] else codes "()"

-- names are written before structs
abbrev pub requires_names : Place → Bool
requires_names p = p.config.struct_names || p.extensions.explicit_struct_names

-- a struct's name where names are written and the struct is neither bare nor unwrapped
abbrev pub required_name : Place → Bool → Text → List ℕ
required_name p bare name = if bare then [] else (if requires_names p then name_bytes name else [])

-- What is known already of a test, whether the Somes are kept, is what it answers.
abbrev pub IsKnown : Somes → Bool → Type 0
IsKnown somes.Kept b = b ≡ true
IsKnown somes.LeftOut b = b ≡ false
IsKnown somes.Unasked b = Unit {0}
