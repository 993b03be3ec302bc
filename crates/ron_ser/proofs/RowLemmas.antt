-- The items of a list or a tuple, the pairs of a map and the fields of a struct, as pieces in a row.
use Rattle.std.proofs.Common.{◌≡◌, Bool, false, ◌&&◌, List, [], ◌∷◌, ◌++◌, chars, string_bytes, String, Global, map, encode_utf8_all, length, refl, ap, ◌∙◌}
use Rattle.std.specs.List.{list_all}
use Rattle.ron_spec_words.specs.Characters.{Text}
use Rattle.ron_spec_grammar.specs.Data as tree
use Rattle.ron_spec_layout.specs.Name.{written_name, field_names_ok, pair_names_ok, first_refused_of, first_refused_in_pairs}
use Rattle.ron_spec_layout.specs.Config.{inner_level, spaced}
use Rattle.ron_spec_layout.specs.Docs.{doc_comment}
use Rattle.ron_spec_layout.specs.Layout.{colon, layout_within, item_texts, pair_texts, field_texts}
use Rattle.ron_spec_layout.specs.Bytes.{name_bytes}
use Rattle.ron_spec_layout.specs.Depth.{pairs_writer_depth, fields_writer_depth}
use Rattle.ron_spec_layout.specs.Encodable.{is_encodable, are_encodable, pairs_encodable}
use Rattle.ron_spec_layout.proofs.Firsts.{before_numbered, laid_from, behind_items, numbered_is}
use Rattle.ron_spec_layout.proofs.Bytes.{bytes-pair, bytes-field}
use Rattle.ron_spec_layout.proofs.Fields as fields
use Rattle.ron_spec_layout.proofs.Rows as rows
use Rattle.ron_data.specs.declared.data.Data.{Data}
use Rattle.ron_data.specs.declared.data.VariantData.{VariantData}
use Rattle.ron_data.specs.Datum.{Content, data_view, content_view, items_view, pairs_view, fields_view}
use Rattle.ron_ser.specs.declared.container.Container.{Container}
use Rattle.ron_ser.specs.declared.container.Container.TheVariants as container
use Rattle.ron_ser.specs.Place.{Place, is_list, is_compact, inside, within, spacing_in, before}
use Rattle.ron_ser.specs.Piece.{Piece, value_piece, items_text, items_piece, pairs_text, pairs_piece, fields_text, fields_piece, content_piece, deeper}
use Rattle.ron_ser.proofs.PieceLemmas.{behind, named, keyed, ended, same_piece}
use Rattle.ron_ser.proofs.PlaceLemmas.{numbered_inside, items_inside, pairs_inside, fields_inside, before_bytes, behind_bytes, spaced_in, numbered_in}
use Rattle.ron_ser.proofs.PlaceLemmas.{laid_bytes}
use Rattle.ron_ser.proofs.ItemLemmas.{row_piece}

-- a value in another, which is not bare
abbrev pub inner_piece : Place → Data → Piece
inner_piece p d = deeper (value_piece p false (data_view d))

-- its text
abbrev inner_text : Place → Data → Text
inner_text p d = layout_within p.config p.extensions p.level p.docs false 0 (data_view d)

-- a row of pieces in a container, with what stands around them
abbrev pub row_in : {A : Type 0} → Place → Container → (A → Piece) → List A → Piece
row_in p k f xs = ended (row_piece (before_bytes p k) f xs) (behind_bytes p k (length xs))

-- ---- items

module _ (p : Place) where
  items_are : (k : Container) (ds : List Data) → item_texts p.config p.extensions (inside k p).level p.docs (items_view ds) ≡ map (inner_text (inside k p)) ds
  items_are k ds = rows.items-from p.config p.extensions (inside k p).level p.docs data_view ds

  listed : (ds : List Data) → items_text p container.List (items_view ds) ≡ laid_from (before p container.List) 0
      (map (inner_text (inside container.List p)) ds) ++ behind_items (spacing_in p container.List) (map (inner_text (inside container.List p)) ds)
  listed ds =
      let s = spacing_in p container.List in
      let l = (inside container.List p).level in
      ap (spaced s) (numbered_inside p container.List 0 (items_view ds)) ∙ numbered_is p.config p.extensions l p.docs s (items_view ds)
      ∙ ap (λ ts. laid_from (before_numbered p.config l s) 0 ts ++ behind_items s ts) (items_are container.List ds)
      ∙ ap (λ u. u ++ behind_items s (map (inner_text (inside container.List p)) ds)) (numbered_in p (map (inner_text (inside container.List p)) ds))

  -- of any other container
  in_row : (k : Container) → is_list k ≡ false → (ds : List Data)
      → spaced (spacing_in p k) (item_texts p.config p.extensions (inner_level (is_compact p.config k) p.level) p.docs (items_view ds))
      ≡ laid_from (before p k) 0 (map (inner_text (inside k p)) ds) ++ behind_items (spacing_in p k) (map (inner_text (inside k p)) ds)
  in_row k e ds = ap (spaced (spacing_in p k)) (items_inside p k (items_view ds) ∙ items_are k ds) ∙ spaced_in p k e (map (inner_text (inside k p)) ds)

  laid_items : (k : Container) (ds : List Data) → items_text p k (items_view ds)
      ≡ laid_from (before p k) 0 (map (inner_text (inside k p)) ds) ++ behind_items (spacing_in p k) (map (inner_text (inside k p)) ds)
  laid_items container.List ds = listed ds
  laid_items (container.Tuple bare) ds = in_row (container.Tuple bare) refl ds
  laid_items container.Map ds = in_row container.Map refl ds
  laid_items (container.Struct bare) ds = in_row (container.Struct bare) refl ds

  pub items_row : (k : Container) (ds : List Data) → items_piece p k (items_view ds) ≡ row_in p k (inner_piece (inside k p)) ds
  unfolding ended
  items_row k ds =
      same_piece _ _ _ _ _ _ _ _ _ _
      (ap encode_utf8_all (laid_items k ds) ∙ laid_bytes p k (inner_text (inside k p)) (λ d. (inner_piece (inside k p) d).bytes) (λ d. refl) ds)
      (rows.item_names-from data_view ds) (rows.item_refused-from data_view ds) (rows.items_depth-from p.config data_view ds)
      (rows.item_encodable-from data_view false ds)

-- ---- keys and values

abbrev pub Pair : Type 0
Pair = Data × Data

-- a key and its value, where the items of a map stand
abbrev pub pair_piece : Place → Pair → Piece
pair_piece p e = keyed (inner_piece p e.0) (encode_utf8_all (colon p.config)) (inner_piece p e.1)

abbrev pair_text : Place → Pair → Text
pair_text p e = inner_text p e.0 ++ (colon p.config ++ inner_text p e.1)

pairs : (ps : List Pair) → pairs_view ps ≡ rows.pairs_from (λ p. data_view p.0) (λ p. data_view p.1) ps
pairs [] = refl
pairs (p ∷ ps) = ap (tree.pair_and (data_view p.0) (data_view p.1)) (pairs ps)

module _ (p : Place) (ps : List Pair) where
  abbrev key : Pair → tree.Data
  key e = data_view e.0

  abbrev value : Pair → tree.Data
  value e = data_view e.1

  abbrev there : Place
  there = inside container.Map p

  laid_pairs : pairs_text p (pairs_view ps)
      ≡ laid_from (before p container.Map) 0 (map (pair_text there) ps) ++ behind_items (spacing_in p container.Map) (map (pair_text there) ps)
  laid_pairs =
      ap (spaced (spacing_in p container.Map))
      (pairs_inside p container.Map (pairs_view ps) ∙ ap (pair_texts p.config p.extensions there.level p.docs) (pairs ps)
      ∙ rows.pairs-from p.config p.extensions there.level p.docs value key ps)
      ∙ spaced_in p container.Map refl (map (pair_text there) ps)

  pub pairs_row : pairs_piece p (pairs_view ps) ≡ row_in p container.Map (pair_piece (inside container.Map p)) ps
  unfolding keyed ended
  pairs_row =
      same_piece _ _ _ _ _ _ _ _ _ _
      (ap encode_utf8_all laid_pairs ∙ laid_bytes p container.Map (pair_text there) (λ e. (pair_piece there e).bytes)
      (λ e. bytes-pair there.config there.extensions there.level there.docs (key e) (value e)) ps)
      (ap pair_names_ok (pairs ps) ∙ rows.pair_names-from key value ps) (ap first_refused_in_pairs (pairs ps) ∙ rows.pair_refused-from key value ps)
      (ap (pairs_writer_depth p.config) (pairs ps) ∙ rows.pairs_depth-from p.config value key ps)
      (ap (pairs_encodable false) (pairs ps) ∙ rows.pair_encodable-from key value false ps)

-- ---- fields

-- a field, which code holds as a pair
abbrev pub Field : Type 0
Field = String Global × Data

abbrev pub field_name : Field → Text
field_name f = chars (string_bytes f.0)

-- its doc comment, name and value, where the fields of a struct stand
abbrev pub field_piece : Place → Field → Piece
field_piece p f = behind (encode_utf8_all (doc_comment p.config p.level p.docs (field_name f)))
    (named (name_bytes (field_name f)) (field_name f) (behind (encode_utf8_all (colon p.config)) (inner_piece (within (field_name f) p) f.1)))

abbrev field_text : Place → Field → Text
field_text p f =
    doc_comment p.config p.level p.docs (field_name f) ++ (written_name (field_name f) ++ (colon p.config ++ inner_text (within (field_name f) p) f.1))

all_fields : (fs : List Field) → fields_view fs ≡ fields.fields_from field_name (λ f. data_view f.1) fs
all_fields [] = refl
all_fields (f ∷ fs) = ap (tree.field_and (field_name f) (data_view f.1)) (all_fields fs)

fields_encodable : (fs : List Field) → are_encodable false (fields_view fs) ≡ list_all (λ f. is_encodable false (data_view f.1)) fs
fields_encodable [] = refl
fields_encodable (f ∷ fs) = ap (λ b. is_encodable false (data_view f.1) && b) (fields_encodable fs)

module _ (p : Place) (bare : Bool) (fs : List Field) where
  abbrev held : Field → tree.Data
  held f = data_view f.1

  abbrev here : Container
  here = container.Struct bare

  abbrev fields_there : Place
  fields_there = inside (container.Struct bare) p

  laid_fields : fields_text p (fields_view fs)
      ≡ laid_from (before p here) 0 (map (field_text fields_there) fs) ++ behind_items (spacing_in p here) (map (field_text fields_there) fs)
  laid_fields =
      ap (spaced (spacing_in p here))
      (fields_inside p here (fields_view fs) ∙ ap (field_texts p.config p.extensions fields_there.level p.docs) (all_fields fs)
      ∙ rows.fields-from p.config p.extensions fields_there.level p.docs held field_name fs)
      ∙ spaced_in p here refl (map (field_text fields_there) fs)

  pub fields_row : fields_piece p (fields_view fs) ≡ row_in p (container.Struct bare) (field_piece (inside (container.Struct bare) p)) fs
  unfolding named behind ended
  fields_row =
      same_piece _ _ _ _ _ _ _ _ _ _
      (ap encode_utf8_all laid_fields ∙ laid_bytes p here (field_text fields_there) (λ f. (field_piece fields_there f).bytes)
      (λ f. bytes-field fields_there.config fields_there.extensions fields_there.level fields_there.docs (field_name f) (held f)) fs)
      (ap field_names_ok (all_fields fs) ∙ fields.names-from field_name held fs) (ap first_refused_of (all_fields fs) ∙ fields.refused-from field_name held fs)
      (ap (fields_writer_depth p.config) (all_fields fs) ∙ rows.fields_depth-from p.config held field_name fs) (fields_encodable fs)

-- ---- data of code, case by case

-- what its layout's piece is, from what it is seen as
pub seen : (p : Place) (bare : Bool) {d e : Data} {t : tree.Data} {q : Piece} → d ≡ e → data_view e ≡ t → value_piece p bare t ≡ q
    → value_piece p bare (data_view d) ≡ q
seen p bare i v q = ap (λ d. value_piece p bare (data_view d)) i ∙ ap (value_piece p bare) v ∙ q

pub content_seen : (p : Place) {d e : VariantData} {t : Content} → d ≡ e → content_view e ≡ t → content_piece p (content_view d) ≡ content_piece p t
content_seen p i v = ap (λ d. content_piece p (content_view d)) i ∙ ap (content_piece p) v
