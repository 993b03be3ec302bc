-- Items, keys with their values, and fields from a list whose elements have data, and their texts: for the loops of `ron_ser`.
use Rattle.std.proofs.Common.{◌≡◌, ℕ, ◌+◌, max, Bool, false, ◌&&◌, List, [], ◌∷◌, ◌++◌, Option, map, refl, ap, arith}
use Rattle.std.specs.List.{list_all}
use Rattle.std.specs.Option.{option_or}
use Rattle.ron_spec_words.specs.Characters.{Text}
use Rattle.ron_spec_grammar.specs.Data.{Data, datas, Pairs, no_pairs, pair_and}
use Rattle.ron_spec_grammar.specs.Rule.{Extensions}
use Rattle.ron_spec_layout.specs.Name.{names_ok, all_names_ok, pair_names_ok, first_refused, first_refused_among, first_refused_in_pairs, written_name}
use Rattle.ron_spec_layout.specs.Encodable.{is_encodable, items_encodable, pairs_encodable}
use Rattle.ron_spec_layout.specs.Depth.{writer_depth, items_writer_depth, pairs_writer_depth, fields_writer_depth}
use Rattle.ron_spec_layout.specs.Config.{Docs, Config}
use Rattle.ron_spec_layout.specs.Docs.{docs_within, doc_comment}
use Rattle.ron_spec_layout.specs.Layout.{colon, layout_within, layout, item_texts, pair_texts, field_texts}
use Rattle.ron_spec_layout.proofs.Fields.{and_sides, fields_from}
use Rattle.ron_spec_layout.proofs.Firsts.{deepest, first_name, or_sides}

-- ---- of one key and its value

-- their names can be written
abbrev pub pair_ok : Data → Data → Bool
pair_ok key d = names_ok key && names_ok d

-- the first name that cannot
abbrev pub pair_refused : Data → Data → Option Text
pair_refused key d = option_or (first_refused key) (first_refused d)

abbrev pub pair_encodable : Bool → Data → Data → Bool
pair_encodable implicit key d = is_encodable implicit key && is_encodable implicit d

-- ---- of a list of items

module _ {A : Type 0} (data_of : A → Data) where
  pub item_names-from : (es : List A) → all_names_ok (datas (map data_of es)) ≡ list_all (λ e. names_ok (data_of e)) es
  item_names-from [] = refl
  item_names-from (e ∷ es) = ap (λ b. names_ok (data_of e) && b) (item_names-from es)

  pub item_refused-from : (es : List A) → first_refused_among (datas (map data_of es)) ≡ first_name (λ e. first_refused (data_of e)) es
  item_refused-from [] = refl
  item_refused-from (e ∷ es) = ap (option_or (first_refused (data_of e))) (item_refused-from es)

  pub item_encodable-from : (implicit : Bool) (es : List A)
      → items_encodable implicit (datas (map data_of es)) ≡ list_all (λ e. is_encodable implicit (data_of e)) es
  item_encodable-from implicit [] = refl
  item_encodable-from implicit (e ∷ es) = ap (λ b. is_encodable implicit (data_of e) && b) (item_encodable-from implicit es)

-- ---- of a list of keys and values

module _ {A : Type 0} (key data_of : A → Data) where
  abbrev pub pairs_from : List A → Pairs
  pairs_from [] = no_pairs
  pairs_from (e ∷ es) = pair_and (key e) (data_of e) (pairs_from es)

  pub pair_names-from : (es : List A) → pair_names_ok (pairs_from es) ≡ list_all (λ e. pair_ok (key e) (data_of e)) es
  pair_names-from [] = refl
  pair_names-from (e ∷ es) = rw (pair_names-from es) (and_sides (names_ok (key e)) (names_ok (data_of e)) (list_all (λ e. pair_ok (key e) (data_of e)) es))

  pub pair_refused-from : (es : List A) → first_refused_in_pairs (pairs_from es) ≡ first_name (λ e. pair_refused (key e) (data_of e)) es
  pair_refused-from [] = refl
  pair_refused-from (e ∷ es) =
      rw (pair_refused-from es) (or_sides (first_refused (key e)) (first_refused (data_of e)) (first_name (λ e. pair_refused (key e) (data_of e)) es))

  pub pair_encodable-from : (implicit : Bool) (es : List A)
      → pairs_encodable implicit (pairs_from es) ≡ list_all (λ e. pair_encodable implicit (key e) (data_of e)) es
  pair_encodable-from implicit [] = refl
  pair_encodable-from implicit (e ∷ es) = rw (pair_encodable-from implicit es)
      (and_sides (is_encodable implicit (key e)) (is_encodable implicit (data_of e)) (list_all (λ e. pair_encodable implicit (key e) (data_of e)) es))

module _ (c : Config) (x : Extensions) (level : ℕ) (docs : Docs) where
  -- a key, `:` and its value
  abbrev pub pair_text : Data → Data → Text
  pair_text key d = layout c x level docs false key ++ (colon c ++ layout c x level docs false d)

  -- a doc comment, a name, `:` and the value
  abbrev pub field_text : Text → Data → Text
  field_text name d = doc_comment c level docs name ++ (written_name name ++ (colon c ++ layout c x level (docs_within docs name) false d))

  module _ {A : Type 0} (data_of : A → Data) where
    pub items-from : (es : List A) → item_texts c x level docs (datas (map data_of es)) ≡ map (λ e. layout c x level docs false (data_of e)) es
    unfolding layout_within
    items-from [] = refl
    items-from (e ∷ es) = ap (λ ts. layout c x level docs false (data_of e) ∷ ts) (items-from es)

    pub pairs-from : (key : A → Data) (es : List A) → pair_texts c x level docs (pairs_from key data_of es) ≡ map (λ e. pair_text (key e) (data_of e)) es
    unfolding layout_within
    pairs-from key [] = refl
    pairs-from key (e ∷ es) = ap (λ ts. pair_text (key e) (data_of e) ∷ ts) (pairs-from key es)

    pub fields-from : (name : A → Text) (es : List A) → field_texts c x level docs (fields_from name data_of es) ≡ map (λ e. field_text (name e) (data_of e)) es
    unfolding layout_within
    fields-from name [] = refl
    fields-from name (e ∷ es) = ap (λ ts. field_text (name e) (data_of e) ∷ ts) (fields-from name es)

-- ---- how deep a writer goes

module _ (c : Config) {A : Type 0} (data_of : A → Data) where
  pub items_depth-from : (es : List A) → items_writer_depth c (datas (map data_of es)) ≡ deepest (λ e. 1 + writer_depth c (data_of e)) es
  items_depth-from [] = refl
  items_depth-from (e ∷ es) = omega (arith, items_depth-from es)

  pub pairs_depth-from : (key : A → Data) (es : List A)
      → pairs_writer_depth c (pairs_from key data_of es) ≡ deepest (λ e. max (1 + writer_depth c (key e)) (1 + writer_depth c (data_of e))) es
  pairs_depth-from key [] = refl
  pairs_depth-from key (e ∷ es) = omega (arith, pairs_depth-from key es)

  pub fields_depth-from : (name : A → Text) (es : List A)
      → fields_writer_depth c (fields_from name data_of es) ≡ deepest (λ e. 1 + writer_depth c (data_of e)) es
  fields_depth-from name [] = refl
  fields_depth-from name (e ∷ es) = omega (arith, fields_depth-from name es)
