-- The items of a value without a schema, and its keys with their values, as pieces in a row. No names stand in them.
use Rattle.std.proofs.Common.{◌≡◌, ℕ, suc, ◌+◌, max, Bool, true, false, ◌&&◌, None, List, [], ◌∷◌, ◌++◌, map, encode_utf8_all, append_assoc, refl, sym, ap, ◌∙◌}
use Rattle.std.specs.List.{list_all}
use Rattle.ron_spec_words.specs.Characters.{Text}
use Rattle.ron_value.specs.Tree.{items_from, pairs_from}
use Rattle.ron_value.specs.View.{tree_of, pair_tree}
use Rattle.ron_value.specs.Entries.{Entries}
use Rattle.ron_value.specs.declared.value.Value.{Value}
use Rattle.ron_spec_grammar.specs.Data.{Data, value_of}
use Rattle.ron_spec_layout.specs.Config.{spaced, item_comment}
use Rattle.ron_spec_layout.specs.Layout.{colon, value_layout, value_texts, entry_texts, layout_within}
use Rattle.ron_spec_layout.specs.Depth.{value_writer_depth, values_writer_depth, entries_writer_depth}
use Rattle.ron_spec_layout.specs.Encodable.{value_encodable, values_encodable, entries_encodable}
use Rattle.ron_spec_layout.proofs.Bytes.{bytes-pair}
use Rattle.ron_spec_layout.proofs.Fields.{and_sides}
use Rattle.ron_spec_layout.proofs.Firsts.{deepest, first_name}
use Rattle.ron_spec_layout.proofs.Firsts.{before_item, before_numbered, laid_from, behind_items, spaced_is}
use Rattle.ron_ser.specs.declared.container.Container.TheVariants as container
use Rattle.ron_ser.specs.Place.{Place, inside, spacing_in, before}
use Rattle.ron_ser.specs.Piece.{Piece, value_piece, values_text, values_piece, entries_text, entries_piece, deeper}
use Rattle.ron_ser.proofs.PieceLemmas.{keyed, ended, same_piece}
use Rattle.ron_ser.proofs.PlaceLemmas.{values_inside, entries_inside, spaced_in, numbered_in, laid_bytes}
use Rattle.ron_ser.proofs.RowLemmas.{row_in}

-- a value's data, and how deep a writer goes for it
abbrev held_data : Value → Data
held_data v = value_of (tree_of v)

abbrev held_depth : Value → ℕ
held_depth v = value_writer_depth (tree_of v)

-- a value in another, which is not bare
abbrev pub held_piece : Place → Value → Piece
held_piece p v = deeper (value_piece p false (held_data v))

-- its text
abbrev held_text : Place → Value → Text
held_text p v = layout_within p.config p.extensions p.level p.docs false 0 (held_data v)

-- a key and its value
abbrev pub entry_piece : Place → Value × Value → Piece
entry_piece p e = keyed (held_piece p e.0) (encode_utf8_all (colon p.config)) (held_piece p e.1)

abbrev entry_text : Place → Value × Value → Text
entry_text p e = held_text p e.0 ++ (colon p.config ++ held_text p e.1)

all_true : {A : Type 0} (xs : List A) → true ≡ list_all (λ _. true) xs
all_true [] = refl
all_true (a ∷ xs) = all_true xs

none_first : {A : Type 0} (xs : List A) → None ≡ first_name (λ _. None) xs
none_first [] = refl
none_first (a ∷ xs) = none_first xs

-- ---- items

item_depth : (vs : List Value) → values_writer_depth (items_from (map tree_of vs)) ≡ deepest (λ v. 1 + held_depth v) vs
item_depth [] = refl
item_depth (v ∷ vs) = ap (λ n. max (1 + held_depth v) n) (item_depth vs)

item_encodable : (vs : List Value) → values_encodable false (items_from (map tree_of vs)) ≡ list_all (λ v. value_encodable false (tree_of v)) vs
item_encodable [] = refl
item_encodable (v ∷ vs) = ap (λ b. value_encodable false (tree_of v) && b) (item_encodable vs)

module _ (p : Place) where
  abbrev listed : Place
  listed = inside container.List p

  -- each behind its comment
  numbered_from : (k : ℕ) (vs : List Value) → laid_from (before_item (spacing_in p container.List)) k (value_texts listed.config listed.extensions listed.level
      k (items_from (map tree_of vs))) ≡ laid_from (before_numbered p.config listed.level (spacing_in p container.List)) k (map (held_text listed) vs)
  unfolding layout_within value_layout
  numbered_from k [] = refl
  numbered_from k (v ∷ vs) =
      let s = spacing_in p container.List in
      ap (λ u. u ++ laid_from (before_item s) (suc k) (value_texts listed.config listed.extensions listed.level (suc k) (items_from (map tree_of vs))))
      (sym (append_assoc (before_item s k) (item_comment p.config listed.level k) (held_text listed v)))
      ∙ ap (λ u. ((before_item s k ++ item_comment p.config listed.level k) ++ held_text listed v) ++ u) (numbered_from (suc k) vs)

  behind_values : (vs : List Value) → behind_items (spacing_in p container.List) (value_texts listed.config listed.extensions listed.level 0
      (items_from (map tree_of vs))) ≡ behind_items (spacing_in p container.List) (map (held_text listed) vs)
  unfolding layout_within value_layout
  behind_values [] = refl
  behind_values (v ∷ vs) = refl

  laid_values : (vs : List Value) → values_text p (items_from (map tree_of vs))
      ≡ laid_from (before p container.List) 0 (map (held_text listed) vs) ++ behind_items (spacing_in p container.List) (map (held_text listed) vs)
  laid_values vs =
      let s = spacing_in p container.List in
      let ts = value_texts listed.config listed.extensions listed.level 0 (items_from (map tree_of vs)) in
      ap (spaced s) (values_inside p container.List 0 (items_from (map tree_of vs))) ∙ spaced_is s ts
      ∙ ap (λ u. u ++ behind_items s ts) (numbered_from 0 vs ∙ numbered_in p (map (held_text listed) vs))
      ∙ ap (λ u. laid_from (before p container.List) 0 (map (held_text listed) vs) ++ u) (behind_values vs)

  pub values_row : (vs : List Value) → values_piece p (items_from (map tree_of vs)) ≡ row_in p container.List (held_piece (inside container.List p)) vs
  unfolding ended
  values_row vs =
      same_piece _ _ _ _ _ _ _ _ _ _ (ap encode_utf8_all (laid_values vs) ∙ laid_bytes p container.List (held_text listed) (λ v. (held_piece listed v).bytes)
      (λ v. refl) vs) (all_true vs) (none_first vs) (item_depth vs) (item_encodable vs)

-- ---- keys and values

-- one level for each of the two
abbrev entry_levels : Value × Value → ℕ
entry_levels e = max (1 + held_depth e.0) (1 + held_depth e.1)

entry_depth : (es : Entries) → entries_writer_depth (pairs_from (map pair_tree es)) ≡ deepest entry_levels es
entry_depth [] = refl
entry_depth (e ∷ es) = ap (λ n. max (entry_levels e) n) (entry_depth es)

-- code can hold a key and its value
abbrev entry_held : Value × Value → Bool
entry_held e = value_encodable false (tree_of e.0) && value_encodable false (tree_of e.1)

entry_encodable : (es : Entries) → entries_encodable false (pairs_from (map pair_tree es)) ≡ list_all entry_held es
entry_encodable [] = refl
entry_encodable (e ∷ es) =
    ap (λ b. value_encodable false (tree_of e.0) && (value_encodable false (tree_of e.1) && b)) (entry_encodable es)
    ∙ and_sides (value_encodable false (tree_of e.0)) (value_encodable false (tree_of e.1)) (list_all entry_held es)

module _ (p : Place) where
  abbrev there : Place
  there = inside container.Map p

  entries_are : (es : Entries) → entry_texts there.config there.extensions there.level (pairs_from (map pair_tree es)) ≡ map (entry_text there) es
  unfolding layout_within value_layout
  entries_are [] = refl
  entries_are (e ∷ es) = ap (λ ts. entry_text there e ∷ ts) (entries_are es)

  pub entries_row : (es : Entries) → entries_piece p (pairs_from (map pair_tree es)) ≡ row_in p container.Map (entry_piece (inside container.Map p)) es
  unfolding keyed ended
  entries_row es =
      let laid : entries_text p (pairs_from (map pair_tree es)) ≡ laid_from (before p container.Map) 0 (map (entry_text there) es)
      ++ behind_items (spacing_in p container.Map) (map (entry_text there) es) = ap (spaced (spacing_in p container.Map))
      (entries_inside p container.Map (pairs_from (map pair_tree es)) ∙ entries_are es) ∙ spaced_in p container.Map refl (map (entry_text there) es) in
      same_piece _ _ _ _ _ _ _ _ _ _
      (ap encode_utf8_all laid ∙ laid_bytes p container.Map (entry_text there) (λ e. (entry_piece there e).bytes)
      (λ e. bytes-pair there.config there.extensions there.level there.docs (held_data e.0) (held_data e.1)) es)
      (all_true es) (none_first es) (entry_depth es) (entry_encodable es)
