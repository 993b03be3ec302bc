-- The pieces of a value without a schema, case by case: for `write_any`.
use Rattle.std.proofs.Common.{◌≡◌, ℕ, Bool, true, false, nat_lt, cond, List, [], codes, chars, encode_utf8_all, ℤ, None, refl, ap, ◌∙◌}
use Rattle.std.specs.List.{list_all}
use Rattle.std.specs.Str.{is_utf8}
use lib.Utf8.{scalar}
use Rattle.ron_value_number.specs.declared.width.Width.{Width}
use Rattle.ron_value.specs.Tree.{Tree}
use Rattle.ron_value.specs.Tree as tree
use Rattle.ron_value.specs.View.{tree_of}
use Rattle.ron_value.specs.declared.value.Value.{Value}
use Rattle.ron_spec_grammar.specs.Data.{value_of}
use Rattle.ron_spec_layout.specs.Literals.{written_char, number_text}
use Rattle.ron_spec_layout.specs.Unescaped.{string_text, bytes_text}
use Rattle.ron_spec_layout.specs.Keeping.{value_keeps}
use Rattle.ron_spec_layout.specs.Brackets.{bracketed, in_some, written_bool}
use Rattle.ron_spec_layout.specs.Layout.{value_layout, layout_within}
use Rattle.ron_spec_layout.proofs.Keeping.{some_laid, value_kept, value_dropped}
use Rattle.ron_spec_layout.proofs.Bytes.{ascii_text, bytes-enclosed, bytes-boolean}
use Rattle.ron_spec_layout.proofs.Bytes.{bytes-number}
use Rattle.ron_ser.specs.Place.{Place}
use Rattle.ron_ser.specs.Piece.{Piece, value_piece, values_text, values_piece, entries_text, entries_piece, plain, deeper, enclosed, unit_bytes}
use Rattle.ron_ser.proofs.DataLemmas.{with_bytes, layout_at}

-- what the piece of a value of code is, from its tree
pub tree_seen : (p : Place) (bare : Bool) {v w : Value} {t : Tree} {q : Piece} → v ≡ w → tree_of w ≡ t → value_piece p bare (value_of t) ≡ q
    → value_piece p bare (value_of (tree_of v)) ≡ q
tree_seen p bare i e q = ap (λ v. value_piece p bare (value_of (tree_of v))) i ∙ ap (λ t. value_piece p bare (value_of t)) e ∙ q

module _ (p : Place) (bare : Bool) where
  -- ---- what holds no others

  pub value_boolean_piece : (b : Bool) → value_piece p bare (value_of (tree.boolean b)) ≡ plain (written_bool b)
  unfolding layout_within value_layout
  value_boolean_piece b = ap plain (bytes-boolean b)

  pub value_number_piece : (w : Width) (n : ℤ) → value_piece p bare (value_of (tree.number w n)) ≡ plain (number_text p.config.number_suffixes w n)
  unfolding layout_within value_layout
  value_number_piece w n = ap plain (bytes-number p.config.number_suffixes w n)

  pub value_character_piece : (c : ℕ) → value_piece p bare (value_of (tree.character c))
      ≡ record { bytes = encode_utf8_all (written_char c); names = true; refused = None; depth = 0; encodable = scalar c }
  unfolding layout_within value_layout
  value_character_piece c = refl

  pub value_text_piece : (bs : List ℕ) → value_piece p bare (value_of (tree.text bs))
      ≡ record { bytes = encode_utf8_all (string_text p.config.escape_strings (chars bs)); names = true; refused = None; depth = 0; encodable = is_utf8 bs }
  unfolding layout_within value_layout
  value_text_piece bs = refl

  pub value_bytes_piece : (bs : List ℕ) → value_piece p bare (value_of (tree.bytes bs)) ≡ record {
    bytes = encode_utf8_all (bytes_text p.config.escape_strings bs);
    names = true;
    refused = None;
    depth = 0;
    encodable = list_all (λ b. nat_lt b 256) bs;
  }
  unfolding layout_within value_layout
  value_bytes_piece bs = refl

  pub value_unit_piece : value_piece p bare (value_of tree.unit) ≡ plain (unit_bytes bare)
  unfolding layout_within value_layout
  value_unit_piece = ap plain (elim bare as (λ b. encode_utf8_all (bracketed b []) ≡ unit_bytes b) [ true ↦ refl | false ↦ ascii_text (codes "()") refl ])

  pub value_none_piece : value_piece p bare (value_of tree.none) ≡ plain (codes "None")
  unfolding layout_within value_layout
  value_none_piece = ap plain (ascii_text (codes "None") refl)

  -- ---- lists and maps

  pub value_sequence_piece : (ts : tree.Items) → value_piece p bare (value_of (tree.sequence ts)) ≡ enclosed (codes "[") (values_piece p ts) (codes "]")
  unfolding layout_within value_layout
  value_sequence_piece ts = ap (with_bytes (values_piece p ts)) (bytes-enclosed (codes "[") (codes "]") (values_text p ts) refl refl)

  pub value_mapping_piece : (ps : tree.Pairs) → value_piece p bare (value_of (tree.mapping ps)) ≡ enclosed (codes "{") (entries_piece p ps) (codes "}")
  unfolding layout_within value_layout
  value_mapping_piece ps = ap (with_bytes (entries_piece p ps)) (bytes-enclosed (codes "{") (codes "}") (entries_text p ps) refl refl)

  -- ---- Somes

  some_text : p.extensions.implicit_some ≡ false → (t : Tree)
      → layout_at p bare (value_of (tree.some t)) ≡ in_some (layout_at p p.extensions.unwrap_variant_newtypes (value_of t))
  unfolding layout_within value_layout
  some_text e t = ap (λ s. cond s (value_layout p.config p.extensions p.level bare 1 t)
      (in_some (value_layout p.config p.extensions p.level p.extensions.unwrap_variant_newtypes 0 t))) e

  pub value_some_piece : p.extensions.implicit_some ≡ false → (t : Tree) → value_piece p bare (value_of (tree.some t))
      ≡ enclosed (codes "Some(") (deeper (value_piece p p.extensions.unwrap_variant_newtypes (value_of t))) (codes ")")
  value_some_piece e t =
      ap (with_bytes (deeper (value_piece p bare (value_of t))))
      (ap encode_utf8_all (some_text e t)
      ∙ bytes-enclosed (codes "Some(") (codes ")") (layout_at p p.extensions.unwrap_variant_newtypes (value_of t)) refl refl)

  kept_text : p.extensions.implicit_some ≡ true → (t : Tree) → value_keeps t ≡ true
      → layout_at p bare (value_of (tree.some t)) ≡ in_some (layout_at p bare (value_of t))
  unfolding layout_within
  kept_text e t k = some_laid p.config p.extensions p.level p.docs e bare 0 t ∙ value_kept p.config p.extensions p.level p.docs e t bare 1 k

  pub value_kept_piece : p.extensions.implicit_some ≡ true → (t : Tree) → value_keeps t ≡ true
      → value_piece p bare (value_of (tree.some t)) ≡ enclosed (codes "Some(") (deeper (value_piece p bare (value_of t))) (codes ")")
  value_kept_piece e t k =
      ap (with_bytes (deeper (value_piece p bare (value_of t))))
      (ap encode_utf8_all (kept_text e t k) ∙ bytes-enclosed (codes "Some(") (codes ")") (layout_at p bare (value_of t)) refl refl)

  dropped_text : p.extensions.implicit_some ≡ true → (t : Tree) → value_keeps t ≡ false
      → layout_at p bare (value_of (tree.some t)) ≡ layout_at p bare (value_of t)
  unfolding layout_within
  dropped_text e t k = some_laid p.config p.extensions p.level p.docs e bare 0 t ∙ value_dropped p.config p.extensions p.level p.docs e t bare 1 k

  pub value_dropped_piece : p.extensions.implicit_some ≡ true → (t : Tree) → value_keeps t ≡ false
      → value_piece p bare (value_of (tree.some t)) ≡ deeper (value_piece p bare (value_of t))
  value_dropped_piece e t k = ap (with_bytes (deeper (value_piece p bare (value_of t)))) (ap encode_utf8_all (dropped_text e t k))
