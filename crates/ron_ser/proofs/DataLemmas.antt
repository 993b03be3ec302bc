-- The layout's pieces, case by case of data: for `write`.
use Rattle.std.proofs.Common.{◌≡◌, ℕ, Bool, true, false, nat_lt, cond, ◌&&◌, ◌||◌, List, [], ◌++◌, codes, encode_utf8_all, chars, IsUtf8, ℤ, Some, None, refl}
use Rattle.std.proofs.Common.{sym, ap, ◌∙◌, append-nil}
use Rattle.std.proofs.lemmas.Str.{encodes-chars}
use Rattle.std.specs.List.{list_all}
use Rattle.std.specs.Option.{is_some}
use lib.Utf8.{scalar}
use Rattle.ron_spec_words.specs.Characters.{Text}
use Rattle.ron_spec_words.specs.Name.{is_name}
use Rattle.ron_spec_grammar.specs.Data.{Data, bool_of, int_of, char_of, str_of, bytes_of, the_unit, the_none, some_of, unit_struct_of, list_of, tuple_of}
use Rattle.ron_spec_grammar.specs.Data.{tuple_struct_of, map_of, newtype_of, struct_of, raw_of, Datas, Pairs, Fields}
use Rattle.ron_value_number.specs.declared.width.Width.{Width}
use Rattle.ron_spec_layout.specs.Name.{written_name}
use Rattle.ron_spec_layout.specs.Brackets.{bracketed, written_bool, behind_name, unit_struct_text}
use Rattle.ron_spec_layout.specs.Layout.{layout_within}
use Rattle.ron_spec_layout.specs.Bytes.{name_bytes}
use Rattle.ron_spec_layout.specs.Literals.{written_char, number_text}
use Rattle.ron_spec_layout.specs.Ranges.{range_text, compact_range}
use Rattle.ron_spec_layout.specs.Unescaped.{string_text, bytes_text}
use Rattle.ron_spec_layout.specs.Depth.{fields_writer_depth}
use Rattle.ron_spec_layout.proofs.Keeping.{kept, dropped}
use Rattle.ron_spec_layout.proofs.Equations.{layout-boolean, layout-integer, layout-char, layout-string, layout-bytes, layout-unit, layout-list, layout-map}
use Rattle.ron_spec_layout.proofs.Equations.{layout-unit_variant, layout-newtype_variant, layout-tuple_variant, layout-struct_variant, layout-range}
use Rattle.ron_spec_layout.proofs.Equations.{layout-struct, layout-full_range, layout-unit_struct, layout-none, layout-implicit_some, layout-explicit_some}
use Rattle.ron_spec_layout.proofs.Equations.{layout-tuple_now, layout-tuple_struct_now, layout-newtype_alone, layout-newtype, layout-raw}
use Rattle.ron_spec_layout.proofs.Bytes.{ascii_text, bytes-enclosed, bytes-named, bytes-boolean}
use Rattle.ron_spec_layout.proofs.Bytes.{bytes-number}
use Rattle.ron_data.specs.Datum.{Content, no_content, one_of, items_of, named_of, variant_of}
use Rattle.ron_ser.specs.declared.container.Container.TheVariants as container
use Rattle.ron_ser.specs.Place.{Place, left, right}
use Rattle.ron_ser.specs.Written.{keeps_at}
use Rattle.ron_ser.specs.Piece.{Piece, value_piece, items_text, items_piece, pairs_text, pairs_piece, fields_text, fields_piece, plain, deeper, enclosed}
use Rattle.ron_ser.specs.Piece.{content_piece, opening, closing, unit_bytes, requires_names, required_name}
use Rattle.ron_ser.proofs.PieceLemmas.{named, piece_of, same_piece}
use Rattle.ron_ser.proofs.RangeLemmas.{plain_range}

-- a piece of other bytes
abbrev pub with_bytes : Piece → List ℕ → Piece
with_bytes p bs = piece_of bs p.names p.refused p.depth p.encodable

-- the layout at a place
abbrev pub layout_at : Place → Bool → Data → Text
layout_at p bare d = layout_within p.config p.extensions p.level p.docs bare 0 d

-- ---- bytes of brackets and names

brackets : (bare : Bool) (t : Text) → encode_utf8_all (bracketed bare t) ≡ opening bare ++ (encode_utf8_all t ++ closing bare)
brackets true t = sym (append-nil (encode_utf8_all t))
brackets false t = bytes-enclosed (codes "(") (codes ")") t refl refl

-- a name that is written where names are, and what stands behind it
behind_bytes : (p : Place) (bare : Bool) (name t : Text)
    → encode_utf8_all (behind_name (requires_names p) bare name t) ≡ required_name p bare name ++ encode_utf8_all t
behind_bytes p true name t = refl
behind_bytes p false name t = elim (requires_names p)
    as (λ b. encode_utf8_all (behind_name b false name t) ≡ cond b (name_bytes name) [] ++ encode_utf8_all t) [ true ↦ bytes-named name t | false ↦ refl ]

in_brackets : (p : Place) (bare : Bool) (name t : Text) → encode_utf8_all (behind_name (requires_names p) bare name (bracketed bare t))
    ≡ required_name p bare name ++ (opening bare ++ (encode_utf8_all t ++ closing bare))
in_brackets p bare name t = behind_bytes p bare name (bracketed bare t) ∙ ap (λ b. required_name p bare name ++ b) (brackets bare t)

no_bytes : (b : Bool) → encode_utf8_all [] ≡ cond b [] []
no_bytes true = refl
no_bytes false = refl

and_true : (b : Bool) → b ≡ (b && true)
and_true true = refl
and_true false = refl

module _ (p : Place) (bare : Bool) where
  -- ---- what holds no others

  pub bool_piece : (b : Bool) → value_piece p bare (bool_of b) ≡ plain (written_bool b)
  bool_piece b = ap plain (ap encode_utf8_all (layout-boolean p.config p.extensions p.level p.docs bare 0 b) ∙ bytes-boolean b)

  pub int_piece : (w : Width) (n : ℤ) → value_piece p bare (int_of w n) ≡ plain (number_text p.config.number_suffixes w n)
  int_piece w n = ap plain (ap encode_utf8_all (layout-integer p.config p.extensions p.level p.docs bare 0 w n) ∙ bytes-number p.config.number_suffixes w n)

  pub char_piece : (c : ℕ)
      → value_piece p bare (char_of c) ≡ record { bytes = encode_utf8_all (written_char c); names = true; refused = None; depth = 0; encodable = scalar c }
  char_piece c = ap (λ t. piece_of (encode_utf8_all t) true None 0 (scalar c)) (layout-char p.config p.extensions p.level p.docs bare 0 c)

  pub str_piece : (t : Text) → value_piece p bare (str_of t)
      ≡ record { bytes = encode_utf8_all (string_text p.config.escape_strings t); names = true; refused = None; depth = 0; encodable = list_all scalar t }
  str_piece t = ap (λ u. piece_of (encode_utf8_all u) true None 0 (list_all scalar t)) (layout-string p.config p.extensions p.level p.docs bare 0 t)

  pub bytes_piece : (bs : List ℕ) → value_piece p bare (bytes_of bs) ≡ record {
    bytes = encode_utf8_all (bytes_text p.config.escape_strings bs);
    names = true;
    refused = None;
    depth = 0;
    encodable = list_all (λ b. nat_lt b 256) bs;
  }
  bytes_piece bs =
      ap (λ u. piece_of (encode_utf8_all u) true None 0 (list_all (λ b. nat_lt b 256) bs)) (layout-bytes p.config p.extensions p.level p.docs bare 0 bs)

  pub raw_piece : (bs : List ℕ) → IsUtf8 bs → value_piece p bare (raw_of (chars bs)) ≡ deeper (plain bs)
  raw_piece bs u =
      ap (λ b. piece_of b true None 1 true) (ap encode_utf8_all (layout-raw p.config p.extensions p.level p.docs bare 0 (chars bs)) ∙ encodes-chars bs u)

  pub unit_piece : value_piece p bare the_unit ≡ plain (unit_bytes bare)
  unit_piece = ap (λ t. plain (encode_utf8_all t)) (layout-unit p.config p.extensions p.level p.docs bare 0)
      ∙ ap plain (elim bare as (λ b. encode_utf8_all (bracketed b []) ≡ unit_bytes b) [ true ↦ refl | false ↦ ascii_text (codes "()") refl ])

  pub none_piece : value_piece p bare the_none ≡ plain (codes "None")
  none_piece = ap (λ t. plain (encode_utf8_all t)) (layout-none p.config p.extensions p.level p.docs bare 0) ∙ ap plain (ascii_text (codes "None") refl)

  -- its name where names are written, and else like the unit
  pub unit_struct_piece : (name : Text) → compact_range p.config (unit_struct_of name) ≡ None
      → value_piece p bare (unit_struct_of name) ≡ named (required_name p bare name) name (plain (cond (requires_names p) [] (unit_bytes bare)))
  unfolding named
  unit_struct_piece name e = same_piece _ _ _ _ _ _ _ _ _ _
      (ap encode_utf8_all (layout-unit_struct p.config p.extensions p.level p.docs bare 0 name e) ∙ text bare) (and_true (is_name name)) refl refl refl
    where
      text : (bare : Bool)
          → encode_utf8_all (unit_struct_text (requires_names p) bare name) ≡ required_name p bare name ++ cond (requires_names p) [] (unit_bytes bare)
      text true = no_bytes (requires_names p)
      text false = elim (requires_names p) as (λ b. encode_utf8_all (unit_struct_text b false name)
          ≡ cond b (name_bytes name) [] ++ cond b [] (codes "()")) [ true ↦ sym (append-nil (name_bytes name)) | false ↦ ascii_text (codes "()") refl ]

  -- ---- ranges

  is_range : (d : Data) (t : Text) → compact_range p.config d ≡ Some t → range_text p.config.number_suffixes d ≡ Some t
  is_range d t e = go p.config.compact_ranges e
    where
      go : (b : Bool) → cond b (range_text p.config.number_suffixes d) None ≡ Some t → range_text p.config.number_suffixes d ≡ Some t
      go true e = e
      go false e = absurd (cc)

  pub full_range_piece : (name t : Text) → compact_range p.config (unit_struct_of name) ≡ Some t → value_piece p bare (unit_struct_of name) ≡ plain t
  full_range_piece name t e =
      let d = unit_struct_of name in
      let r = plain_range p.config.number_suffixes d t (is_range d t e) in
      same_piece _ _ _ _ _ _ _ _ _ _ (ap encode_utf8_all (layout-full_range p.config p.extensions p.level p.docs bare 0 name t e) ∙ r.bytes) r.names r.clear
      refl r.encodable

  pub range_piece : (name : Text) (fields : Fields) (t : Text) → compact_range p.config (struct_of name fields) ≡ Some t
      → value_piece p bare (struct_of name fields) ≡ plain t
  range_piece name fields t e =
      let d = struct_of name fields in
      let r = plain_range p.config.number_suffixes d t (is_range d t e) in
      same_piece _ _ _ _ _ _ _ _ _ _ (ap encode_utf8_all (layout-range p.config p.extensions p.level p.docs bare 0 name fields t e) ∙ r.bytes) r.names r.clear
      (ap (λ o. cond (is_some o) 0 (fields_writer_depth p.config fields)) e) r.encodable

  -- ---- items, keys and values, and fields

  pub list_piece : (ds : Datas) → value_piece p bare (list_of ds) ≡ enclosed (codes "[") (items_piece p container.List ds) (codes "]")
  list_piece ds = ap (with_bytes (items_piece p container.List ds)) (ap encode_utf8_all (layout-list p.config p.extensions p.level p.docs bare 0 ds)
      ∙ bytes-enclosed (codes "[") (codes "]") (items_text p container.List ds) refl refl)

  pub tuple_piece : (ds : Datas)
      → value_piece p bare (tuple_of ds) ≡ enclosed (left (container.Tuple bare)) (items_piece p (container.Tuple bare) ds) (right (container.Tuple bare))
  tuple_piece ds = ap (with_bytes (items_piece p (container.Tuple bare) ds))
      (ap encode_utf8_all (layout-tuple_now p.config p.extensions p.level p.docs bare ds) ∙ brackets bare (items_text p (container.Tuple bare) ds))

  pub tuple_struct_piece : (name : Text) (ds : Datas) → value_piece p bare (tuple_struct_of name ds)
      ≡ named (required_name p bare name) name (enclosed (left (container.Tuple bare)) (items_piece p (container.Tuple bare) ds) (right (container.Tuple bare)))
  unfolding named
  tuple_struct_piece name ds = ap (with_bytes (named [] name (items_piece p (container.Tuple bare) ds))) (ap encode_utf8_all
      (layout-tuple_struct_now p.config p.extensions p.level p.docs bare name ds) ∙ in_brackets p bare name (items_text p (container.Tuple bare) ds))

  pub map_piece : (ps : Pairs) → value_piece p bare (map_of ps) ≡ enclosed (codes "{") (pairs_piece p ps) (codes "}")
  map_piece ps = ap (with_bytes (pairs_piece p ps))
      (ap encode_utf8_all (layout-map p.config p.extensions p.level p.docs bare 0 ps) ∙ bytes-enclosed (codes "{") (codes "}") (pairs_text p ps) refl refl)

  pub struct_piece : (name : Text) (fields : Fields) → compact_range p.config (struct_of name fields) ≡ None
      → value_piece p bare (struct_of name fields) ≡ named (required_name p bare name) name (enclosed (opening bare) (fields_piece p fields) (closing bare))
  unfolding named
  struct_piece name ds e = same_piece _ _ _ _ _ _ _ _ _ _ (ap encode_utf8_all (layout-struct p.config p.extensions p.level p.docs bare 0 name ds e)
      ∙ in_brackets p bare name (fields_text p ds)) refl refl (ap (λ o. cond (is_some o) 0 (fields_writer_depth p.config ds)) e) refl

  -- ---- options and newtypes

  pub some_piece : p.extensions.implicit_some ≡ false → (d : Data)
      → value_piece p bare (some_of d) ≡ enclosed (codes "Some(") (deeper (value_piece p p.extensions.unwrap_variant_newtypes d)) (codes ")")
  some_piece e d = ap (with_bytes (deeper (value_piece p bare d))) (ap encode_utf8_all (layout-explicit_some p.config p.extensions p.level p.docs e bare 0 d)
      ∙ bytes-enclosed (codes "Some(") (codes ")") (layout_at p p.extensions.unwrap_variant_newtypes d) refl refl)

  pub kept_piece : p.extensions.implicit_some ≡ true → (d : Data) → keeps_at p bare d ≡ true
      → value_piece p bare (some_of d) ≡ enclosed (codes "Some(") (deeper (value_piece p bare d)) (codes ")")
  kept_piece e d k = ap (with_bytes (deeper (value_piece p bare d))) (ap encode_utf8_all (layout-implicit_some p.config p.extensions p.level p.docs e bare 0 d
      ∙ kept p.config p.extensions p.level p.docs e d bare 1 k) ∙ bytes-enclosed (codes "Some(") (codes ")") (layout_at p bare d) refl refl)

  pub dropped_piece : p.extensions.implicit_some ≡ true → (d : Data) → keeps_at p bare d ≡ false
      → value_piece p bare (some_of d) ≡ deeper (value_piece p bare d)
  dropped_piece e d k = ap (with_bytes (deeper (value_piece p bare d)))
      (ap encode_utf8_all (layout-implicit_some p.config p.extensions p.level p.docs e bare 0 d ∙ dropped p.config p.extensions p.level p.docs e d bare 1 k))

  -- its content stands alone where the newtype is bare, or unwrapped
  newtype_text : (name : Text) (d : Data) → layout_at p bare (newtype_of name d)
      ≡ behind_name (requires_names p) (bare || p.extensions.unwrap_newtypes) name (bracketed (bare || p.extensions.unwrap_newtypes) (layout_at p false d))
  newtype_text name d = elim (bare || p.extensions.unwrap_newtypes) as (λ b. (bare || p.extensions.unwrap_newtypes) ≡ b
      → layout_at p bare (newtype_of name d) ≡ behind_name (requires_names p) b name (bracketed b (layout_at p false d))) [
        | true ↦ λ e. layout-newtype_alone p.config p.extensions p.level p.docs bare e 0 name d
        | false ↦ λ e. layout-newtype p.config p.extensions p.level p.docs bare e 0 name d
      ] refl

  pub newtype_piece : {alone : Bool} {l r : List ℕ} → alone ≡ (bare || p.extensions.unwrap_newtypes) → l ≡ opening alone → r ≡ closing alone → (name : Text)
      (d : Data) → value_piece p bare (newtype_of name d) ≡ named (required_name p alone name) name (enclosed l (deeper (value_piece p false d)) r)
  unfolding named
  newtype_piece i l r name d = rw (l, r, i) (ap (with_bytes (named [] name (deeper (value_piece p false d))))
      (ap encode_utf8_all (newtype_text name d) ∙ in_brackets p (bare || p.extensions.unwrap_newtypes) name (layout_at p false d)))

  -- ---- variants

  -- behind the variant's name, in brackets
  held_bytes : (v t : Text) → encode_utf8_all (written_name v ++ bracketed false t) ≡ name_bytes v ++ (codes "(" ++ (encode_utf8_all t ++ codes ")"))
  held_bytes v t = bytes-named v (bracketed false t) ∙ ap (λ u. name_bytes v ++ u) (brackets false t)

  -- the enum's name is checked, and the variant's written
  pub variant_piece : (name v : Text) (content : Content)
      → value_piece p bare (variant_of name v content) ≡ named [] name (named (name_bytes v) v (content_piece p content))
  unfolding named
  variant_piece name v no_content =
      same_piece _ _ _ _ _ _ _ _ _ _ (ap encode_utf8_all (layout-unit_variant p.config p.extensions p.level p.docs bare 0 name v)
      ∙ sym (append-nil (name_bytes v))) (ap (λ b. is_name name && b) (and_true (is_name v))) refl refl refl
  variant_piece name v (one_of d) =
      ap (with_bytes (named [] name (named [] v (deeper (value_piece p p.extensions.unwrap_variant_newtypes d))))) (ap encode_utf8_all
      (layout-newtype_variant p.config p.extensions p.level p.docs bare 0 name v d) ∙ held_bytes v (layout_at p p.extensions.unwrap_variant_newtypes d))
  variant_piece name v (items_of ds) =
      ap (with_bytes (named [] name (named [] v (items_piece p (container.Tuple false) ds))))
      (ap encode_utf8_all (layout-tuple_variant p.config p.extensions p.level p.docs bare 0 name v ds) ∙ held_bytes v (items_text p (container.Tuple false) ds))
  variant_piece name v (named_of fields) =
      ap (with_bytes (named [] name (named [] v (fields_piece p fields))))
      (ap encode_utf8_all (layout-struct_variant p.config p.extensions p.level p.docs bare 0 name v fields) ∙ held_bytes v (fields_text p fields))
