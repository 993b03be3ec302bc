-- Two data are the same exactly where they are equal.
use Rattle.std.proofs.Common.{◌≡◌, Bool, true, false, ◌&&◌, refl, sym, ap, ap₂, ◌∙◌, eqb-true, eq-eqb}
use Rattle.std.specs.Ordering.{int_eq}
use Rattle.std.specs.Cmp.{eq_by_cmp_equiv}
use Rattle.std.proofs.lemmas.Bool.{and_parts, and_from}
use Rattle.std.proofs.lemmas.Bool.Decides.{Decides-int_eq}
use Rattle.ron_spec_words.specs.Runs.{same_text}
use Rattle.ron_value_number.specs.declared.width.Width.{Width}
use Rattle.ron_value_number.specs.Width.{width_place, same_width}
use Rattle.ron_value.specs.OrderLaws.{tree_cmp_total, tree_eq_same, width_at, width_back}
use Rattle.ron_spec_grammar.specs.Data.{Data, bool_of, int_of, char_of, str_of, bytes_of, the_unit, the_none, some_of, unit_struct_of, list_of, tuple_of}
use Rattle.ron_spec_grammar.specs.Data.{tuple_struct_of, map_of, newtype_of, struct_of, unit_variant_of, newtype_variant_of, tuple_variant_of}
use Rattle.ron_spec_grammar.specs.Data.{struct_variant_of, value_of, raw_of, Datas, no_datas, data_and, Pairs, no_pairs, pair_and, Fields, no_fields, field_and}
use Rattle.ron_spec_grammar.specs.Equal.{equal_bool, equal_data, equal_items, equal_pairs, equal_fields}
use Rattle.ron_spec_grammar.proofs.Finding.{same_is, same_self}

bool_is : (a b : Bool) → equal_bool a b ≡ true → a ≡ b
bool_is true true e = refl
bool_is true false e = absurd (cc)
bool_is false true e = absurd (cc)
bool_is false false e = refl

width_is : (v w : Width) → same_width v w ≡ true → v ≡ w
width_is v w e = sym (width_back v) ∙ ap width_at (eqb-true (width_place v) (width_place w) e) ∙ width_back w

mutual
  unfolding equal_data

  pub data_is : (d e : Data) → equal_data d e ≡ true → d ≡ e
  data_is (bool_of a) (bool_of b) h = ap bool_of (bool_is a b h)
  data_is (char_of c) (char_of d) h = ap char_of (eqb-true c d h)
  data_is (str_of s) (str_of t) h = ap str_of (same_is s t h)
  data_is (bytes_of s) (bytes_of t) h = ap bytes_of (same_is s t h)
  data_is the_unit the_unit h = refl
  data_is the_none the_none h = refl
  data_is (some_of d) (some_of e) h = ap some_of (data_is d e h)
  data_is (unit_struct_of s) (unit_struct_of t) h = ap unit_struct_of (same_is s t h)
  data_is (list_of ds) (list_of es) h = ap list_of (items_are ds es h)
  data_is (tuple_of ds) (tuple_of es) h = ap tuple_of (items_are ds es h)
  data_is (tuple_struct_of s ds) (tuple_struct_of t es) h = let k = and_parts (same_text s t) (equal_items ds es) h in
      ap₂ tuple_struct_of (same_is s t k.0) (items_are ds es k.1)
  data_is (map_of ps) (map_of qs) h = ap map_of (pairs_are ps qs h)
  data_is (newtype_of s d) (newtype_of t e) h = let k = and_parts (same_text s t) (equal_data d e) h in ap₂ newtype_of (same_is s t k.0) (data_is d e k.1)
  data_is (struct_of s ds) (struct_of t es) h = let k = and_parts (same_text s t) (equal_fields ds es) h in
      ap₂ struct_of (same_is s t k.0) (fields_are ds es k.1)
  data_is (int_of v m) (int_of w n) h = let k = and_parts (same_width v w) (int_eq m n) h in ap₂ int_of (width_is v w k.0) ((Decides-int_eq m n).0 k.1)
  data_is (unit_variant_of s v) (unit_variant_of t w) h = let k = and_parts (same_text s t) (same_text v w) h in
      ap₂ unit_variant_of (same_is s t k.0) (same_is v w k.1)
  data_is (newtype_variant_of s v d) (newtype_variant_of t w e) h =
      let a = and_parts (same_text s t) (same_text v w && equal_data d e) h in
      let b = and_parts (same_text v w) (equal_data d e) a.1 in
      ap (λ n. newtype_variant_of n v d) (same_is s t a.0) ∙ ap₂ (newtype_variant_of t) (same_is v w b.0) (data_is d e b.1)
  data_is (tuple_variant_of s v d) (tuple_variant_of t w e) h =
      let a = and_parts (same_text s t) (same_text v w && equal_items d e) h in
      let b = and_parts (same_text v w) (equal_items d e) a.1 in
      ap (λ n. tuple_variant_of n v d) (same_is s t a.0) ∙ ap₂ (tuple_variant_of t) (same_is v w b.0) (items_are d e b.1)
  data_is (struct_variant_of s v d) (struct_variant_of t w e) h =
      let a = and_parts (same_text s t) (same_text v w && equal_fields d e) h in
      let b = and_parts (same_text v w) (equal_fields d e) a.1 in
      ap (λ n. struct_variant_of n v d) (same_is s t a.0) ∙ ap₂ (struct_variant_of t) (same_is v w b.0) (fields_are d e b.1)
  data_is (value_of s) (value_of t) h = ap value_of (tree_eq_same s t h)
  data_is (raw_of s) (raw_of t) h = ap raw_of (same_is s t h)
  data_is _ _ h = absurd (cc)

  items_are : (ds es : Datas) → equal_items ds es ≡ true → ds ≡ es
  items_are no_datas no_datas h = refl
  items_are (data_and d ds) (data_and e es) h = let k = and_parts (equal_data d e) (equal_items ds es) h in ap₂ data_and (data_is d e k.0) (items_are ds es k.1)
  items_are _ _ h = absurd (cc)

  pairs_are : (ps qs : Pairs) → equal_pairs ps qs ≡ true → ps ≡ qs
  pairs_are no_pairs no_pairs h = refl
  pairs_are (pair_and k d ps) (pair_and l e qs) h =
      let a = and_parts (equal_data k l) (equal_data d e && equal_pairs ps qs) h in
      let b = and_parts (equal_data d e) (equal_pairs ps qs) a.1 in
      ap (λ x. pair_and x d ps) (data_is k l a.0) ∙ ap₂ (pair_and l) (data_is d e b.0) (pairs_are ps qs b.1)
  pairs_are _ _ h = absurd (cc)

  fields_are : (ds es : Fields) → equal_fields ds es ≡ true → ds ≡ es
  fields_are no_fields no_fields h = refl
  fields_are (field_and s d ds) (field_and t e es) h =
      let a = and_parts (same_text s t) (equal_data d e && equal_fields ds es) h in
      let b = and_parts (equal_data d e) (equal_fields ds es) a.1 in
      ap (λ x. field_and x d ds) (same_is s t a.0) ∙ ap₂ (field_and t) (data_is d e b.0) (fields_are ds es b.1)
  fields_are _ _ h = absurd (cc)

bool_self : (b : Bool) → equal_bool b b ≡ true
bool_self true = refl
bool_self false = refl

-- each data is the same as itself
mutual
  unfolding equal_data

  pub data_self : (d : Data) → equal_data d d ≡ true
  data_self (bool_of b) = bool_self b
  data_self (int_of w n) = and_from (same_width w w) (int_eq n n) (eq-eqb (width_place w) (width_place w) refl) ((Decides-int_eq n n).1 refl)
  data_self (char_of c) = eq-eqb c c refl
  data_self (str_of t) = same_self t
  data_self (bytes_of bs) = same_self bs
  data_self the_unit = refl
  data_self the_none = refl
  data_self (some_of d) = data_self d
  data_self (unit_struct_of name) = same_self name
  data_self (list_of ds) = items_self ds
  data_self (tuple_of ds) = items_self ds
  data_self (tuple_struct_of name ds) = and_from (same_text name name) (equal_items ds ds) (same_self name) (items_self ds)
  data_self (map_of ps) = pairs_self ps
  data_self (newtype_of name d) = and_from (same_text name name) (equal_data d d) (same_self name) (data_self d)
  data_self (struct_of name ds) = and_from (same_text name name) (equal_fields ds ds) (same_self name) (fields_self ds)
  data_self (unit_variant_of name v) = and_from (same_text name name) (same_text v v) (same_self name) (same_self v)
  data_self (newtype_variant_of name v d) =
      and_from (same_text name name) _ (same_self name) (and_from (same_text v v) (equal_data d d) (same_self v) (data_self d))
  data_self (tuple_variant_of name v ds) =
      and_from (same_text name name) _ (same_self name) (and_from (same_text v v) (equal_items ds ds) (same_self v) (items_self ds))
  data_self (struct_variant_of name v ds) =
      and_from (same_text name name) _ (same_self name) (and_from (same_text v v) (equal_fields ds ds) (same_self v) (fields_self ds))
  data_self (raw_of t) = same_self t
  data_self (value_of t) = (eq_by_cmp_equiv tree_cmp_total).refl t

  items_self : (ds : Datas) → equal_items ds ds ≡ true
  items_self no_datas = refl
  items_self (data_and d ds) = and_from (equal_data d d) (equal_items ds ds) (data_self d) (items_self ds)

  pairs_self : (ps : Pairs) → equal_pairs ps ps ≡ true
  pairs_self no_pairs = refl
  pairs_self (pair_and k d ps) = and_from (equal_data k k) _ (data_self k) (and_from (equal_data d d) (equal_pairs ps ps) (data_self d) (pairs_self ps))

  fields_self : (ds : Fields) → equal_fields ds ds ≡ true
  fields_self no_fields = refl
  fields_self (field_and name d ds) =
      and_from (same_text name name) _ (same_self name) (and_from (equal_data d d) (equal_fields ds ds) (data_self d) (fields_self ds))
