-- A normal form is its own: for the law that layouts are read back.
use Rattle.std.proofs.Common.{◌≡◌, Bool, true, false, cond, List, [], ◌∷◌, refl, sym, ap, ap₂, ◌∙◌}
use Rattle.ron_spec_words.proofs.Values.{Each}
use Rattle.ron_spec_grammar.specs.Data.{Data, bool_of, int_of, char_of, str_of, bytes_of, the_unit, the_none, some_of, unit_struct_of, list_of, tuple_of}
use Rattle.ron_spec_grammar.specs.Data.{tuple_struct_of, map_of, newtype_of, struct_of, unit_variant_of, newtype_variant_of, tuple_variant_of}
use Rattle.ron_spec_grammar.specs.Data.{struct_variant_of, value_of, Datas, no_datas, data_and, Pairs, no_pairs, pair_and, Fields, no_fields, field_and, raw_of}
use Rattle.ron_spec_grammar.specs.Equal.{equal_data, put, put_all, folded}
use Rattle.ron_spec_grammar.proofs.Pairs.{ArePairs, folded_are}
use Rattle.ron_spec_grammar.proofs.Values.Normals.{normal_twice}
use Rattle.ron_spec_layout.specs.Normal.{norm_with, norm_items_with, norm_pairs_with, norm_fields_with}

abbrev append : Pairs → Pairs → Pairs
append no_pairs qs = qs
append (pair_and k d ps) qs = pair_and k d (append ps qs)

abbrev pairs_list : Pairs → List (Data × Data)
pairs_list no_pairs = []
pairs_list (pair_and k d ps) = (k, d) ∷ pairs_list ps

-- ---- different keys

-- none of the pairs' keys is the key
abbrev NoneIs : Data → Pairs → Type 0
NoneIs k no_pairs = Unit {0}
NoneIs k (pair_and l e ps) = (equal_data l k ≡ false) × NoneIs k ps

-- no later key is an earlier one
abbrev Apart : Pairs → Type 0
Apart no_pairs = Unit {0}
Apart (pair_and k d ps) = NoneIs k ps × Apart ps

put-none : (l k d : Data) (ps : Pairs) → NoneIs l ps → equal_data k l ≡ false → NoneIs l (put k d ps)
put-none l k d no_pairs h e = (e, tt)
put-none l k d (pair_and m f ps) h e = go (equal_data k m) (put-none l k d ps h.1 e)
  where
    go : (b : Bool) → NoneIs l (put k d ps) → NoneIs l (cond b (pair_and m d ps) (pair_and m f (put k d ps)))
    go true z = h
    go false z = (h.0, z)

put-apart : (k d : Data) (ps : Pairs) → Apart ps → Apart (put k d ps)
put-apart k d no_pairs h = (tt, tt)
put-apart k d (pair_and l e ps) h = go (equal_data k l) refl (put-apart k d ps h.1)
  where
    go : (b : Bool) → equal_data k l ≡ b → Apart (put k d ps) → Apart (cond b (pair_and l d ps) (pair_and l e (put k d ps)))
    go true q z = h
    go false q z = (put-none l k d ps h.0 q, z)

all-apart : (ps : Pairs) (more : List (Data × Data)) → Apart ps → Apart (put_all ps more)
all-apart ps [] h = h
all-apart ps (p ∷ more) h = all-apart (put p.0 p.1 ps) more (put-apart p.0 p.1 ps h)

-- ---- pairs with different keys are put in as they are

last_none : (k l d : Data) (ps qs : Pairs) → NoneIs l (append ps (pair_and k d qs)) → equal_data k l ≡ false
last_none k l d no_pairs qs h = h.0
last_none k l d (pair_and m f ps) qs h = last_none k l d ps qs h.1

put-new : (k d : Data) (ps qs : Pairs) → Apart (append ps (pair_and k d qs)) → put k d ps ≡ append ps (pair_and k d no_pairs)
put-new k d no_pairs qs h = refl
put-new k d (pair_and l e ps) qs h = rw (last_none k l d ps qs h.0) (ap (pair_and l e) (put-new k d ps qs h.1))

append_more : (ps : Pairs) (k d : Data) (qs : Pairs) → append ps (pair_and k d qs) ≡ append (append ps (pair_and k d no_pairs)) qs
append_more no_pairs k d qs = refl
append_more (pair_and l e ps) k d qs = ap (pair_and l e) (append_more ps k d qs)

append_none : (ps : Pairs) → append ps no_pairs ≡ ps
append_none no_pairs = refl
append_none (pair_and k d ps) = ap (pair_and k d) (append_none ps)

all-own : (ps qs : Pairs) → Apart (append ps qs) → put_all ps (pairs_list qs) ≡ append ps qs
all-own ps no_pairs h = sym (append_none ps)
all-own ps (pair_and k d qs) h =
    ap (λ z. put_all z (pairs_list qs)) (put-new k d ps qs h) ∙ all-own (append ps (pair_and k d no_pairs)) qs (rw append_more at h)
    ∙ sym (append_more ps k d qs)

-- ---- keys and values in normal form

module _ (suffixes : Bool) where
  abbrev Normal : Data → Type 0
  Normal d = norm_with suffixes d ≡ d

  pairs_normal : (ps : Pairs) → ArePairs Normal Normal ps → norm_pairs_with suffixes ps ≡ pairs_list ps
  pairs_normal no_pairs h = refl
  pairs_normal (pair_and k d ps) h = ap₂ (λ p more. p ∷ more) (ap₂ (λ a b. (a, b)) h.0 h.1) (pairs_normal ps h.2)

  map_normal : (ps : Pairs) → Each (λ p. Normal p.0 × Normal p.1) (norm_pairs_with suffixes ps)
      → norm_with suffixes (map_of (folded (norm_pairs_with suffixes ps))) ≡ map_of (folded (norm_pairs_with suffixes ps))
  map_normal ps h =
      let r = folded (norm_pairs_with suffixes ps) in
      ap (λ more. map_of (folded more)) (pairs_normal r (folded_are Normal Normal (norm_pairs_with suffixes ps) h))
      ∙ ap map_of (all-own no_pairs r (all-apart no_pairs (norm_pairs_with suffixes ps) tt))

  mutual
    pub normal : (d : Data) → norm_with suffixes (norm_with suffixes d) ≡ norm_with suffixes d
    normal (bool_of b) = refl
    normal (int_of w n) = refl
    normal (char_of c) = refl
    normal (str_of t) = refl
    normal (bytes_of bs) = refl
    normal the_unit = refl
    normal the_none = refl
    normal (some_of d) = ap some_of (normal d)
    normal (unit_struct_of name) = refl
    normal (list_of ds) = ap list_of (items_normal ds)
    normal (tuple_of ds) = ap tuple_of (items_normal ds)
    normal (tuple_struct_of name ds) = ap (tuple_struct_of name) (items_normal ds)
    normal (map_of ps) = map_normal ps (keys_normal ps)
    normal (newtype_of name d) = ap (newtype_of name) (normal d)
    normal (struct_of name fields) = ap (struct_of name) (fields_normal fields)
    normal (unit_variant_of name v) = refl
    normal (newtype_variant_of name v d) = ap (newtype_variant_of name v) (normal d)
    normal (tuple_variant_of name v ds) = ap (tuple_variant_of name v) (items_normal ds)
    normal (struct_variant_of name v fields) = ap (struct_variant_of name v) (fields_normal fields)
    normal (raw_of t) = refl
    normal (value_of t) = ap value_of (normal_twice suffixes t)

    items_normal : (ds : Datas) → norm_items_with suffixes (norm_items_with suffixes ds) ≡ norm_items_with suffixes ds
    items_normal no_datas = refl
    items_normal (data_and d ds) = ap₂ data_and (normal d) (items_normal ds)

    keys_normal : (ps : Pairs) → Each (λ p. Normal p.0 × Normal p.1) (norm_pairs_with suffixes ps)
    keys_normal no_pairs = tt
    keys_normal (pair_and k d ps) = ((normal k, normal d), keys_normal ps)

    fields_normal : (fields : Fields) → norm_fields_with suffixes (norm_fields_with suffixes fields) ≡ norm_fields_with suffixes fields
    fields_normal no_fields = refl
    fields_normal (field_and name d fields) = ap₂ (field_and name) (normal d) (fields_normal fields)
