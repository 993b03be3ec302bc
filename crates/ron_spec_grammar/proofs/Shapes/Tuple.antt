-- What the rules of tuples and tuple structs owe: as many items as the shape has are read exactly.
use Rattle.std.proofs.Common.{◌≡◌, ℕ, suc, ◌+◌, ◌≤◌, ◌==◌, Bool, true, false, cond, List, [], ◌∷◌, length, Option, Some, None, slice_get, refl, sym, ap, subst}
use Rattle.std.proofs.Common.{◌∙◌, arith, eqb-true}
use Rattle.std.proofs.lemmas.Option.{same_Some}
use Rattle.std.specs.List.{list_all}
use Rattle.ron_spec_words.specs.Characters.{Text, left_parenthesis, right_parenthesis}
use Rattle.ron_spec_words.specs.Runs.{is_at}
use Rattle.ron_spec_words.specs.Lang.{done, Needs}
use Rattle.ron_spec_words.specs.Reader.{needs}
use Rattle.ron_spec_words.specs.Exact.{Anything, Before, FollowsValue}
use Rattle.ron_spec_words.proofs.Words.{first_means, first_or}
use Rattle.ron_spec_words.proofs.Classes.{Solid, solid_mark, first_solid}
use Rattle.ron_spec_words.proofs.Names.{word_named, name_solid, name_no_bracket}
use Rattle.ron_spec_words.proofs.Exactly.{Opens, first_then, first_mark}
use Rattle.ron_spec_words.proofs.WordsPass.{passes_named}
use Rattle.ron_spec_words.proofs.Parts.{Part, part_more, part_any, part_fail, part_weaker, part_means, part_needs, part_behind, part_choose, part_opt_comma}
use Rattle.ron_spec_words.proofs.Parts.{part_group}
use Rattle.ron_spec_grammar.specs.Data.{Data, Datas, no_datas, tuple_of, tuple_struct_of, datas}
use Rattle.ron_spec_grammar.specs.Schema.{Shape, tuple, tuple_struct, has_distinct_names, OfShape, EachOfShape}
use Rattle.ron_spec_grammar.specs.Rule.{Langs, Readers}
use Rattle.ron_spec_grammar.specs.Room.{step}
use Rattle.ron_spec_grammar.specs.Shapes.Tuple.{as_many, AtShape, TupleItems, BareItems, TupleGroup, TupleText, TupleStructText, at_shape, tuple_items}
use Rattle.ron_spec_grammar.specs.Shapes.Tuple.{bare_items, tuple_group, read_tuple, read_tuple_struct}
use Rattle.ron_spec_grammar.proofs.Room.{Sizes, size, size_within, size_inside}
use Rattle.ron_spec_grammar.proofs.Rule.{After, IsDataOf, Fit, part_without, first_without, part_no_gap}
use Rattle.ron_spec_grammar.proofs.Behind.{EachBehind, part_items_behind}

-- ---- the data

-- behind these items, an item is of the shape whose turn it is, one level below the k levels of what holds the items
abbrev ItemOf : List Shape → ℕ → ℕ → List ℕ → List Data → Data → Type 0
ItemOf schema room k js seen d = (j : ℕ) × (slice_get js (length seen) ≡ Some j) × IsDataOf schema room (suc k) j d

module _ (schema : List Shape) (room k : ℕ) (all : List ℕ) where
  each_are : (js : List ℕ) (seen ds : List Data) → ((n : ℕ) → slice_get all (length seen + n) ≡ slice_get js n) → EachBehind (ItemOf schema room k all) seen ds
      → length ds ≡ length js
      → list_all has_distinct_names schema ≡ true → EachOfShape schema js (datas ds)
  each_are [] seen [] same h e = (λ _. tt)
  each_are [] seen (d ∷ ds) same h e = absurd (cc)
  each_are (j ∷ js) seen [] same h e = absurd (cc)
  each_are (j ∷ js) seen (d ∷ ds) same h e =
      let less : length ds ≡ length js = omega (arith, e) in
      let more = each_are js (d ∷ seen) ds (λ n. ap (slice_get all) (omega arith) ∙ same (suc n)) h.1 less in
      let turn : length seen ≡ length seen + 0 = omega arith in
      let is : h.0.0 ≡ j = same_Some h.0.0 j (sym h.0.1 ∙ ap (slice_get all) turn ∙ same 0) in
      (λ formed. (subst (λ n. OfShape schema n d) is (h.0.2.of_shape formed), more formed))

-- what is made of items is of the shape at an index where the items are of these shapes
pub record IsMade (schema : List Shape) (k : ℕ) (make : Datas → Data) (js : List ℕ) (i : ℕ) : Type 0 where
  pub of_shape : (ds : Datas) → EachOfShape schema js ds → OfShape schema i (make ds)

module _ {schema : List Shape} {room : ℕ} (k : ℕ) (make : Datas → Data) (js : List ℕ) (i : ℕ) (made : IsMade schema k make js i) where
  is_tuple : (ds : List Data) (d : Data) → EachBehind (ItemOf schema room k js) [] ds → as_many make js ds ≡ Some d → k ≤ room → IsDataOf schema room 0 i d
  is_tuple ds d items e le = go (length ds == length js) refl e
    where
      go : (b : Bool) → (length ds == length js) ≡ b → cond b (Some (make (datas ds))) None ≡ Some d → IsDataOf schema room 0 i d
      go false n q = absurd (cc)
      go true n q =
          let same : make (datas ds) ≡ d = cc in
          let z =
          each_are schema room k js js [] ds (λ n. (let none : 0 + n ≡ n = omega arith in ap (slice_get js) none)) items (eqb-true (length ds) (length js) n) in
          rw (← same) (record { of_shape = λ formed. made.of_shape (datas ds) (z formed) })

-- ---- the text

-- of readers k + 1 levels down
module _ {schema : List Shape} {room : ℕ} (k : ℕ) {base : ℕ → ℕ} (q r : Readers) (L : Langs) (h : Fit schema base room (suc k) q r L) (e : ℕ)
    (wide : (j : ℕ) → size schema base false j + suc k ≤ e) (js : List ℕ) (i : ℕ) where
  pub part_at : (o : Option ℕ) (before : Text)
      → Part room (step schema) false (λ d. (j : ℕ) × (o ≡ Some j) × IsDataOf schema room (suc k) j d) (at_shape q o before) (at_shape r o before)
      (AtShape L o before) FollowsValue e
  part_at None before = part_fail
  part_at (Some j) before = part_weaker (λ d p. (j, refl, p)) (part_more (h.part false j before) (wide j))

  opens_at : (o : Option ℕ) (before : Text) → Opens (AtShape L o before)
  opens_at None before = record { holds = λ t next d z. absurd z }
  opens_at (Some j) before = h.opens j before

  pub part_tuple_items : (make : Datas → Data) → IsMade schema k make js i → (before : Text)
      → Part room (step schema) true (λ d. k ≤ room → IsDataOf schema room 0 i d) (tuple_items make js q before) (tuple_items make js r before)
      (TupleItems make js L before) (Before right_parenthesis) e
  part_tuple_items make made before = part_means (as_many make js) (λ ds d. is_tuple k make js i made ds d)
      (part_items_behind (ItemOf schema room k js) (λ seen. at_shape q (slice_get js (length seen))) (λ seen. at_shape r (slice_get js (length seen)))
      (λ seen. AtShape L (slice_get js (length seen)))
      right_parenthesis refl refl (λ seen. opens_at (slice_get js (length seen))) (λ seen. part_at (slice_get js (length seen))) before)

module _ {schema : List Shape} {room top : ℕ} {base : ℕ → ℕ} (sizes : Sizes schema top base) (m : ℕ) (le : m ≤ room) (q r : ℕ → Readers) (L : ℕ → Langs)
    (h : Fit schema base room 2 (q 1) (r 1) (L 1)) (js : List ℕ) (i : ℕ) where
  module _ (make : Datas → Data) (made : IsMade schema 1 make js i) where
    content : (before : Text)
        → Part room (step schema) true (IsDataOf schema room 0 i) (needs 1 m (tuple_items make js (q 1) before))
        (needs 1 room (tuple_items make js (r 1) before)) (Needs 1 room (TupleItems make js (L 1) before)) (Before right_parenthesis) (size schema base true i)
    content before = let w = size_within schema sizes i i in
        part_needs 1 m le (omega (arith, w))
        (part_tuple_items 1 (q 1) (r 1) (L 1) h (size schema base true i) (λ j. size_within schema sizes i j) js i make made before)

    pub part_tuple_group : Part room (step schema) false (IsDataOf schema room 0 i) (tuple_group make js m q) (tuple_group make js room r)
        (TupleGroup make js room L) Anything (size schema base false i)
    part_tuple_group = part_group left_parenthesis right_parenthesis (size schema base false i) refl refl content (size_inside schema sizes false i)

module _ {schema : List Shape} {room top : ℕ} {base : ℕ → ℕ} (sizes : Sizes schema top base) (m : ℕ) (le : m ≤ room) (q r : ℕ → Readers) (L : ℕ → Langs)
    (h : Fit schema base room 2 (q 1) (r 1) (L 1)) where
  no_items : (make : Datas → Data) (i : ℕ) → IsMade schema 1 make [] i → 1 ≤ room → IsDataOf schema room 0 i (make no_datas)
  no_items make i made le = record { of_shape = λ _. made.of_shape no_datas tt }

  part_bare : (make : Datas → Data) (js : List ℕ) (i : ℕ) → IsMade schema 1 make js i → (before : Text)
      → Part room (step schema) true (λ d. 1 ≤ room → IsDataOf schema room 0 i d) (bare_items make js (q 1) before) (bare_items make js (r 1) before)
      (BareItems make js (L 1) before) (Before right_parenthesis) (size schema base true i)
  part_bare make [] i made before =
      part_weaker (λ d p. p (no_items make i made)) (part_opt_comma {P = λ d. 1 ≤ room → IsDataOf schema room 0 i d} (make no_datas))
  part_bare make (j ∷ js) i made before =
      part_tuple_items 1 (q 1) (r 1) (L 1) h (size schema base true i) (λ n. size_within schema sizes i n) (j ∷ js) i make made before

  part_bare_items : (make : Datas → Data) (js : List ℕ) (i : ℕ) → IsMade schema 1 make js i → (before : Text)
      → Part room (step schema) true (IsDataOf schema room 0 i) (needs 1 m (bare_items make js (q 1) before)) (needs 1 room (bare_items make js (r 1) before))
      (Needs 1 room (BareItems make js (L 1) before)) (Before right_parenthesis) (size schema base true i)
  part_bare_items make js i made before = let w = size_within schema sizes i i in part_needs 1 m le (omega (arith, w)) (part_bare make js i made before)

  pub part_tuple : (js : List ℕ) (i : ℕ) → slice_get schema i ≡ Some (tuple js) → (bare : Bool) (before : Text)
      → Part room (step schema) bare (IsDataOf schema room 0 i) (read_tuple js m q bare before) (read_tuple js room r bare before)
      (TupleText js room L bare before) (After bare) (size schema base bare i)
  part_tuple js i s bare before = go bare (record { of_shape = λ ds z. (js, s, z) })
    where
      go : (bare : Bool) → IsMade schema 1 tuple_of js i → Part room (step schema) bare (IsDataOf schema room 0 i) (read_tuple js m q bare before)
          (read_tuple js room r bare before) (TupleText js room L bare before) (After bare) (size schema base bare i)
      go false made = part_any FollowsValue (part_tuple_group sizes m le q r L h js i tuple_of made)
      go true made = part_bare_items tuple_of js i made before

module _ (required : Bool) (name : Text) {schema : List Shape} {room top : ℕ} {base : ℕ → ℕ} (sizes : Sizes schema top base) (m : ℕ) (le : m ≤ room)
    (q r : ℕ → Readers) (L : ℕ → Langs) (h : Fit schema base room 2 (q 1) (r 1) (L 1)) where
  pub part_tuple_struct : (js : List ℕ) (i : ℕ) → slice_get schema i ≡ Some (tuple_struct name js) → (bare : Bool) (before : Text)
      → Part room (step schema) bare (IsDataOf schema room 0 i) (read_tuple_struct required name js m q bare before)
      (read_tuple_struct required name js room r bare before) (TupleStructText required name js room L bare before) (After bare) (size schema base bare i)
  part_tuple_struct js i s bare before = go bare (record { of_shape = λ ds z. (js, s, z) })
    where
      go : (bare : Bool) → IsMade schema 1 (tuple_struct_of name) js i
          → Part room (step schema) bare (IsDataOf schema room 0 i) (read_tuple_struct required name js m q bare before)
          (read_tuple_struct required name js room r bare before) (TupleStructText required name js room L bare before) (After bare) (size schema base bare i)
      go false made =
          let g = part_any FollowsValue (part_tuple_group sizes m le q r L h js i (tuple_struct_of name) made) in
          part_choose (is_at left_parenthesis) (first_without required (first_then (first_mark _ left_parenthesis done (λ s. refl))))
          (first_then (first_means name_no_bracket))
          (part_without required g) (part_behind (word_named name) (first_means (first_solid name_solid)) (passes_named name) (λ gap. part_no_gap gap g))
      go true made = part_bare_items sizes m le q r L h (tuple_struct_of name) js i made before

pub tuple_opens : (js : List ℕ) (room : ℕ) (L : ℕ → Langs) (before : Text) → Opens (TupleText js room L false before)
tuple_opens js room L before = first_then (first_mark Solid left_parenthesis done (λ s. solid_mark left_parenthesis s refl refl refl))

pub tuple_struct_opens : (required : Bool) (name : Text) (js : List ℕ) (room : ℕ) (L : ℕ → Langs) (before : Text)
    → Opens (TupleStructText required name js room L false before)
tuple_struct_opens required name js room L before =
    first_or (first_without required (first_then (first_mark Solid left_parenthesis done (λ s. solid_mark left_parenthesis s refl refl refl))))
    (first_then (first_means name_solid))
