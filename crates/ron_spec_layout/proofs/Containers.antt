-- The texts of containers, from texts that stand for their items; and a gap before what does not see it.
use Rattle.std.proofs.Common.{◌≡◌, ℕ, ◌≤◌, Bool, true, false, ◌||◌, List, [], ◌∷◌, ◌++◌, length, codes, inl, inr, Some, option_map, slice_get, refl, sym, ap}
use Rattle.std.proofs.Common.{subst, ◌∙◌, arith, eq-eqb}
use Rattle.ron_spec_words.specs.Characters.{Text}
use Rattle.ron_spec_words.specs.Lang.{Lang, Then, Means, Items, Needs, Or, Group, WithComma}
use Rattle.ron_spec_words.specs.Name.{Named, is_name}
use Rattle.ron_spec_words.proofs.Gaps.{skip-other}
use Rattle.ron_spec_grammar.specs.Data.{Data, list_of, tuple_of, tuple_struct_of, Datas, no_datas, data_and, datas, map_of, newtype_of, struct_of}
use Rattle.ron_spec_grammar.specs.Data.{unit_struct_of, Fields}
use Rattle.ron_spec_grammar.specs.Schema.{Shape, seq, tuple, tuple_struct, FieldList, bool, int, char, str, bytes, unit, unit_struct, map, struct, enum}
use Rattle.ron_spec_grammar.specs.Schema.{any_value}
use Rattle.ron_spec_grammar.specs.Rule.{Extensions, NoGap, Langs, WithoutName}
use Rattle.ron_spec_grammar.specs.Shapes.Seq.{list_data}
use Rattle.ron_spec_grammar.specs.Shapes.Tuple.{as_many, AtShape, TupleItems, BareItems, TupleGroup, TupleText, TupleStructText}
use Rattle.ron_spec_grammar.specs.Grammar.{Spells, ShapeText, SpellsAt}
use Rattle.ron_spec_grammar.specs.Equal.{folded}
use Rattle.ron_spec_grammar.specs.Shapes.Map.{map_data, PairItem}
use Rattle.ron_spec_grammar.specs.Shapes.Struct.{Item, FieldItems, arranged, StructText}
use Rattle.ron_spec_grammar.specs.Shapes.Newtype.{newtype_data, Wrapped, NewtypeText}
use Rattle.ron_spec_grammar.specs.Shapes.UnitStruct.{unit_struct_data, UnitStructText}
use Rattle.ron_spec_grammar.specs.Values.Grammar.{AnyBelow, AnySpells}
use Rattle.ron_spec_grammar.specs.Shapes.Range.{range_data, RangeText}
use Rattle.ron_spec_grammar.proofs.RawTurns.{is_same_anywhere}
use Rattle.ron_spec_layout.specs.Brackets.{bracketed, behind_name, unit_struct_text}
use Rattle.ron_spec_layout.specs.Stand.{StandsFirst, Stands, Ends, MayFollow}
use Rattle.ron_spec_layout.proofs.Stands.{ends_delimiter, may_follow_ends, stands_as, stands_means, stands_needs, at_once, whole, group, plain_stands}
use Rattle.ron_spec_layout.proofs.Named.{in_round, named_then}
use Rattle.ron_spec_layout.proofs.Places.{inner, at_shape, FieldsOf, deeper_in, content_stands}
use Rattle.ron_spec_layout.proofs.Words.{named_stands, empty_stands, nothing_stands}
use Rattle.ron_spec_layout.proofs.Enums.{first_means}
use Rattle.ron_spec_layout.proofs.Closed.{Closed, led_more}

-- ---- items as a list

abbrev pub data_list : Datas → List Data
data_list no_datas = []
data_list (data_and d ds) = d ∷ data_list ds

pub datas_of_list : (ds : Datas) → datas (data_list ds) ≡ ds
datas_of_list no_datas = refl
datas_of_list (data_and d ds) = ap (data_and d) (datas_of_list ds)

-- a name is written where it is required, and perhaps elsewhere
abbrev pub Covers : Bool → Bool → Type 0
Covers named required = required ≡ true → named ≡ true

pub covers : (asked required : Bool) → Covers (asked || required) required
covers true required e = refl
covers false required e = e

module _ (x : Extensions) (schema : List Shape) where
  -- ---- a gap before what does not see it

  abbrev ShapeOf : ℕ → Bool → Text → Shape → Lang Data
  ShapeOf room bare before shape = ShapeText x schema room (deeper_in x schema room) false bare before (Some shape)

  same_before : (room : ℕ) (shape : Shape) → is_same_anywhere shape ≡ true → (before other t n : Text) (d : Data) → ShapeOf room false before shape t n d
      → ShapeOf room false other shape t n d
  unfolding AnySpells
  same_before room bool e before other t n d h = h
  same_before room (int w) e before other t n d h = h
  same_before room char e before other t n d h = h
  same_before room str e before other t n d h = h
  same_before room bytes e before other t n d h = h
  same_before room unit e before other t n d h = h
  same_before room (unit_struct m) e before other t n d h = h
  same_before room (seq j) e before other t n d h = h
  same_before room (tuple js) e before other t n d h = h
  same_before room (tuple_struct m js) e before other t n d h = h
  same_before room (map k v) e before other t n d h = h
  same_before room (struct m l) e before other t n d h = h
  same_before room (enum m vs) e before other t n d h = h
  same_before room any_value e before other t n d h = h
  same_before room _ e before other t n d h = absurd (cc)

  -- of a shape that does not see the gap before it
  pub behind_gap : (room i : ℕ) (bare : Bool) (shape : Shape) {g t next : Text} {d : Data} → is_same_anywhere shape ≡ true → slice_get schema i ≡ Some shape
      → Closed g → (bare ≡ true → g ≡ []) → Stands (Spells x schema room bare i) t next d → Stands (Spells x schema room bare i) (g ++ t) next d
  unfolding SpellsAt
  behind_gap room i true shape {g = g} {t = t} {next = next} {d = d} e s closed b h =
      subst (λ u. Stands (Spells x schema room true i) (u ++ t) next d) (sym (b refl)) h
  behind_gap room i false shape {g = g} {t = t} {next = next} {d = d} e s closed b h = at_shape x schema room i false shape s (stands_as d
      (led_more {L = λ u n a. ShapeOf room false [] shape u n a} closed (at_front (of_shape h))) (λ before u n z. same_before room shape e [] before u n d z))
    where
      of_shape : Stands (Spells x schema room false i) t next d → Stands (λ before. ShapeOf room false before shape) t next d
      of_shape h = subst (λ o. Stands (λ before. ShapeText x schema room (deeper_in x schema room) false false before o) t next d) s h

      at_front : Stands (λ before. ShapeOf room false before shape) t next d → Stands (λ _ u n a. ShapeOf room false [] shape u n a) t next d
      at_front h = stands_as d h (λ before u n z. same_before room shape e before [] u n d z)

  -- ---- lists and maps

  module _ (room i : ℕ) (bare : Bool) (t next : Text) (le : 1 ≤ room) (f : MayFollow bare next) where
    pub list_text : (j : ℕ) (ds : Datas) → slice_get schema i ≡ Some (seq j) → Stands (Items (λ seen before. inner x schema room 1 false j before)) t
        (93 ∷ next) (data_list ds) → Stands (Spells x schema room bare i) (codes "[" ++ (t ++ codes "]")) next (list_of ds)
    list_text j ds s all =
        let content : Stands (λ gap. Needs 1 room (Means (Items (λ seen before. inner x schema room 1 false j before) gap) list_data)) t (93 ∷ next)
        (list_of ds) = stands_needs le (stands_means (list_of ds) list_data (ap (λ es. Some (list_of es)) (datas_of_list ds)) all) in
        at_shape x schema room i bare (seq j) s (plain_stands bare f
        (at_once (group 91 93 t next (λ s. skip-other 91 s refl refl) (λ s. skip-other 93 s refl refl) (may_follow_ends bare next f).1 content)))

    pub map_text : (k v : ℕ) (ps : List (Data × Data)) → slice_get schema i ≡ Some (map k v)
        → Stands (Items (λ (seen : List (Data × Data)). PairItem k v (inner x schema room 1))) t (125 ∷ next) ps
        → Stands (Spells x schema room bare i) (codes "{" ++ (t ++ codes "}")) next (map_of (folded ps))
    map_text k v ps s all =
        let content : Stands (λ gap. Needs 1 room (Means (Items (λ (seen : List (Data × Data)). PairItem k v (inner x schema room 1)) gap) map_data)) t
        (125 ∷ next) (map_of (folded ps)) = stands_needs le (stands_means (map_of (folded ps)) map_data refl all) in
        at_shape x schema room i bare (map k v) s (plain_stands bare f
        (at_once (group 123 125 t next (λ s. skip-other 123 s refl refl) (λ s. skip-other 125 s refl refl) (may_follow_ends bare next f).1 content)))

  -- ---- tuples

  -- items of what k levels are taken for, each one level deeper
  abbrev pub OfTheirShapes : ℕ → ℕ → List ℕ → List Data → Text → Lang Data
  OfTheirShapes room k js seen = AtShape (inner x schema room k) (slice_get js (length seen))

  -- whatever follows the bracket, the text stands for the items
  abbrev pub AreTuple : ℕ → ℕ → List ℕ → Text → Datas → Type 0
  AreTuple room k js t ds = (rest : Text) → Stands (Items (OfTheirShapes room k js)) t (41 ∷ rest) (data_list ds)

  pub tuple_meant : (room k : ℕ) (make : Datas → Data) (js : List ℕ) (t : Text) (ds : Datas) → length (data_list ds) ≡ length js → AreTuple room k js t ds
      → (rest : Text) → Stands (TupleItems make js (inner x schema room k)) t (41 ∷ rest) (make ds)
  tuple_meant room k make js t ds e all rest =
      stands_means (make ds) (as_many make js) (rw (eq-eqb (length (data_list ds)) (length js) e) (ap (λ es. Some (make es)) (datas_of_list ds))) (all rest)

  module _ (room : ℕ) (make : Datas → Data) (js : List ℕ) (t : Text) (ds : Datas) (le : 1 ≤ room) (many : length (data_list ds) ≡ length js)
      (nothing : js ≡ [] → t ≡ []) (all : AreTuple room 1 js t ds) where
    in_brackets : (next : Text) → Ends next → StandsFirst (TupleGroup make js room (inner x schema room)) (bracketed false t) next (make ds)
    in_brackets next e = in_round t next e (stands_needs le (tuple_meant room 1 make js t ds many all next))

    without : (rest : Text) → Stands (λ before. Needs 1 room (BareItems make js (inner x schema room 1) before)) t (41 ∷ rest) (make ds)
    without rest = go js refl
      where
        empty : (es : Datas) → length (data_list es) ≡ 0 → make es ≡ make no_datas
        empty no_datas e = refl
        empty (data_and d es) e = absurd (omega (arith, e))

        go : (ks : List ℕ) → js ≡ ks → Stands (λ before. Needs 1 room (BareItems make ks (inner x schema room 1) before)) t (41 ∷ rest) (make ds)
        go [] e =
            let z = ends_delimiter 41 rest refl refl in
            let n : make no_datas ≡ make ds = sym (empty ds (many ∙ ap length e)) in
            subst (λ u. Stands (λ before. Needs 1 room (BareItems make [] (inner x schema room 1) before)) u (41 ∷ rest) (make ds)) (sym (nothing e))
            (at_once (whole z.1 z.1 (le, inr (refl, n))))
        go (j ∷ ks) e = subst (λ ls. Stands (λ before. Needs 1 room (TupleItems make ls (inner x schema room 1) before)) t (41 ∷ rest) (make ds)) e
            (stands_needs le (tuple_meant room 1 make js t ds many all rest))

    pub tuple_struct_place : (named required : Bool) (name : Text) → Covers named required → is_name name ≡ true → (make ≡ tuple_struct_of name)
        → (bare : Bool) (next : Text) → MayFollow bare next
        → Stands (λ before. TupleStructText required name js room (inner x schema room) bare before) (behind_name named bare name (bracketed bare t)) next
        (make ds)
    tuple_struct_place named required name v ok is true next f =
        subst (λ m. Stands (λ before. Needs 1 room (BareItems m js (inner x schema room 1) before)) t next (make ds)) is
        (subst (λ n. Stands (λ before. Needs 1 room (BareItems make js (inner x schema room 1) before)) t n (make ds)) (sym f.1) (without f.0))
    tuple_struct_place false false name v ok is false next f = stands_as {L = λ _. TupleGroup make js room (inner x schema room)} (make ds)
        (at_once (in_brackets next f)) (λ before u n z. inl (subst (λ m. TupleGroup m js room (inner x schema room) u n (make ds)) is z))
    tuple_struct_place false true name v ok is false next f = absurd (let e = v refl in cc)
    tuple_struct_place true required name v ok is false next f =
        stands_as {L = λ _. Then (Named name) (λ _ gap. NoGap gap (TupleGroup make js room (inner x schema room)))} (make ds)
        (at_once (named_then {M = λ _ gap. NoGap gap (TupleGroup make js room (inner x schema room))} name (t ++ codes ")") next ok (in_brackets next f)))
        (λ before u n z. inr (subst (λ m. Then (Named name) (λ _ gap. NoGap gap (TupleGroup m js room (inner x schema room))) u n (make ds)) is z))

    pub tuple_place : (make ≡ tuple_of) → (bare : Bool) (next : Text) → MayFollow bare next
        → Stands (λ before. TupleText js room (inner x schema room) bare before) (bracketed bare t) next (make ds)
    tuple_place is false next f = stands_as {L = λ _. TupleGroup make js room (inner x schema room)} (make ds) (at_once (in_brackets next f))
        (λ before u n z. subst (λ m. TupleGroup m js room (inner x schema room) u n (make ds)) is z)
    tuple_place is true next f = subst (λ m. Stands (λ before. Needs 1 room (BareItems m js (inner x schema room 1) before)) t next (make ds)) is
        (subst (λ n. Stands (λ before. Needs 1 room (BareItems make js (inner x schema room 1) before)) t n (make ds)) (sym f.1) (without f.0))

  -- ---- structs

  -- whatever follows the bracket, the text stands for these fields
  abbrev pub AreFieldsIn : ℕ → ℕ → FieldList → Text → List Item → Type 0
  AreFieldsIn room k all t xs = (rest : Text) → Stands (Items (FieldsOf x schema room k all)) t (41 ∷ rest) xs

  pub struct_place : (room : ℕ) (named : Bool) (name : Text) → Covers named x.explicit_struct_names → is_name name ≡ true
      → (all : FieldList) (t : Text) (xs : List Item) (fields : Fields) → 1 ≤ room → arranged all.fields xs ≡ Some fields → AreFieldsIn room 1 all t xs
      → (bare : Bool) (next : Text) → MayFollow bare next
      → Stands (λ before. StructText x schema name all room (inner x schema room) bare before) (behind_name named bare name (bracketed bare t)) next
      (struct_of name fields)
  struct_place room named name v ok all t xs fields le meant h bare next f = go named x.explicit_struct_names v bare f
    where
      d : Data
      d = struct_of name fields

      Inside : Text → Lang Data
      Inside before u n a = (1 ≤ room) × FieldItems name all (inner x schema room 1) (AnyBelow x.unwrap_variant_newtypes room 1) before u n a

      content : (rest : Text) → Stands Inside t (41 ∷ rest) d
      content rest = stands_needs le (stands_means d _ (ap (option_map (struct_of name)) meant) (h rest))

      G : Lang Data
      G = Group 40 41 Inside

      Named_G : Lang Data
      Named_G = Then (Named name) (λ _ _. G)

      R : Bool → Lang Data
      R bare = RangeText bare (range_data schema name all.fields)

      TextOf : Bool → Bool → Text → Lang Data
      TextOf required false before = Or (R false) (Or (WithoutName required G) Named_G)
      TextOf required true before = Or (R true) (Inside before)

      go : (named required : Bool) → Covers named required → (bare : Bool) → MayFollow bare next
          → Stands (TextOf required bare) (behind_name named bare name (bracketed bare t)) next d
      go named required v true f = stands_as {L = Inside} d (subst (λ n. Stands Inside t n d) (sym f.1) (content f.0)) (λ before u n z. inr z)
      go false false v false f = stands_as {L = λ _. G} d (at_once (in_round t next f (content next))) (λ before u n z. inr (inl z))
      go false true v false f = absurd (let e = v refl in cc)
      go true required v false f = stands_as {L = λ _. Named_G} d
          (at_once (named_then {M = λ _ _. G} name (t ++ codes ")") next ok (in_round t next f (content next)))) (λ before u n z. inr (inr z))

  pub unit_struct_place : (named required : Bool) (name : Text) → Covers named required → is_name name ≡ true → (bare : Bool) (next : Text)
      → MayFollow bare next → Stands (λ before. UnitStructText required name bare) (unit_struct_text named bare name) next (unit_struct_of name)
  unit_struct_place named required name v ok true next f =
      stands_as (unit_struct_of name) (stands_means (unit_struct_of name) (unit_struct_data name) refl (nothing_stands true next f)) (λ before t n z. inr z)
  unit_struct_place false false name v ok false next f =
      stands_as (unit_struct_of name) (stands_means (unit_struct_of name) (unit_struct_data name) refl (empty_stands next f)) (λ before t n z. inr (inl z))
  unit_struct_place false true name v ok false next f = absurd (let e = v refl in cc)
  unit_struct_place true required name v ok false next f = stands_as (unit_struct_of name)
      (stands_means (unit_struct_of name) (unit_struct_data name) refl (named_stands name next ok f)) (λ before t n z. inr (inr z))

  -- a newtype whose content does not stand alone
  pub newtype_place : (named required : Bool) (name : Text) → Covers named required → is_name name ≡ true
      → (j : ℕ) (L : ℕ → Langs) (M : Langs) (t next : Text) (d : Data) → Ends next → ((next : Text) → Ends next → Stands (L 0 false j) t next d)
      → Stands (λ before. NewtypeText required false name j L M false before) (behind_name named false name (bracketed false t)) next (newtype_of name d)
  newtype_place named required name v ok j L M t next d f h = go named required v
    where
      G : Lang Data
      G = Wrapped name j (L 0)

      first : StandsFirst (Group 40 41 (λ gap. WithComma (L 0 false j gap))) (bracketed false t) next d
      first = in_round t next f (content_stands false (L 0) j (h (41 ∷ next) (ends_delimiter 41 next refl refl)))

      wrapped_first : StandsFirst G (bracketed false t) next (newtype_of name d)
      wrapped_first = first_means (newtype_of name d) (newtype_data name) refl first

      go : (named required : Bool) → Covers named required
          → Stands (λ before. NewtypeText required false name j L M false before) (behind_name named false name (bracketed false t)) next (newtype_of name d)
      go false false v = stands_as {L = λ _. G} (newtype_of name d) (at_once wrapped_first) (λ before t n z. inl z)
      go false true v = absurd (let e = v refl in cc)
      go true required v = stands_as {L = λ _. Then (Named name) (λ _ _. G)} (newtype_of name d)
          (at_once (named_then {M = λ _ _. G} name (t ++ codes ")") next ok wrapped_first)) (λ before t n z. inr z)
