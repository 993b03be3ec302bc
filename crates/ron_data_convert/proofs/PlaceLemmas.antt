-- Places that fields are put in, and the slots that they stand for: for structs of few fields that a map becomes.
use Rattle.std.proofs.Common.{◌≡◌, ℕ, zero, suc, ◌-◌, ◌+◌, ◌<◌, ◌≤◌, Bool, true, false, not, ◌||◌, cond, List, [], ◌∷◌, ◌++◌, map, take, length, get_or, String}
use Rattle.std.proofs.Common.{Global, Option, Some, None, option_map, slice_get, set, find, IfSome, append_assoc, refl, sym, ap, ap₂, subst, ◌∙◌, arith}
use Rattle.std.specs.List.{list_all, position}
use Rattle.std.proofs.lemmas.Option.{slice_get-map, get_or_from_slice_get}
use Rattle.std.proofs.lemmas.List.{length-append, length-map, set-append_right}
use Rattle.ron_spec_words.specs.Characters.{Text}
use Rattle.ron_spec_grammar.specs.Data as plain
use Rattle.ron_spec_grammar.specs.Schema.{Field, holds_text, is_named, is_called, names_differ}
use Rattle.ron_spec_grammar.proofs.Finding.{same_is, find_some, each_any}
use Rattle.ron_data.specs.declared.data.Data.{Data}
use Rattle.ron_data_schema.specs.declared.schema.FieldShape.{FieldShape}
use Rattle.ron_data_schema.specs.Shapes.{field_view, text_view}
use Rattle.ron_data.specs.Datum.{data_view, fields_view}
use Rattle.ron_data.specs.Slots.{slots_view, slots_of, filled, is_filled}
use Rattle.ron_data.proofs.SlotLemmas.{slot_kept, put_other, adds-nothing, adds-one, slots-none, turn_found}
use Rattle.ron_data.proofs.PositionLemmas.{find_position}
use Rattle.ron_data_convert.specs.Places.{placed, AreEmpty, ArePlaces, slots_at, IsNameOf, PutsAt, IsPutAt, AreFlagsOf}

append_nil : {A : Type 0} (xs : List A) → xs ++ [] ≡ xs
append_nil [] = refl
append_nil (x ∷ xs) = ap (λ more. x ∷ more) (append_nil xs)

-- ---- no place is filled

nothing_placed : (fields : List FieldShape) (flags : List Bool) → slots_at fields flags [] ≡ map (λ _. None) fields
nothing_placed fields [] = slots-none fields
nothing_placed fields (b ∷ flags) = slots-none fields

empty_flags : (flags : List Bool) → list_all not flags ≡ true → AreEmpty flags
empty_flags [] h i = refl
empty_flags (true ∷ flags) h i = absurd (cc)
empty_flags (false ∷ flags) h zero = refl
empty_flags (false ∷ flags) h (suc i) = empty_flags flags h i

-- at the start
pub places_begin : (fields : List FieldShape) (flags : List Bool) (made : List (String Global × Data)) → list_all not flags ≡ true → made ≡ []
    → ArePlaces fields flags made
places_begin fields flags made h e = rw e (empty_flags flags h)

pub slots_begin_at : (fields : List FieldShape) (flags : List Bool) (made : List (String Global × Data)) → made ≡ []
    → slots_at fields flags made ≡ map (λ _. None) fields
slots_begin_at fields flags made e = ap (slots_at fields flags) e ∙ nothing_placed fields flags

empty_slots : (n : ℕ) (flags : List Bool) (more : List (String Global × Data)) → AreEmpty flags → slots_of n (placed flags more) ≡ slots_of n []
empty_slots zero flags more h = refl
empty_slots (suc n) [] [] h = refl
empty_slots (suc n) (b ∷ flags) [] h = refl
empty_slots (suc n) [] (m ∷ more) h = ap (λ slots. None ∷ slots) (empty_slots n [] more (λ i. h (suc i)))
empty_slots (suc n) (b ∷ flags) (m ∷ more) h = ap₂ (λ c slots. cond c (Some m.1) None ∷ slots) (h zero) (empty_slots n flags more (λ i. h (suc i)))

empty_places : (fields : List FieldShape) (flags : List Bool) (more : List (String Global × Data)) → AreEmpty flags → length more ≤ length fields
    → length more ≤ length flags → ArePlaces fields flags more
empty_places fields flags [] h le room = h
empty_places [] flags (m ∷ more) h le room = absurd (omega (arith, le))
empty_places (f ∷ fields) [] (m ∷ more) h le room = absurd (omega (arith, room))
empty_places (f ∷ fields) (b ∷ flags) (m ∷ more) h le room =
    ((λ e. absurd (let q : true ≡ false = sym e ∙ h zero in cc)), empty_places fields flags more (λ i. h (suc i)) (omega (arith, le)) (omega (arith, room)))

-- ---- more places

more_places : (fields : List FieldShape) (flags : List Bool) (made more : List (String Global × Data)) → ArePlaces fields flags made
    → length (made ++ more) ≤ length fields → length (made ++ more) ≤ length flags → ArePlaces fields flags (made ++ more)
more_places fields flags [] more h le room = empty_places fields flags more h le room
more_places [] flags (m ∷ made) more h le room = absurd h
more_places (f ∷ fields) [] (m ∷ made) more h le room = absurd h
more_places (f ∷ fields) (b ∷ flags) (m ∷ made) more h le room = (h.0, more_places fields flags made more h.1 (omega (arith, le)) (omega (arith, room)))

more_slots : (fields : List FieldShape) (flags : List Bool) (made more : List (String Global × Data)) → ArePlaces fields flags made
    → slots_at fields flags (made ++ more) ≡ slots_at fields flags made
more_slots fields flags [] more h = empty_slots (length fields) flags more h ∙ sym (empty_slots (length fields) flags [] h)
more_slots [] flags (m ∷ made) more h = absurd h
more_slots (f ∷ fields) [] (m ∷ made) more h = absurd h
more_slots (f ∷ fields) (b ∷ flags) (m ∷ made) more h = ap (λ slots. cond b (Some m.1) None ∷ slots) (more_slots fields flags made more h.1)

-- ---- a place that is there is filled

fill_places : (fields : List FieldShape) (flags : List Bool) (made : List (String Global × Data)) (i : ℕ) (m : String Global × Data)
    → ArePlaces fields flags made → i < length made → IsNameOf fields i m.0 → ArePlaces fields (set flags i true) (set made i m)
fill_places fields flags [] i m h lt n = absurd (omega (arith, lt))
fill_places [] flags (k ∷ made) i m h lt n = absurd h
fill_places (f ∷ fields) [] (k ∷ made) i m h lt n = absurd h
fill_places (f ∷ fields) (b ∷ flags) (k ∷ made) zero m h lt n = ((λ e. n.1 f), h.1)
fill_places (f ∷ fields) (b ∷ flags) (k ∷ made) (suc i) m h lt n = (h.0, fill_places fields flags made i m h.1 (omega (arith, lt)) ((omega (arith, n.0)), n.1))

fill_placed : (fields : List FieldShape) (flags : List Bool) (made : List (String Global × Data)) (i : ℕ) (m : String Global × Data)
    → ArePlaces fields flags made → i < length made → placed (set flags i true) (set made i m) ≡ set (placed flags made) i (Some m.1)
fill_placed fields flags [] i m h lt = absurd (omega (arith, lt))
fill_placed [] flags (k ∷ made) i m h lt = absurd h
fill_placed (f ∷ fields) [] (k ∷ made) i m h lt = absurd h
fill_placed (f ∷ fields) (b ∷ flags) (k ∷ made) zero m h lt = refl
fill_placed (f ∷ fields) (b ∷ flags) (k ∷ made) (suc i) m h lt =
    ap (λ slots. cond b (Some k.1) None ∷ slots) (fill_placed fields flags made i m h.1 (omega (arith, lt)))

length_placed : (flags : List Bool) (made : List (String Global × Data)) → length (placed flags made) ≡ length made
length_placed flags [] = go flags
  where
    go : (flags : List Bool) → length (placed flags []) ≡ 0
    go [] = refl
    go (b ∷ flags) = refl
length_placed [] (m ∷ made) = ap suc (length_placed [] made)
length_placed (b ∷ flags) (m ∷ made) = ap suc (length_placed flags made)

pub places_within : (fields : List FieldShape) (flags : List Bool) (made : List (String Global × Data)) → ArePlaces fields flags made
    → (length made ≤ length fields) × (length made ≤ length flags)
places_within fields flags [] h = (omega arith, omega arith)
places_within [] flags (m ∷ made) h = absurd h
places_within (f ∷ fields) [] (m ∷ made) h = absurd h
places_within (f ∷ fields) (b ∷ flags) (m ∷ made) h = let k = places_within fields flags made h.1 in (omega (arith, k.0), omega (arith, k.1))

fill_slots : (fields : List FieldShape) (flags : List Bool) (made : List (String Global × Data)) (i : ℕ) (m : String Global × Data)
    → ArePlaces fields flags made → i < length made → slots_at fields (set flags i true) (set made i m) ≡ set (slots_at fields flags made) i (Some m.1)
fill_slots fields flags made i m h lt =
    let same : i - 0 ≡ i = omega arith in
    let n = places_within fields flags made h in
    put_other (length fields) [] (placed flags made) (placed flags made) (placed (set flags i true) (set made i m)) i m.1 (omega (arith, lt, n.0)) (omega arith)
    (adds-nothing (placed flags made) (placed flags made) refl)
    (omega (arith, same, lt, length_placed flags made)) (fill_placed fields flags made i m h lt ∙ ap (λ j. set (placed flags made) j (Some m.1)) (sym same))

-- a field put in at its index
pub put_at : (index : ℕ) (name : String Global) (d : Data) (flags flags_ : List Bool) (made made_ : List (String Global × Data))
    → IsPutAt index (name, d) made made_ → index < length flags → flags_ ≡ set flags index true → PutsAt index name d flags made flags_ made_
put_at index name d flags flags_ made made_ p room e fields n h =
    let within = places_within fields flags made h in
    let le : length (made ++ p.0) ≤ length fields = p.2 (length fields) within.0 n.0 in
    let le_ : length (made ++ p.0) ≤ length flags = p.2 (length flags) within.1 room in
    let there : ArePlaces fields flags (made ++ p.0) = more_places fields flags made p.0 h le le_ in
    rw (e, p.3) (
      fill_places fields flags (made ++ p.0) index (name, d) there p.1 n,
      fill_slots fields flags (made ++ p.0) index (name, d) there p.1 ∙ ap (λ slots. set slots index (Some d)) (more_slots fields flags made p.0 h),
    )

-- ---- what is filled

flag_placed : (fields : List FieldShape) (flags : List Bool) (made : List (String Global × Data)) (i : ℕ) → ArePlaces fields flags made
    → is_filled (slice_get (placed flags made) i) ≡ get_or flags i false
flag_placed fields [] [] i h = sym (h i)
flag_placed fields (b ∷ flags) [] i h = sym (h i)
flag_placed [] flags (m ∷ made) i h = absurd h
flag_placed (f ∷ fields) [] (m ∷ made) i h = absurd h
flag_placed (f ∷ fields) (b ∷ flags) (m ∷ made) zero h = go b
  where
    go : (b : Bool) → is_filled (Some (cond b (Some m.1) None)) ≡ b
    go true = refl
    go false = refl
flag_placed (f ∷ fields) (b ∷ flags) (m ∷ made) (suc i) h = flag_placed fields flags made i h.1

flag_at : (fields : List FieldShape) (flags : List Bool) (made : List (String Global × Data)) (i : ℕ) → ArePlaces fields flags made → i < length fields
    → is_filled (slice_get (slots_at fields flags made) i) ≡ get_or flags i false
flag_at fields flags made i h lt = slot_kept (length fields) (placed flags made) i lt ∙ flag_placed fields flags made i h

pub flags_of : (fields : List FieldShape) (flags : List Bool) (made : List (String Global × Data)) → ArePlaces fields flags made
    → AreFlagsOf (length (map field_view fields)) flags (slots_at fields flags made)
flags_of fields flags made h i lt = flag_at fields flags made i h (omega (arith, lt, length-map fields field_view))

-- ---- all are filled

pub all_there : (fields : List FieldShape) (flags : List Bool) (made : List (String Global × Data)) → ArePlaces fields flags made → length made ≡ length fields
    → list_all (λ b. b) (take (length made) flags) ≡ true
    → filled (map field_view fields) (slots_view (slots_at fields flags made)) ≡ Some (fields_view made)
all_there [] flags [] h e all = refl
all_there (f ∷ fields) flags [] h e all = absurd (omega (arith, e))
all_there [] flags (m ∷ made) h e all = absurd h
all_there (f ∷ fields) [] (m ∷ made) h e all = absurd h
all_there (f ∷ fields) (false ∷ flags) (m ∷ made) h e all = absurd (cc)
all_there (f ∷ fields) (true ∷ flags) (m ∷ made) h e all =
    ap (option_map (plain.field_and (text_view f.name) (data_view m.1))) (all_there fields flags made h.1 (omega (arith, e)) all)
    ∙ ap (λ n. Some (plain.field_and n (data_view m.1) (fields_view made))) (sym (h.0 refl))

-- ---- slots of them

placed_last : (flags : List Bool) (made : List (String Global × Data)) (m : String Global × Data)
    → placed flags (made ++ m ∷ []) ≡ placed flags made ++ cond (get_or flags (length made) false) (Some m.1) None ∷ []
placed_last [] [] m = refl
placed_last (b ∷ flags) [] m = go flags
  where
    go : (flags : List Bool) → cond b (Some m.1) None ∷ placed flags [] ≡ cond b (Some m.1) None ∷ []
    go [] = refl
    go (c ∷ flags) = refl
placed_last [] (k ∷ made) m = ap (λ slots. None ∷ slots) (placed_last [] made m)
placed_last (b ∷ flags) (k ∷ made) m = ap (λ slots. cond b (Some k.1) None ∷ slots) (placed_last flags made m)

-- So far: the slots hold what stands in the places before those that are left.
pub record FromPlaces (fields : List FieldShape) (flags : List Bool) (made : List (String Global × Data)) (slots : List (Option Data)) (index : ℕ)
    (left : List (String Global × Data)) : Type 0 where
  pub gone : List (String Global × Data)
  pub whole : made ≡ gone ++ left
  pub many : length gone ≡ index
  pub are : slots ≡ slots_at fields flags gone

pub from_none : (fields : List FieldShape) (flags : List Bool) (made left : List (String Global × Data)) (slots : List (Option Data))
    → slots ≡ map (λ _. None) fields → left ≡ made → FromPlaces fields flags made slots 0 left
from_none fields flags made left slots e same = record {
  gone = [];
  whole = sym same;
  many = refl;
  are = e ∙ sym (nothing_placed fields flags);
}

module _ (fields : List FieldShape) (flags : List Bool) (made : List (String Global × Data)) (slots : List (Option Data)) (index : ℕ)
    (left rest : List (String Global × Data)) (m : String Global × Data) (h : FromPlaces fields flags made slots index left) (e : left ≡ m ∷ rest) where
  whole_next : made ≡ (h.gone ++ m ∷ []) ++ rest
  whole_next = h.whole ∙ ap (λ l. h.gone ++ l) e ∙ sym (append_assoc h.gone (m ∷ []) rest)

  many_next : length (h.gone ++ m ∷ []) ≡ index + 1
  many_next = length-append h.gone (m ∷ []) ∙ ap (λ n. n + 1) h.many

  last_by : (b : Bool) → get_or flags index false ≡ b → placed flags (h.gone ++ m ∷ []) ≡ placed flags h.gone ++ cond b (Some m.1) None ∷ []
  last_by b f = placed_last flags h.gone m ∙ ap (λ n. placed flags h.gone ++ cond (get_or flags n false) (Some m.1) None ∷ []) h.many
      ∙ ap (λ c. placed flags h.gone ++ cond c (Some m.1) None ∷ []) f

  pub from_within : ArePlaces fields flags made → (index < length fields) × (index < length flags)
  from_within are =
      let n = places_within fields flags made are in
      let long : length made ≡ length h.gone + suc (length rest) = ap length h.whole ∙ length-append h.gone left ∙ ap (λ l. length h.gone + length l) e in
      (omega (arith, n.0, long, h.many), omega (arith, n.1, long, h.many))

  pub from_empty : get_or flags index false ≡ false → FromPlaces fields flags made slots (index + 1) rest
  from_empty f = record {
    gone = h.gone ++ m ∷ [];
    whole = whole_next;
    many = many_next;
    are = h.are ∙ sym (adds-one (placed flags h.gone) (placed flags h.gone) (placed flags (h.gone ++ m ∷ []))
        (adds-nothing (placed flags h.gone) (placed flags h.gone) refl) (last_by false f) (length fields) []);
  }

  pub from_filled : (more : List (Option Data)) → get_or flags index false ≡ true → index < length fields → more ≡ set slots index (Some m.1)
      → FromPlaces fields flags made more (index + 1) rest
  from_filled more f lt s =
      let there = placed flags h.gone in
      let long : length there ≡ index = length_placed flags h.gone ∙ h.many in
      let same : index - 0 ≡ index = omega arith in
      let put : placed flags (h.gone ++ m ∷ []) ≡ set (there ++ None ∷ []) (index - 0) (Some m.1) =
      last_by true f ∙ sym (ap (λ (k : ℕ). set (there ++ None ∷ []) k (Some m.1)) same ∙ set-append_right there (None ∷ []) index index (Some m.1) long
      (omega arith) ∙ ap (λ (k : ℕ). there ++ set (None ∷ []) k (Some m.1)) (let z : index - index ≡ 0 = omega arith in z)) in
      record {
        gone = h.gone ++ m ∷ [];
        whole = whole_next;
        many = many_next;
        are = s ∙ ap (λ slots. set slots index (Some m.1)) h.are
            ∙ sym (put_other (length fields) [] there (there ++ None ∷ []) (placed flags (h.gone ++ m ∷ [])) index m.1 lt (omega arith)
            (adds-one there there (there ++ None ∷ []) (adds-nothing there there refl) refl) (omega (arith, same, long, length-append there (None ∷ []))) put);
      }

  pub not_filled : is_filled (slice_get slots index) ≡ false
  not_filled =
      ap (λ slots. is_filled (slice_get slots index)) h.are ∙ go (length fields) (placed flags h.gone) index (omega (arith, length_placed flags h.gone, h.many))
    where
      go : (n : ℕ) (slots : List (Option Data)) (i : ℕ) → length slots ≤ i → is_filled (slice_get (slots_of n slots) i) ≡ false
      go zero slots i le = refl
      go (suc n) [] zero le = refl
      go (suc n) [] (suc i) le = go n [] i (omega (arith, le))
      go (suc n) (slot ∷ slots) zero le = absurd (omega (arith, le))
      go (suc n) (slot ∷ slots) (suc i) le = go n slots i (omega (arith, le))

pub from_all : (fields : List FieldShape) (flags : List Bool) (made : List (String Global × Data)) (slots : List (Option Data)) (index : ℕ)
    (left : List (String Global × Data)) → FromPlaces fields flags made slots index left → left ≡ [] → slots ≡ slots_at fields flags made
from_all fields flags made slots index left h e = h.are ∙ ap (slots_at fields flags) (sym (append_nil h.gone) ∙ ap (λ l. h.gone ++ l) (sym e) ∙ sym h.whole)

-- ---- the field of a name

there : {A : Type 0} (xs : List A) (i : ℕ) → i < length xs → (a : A) × (slice_get xs i ≡ Some a)
there [] i lt = absurd (omega (arith, lt))
there (x ∷ xs) zero lt = (x, refl)
there (x ∷ xs) (suc i) lt = there xs i (omega (arith, lt))

pub called_by : (name : Text) (f : Field) → is_named name f ≡ true → is_called name f ≡ true
called_by name f e = ap (λ b. b || holds_text name f.aliases) e

-- the field that is named so
named_there : (name : Text) (fields : List FieldShape) (i : ℕ) → Some i ≡ position (λ f. is_named name (field_view f)) fields
    → (f : FieldShape) × (slice_get fields i ≡ Some f) × (i < length fields) × (is_named name (field_view f) ≡ true)
named_there name fields i e =
    let p = find_position field_view (is_named name) fields (Some i) e in
    let f = there fields i p.0 in
    let found : find (is_named name) (map field_view fields) ≡ Some (field_view f.0) =
    p.1 ∙ slice_get-map field_view fields i ∙ ap (option_map field_view) f.1 in
    (f.0, f.1, p.0, (find_some (λ _. Unit {0}) (is_named name) (map field_view fields) (field_view f.0) found (each_any (map field_view fields))).0)

-- it is the one that the name calls
pub named_at : (name : Text) (fields : List FieldShape) (o : Option ℕ) → o ≡ position (λ f. is_named name (field_view f)) fields
    → names_differ (map field_view fields) ≡ true → IfSome o (λ i. Some i ≡ position (λ f. is_called name (field_view f)) fields)
named_at name fields None e h = tt
named_at name fields (Some i) e h =
    let f = named_there name fields i e in
    turn_found name f.0 fields i h f.2
    (ap (λ (g : FieldShape). is_called name (field_view g)) (get_or_from_slice_get fields i f.0 f.0 f.1) ∙ called_by name (field_view f.0) f.3)

pub name_of : (name : Text) (fields : List FieldShape) (o : Option ℕ) → o ≡ position (λ f. is_named name (field_view f)) fields
    → IfSome o (λ i. (f : FieldShape) → name ≡ text_view (get_or fields i f).name)
name_of name fields None e = tt
name_of name fields (Some i) e =
    let f = named_there name fields i e in
    λ d. sym (ap (λ (g : FieldShape). text_view g.name) (get_or_from_slice_get fields i f.0 d f.1) ∙ same_is (text_view f.0.name) name f.3)

-- ---- places in which nothing comes

-- So far: the list is lengthened no further than to this index.
pub record Longer (index : ℕ) (made now : List (String Global × Data)) : Type 0 where
  pub more : List (String Global × Data)
  pub is : now ≡ made ++ more
  pub least : (n : ℕ) → length made ≤ n → index < n → length (made ++ more) ≤ n

pub no_longer : (index : ℕ) (made now : List (String Global × Data)) → now ≡ made → Longer index made now
no_longer index made now e = record {
  more = [];
  is = e ∙ sym (append_nil made);
  least = λ n le lt. omega (arith, le, ap length (append_nil made));
}

pub one_longer : (index : ℕ) (made now next : List (String Global × Data)) (m : String Global × Data) → Longer index made now → length now ≤ index
    → next ≡ now ++ m ∷ [] → Longer index made next
one_longer index made now next m h le e = record {
  more = h.more ++ m ∷ [];
  is = e ∙ ap (λ l. l ++ m ∷ []) h.is ∙ append_assoc made h.more (m ∷ []);
  least = λ n long lt. omega (arith, lt, le, ap length h.is, length-append made h.more, length-append made (h.more ++ m ∷ []), length-append h.more (m ∷ []));
}

pub put_in : (index : ℕ) (made now next : List (String Global × Data)) (m : String Global × Data) → Longer index made now → index < length now
    → next ≡ set now index m → IsPutAt index m made next
put_in index made now next m h lt e = (h.more, subst (λ l. index < length l) h.is lt, h.least, e ∙ ap (λ l. set l index m) h.is)

-- one that is the next
pub put_next : (index : ℕ) (made next : List (String Global × Data)) (m : String Global × Data) → index ≡ length made → next ≡ made ++ m ∷ []
    → IsPutAt index m made next
put_next index made next m i e = (
  m ∷ [],
  omega (arith, i, length-append made (m ∷ [])),
  λ n le lt. omega (arith, i, lt, length-append made (m ∷ [])),
  e ∙ sym (set-append_right made (m ∷ []) (length made) index m refl (omega (arith, i))
      ∙ ap (λ (k : ℕ). made ++ set (m ∷ []) k m) (let z : index - length made ≡ 0 = omega (arith, i) in z)),
)
