-- Slots as they are kept, those of the first fields by name and the others: for the calls of `Slots`.
use Rattle.std.proofs.Common.{◌≡◌, ℕ, zero, suc, ◌-◌, ◌<◌, ◌≤◌, true, false, List, [], ◌∷◌, ◌++◌, map, take, drop, length, get_or, string_bytes, String, Global}
use Rattle.std.proofs.Common.{Option, Some, None, option_map, cond, nat_lt, slice_get, set, refl, sym, ap, ap₂, subst, ◌∙◌, arith}
use Rattle.std.specs.List.{position, position_or_len}
use Rattle.std.specs.Str.{chars}
use Rattle.std.specs.Option.{is_some}
use Rattle.std.proofs.lemmas.Bool.{ltb-true, lt-ltb}
use Rattle.std.proofs.lemmas.List.{length-append, length-map, length-drop, set-append_right}
use Rattle.std.proofs.Math.Seq.{take-length}
use Rattle.std.proofs.lemmas.Option.{slice_get_past, slice_get_within, slice_get_read, get_or_from_slice_get}
use Rattle.std.proofs.lemmas.List.Sums.{position_or_len_is}
use Rattle.ron_spec_words.specs.Characters.{Text}
use Rattle.ron_spec_grammar.specs.Data as plain
use Rattle.ron_spec_grammar.specs.Schema.{Field, is_called, names_differ}
use Rattle.ron_spec_words.proofs.Values.{Each}
use Rattle.ron_spec_grammar.proofs.Finding.{called_apart, names_parts, same_self}
use Rattle.ron_data.specs.declared.data.Data.{Data}
use Rattle.ron_data_schema.specs.declared.schema.FieldShape.{FieldShape}
use Rattle.ron_data.specs.declared.slots.Slots.{Slots}
use Rattle.ron_data_schema.specs.Shapes.{field_view}
use Rattle.ron_data.specs.Datum.{data_view}
use Rattle.ron_data.specs.Slots.{is_filled, slots_of, slots_in, AreNamed, AreSlotsFor, IsEmpty, IsNameAt, AddsEmpty}

-- ---- so many slots

-- none so far
pub slots-none : {A B : Type 0} (fields : List B) → slots_of {A = A} (length fields) [] ≡ map (λ _. None) fields
slots-none [] = refl
slots-none (f ∷ fields) = ap (λ slots. None ∷ slots) (slots-none fields)

-- each is filled where it was
pub slot_kept : {A : Type 0} (n : ℕ) (slots : List (Option A)) (i : ℕ) → i < n → is_filled (slice_get (slots_of n slots) i) ≡ is_filled (slice_get slots i)
slot_kept zero slots i lt = absurd (omega (arith, lt))
slot_kept (suc n) [] zero lt = refl
slot_kept (suc n) [] (suc i) lt = slot_kept n [] i (omega (arith, lt))
slot_kept (suc n) (slot ∷ slots) zero lt = refl
slot_kept (suc n) (slot ∷ slots) (suc i) lt = slot_kept n slots i (omega (arith, lt))

one_empty : {A : Type 0} (n : ℕ) (slots : List (Option A)) → slots_of n (slots ++ None ∷ []) ≡ slots_of n slots
one_empty zero slots = refl
one_empty (suc n) [] = refl
one_empty (suc n) (slot ∷ slots) = ap (λ more. slot ∷ more) (one_empty n slots)

put_last : {A : Type 0} (n : ℕ) (slots : List (Option A)) (a : A) → length slots < n
    → slots_of n (slots ++ Some a ∷ []) ≡ set (slots_of n slots) (length slots) (Some a)
put_last zero slots a lt = absurd (omega (arith, lt))
put_last (suc n) [] a lt = refl
put_last (suc n) (slot ∷ slots) a lt = ap (λ more. slot ∷ more) (put_last n slots a (omega (arith, lt)))

put_within : {A : Type 0} (n : ℕ) (slots : List (Option A)) (i : ℕ) (a : A) → i < n → i < length slots
    → slots_of n (set slots i (Some a)) ≡ set (slots_of n slots) i (Some a)
put_within zero slots i a lt less = absurd (omega (arith, lt))
put_within (suc n) [] i a lt less = absurd (omega (arith, less))
put_within (suc n) (slot ∷ slots) zero a lt less = refl
put_within (suc n) (slot ∷ slots) (suc i) a lt less = ap (λ more. slot ∷ more) (put_within n slots i a (omega (arith, lt)) (omega (arith, less)))

-- it is filled as what it stands for is there
pub filled_slot : (o : Option (Option Data)) (slot : Option plain.Data) → option_map (option_map data_view) o ≡ Some slot → is_filled o ≡ is_some slot
filled_slot None slot e = absurd (cc)
filled_slot (Some None) slot e = let same : None ≡ slot = cc in ap is_some same
filled_slot (Some (Some d)) slot e = let same : Some (data_view d) ≡ slot = cc in ap is_some same

-- ---- empty slots behind others

pub adds-nothing : {A : Type 0} (old new : List (Option A)) → new ≡ old → AddsEmpty old new
adds-nothing old new e n front = ap (λ slots. slots_of n (front ++ slots)) e

append-assoc : {A : Type 0} (xs ys zs : List A) → xs ++ (ys ++ zs) ≡ (xs ++ ys) ++ zs
append-assoc [] ys zs = refl
append-assoc (x ∷ xs) ys zs = ap (λ more. x ∷ more) (append-assoc xs ys zs)

pub adds-one : {A : Type 0} (old new more : List (Option A)) → AddsEmpty old new → more ≡ new ++ None ∷ [] → AddsEmpty old more
adds-one old new more h e n front =
    ap (λ slots. slots_of n (front ++ slots)) e ∙ ap (slots_of n) (append-assoc front new (None ∷ [])) ∙ one_empty n (front ++ new) ∙ h n front

-- ---- the fields that came in their turn

abbrev pub full : List (String Global × Data) → List (Option Data)
full made = map (λ f. Some f.1) made

pub named_within : (fields : List FieldShape) (made : List (String Global × Data)) → AreNamed fields made → length made ≤ length fields
named_within fields [] h = omega arith
named_within [] (m ∷ made) h = absurd h
named_within (f ∷ fields) (m ∷ made) h = omega (arith, named_within fields made h.1)

pub named_more : (fields : List FieldShape) (made : List (String Global × Data)) (m : String Global × Data) → AreNamed fields made → length made < length fields
    → IsNameAt fields (length made) (Some m.0) → AreNamed fields (made ++ m ∷ [])
named_more [] made m h lt e = absurd (omega (arith, lt))
named_more (f ∷ fields) [] m h lt e = (e f, tt)
named_more (f ∷ fields) (n ∷ made) m h lt e = (h.0, named_more fields made m h.1 (omega (arith, lt)) e)

-- whatever stands for what is not there
same_at : (fields : List FieldShape) (i : ℕ) (d f : FieldShape) → i < length fields → get_or fields i d ≡ get_or fields i f
same_at [] i d f lt = absurd (omega (arith, lt))
same_at (g ∷ fields) zero d f lt = refl
same_at (g ∷ fields) (suc i) d f lt = same_at fields i d f (omega (arith, lt))

pub name_is_at : (fields : List FieldShape) (i : ℕ) (f : FieldShape) (name : String Global) → true ≡ nat_lt i (length fields) → f ≡ get_or fields i f
    → string_bytes name ≡ string_bytes f.name → IsNameAt fields i (Some name)
name_is_at fields i f name lt at e d = e ∙ ap (λ (g : FieldShape). string_bytes g.name) (at ∙ same_at fields i f d (ltb-true i (length fields) (sym lt)))

full_append : (made : List (String Global × Data)) (m : String Global × Data) → full (made ++ m ∷ []) ≡ full made ++ Some m.1 ∷ []
full_append [] m = refl
full_append (n ∷ made) m = ap (λ more. Some n.1 ∷ more) (full_append made m)

append_nil : {A : Type 0} (xs : List A) → xs ++ [] ≡ xs
append_nil [] = refl
append_nil (x ∷ xs) = ap (λ more. x ∷ more) (append_nil xs)

-- a field without a value is none of those
pub free_behind : (made : List (String Global × Data)) (others : List (Option Data)) (i : ℕ) → is_filled (slice_get (full made ++ others) i) ≡ false
    → length made ≤ i
free_behind [] others i e = omega arith
free_behind (m ∷ made) others zero e = absurd (cc)
free_behind (m ∷ made) others (suc i) e = omega (arith, free_behind made others i e)

pub filled_before : (made : List (String Global × Data)) (others : List (Option Data)) (i : ℕ) → i < length made
    → is_filled (slice_get (full made ++ others) i) ≡ true
filled_before [] others i lt = absurd (omega (arith, lt))
filled_before (m ∷ made) others zero lt = refl
filled_before (m ∷ made) others (suc i) lt = filled_before made others i (omega (arith, lt))

pub filled_behind : (made : List (String Global × Data)) (others : List (Option Data)) (i : ℕ) → length made ≤ i
    → slice_get (full made ++ others) i ≡ slice_get others (i - length made)
filled_behind [] others i le = let e : i ≡ i - 0 = omega arith in ap (slice_get others) e
filled_behind (m ∷ made) others zero le = absurd (omega (arith, le))
filled_behind (m ∷ made) others (suc i) le =
    let e : i - length made ≡ suc i - suc (length made) = omega arith in
    filled_behind made others i (omega (arith, le)) ∙ ap (slice_get others) e

-- ---- one more value

-- of the field whose turn it is
pub put_in_turn : (n : ℕ) (made more : List (String Global × Data)) (name : String Global) (d : Data) (others others_ : List (Option Data)) → length made < n
    → others ≡ [] → others_ ≡ [] → more ≡ made ++ (name, d) ∷ []
    → slots_of n (full more ++ others_) ≡ set (slots_of n (full made ++ others)) (length made) (Some d)
put_in_turn n made more name d others others_ lt e e_ m =
    let ends : full more ++ others_ ≡ full made ++ Some d ∷ [] =
    ap (λ o. full more ++ o) e_ ∙ append_nil (full more) ∙ ap full m ∙ full_append made (name, d) in
    let starts : full made ++ others ≡ full made = ap (λ o. full made ++ o) e ∙ append_nil (full made) in
    let as_long : length (full made) ≡ length made = length-map made (λ f. Some f.1) in
    ap (slots_of n) ends ∙ put_last n (full made) d (omega (arith, lt, as_long)) ∙ ap (λ i. set (slots_of n (full made)) i (Some d)) as_long
    ∙ ap (λ slots. set (slots_of n slots) (length made) (Some d)) (sym starts)

-- of another one, in a slot that is there by now
pub put_other : (n : ℕ) (made : List (String Global × Data)) (others there more : List (Option Data)) (i : ℕ) (d : Data) → i < n → length made ≤ i
    → AddsEmpty others there → i - length made < length there → more ≡ set there (i - length made) (Some d)
    → slots_of n (full made ++ more) ≡ set (slots_of n (full made ++ others)) i (Some d)
put_other n made others there more i d lt le adds less m =
    let as_long : length (full made) ≡ length made = length-map made (λ f. Some f.1) in
    let within : i < length (full made ++ there) = omega (arith, length-append (full made) there, as_long, le, less) in
    ap (λ slots. slots_of n (full made ++ slots)) m ∙ ap (slots_of n) (sym (set-append_right (full made) there (length made) i (Some d) as_long le))
    ∙ put_within n (full made ++ there) i d lt within ∙ ap (λ slots. set slots i (Some d)) (adds n (full made))

-- ---- the field whose turn it is

apart_at : (f : Field) (fields : List FieldShape) (i : ℕ) (d : FieldShape) → Each (λ g. (n : Text) → is_called n g ≡ true → is_called n f ≡ false)
    (map field_view fields) → i < length fields → (n : Text) → is_called n (field_view (get_or fields i d)) ≡ true → is_called n f ≡ false
apart_at f [] i d o lt = absurd (omega (arith, lt))
apart_at f (g ∷ fields) zero d o lt = o.0
apart_at f (g ∷ fields) (suc i) d o lt = apart_at f fields i d o.1 (omega (arith, lt))

module _ (name : Text) (d : FieldShape) where
  none_before : (fields : List FieldShape) (i k : ℕ) → names_differ (map field_view fields) ≡ true → i < length fields
      → is_called name (field_view (get_or fields i d)) ≡ true → k < i → is_called name (field_view (get_or fields k d)) ≡ false
  none_before [] i k h lt e less = absurd (omega (arith, lt))
  none_before (f ∷ fields) zero k h lt e less = absurd (omega (arith, less))
  none_before (f ∷ fields) (suc i) zero h lt e less =
      apart_at (field_view f) fields i d (called_apart (field_view f) (map field_view fields) h) (omega (arith, lt)) name e
  none_before (f ∷ fields) (suc i) (suc k) h lt e less =
      none_before fields i k (names_parts (field_view f) (map field_view fields) h).1 (omega (arith, lt)) e (omega (arith, less))

  pub turn_found : (fields : List FieldShape) (i : ℕ) → names_differ (map field_view fields) ≡ true → i < length fields
      → is_called name (field_view (get_or fields i d)) ≡ true → Some i ≡ position (λ f. is_called name (field_view f)) fields
  turn_found fields i h lt e =
      let is : position_or_len (λ f. is_called name (field_view f)) fields ≡ i =
      position_or_len_is (λ f. is_called name (field_view f)) fields i d (omega (arith, lt)) (λ k less. none_before fields i k h lt e less) (λ _. e) in
      ap (λ b. cond b (Some i) None) (sym (lt-ltb i (length fields) lt)) ∙ ap (λ k. cond (nat_lt k (length fields)) (Some k) None) (sym is)

-- ---- no values yet

pub slots_for : (fields : List FieldShape) (slots : Slots) → IsEmpty fields slots → AreSlotsFor fields slots
slots_for fields slots h = subst (λ made. AreNamed fields made × IsNameAt fields (length made) slots.next) (sym h.0) (tt, h.2)

pub none_in : (fields : List FieldShape) (slots : Slots) → IsEmpty fields slots → slots_in fields slots ≡ map (λ _. None) fields
none_in fields slots h = ap (slots_of (length fields)) (ap₂ (λ made others. full made ++ others) h.0 h.1) ∙ slots-none fields

pub none_else : {A : Type 0} (xs : List A) → length xs ≡ 0 → xs ≡ []
none_else [] e = refl
none_else (x ∷ xs) e = absurd (omega (arith, e))

-- likewise of the slice that code looks at
pub turn_at : (name : Text) (fields slice : List FieldShape) (i : ℕ) (f : FieldShape) → slice ≡ fields → true ≡ nat_lt i (length slice) → f ≡ get_or slice i f
    → is_called name (field_view f) ≡ true → names_differ (map field_view fields) ≡ true → Some i ≡ position (λ f. is_called name (field_view f)) fields
turn_at name fields slice i f same lt at e h =
    let here : slice_get fields i ≡ Some f =
    ap (λ fs. slice_get fs i) (sym same) ∙ slice_get_read slice (length slice) i f refl (ltb-true i (length slice) (sym lt)) at in
    turn_found name f fields i h (slice_get_within fields i f here)
    (ap (λ (g : FieldShape). is_called name (field_view g)) (get_or_from_slice_get fields i f f here) ∙ e)

-- ---- the field whose turn it is

pub own_name : (f : FieldShape) (name : List ℕ) → name ≡ string_bytes f.name → is_called (chars name) (field_view f) ≡ true
own_name f name e = rw (e, same_self (chars (string_bytes f.name))) refl

pub none_yet : (made : List (String Global × Data)) (others : List (Option Data)) (i : ℕ) → others ≡ [] → i ≡ length made
    → is_filled (slice_get (full made ++ others) i) ≡ false
none_yet made others i e at = ap is_filled
    (filled_behind made others i (omega (arith, at)) ∙ ap (λ o. slice_get o (i - length made)) e ∙ slice_get_past [] (i - length made) (omega arith))

-- what a slice from an index on holds
pub all_behind : {A : Type 0} (n : ℕ) (xs : List A) → take (length xs - n) (drop n xs) ≡ drop n xs
all_behind n xs = ap (λ (k : ℕ). take k (drop n xs)) (sym (length-drop n xs)) ∙ take-length (drop n xs)
