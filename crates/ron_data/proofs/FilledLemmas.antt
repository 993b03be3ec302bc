-- Fields from their slots, one after the other: for `Slots::into_fields`.
use Rattle.std.proofs.Common.{◌≡◌, ℕ, zero, suc, ◌+◌, true, cond, List, [], ◌∷◌, ◌++◌, map, drop, length, chars, string_bytes, String, Global, Option, Some}
use Rattle.std.proofs.Common.{None, option_map, refl, sym, ap, subst, ◌∙◌, arith}
use Rattle.std.specs.List.{All, Contains}
use Rattle.std.specs.Option.{option_flatten, MatchOption}
use Rattle.std.proofs.Math.ListN.{drop_of_length-le}
use Rattle.std.proofs.lemmas.List.Elements.{All-push}
use Rattle.ron_spec_grammar.specs.Data as plain
use Rattle.ron_data.specs.declared.data.Data.{Data}
use Rattle.ron_data_schema.specs.declared.schema.FieldShape.{FieldShape}
use Rattle.ron_data.specs.Datum.{data_view, fields_view}
use Rattle.ron_data_schema.specs.Shapes.{field_view}
use Rattle.ron_data.specs.Slots.{slots_of, slots_view, filled, AreNamed}
use Rattle.ron_data.proofs.SlotLemmas.{full, none_else}

-- the fields that were made, before others
abbrev pub fields_before : List (String Global × Data) → plain.Fields → plain.Fields
fields_before [] fields = fields
fields_before (f ∷ made) fields = plain.field_and (chars (string_bytes f.0)) (data_view f.1) (fields_before made fields)

abbrev fields_of_slots : List FieldShape → List (Option Data) → Option plain.Fields
fields_of_slots fields slots = filled (map field_view fields) (slots_view slots)

-- the slots of the fields that are left
abbrev left_of : List FieldShape → List (Option Data) → List (Option Data)
left_of fields slots = slots_of (length fields) slots

-- So far: these fields are made, and those of the slots that are left come behind them. All of it is of the slots that there were.
pub record Made (fields : List FieldShape) (slots : List (Option Data)) (made : List (String Global × Data)) (fields_left : List FieldShape)
    (slots_left : List (Option Data)) : Type 0 where
  pub is : fields_of_slots fields slots ≡ option_map (fields_before made) (fields_of_slots fields_left (left_of fields_left slots_left))
  pub parts : All (λ f. Contains slots (Some f.1)) made
  pub others : (d : Data) → Contains (left_of fields_left slots_left) (Some d) → Contains slots (Some d)

-- ---- at the start: the fields that came in their turn

slots_behind : (made : List (String Global × Data)) (fields : List FieldShape) (others : List (Option Data)) → AreNamed fields made
    → slots_of (length fields) (full made ++ others) ≡ full made ++ left_of (drop (length made) fields) others
slots_behind [] fields others h = refl
slots_behind (m ∷ made) [] others h = absurd h
slots_behind (m ∷ made) (f ∷ fields) others h = ap (λ slots. Some m.1 ∷ slots) (slots_behind made fields others h.1)

both_before : (f : plain.Fields → plain.Fields) (g : plain.Fields → plain.Fields) (o : Option plain.Fields)
    → option_map f (option_map g o) ≡ option_map (λ fs. f (g fs)) o
both_before f g None = refl
both_before f g (Some fs) = refl

in_turn_first : (made : List (String Global × Data)) (fields : List FieldShape) (slots : List (Option Data)) → AreNamed fields made
    → fields_of_slots fields (full made ++ slots) ≡ option_map (fields_before made) (fields_of_slots (drop (length made) fields) slots)
in_turn_first [] fields slots h = same_option (fields_of_slots fields slots)
  where
    same_option : (o : Option plain.Fields) → o ≡ option_map (λ a. a) o
    same_option None = refl
    same_option (Some a) = refl
in_turn_first (m ∷ made) [] slots h = absurd h
in_turn_first (m ∷ made) (f ∷ fields) slots h =
    let named : chars (string_bytes f.name) ≡ chars (string_bytes m.0) = ap chars (sym h.0) in
    ap (λ o. option_map (plain.field_and (chars (string_bytes f.name)) (data_view m.1)) o) (in_turn_first made fields slots h.1)
    ∙ ap (λ n. option_map (plain.field_and n (data_view m.1)) (option_map (fields_before made) (fields_of_slots (drop (length made) fields) slots))) named
    ∙ both_before (plain.field_and (chars (string_bytes m.0)) (data_view m.1)) (fields_before made) (fields_of_slots (drop (length made) fields) slots)

contains_later : {A : Type 0} (x : A) (xs : List A) (a : A) → Contains xs a → Contains (x ∷ xs) a
contains_later x xs a h = (suc h.0, omega (arith, h.1), h.2)

contains_behind : {A : Type 0} (front xs : List A) (a : A) → Contains xs a → Contains (front ++ xs) a
contains_behind [] xs a h = h
contains_behind (x ∷ front) xs a h = contains_later x (front ++ xs) a (contains_behind front xs a h)

full_contains : (made : List (String Global × Data)) (slots : List (Option Data)) → All (λ f. Contains (full made ++ slots) (Some f.1)) made
full_contains [] slots k d lt = absurd (omega (arith, lt))
full_contains (m ∷ made) slots zero d lt = (0, omega arith, refl)
full_contains (m ∷ made) slots (suc k) d lt = contains_later (Some m.1) (full made ++ slots) _ (full_contains made slots k d (omega (arith, lt)))

pub made_in_turn : (fields fields_left : List FieldShape) (made : List (String Global × Data)) (others slots_left : List (Option Data)) → AreNamed fields made
    → fields_left ≡ drop (length made) fields → slots_left ≡ others
    → Made fields (slots_of (length fields) (full made ++ others)) made fields_left slots_left
made_in_turn fields fields_left made others slots_left named f s =
    let behind : List FieldShape = drop (length made) fields in
    rw (f, s, slots_behind made fields others named) (record {
      is = in_turn_first made fields (left_of behind others) named;
      parts = full_contains made (left_of behind others);
      others = λ d h. contains_behind (full made) (left_of behind others) (Some d) h;
    })

-- where all fields came in their turn, nothing is left
pub all_in_turn : (fields : List FieldShape) (made : List (String Global × Data)) (others : List (Option Data)) → AreNamed fields made
    → length made ≡ length fields → Made fields (slots_of (length fields) (full made ++ others)) made [] others
all_in_turn fields made others named e =
    let over : drop (length made) fields ≡ [] = drop_of_length-le fields (omega (arith, e)) in
    made_in_turn fields [] made others others named (sym over) refl

-- ---- one more field

one_more : (made : List (String Global × Data)) (item : String Global × Data) (fields : plain.Fields)
    → fields_before (made ++ item ∷ []) fields ≡ fields_before made (plain.field_and (chars (string_bytes item.0)) (data_view item.1) fields)
one_more [] item others = refl
one_more (f ∷ made) item others = ap (plain.field_and (chars (string_bytes f.0)) (data_view f.1)) (one_more made item others)

one_more_of : (made : List (String Global × Data)) (item : String Global × Data) (o : Option plain.Fields) → option_map (fields_before made)
    (option_map (plain.field_and (chars (string_bytes item.0)) (data_view item.1)) o) ≡ option_map (fields_before (made ++ item ∷ [])) o
one_more_of made item None = refl
one_more_of made item (Some fields) = ap Some (sym (one_more made item fields))

made_whole : (made : List (String Global × Data)) → fields_before made plain.no_fields ≡ fields_view made
made_whole [] = refl
made_whole (f ∷ made) = ap (plain.field_and (chars (string_bytes f.0)) (data_view f.1)) (made_whole made)

none_left : (o : Option plain.Fields) (made : List (String Global × Data)) → o ≡ None → option_map (fields_before made) o ≡ None
none_left o made e = ap (option_map (fields_before made)) e

-- without a value, a field is left out where it may be missing
without : {fs : List FieldShape} {slots : List (Option Data)} (f : FieldShape) (slot : Option Data) (gs : List FieldShape) (later : List (Option Data))
    → fs ≡ f ∷ gs → slots ≡ slot ∷ later → slot ≡ None → fields_of_slots fs slots ≡ cond f.may_be_missing (fields_of_slots gs later) None
without f slot gs later e s v = rw (e, s, v) refl

-- the next slot, or none where there are no more
abbrev pub IsNextSlot : List (Option Data) → Option (Option Data) → List (Option Data) → Type 0
IsNextSlot ss None ts = (ss ≡ []) × (ts ≡ [])
IsNextSlot ss (Some slot) ts = ss ≡ slot ∷ ts

pub next_slot : (ss ts : List (Option Data)) (n m : ℕ) (o : Option (Option Data)) → n ≡ length ss → m ≡ length ts
    → MatchOption o ((n ≡ 0) × (m ≡ 0)) (λ slot. (ss ≡ slot ∷ ts) × (m + 1 ≡ n)) → IsNextSlot ss o ts
next_slot ss ts n m None same left h = (none_else ss (omega (arith, h.0, same)), none_else ts (omega (arith, h.1, left)))
next_slot ss ts n m (Some slot) same left h = h.0

module _ (fields : List FieldShape) (slots : List (Option Data)) (made : List (String Global × Data)) (fs : List FieldShape) (ss : List (Option Data))
    (h : Made fields slots made fs ss) where
  module _ (gs : List FieldShape) (ts : List (Option Data)) (f : FieldShape) (next : Option (Option Data)) (slot : Option Data) (e : fs ≡ f ∷ gs)
      (s : IsNextSlot ss next ts) (o : slot ≡ option_flatten next) where
    split : left_of fs ss ≡ slot ∷ left_of gs ts
    split = rw (e, o) (go next s)
      where
        go : (next : Option (Option Data)) → IsNextSlot ss next ts → left_of (f ∷ gs) ss ≡ option_flatten next ∷ left_of gs ts
        go None n = rw (n.0, n.1) refl
        go (Some there) n = rw n refl

    later : (d : Data) → Contains (left_of gs ts) (Some d) → Contains slots (Some d)
    later d c = h.others d (subst (λ more. Contains more (Some d)) (sym split) (contains_later slot (left_of gs ts) (Some d) c))

    pub made_more : (more : List (String Global × Data)) (name : String Global) (d : Data) → slot ≡ Some d → string_bytes name ≡ string_bytes f.name
        → more ≡ made ++ (name, d) ∷ [] → Made fields slots more gs ts
    made_more more name d v n m =
        let spelled : chars (string_bytes name) ≡ chars (string_bytes f.name) = ap chars n in
        let step : fields_of_slots fs (left_of fs ss)
        ≡ option_map (plain.field_and (chars (string_bytes name)) (data_view d)) (fields_of_slots gs (left_of gs ts)) = rw (split, e, v, spelled) refl in
        let here : Contains (left_of fs ss) (Some d) =
        subst (λ all. Contains all (Some d)) (sym (split ∙ ap (λ o. o ∷ left_of gs ts) v)) (0, omega arith, refl) in
        rw m (record {
          is = h.is ∙ ap (option_map (fields_before made)) step ∙ one_more_of made (name, d) (fields_of_slots gs (left_of gs ts));
          parts = All-push (λ f. Contains slots (Some f.1)) made (name, d) h.parts (h.others d here);
          others = later;
        })

    pub made_without : slot ≡ None → f.may_be_missing ≡ true → Made fields slots made gs ts
    made_without v m =
        let step : fields_of_slots fs (left_of fs ss) ≡ fields_of_slots gs (left_of gs ts) =
        without f slot gs (left_of gs ts) e split v ∙ ap (λ b. cond b (fields_of_slots gs (left_of gs ts)) None) m in
        record { is = h.is ∙ ap (option_map (fields_before made)) step; parts = h.parts; others = later }

  pub all_made : length fs ≡ 0 → fields_of_slots fields slots ≡ Some (fields_view made)
  all_made over =
      let none : fs ≡ [] = none_else fs over in
      h.is ∙ rw none (ap Some (made_whole made))
