-- What is told by the data of newtypes, tuple structs, and structs whose fields may be left out: that of their parts.
use Rattle.std.specs.Prelude.{◌≡◌, ℕ, Bool, true, false, List, [], ◌∷◌, Option, Some, None, option_map}
use Rattle.std.specs.Option.{option_eq}
use Rattle.std.proofs.Common.{refl, sym, ap, ◌∙◌, true≢false}
use Rattle.ron_spec_grammar.specs.Data.{Data, newtype_of, tuple_struct_of, struct_of, the_unit, Datas, no_datas, Fields, no_fields}
use Rattle.ron_types.specs.Keys.{items_of}
use Rattle.ron_types.specs.Recovery.{Recovers, AreEqual}
use Rattle.ron_types.specs.RecoveryLaws.{equal_lists, items_back}
use Rattle.ron_types_fields.specs.Names.{Name, own}
use Rattle.ron_types_fields.specs.NamedStructs.{data_of_newtype, data_of_tuple_struct}
use Rattle.ron_types_fields.specs.Rows.{own_differ}
use Rattle.ron_types_fields.specs.Spelled.{spelled_fields, front, behind}
use Rattle.ron_types_fields.specs.Structs.{data_of_fields}
use Rattle.ron_types_fields.specs.SpelledLaws.{other_first, front-spelled, behind-spelled, first_differs, others_differ}

-- ---- newtypes and tuple structs

abbrev held_in : Data → Data
held_in (newtype_of name d) = d
held_in d = d

pub newtypes_tell : (name : List ℕ) (d e : Data) → data_of_newtype name d ≡ data_of_newtype name e → d ≡ e
newtypes_tell name d e same = ap held_in same

abbrev row_in : Data → Datas
row_in (tuple_struct_of name ds) = ds
row_in _ = no_datas

pub tuple_structs_tell : {T : Type 0} (name : List ℕ) (x y : T) (items : T → List Data)
    → data_of_tuple_struct name (items x) ≡ data_of_tuple_struct name (items y) → AreEqual (items x) (items y)
tuple_structs_tell name x y items same =
    equal_lists (items x) (items y) (sym (items_back (items x)) ∙ ap (λ d. items_of (row_in d)) same ∙ items_back (items y))

-- ---- fields that may be left out

-- What stands under these names, or that nothing does, is equal, one by one, as far as both lists tell it.
abbrev pub AreEqualSpelled : List Name → List (Option Data) → List (Option Data) → Type 0
AreEqualSpelled [] ds es = Unit {0}
AreEqualSpelled (n ∷ ns) [] es = Unit {0}
AreEqualSpelled (n ∷ ns) (d ∷ ds) [] = Unit {0}
AreEqualSpelled (n ∷ ns) (d ∷ ds) (e ∷ es) = (d ≡ e) × AreEqualSpelled ns ds es

spelled_tell : (names : List Name) (ds es : List (Option Data)) → own_differ names ≡ true → spelled_fields names ds ≡ spelled_fields names es
    → AreEqualSpelled names ds es
spelled_tell [] ds es h same = tt
spelled_tell (n ∷ ns) [] es h same = tt
spelled_tell (n ∷ ns) (d ∷ ds) [] h same = tt
spelled_tell (n ∷ ns) (d ∷ ds) (e ∷ es) h same =
    let one = other_first (own n) ns ds (first_differs n ns h) in
    let other = other_first (own n) ns es (first_differs n ns h) in (
      sym (front-spelled (own n) d (spelled_fields ns ds) one) ∙ ap (front (own n)) same ∙ front-spelled (own n) e (spelled_fields ns es) other,
      spelled_tell ns ds es (others_differ n ns h)
          (sym (behind-spelled (own n) d (spelled_fields ns ds) one) ∙ ap (behind (own n)) same ∙ behind-spelled (own n) e (spelled_fields ns es) other),
    )

abbrev fields_in : Data → Fields
fields_in (struct_of name fs) = fs
fields_in _ = no_fields

-- structs of names that differ, by what stands under each
pub fields_tell : {T : Type 0} (name : List ℕ) (names : List Name) → own_differ names ≡ true → (x y : T) (spelled : T → List (Option Data))
    → data_of_fields name names (spelled x) ≡ data_of_fields name names (spelled y) → AreEqualSpelled names (spelled x) (spelled y)
fields_tell name names differ x y spelled same = spelled_tell names (spelled x) (spelled y) differ (ap fields_in same)

-- ---- what stands under a name

abbrev or_unit : Option Data → Data
or_unit None = the_unit
or_unit (Some d) = d

-- a field that stands there
pub there_tells : (d e : Data) → Some d ≡ Some e → d ≡ e
there_tells d e same = ap or_unit same

abbrev is_there : Option Data → Bool
is_there None = false
is_there (Some d) = true

-- a field that may be left out
pub left_out_recovers : {T : Type 0} (f : T → Data) (equal : T → T → Bool) → Recovers f equal → (x y : Option T) → option_map f x ≡ option_map f y
    → option_eq equal x y ≡ true
left_out_recovers f equal recover None None same = refl
left_out_recovers f equal recover None (Some y) same = absurd (true≢false (sym (ap is_there same)))
left_out_recovers f equal recover (Some x) None same = absurd (true≢false (ap is_there same))
left_out_recovers f equal recover (Some x) (Some y) same = recover x y (there_tells (f x) (f y) same)
