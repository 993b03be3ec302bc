-- Fields that may be left out come off again, name by name: laws of fields whose names differ.
use Rattle.std.proofs.Common.{◌≡◌, Bool, true, false, not, cond, List, [], ◌∷◌, map, Option, Some, None, refl, sym, ap}
use Rattle.std.proofs.lemmas.Bool.{or_parts, and_parts}
use Rattle.ron_spec_words.specs.Characters.{Text}
use Rattle.ron_spec_words.specs.Runs.{same_text}
use Rattle.ron_spec_grammar.specs.Data as plain
use Rattle.ron_spec_grammar.specs.Schema.{holds_text}
use Rattle.ron_spec_grammar.proofs.Finding.{same_self}
use Rattle.ron_types_fields.specs.Names.{Name, own}
use Rattle.ron_types_fields.specs.Rows.{own_differ}
use Rattle.ron_types_fields.specs.Spelled.{and_spelled, spelled_fields, front, behind}

-- a flag that is turned
pub not_true : (b : Bool) → not b ≡ true → b ≡ false
not_true true e = sym e
not_true false e = refl

-- a name that differs from all behind it
pub first_differs : (n : Name) (ns : List Name) → own_differ (n ∷ ns) ≡ true → holds_text (own n) (map own ns) ≡ false
first_differs n ns h = not_true _ (and_parts (not (holds_text (own n) (map own ns))) (own_differ ns) h).0

pub others_differ : (n : Name) (ns : List Name) → own_differ (n ∷ ns) ≡ true → own_differ ns ≡ true
others_differ n ns h = (and_parts (not (holds_text (own n) (map own ns))) (own_differ ns) h).1

-- the first field, if there is one, has another name
pub record HasOther (name : Text) (ds : plain.Fields) : Type 0 where
  pub none : front name ds ≡ None
  pub all : behind name ds ≡ ds

-- fields of names among which this one isn't
pub other_first : (name : Text) (ns : List Name) (ds : List (Option plain.Data)) → holds_text name (map own ns) ≡ false → HasOther name (spelled_fields ns ds)
other_first name [] ds h = record { none = refl; all = refl }
other_first name (n ∷ ns) [] h = record { none = refl; all = refl }
other_first name (n ∷ ns) (None ∷ ds) h = other_first name ns ds (or_parts (same_text (own n) name) (holds_text name (map own ns)) h).1
other_first name (n ∷ ns) (Some d ∷ ds) h =
    let e = (or_parts (same_text (own n) name) (holds_text name (map own ns)) h).0 in
    record {
      none = ap (λ b. cond b (Some d) None) e;
      all = ap (λ b. cond b (spelled_fields ns ds) (plain.field_and (own n) d (spelled_fields ns ds))) e;
    }

-- what is put before such fields comes off again
module _ (name : Text) (d : Option plain.Data) (ds : plain.Fields) (h : HasOther name ds) where
  pub front-spelled : front name (and_spelled name d ds) ≡ d
  front-spelled = go d
    where
      go : (d : Option plain.Data) → front name (and_spelled name d ds) ≡ d
      go None = h.none
      go (Some x) = ap (λ b. cond b (Some x) None) (same_self name)

  pub behind-spelled : behind name (and_spelled name d ds) ≡ ds
  behind-spelled = go d
    where
      go : (d : Option plain.Data) → behind name (and_spelled name d ds) ≡ ds
      go None = h.all
      go (Some x) = ap (λ b. cond b ds (plain.field_and name x ds)) (same_self name)
