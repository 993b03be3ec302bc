-- What is found among entries once one is put in, and what becomes of them where it is written.
use Rattle.std.proofs.Common.{◌≡◌, Option, None, Some, [], ◌∷◌, Less, Equal, Greater, refl, ap, ◌∙◌, subst, string_bytes, rules}
use Rattle.std.specs.Prelude.{String, MatchOption}
use Rattle.std.specs.Global.{Global}
use Rattle.std.specs.List.Sorted.{IsStrictlySortedBy}
use Rattle.std.specs.String.{string_cmp, string_cmp_total}
use Rattle.std.specs.BTreeMap.{BTreeMap, is_at}
use Rattle.std.specs.Map.{keys_of}
use Rattle.std.proofs.lemmas.Cmp.{tied_itself}
use Rattle.std.proofs.lemmas.Map.{lookup-none}
use Rattle.std.proofs.lemmas.Map.Keys.{sorted_tail}
use Rattle.std.proofs.lemmas.Map.Entries.{none_below_head}
use Rattle.ron_ser_config.specs.declared.path_meta.field.Field.{Field, the_lemmas}
use Rattle.ron_ser_config.specs.declared.path_meta.fields.Fields.{roll-Fields}
use Rattle.ron_ser_config.specs.View.{Entries, entries}
use Rattle.ron_ser_config.specs.Entries.{field_at, with_entry, with_field}
use Rattle.ron_ser_config.specs.Built.{IsEmptyField, PutsMissing}

-- fields hold the entries of the map that they are made of
pub entries-roll : (m : BTreeMap (String Global) Field) → entries (roll-Fields (record { by_name = m })) ≡ m.entries
entries-roll m = search (rules, the_lemmas)

module _ (name : String Global) where
  itself : string_cmp name name ≡ Equal
  itself = tied_itself string_cmp_total name

  field_at-put : (es : Entries) (f : Field) → field_at (string_bytes name) (with_entry name f es) ≡ Some f
  field_at-put [] f = rw itself refl
  field_at-put (e ∷ es) f =
      elim (string_cmp name e.0) as (λ o. string_cmp name e.0 ≡ o → field_at (string_bytes name) (with_entry name f (e ∷ es)) ≡ Some f) [
        | Less ↦ λ here. rw (here, itself) refl
        | Equal ↦ λ here. rw (here, here) refl
        | Greater ↦ λ here. rw (here, here) (field_at-put es f)
      ] refl

  with_field-put : (es : Entries) (f g : Field) → field_at (string_bytes name) es ≡ None
      → with_field (string_bytes name) g (with_entry name f es) ≡ with_entry name g es
  with_field-put [] f g missing = rw itself refl
  with_field-put (e ∷ es) f g missing =
      elim (string_cmp name e.0)
      as (λ o. string_cmp name e.0 ≡ o → with_field (string_bytes name) g (with_entry name f (e ∷ es)) ≡ with_entry name g (e ∷ es)) [
        | Less ↦ λ here. rw (here, itself) refl
        | Equal ↦ λ here. absurd (let found : Some e.1 ≡ None = rw here at missing in cc)
        | Greater ↦ λ here. rw (here, here) (ap (λ (rest : Entries). e ∷ rest) (with_field-put es f g (rw here at missing)))
      ] refl

  with_field-held : (es : Entries) (f held : Field) → IsStrictlySortedBy string_cmp (keys_of es) → field_at (string_bytes name) es ≡ Some held
      → with_field (string_bytes name) f es ≡ with_entry name f es
  with_field-held [] f held sorted there = absurd (cc)
  with_field-held (e ∷ es) f held sorted there =
      elim (string_cmp name e.0) as (λ o. string_cmp name e.0 ≡ o → with_field (string_bytes name) f (e ∷ es) ≡ with_entry name f (e ∷ es)) [
        | Less ↦ λ here. absurd (let none : field_at (string_bytes name) (e ∷ es) ≡ None =
            lookup-none (is_at (string_cmp name)) (e ∷ es) (none_below_head string_cmp_total name e es sorted here) in cc)
        | Equal ↦ λ here. rw here refl
        | Greater ↦
            λ here. rw here (ap (λ (rest : Entries). e ∷ rest) (with_field-held es f held (sorted_tail string_cmp e.0 (keys_of es) sorted) (rw here at there)))
      ] refl

  -- ---- an empty field is put where there is none

  abbrev Puts : Entries → Entries → Option Field → Type 0
  Puts es mid o = MatchOption o ((f : Field) × IsEmptyField f × (mid ≡ with_entry name f es)) (λ _. mid ≡ es)

  abbrev pub IsHeld : Option Field → Field → Type 0
  IsHeld o f = MatchOption o (IsEmptyField f) (λ held. f ≡ held)

  held_by : (es mid : Entries) (o : Option Field) → field_at (string_bytes name) es ≡ o → Puts es mid o
      → (f : Field) × (field_at (string_bytes name) mid ≡ Some f) × IsHeld o f
  held_by es mid None at puts = (puts.0, ap (field_at (string_bytes name)) puts.2 ∙ field_at-put es puts.0, puts.1)
  held_by es mid (Some held) at puts = (held, ap (field_at (string_bytes name)) puts ∙ at, refl)

  written_by : (es mid : Entries) (g : Field) (o : Option Field) → field_at (string_bytes name) es ≡ o → Puts es mid o
      → IsStrictlySortedBy string_cmp (keys_of mid) → with_field (string_bytes name) g mid ≡ with_entry name g es
  written_by es mid g None at puts sorted = ap (with_field (string_bytes name) g) puts.2 ∙ with_field-put es puts.0 g at
  written_by es mid g (Some held) at puts sorted =
      ap (with_field (string_bytes name) g) puts ∙ with_field-held es g held (subst (λ (m : Entries). IsStrictlySortedBy string_cmp (keys_of m)) puts sorted) at

  -- the field at the name, once an empty one is put where there was none
  pub held : (es mid : Entries) → PutsMissing name es mid
      → (f : Field) × (field_at (string_bytes name) mid ≡ Some f) × IsHeld (field_at (string_bytes name) es) f
  held es mid puts = held_by es mid (field_at (string_bytes name) es) refl puts

  -- written, it stands there as if it had been put there
  pub written : (es mid : Entries) (g : Field) → PutsMissing name es mid → IsStrictlySortedBy string_cmp (keys_of mid)
      → with_field (string_bytes name) g mid ≡ with_entry name g es
  written es mid g puts sorted = written_by es mid g (field_at (string_bytes name) es) refl puts sorted
