-- What is accepted of a variant, what is kept of it, and what it stands for.
use Rattle.std.proofs.Common.{◌≡◌, ℕ, zero, suc, cond, List, [], ◌∷◌, map, Some, Vec, Box, String, Global, chars, string_bytes, Result, Ok, Err, rules, refl}
use Rattle.std.proofs.Common.{sym, ap, subst, ◌∙◌}
use Rattle.std.specs.Result.{MatchResult}
use Rattle.ron_base.specs.declared.error.Error.{Error}
use Rattle.ron_base.specs.declared.error.Error.TheVariants.{OutOfMemory}
use Rattle.ron_spec_words.specs.Characters.{Text}
use Rattle.ron_spec_grammar.specs.Data as plain
use Rattle.ron_spec_grammar.proofs.Finding.{same_is}
use Rattle.ron_data.specs.declared.data.Data.{Data, the_lemmas}
use Rattle.ron_data.specs.declared.data.Data.TheVariants as held
use Rattle.ron_data.specs.declared.data.VariantData.{VariantData}
use Rattle.ron_data.specs.declared.data.VariantData.TheVariants as content
use Rattle.ron_data.specs.Datum.{Content, no_content, one_of, items_of, named_of, variant_of, data_view, content_view, items_view, fields_view, seen_fields}
use Rattle.ron_types.specs.Accepts.{IsVariant, HoldsNothing, HoldsOne, HoldsItems, HoldsFields}
use Rattle.ron_types.specs.FieldNames.{Field}
use Rattle.ron_types.specs.Kinds.{Kind, Kinds, Holds, keeps, HeldBy, HeldAt, OneOr, kept_by, kept_at, name_at, names_in, enum_normal, IsFirst, IsNone}
use Rattle.ron_types.specs.Kinds.{IsVariantWith, IsVariantAt, HasVariantAt, IsOneOf, holdings, table_of_enum}
use Rattle.ron_types.specs.OfTables.{IsOfOrdered, EachIsOf, holding_of}
use Rattle.ron_types.specs.Rows.{AreNames, named_tables, named_fields}
use Rattle.ron_types.specs.Tables.{fields}
use Rattle.ron_data_schema.specs.Table.{Table}
use Rattle.ron_types.proofs.EnumLemmas.{struct_variant_is_of}
use Rattle.ron_types.proofs.RowLemmas.{tables_named, fields_named, fields_differ}

-- ---- one level

view-Variant : (f v : String Global) (c : VariantData)
    → data_view (held.Variant f v c) ≡ variant_of (chars (string_bytes f)) (chars (string_bytes v)) (content_view c)
view-Variant f v c = search (rules, the_lemmas)

pub content-Unit : content_view content.Unit ≡ no_content
content-Unit = search (rules, the_lemmas)

pub holds-Unit : HoldsNothing content.Unit
holds-Unit = search (rules, the_lemmas)

pub content-Newtype : (b : Box Data Global) → content_view (content.Newtype b) ≡ one_of (data_view b.value)
content-Newtype b = search (rules, the_lemmas)

pub content-Tuple : (v : Vec Data Global) → content_view (content.Tuple v) ≡ items_of (items_view v.items)
content-Tuple v = search (rules, the_lemmas)

pub content-Struct : (fs : Vec Field Global) → content_view (content.Struct fs) ≡ named_of (fields_view fs.items)
content-Struct fs = search (rules, the_lemmas, seen-named fs.items)
  where
    seen-named : (fs : List Field) → seen_fields (map (λ f. (f.0, data_view f.1)) fs) ≡ fields_view fs
    seen-named [] = refl
    seen-named (f ∷ fs) = ap (plain.field_and (chars (string_bytes f.0)) (data_view f.1)) (seen-named fs)

pub holds-Newtype : (P : Data → Type 0) (b : Box Data Global) → P b.value → HoldsOne P (content.Newtype b)
holds-Newtype P b h = search (rules, the_lemmas)

pub from-Newtype : (P : Data → Type 0) (b : Box Data Global) → HoldsOne P (content.Newtype b) → P b.value
from-Newtype P b h = search (rules, the_lemmas)

pub holds-Tuple : (P : List Data → Type 0) (v : Vec Data Global) → P v.items → HoldsItems P (content.Tuple v)
holds-Tuple P v h = search (rules, the_lemmas)

pub from-Tuple : (P : List Data → Type 0) (v : Vec Data Global) → HoldsItems P (content.Tuple v) → P v.items
from-Tuple P v h = search (rules, the_lemmas)

pub holds-Struct : (P : List Field → Type 0) (v : Vec Field Global) → P v.items → HoldsFields P (content.Struct v)
holds-Struct P v h = search (rules, the_lemmas)

pub from-Struct : (P : List Field → Type 0) (v : Vec Field Global) → HoldsFields P (content.Struct v) → P v.items
from-Struct P v h = search (rules, the_lemmas)

-- content of another kind is not accepted
pub not_unit : (c : VariantData) → (c ≡ content.Unit → ⊥) → HoldsNothing c → ⊥
not_unit c other h = search (rules, the_lemmas)

pub not_newtype : (P : Data → Type 0) (c : VariantData) → ((b : Box Data Global) → c ≡ content.Newtype b → ⊥) → HoldsOne P c → ⊥
not_newtype P c other h = search (rules, the_lemmas)

pub not_tuple : (P : List Data → Type 0) (c : VariantData) → ((v : Vec Data Global) → c ≡ content.Tuple v → ⊥) → HoldsItems P c → ⊥
not_tuple P c other h = search (rules, the_lemmas)

pub not_struct : (P : List Field → Type 0) (c : VariantData) → ((v : Vec Field Global) → c ≡ content.Struct v → ⊥) → HoldsFields P c → ⊥
not_struct P c other h = search (rules, the_lemmas)

accepts-Variant : (name : Text) (P : Text → VariantData → Type 0) (f v : String Global) (c : VariantData) → chars (string_bytes f) ≡ name
    → P (chars (string_bytes v)) c → IsVariant name P (held.Variant f v c)
accepts-Variant name P f v c e h = search (rules, the_lemmas)

from-Variant : (name : Text) (P : Text → VariantData → Type 0) (f v : String Global) (c : VariantData) → IsVariant name P (held.Variant f v c)
    → P (chars (string_bytes v)) c
from-Variant name P f v c h = search (rules, the_lemmas)

-- what is accepted where something else is
pub accepted_as : {X A B : Type 0} (r : Result X Error) → (A → B) → (B → A) → MatchResult r (λ _. A) (λ e. A → e ≡ OutOfMemory)
    → MatchResult r (λ _. B) (λ e. B → e ≡ OutOfMemory)
accepted_as (Ok x) there back h = there h
accepted_as (Err e) there back h = λ b. h (back b)

-- ---- the variant of these names

module _ (name variant : Text) (c : VariantData) (d : Data) (w : IsVariantWith name variant c d) where
  pub with_view : data_view d ≡ variant_of name variant (content_view c)
  with_view = ap data_view w.is ∙ view-Variant w.enum w.own c ∙ (λ i. variant_of (w.enum_is i) (w.own_is i) (content_view c))

  pub with_accepted : (P : Text → VariantData → Type 0) → P variant c → IsVariant name P d
  with_accepted P h = subst (IsVariant name P) (sym w.is) (accepts-Variant name P w.enum w.own c w.enum_is (subst (λ v. P v c) (sym w.own_is) h))

  pub with_held : (P : Text → VariantData → Type 0) → IsVariant name P d → P variant c
  with_held P h = subst (λ v. P v c) w.own_is (from-Variant name P w.enum w.own c (subst (IsVariant name P) w.is h))

-- the variant of names that are these
pub with_names : (name variant name' variant' : List ℕ) (c : VariantData) (d : Data) → name' ≡ name → variant' ≡ variant
    → IsVariantWith (chars name') (chars variant') c d → IsVariantWith (chars name) (chars variant) c d
with_names name variant name' variant' c d first second w =
    record { enum = w.enum; own = w.own; is = w.is; enum_is = w.enum_is ∙ ap chars first; own_is = w.own_is ∙ ap chars second }

normal_is : (ks : Kinds) (name variant : Text) (c : Content) → enum_normal ks (variant_of name variant c) ≡ variant_of name variant (kept_by ks variant c)
normal_is ks name variant no_content = refl
normal_is ks name variant (one_of d) = refl
normal_is ks name variant (items_of ds) = refl
normal_is ks name variant (named_of ds) = refl

-- ---- the variant at a place

held_at : (ks : Kinds) (i : ℕ) (v : Text) (c : VariantData) → IsFirst (names_in ks) i v → HeldAt ks i c → HeldBy ks v c
held_at [] i v c f h = absurd f
held_at (k ∷ ks) zero v c f h = subst (λ b. OneOr b (Holds k.1 c) (HeldBy ks v c)) (sym f) h
held_at (k ∷ ks) (suc i) v c f h = subst (λ b. OneOr b (Holds k.1 c) (HeldBy ks v c)) (sym f.0) (held_at ks i v c f.1 h)

at_held : (ks : Kinds) (i : ℕ) (v : Text) (c : VariantData) → IsFirst (names_in ks) i v → HeldBy ks v c → HeldAt ks i c
at_held [] i v c f h = absurd f
at_held (k ∷ ks) zero v c f h = subst (λ b. OneOr b (Holds k.1 c) (HeldBy ks v c)) f h
at_held (k ∷ ks) (suc i) v c f h = at_held ks i v c f.1 (subst (λ b. OneOr b (Holds k.1 c) (HeldBy ks v c)) f.0 h)

-- no variant has the name
pub none_held : (ks : Kinds) (v : Text) (c : VariantData) → IsNone (names_in ks) v → HeldBy ks v c → ⊥
none_held [] v c f h = h
none_held (k ∷ ks) v c f h = none_held ks v c f.1 (subst (λ b. OneOr b (Holds k.1 c) (HeldBy ks v c)) f.0 h)

kept_there : (ks : Kinds) (i : ℕ) (v : Text) (c : Content) → IsFirst (names_in ks) i v → kept_by ks v c ≡ kept_at ks i c
kept_there [] i v c f = absurd f
kept_there (k ∷ ks) zero v c f = ap (λ b. cond b (keeps k.1 c) (kept_by ks v c)) f
kept_there (k ∷ ks) (suc i) v c f = ap (λ b. cond b (keeps k.1 c) (kept_by ks v c)) f.0 ∙ kept_there ks i v c f.1

name_there : (ks : Kinds) (i : ℕ) (v : Text) → IsFirst (names_in ks) i v → chars (name_at ks i) ≡ v
name_there [] i v f = absurd f
name_there (k ∷ ks) zero v f = same_is (chars k.0) v f
name_there (k ∷ ks) (suc i) v f = name_there ks i v f.1

module _ (name : List ℕ) (ks : Kinds) (place : ℕ) (k : Kind) (has : HasVariantAt ks place k) (c : VariantData) (d : Data) (i : ℕ) (e : i ≡ place)
    (at : IsVariantAt name (names_in ks) i c d) where
  here : IsFirst (names_in ks) place at.variant
  here = subst (λ i. IsFirst (names_in ks) i at.variant) e at.first

  pub taken_in : Holds k c → IsOneOf name ks d
  taken_in h = with_accepted (chars name) at.variant c d at.is (HeldBy ks) (held_at ks place at.variant c here (has.accepts c h))

  pub held_in : IsOneOf name ks d → Holds k c
  held_in h = has.accepted c (at_held ks place at.variant c here (with_held (chars name) at.variant c d at.is (HeldBy ks) h))

  pub kept_in : (x : Content) → x ≡ keeps k (content_view c) → variant_of (chars name) (chars (name_at ks place)) x ≡ enum_normal ks (data_view d)
  kept_in x h =
      (λ j. variant_of (chars name) (name_there ks place at.variant here j)
      ((h ∙ sym (has.kept (content_view c)) ∙ sym (kept_there ks place at.variant (content_view c) here)) j))
      ∙ sym (ap (enum_normal ks) (with_view (chars name) at.variant c d at.is) ∙ normal_is ks (chars name) at.variant (content_view c))

-- data of a struct variant is of its enum's schema
pub named_variant_is_of : (name : List ℕ) (ks : Kinds) (variant : Text) (names : List (List ℕ)) (ts : List Table) (ds : List plain.Data)
    → holding_of variant (holdings ks) ≡ Some (fields (named_tables names ts)) → AreNames names ts → EachIsOf ts ds
    → IsOfOrdered (table_of_enum name ks) (plain.struct_variant_of (chars name) variant (named_fields names ds))
named_variant_is_of name ks variant names ts ds e are h =
    let tables = tables_named names ts are.as_many in
    subst (λ fs. IsOfOrdered (table_of_enum name ks) (plain.struct_variant_of (chars name) variant fs)) (fields_named names ts ds are.as_many)
    (struct_variant_is_of (chars name) (holdings ks) variant (named_tables names ts) ds e (λ js. fields_differ names ts js are.differ)
    (subst (λ us. EachIsOf us ds) (sym tables) h))
