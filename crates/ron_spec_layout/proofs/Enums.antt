-- A variant stands for itself, alone or before what stands for what it holds: for `Spelled`.
use Rattle.std.proofs.Common.{◌≡◌, ℕ, ◌≤◌, Bool, true, false, List, [], ◌∷◌, ◌++◌, codes, inl, inr, Option, Some, slice_get, refl, ap, ◌∙◌}
use Rattle.unicode_ident.proofs.Computing.{unicode_ident}
use Rattle.ron_spec_words.specs.Characters.{Text}
use Rattle.ron_spec_words.specs.Lang.{Lang, Then, Means}
use Rattle.ron_spec_words.specs.Name.{Name, is_name}
use Rattle.ron_spec_words.proofs.Names.{name_solid}
use Rattle.ron_spec_grammar.specs.Data.{Data, unit_variant_of}
use Rattle.ron_spec_grammar.specs.Schema.{Shape, Variant, VariantShape, unit_variant, enum, variant_named, HasVariant}
use Rattle.ron_spec_grammar.specs.Rule.{Extensions}
use Rattle.ron_spec_grammar.specs.Shapes.Enum.{unit_if, holding_if, VariantText}
use Rattle.ron_spec_grammar.specs.Grammar.{Spells}
use Rattle.ron_spec_layout.specs.Name.{written_name}
use Rattle.ron_spec_layout.specs.Brackets.{bracketed}
use Rattle.ron_spec_layout.specs.Stand.{StandsFirst, Stands, MayFollow}
use Rattle.ron_spec_layout.proofs.Names.{name_spelled}
use Rattle.ron_spec_layout.proofs.Stands.{may_follow_ends, stands_as, stands_needs, at_once, whole, then_stands, plain_stands}
use Rattle.ron_spec_layout.proofs.Places.{inner, at_shape}

-- a name with a meaning, and what stands in round brackets behind it
pub called_then : {A B : Type 0} {M : A → Text → Lang B} (f : Text → Option A) (name t next : Text) (a : A) {b : B} → f name ≡ Some a → is_name name ≡ true
    → StandsFirst (M a []) (40 ∷ t) next b → StandsFirst (Then (Means Name f) M) (written_name name ++ 40 ∷ t) next b
unfolding unicode_ident
called_then f name t next a e h k =
    let spelled = name_spelled name (40 ∷ (t ++ next)) h refl in
    then_stands (written_name name) (40 ∷ t) next a (record { value = name; spelled = spelled; meant = e })
    (name_solid.holds (written_name name) (40 ∷ (t ++ next)) name spelled).1 (at_once k)

pub first_means : {A B : Type 0} {L : Lang A} {t next : Text} {a : A} (b : B) (f : A → Option B) → f a ≡ Some b → StandsFirst L t next a
    → StandsFirst (Means L f) t next b
first_means b f e h = record {
  stretch = h.stretch;
  after = h.after;
  split = h.split;
  solid = h.solid;
  spelled = record { value = _; spelled = h.spelled; meant = e };
  is_after = h.is_after;
}

module _ (x : Extensions) (schema : List Shape) (name v : Text) where
  abbrev Unit : List Variant → Lang Data
  Unit variants = Means Name (λ v. unit_if name v (variant_named v variants))

  abbrev Holding : ℕ → List Variant → Lang Data
  Holding room variants =
      Then (Means Name (λ v. holding_if v (variant_named v variants))) (λ v _. VariantText x name v room (inner x schema room) (variant_named v variants))

  pub unit_variant_stands : (room i : ℕ) (bare : Bool) (next : Text) (variants : List Variant) → slice_get schema i ≡ Some (enum name variants)
      → variant_named v variants ≡ Some unit_variant → is_name v ≡ true → 2 ≤ room → MayFollow bare next
      → Stands (Spells x schema room bare i) (written_name v) next (unit_variant_of name v)
  unit_variant_stands room i bare next variants s n h le f =
      let e = may_follow_ends bare next f in
      let spelled = name_spelled v next h e.0 in
      let d = unit_variant_of name v in
      let word : StandsFirst (Unit variants) (written_name v) next d =
      whole (name_solid.holds (written_name v) next v spelled).1 e.1 (record { value = v; spelled = spelled; meant = ap (unit_if name v) n }) in
      at_shape x schema room i bare (enum name variants) s
      (plain_stands bare f (stands_needs le (stands_as {L = λ _. Unit variants} d (at_once word) (λ before t n z. inl z))))

  -- a variant that holds something, from the stretch behind its name
  module _ (room i : ℕ) (bare : Bool) (next : Text) (content : VariantShape) (variant : HasVariant schema i name v content)
      (held : holding_if v (Some content) ≡ Some v) (h : is_name v ≡ true) (le : 2 ≤ room) (f : MayFollow bare next) where
    pub holding_stands : (t : Text) (d : Data) → StandsFirst (VariantText x name v room (inner x schema room) (Some content)) (bracketed false t) next d
        → Stands (Spells x schema room bare i) (written_name v ++ bracketed false t) next d
    holding_stands t d g =
        let variants = variant.0 in
        let there : StandsFirst (VariantText x name v room (inner x schema room) (variant_named v variants)) (bracketed false t) next d = rw variant.2 g in
        let all : StandsFirst (Holding room variants) (written_name v ++ bracketed false t) next d =
        called_then {M = λ w _. VariantText x name w room (inner x schema room) (variant_named w variants)} (λ w. holding_if w (variant_named w variants)) v
        (t ++ codes ")") next v (ap (holding_if v) variant.2 ∙ held) h there in
        at_shape x schema room i bare (enum name variants) variant.1
        (plain_stands bare f (stands_needs le (stands_as {L = λ _. Holding room variants} d (at_once all) (λ before t n z. inr z))))
