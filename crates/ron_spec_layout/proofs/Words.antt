-- The layout of booleans, of the unit and of unit structs stands for them: for `Spelled`.
use Rattle.std.proofs.Common.{◌≡◌, ℕ, Bool, true, false, List, [], ◌∷◌, ◌++◌, codes, inl, inr, Some, slice_get, refl}
use Rattle.ron_spec_words.specs.Characters.{Text}
use Rattle.ron_spec_words.specs.Lang.{done, OptComma}
use Rattle.ron_spec_words.specs.Name.{Named, is_name}
use Rattle.ron_spec_words.proofs.Gaps.{skip-other}
use Rattle.ron_spec_words.proofs.Names.{name_solid}
use Rattle.ron_spec_grammar.specs.Data.{bool_of, the_unit}
use Rattle.ron_spec_grammar.specs.Schema.{Shape, bool, unit}
use Rattle.ron_spec_grammar.specs.Rule.{Extensions}
use Rattle.ron_spec_grammar.specs.Shapes.Bool.{bool_data, Boolean}
use Rattle.ron_spec_grammar.specs.Shapes.Unit.{unit_data, EmptyBrackets}
use Rattle.ron_spec_grammar.specs.Grammar.{Spells}
use Rattle.ron_spec_grammar.proofs.Finding.{same_self}
use Rattle.ron_spec_layout.specs.Name.{written_name}
use Rattle.ron_spec_layout.specs.Brackets.{bracketed, written_bool}
use Rattle.ron_spec_layout.specs.Stand.{Stands, Ends, MayFollow}
use Rattle.ron_spec_layout.proofs.Integers.{ends_name}
use Rattle.ron_spec_layout.proofs.Names.{name_spelled}
use Rattle.ron_spec_layout.proofs.Stands.{may_follow_ends, stands_means, at_once, whole, plain_stands}
use Rattle.ron_spec_layout.proofs.Places.{at_shape}

-- ---- words

boolean_stands : (b : Bool) (next : Text) → Ends next → Stands (λ before. Boolean) (written_bool b) next b
boolean_stands true next e =
    at_once (whole (skip-other 116 (codes "rue" ++ next) refl refl) e.1 (inl (record { same = refl; ends = ends_name next e; value = refl })))
boolean_stands false next e =
    at_once (whole (skip-other 102 (codes "alse" ++ next) refl refl) e.1 (inr (record { same = refl; ends = ends_name next e; value = refl })))

pub empty_stands : (next : Text) → Ends next → Stands (λ before. EmptyBrackets) (codes "()") next done
empty_stands next e = at_once (whole (skip-other 40 (41 ∷ next) refl refl) e.1 (record { rest = 41 ∷ []; split = refl; spelled = (refl, refl) }))

-- nothing at all, before the closing bracket
pub nothing_stands : (bare : Bool) (next : Text) → MayFollow bare next → Stands (λ before. OptComma done) [] next done
nothing_stands bare next f = let e = may_follow_ends bare next f in at_once (whole e.1 e.1 (inr (refl, refl)))

pub named_stands : (name next : Text) → is_name name ≡ true → Ends next → Stands (λ before. Named name) (written_name name) next name
named_stands name next h e =
    let spelled = name_spelled name next h e.0 in
    at_once (whole (name_solid.holds (written_name name) next name spelled).1 e.1 (record { value = name; spelled = spelled; meant = rw same_self refl }))

-- ---- shapes

module _ (x : Extensions) (schema : List Shape) where
  pub bool_stands : (b : Bool) (room i : ℕ) (bare : Bool) (next : Text) → slice_get schema i ≡ Some bool → MayFollow bare next
      → Stands (Spells x schema room bare i) (written_bool b) next (bool_of b)
  bool_stands b room i bare next e f =
      at_shape x schema room i bare bool e (plain_stands bare f (stands_means (bool_of b) bool_data refl (boolean_stands b next (may_follow_ends bare next f))))

  pub unit_stands : (room i : ℕ) (bare : Bool) (next : Text) → slice_get schema i ≡ Some unit → MayFollow bare next
      → Stands (Spells x schema room bare i) (bracketed bare []) next the_unit
  unit_stands room i false next e f = at_shape x schema room i false unit e (stands_means the_unit unit_data refl (empty_stands next f))
  unit_stands room i true next e f = at_shape x schema room i true unit e (stands_means the_unit unit_data refl (nothing_stands true next f))
