-- Brackets around a layout, and a name before them: for every shape with parentheses.
use Rattle.std.proofs.Common.{◌≡◌, true, false, [], ◌∷◌, ◌++◌, refl}
use Rattle.unicode_ident.proofs.Computing.{unicode_ident}
use Rattle.ron_spec_words.specs.Characters.{Text}
use Rattle.ron_spec_words.specs.Lang.{Lang, Then, Group}
use Rattle.ron_spec_words.specs.Name.{Named, is_name}
use Rattle.ron_spec_words.proofs.Gaps.{skip-other}
use Rattle.ron_spec_words.proofs.Names.{name_solid}
use Rattle.ron_spec_grammar.proofs.Finding.{same_self}
use Rattle.ron_spec_layout.specs.Name.{written_name}
use Rattle.ron_spec_layout.specs.Brackets.{bracketed}
use Rattle.ron_spec_layout.specs.Stand.{StandsFirst, Stands, Ends}
use Rattle.ron_spec_layout.proofs.Names.{name_spelled}
use Rattle.ron_spec_layout.proofs.Stands.{at_once, then_stands, group}

pub in_round : {A : Type 0} {L : Text → Lang A} (t next : Text) {a : A} → Ends next → Stands L t (41 ∷ next) a
    → StandsFirst (Group 40 41 L) (bracketed false t) next a
in_round t next e h = group 40 41 t next (λ s. skip-other 40 s refl refl) (λ s. skip-other 41 s refl refl) e.1 h

-- a name and what stands directly behind it
pub named_then : {A : Type 0} {M : Text → Text → Lang A} (name t next : Text) {a : A} → is_name name ≡ true → StandsFirst (M name []) (40 ∷ t) next a
    → StandsFirst (Then (Named name) M) (written_name name ++ 40 ∷ t) next a
unfolding unicode_ident
named_then name t next h k =
    let spelled = name_spelled name (40 ∷ (t ++ next)) h refl in
    then_stands (written_name name) (40 ∷ t) next name (record { value = name; spelled = spelled; meant = rw same_self refl })
    (name_solid.holds (written_name name) (40 ∷ (t ++ next)) name spelled).1 (at_once k)
