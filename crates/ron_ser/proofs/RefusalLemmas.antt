-- What refuses a part refuses the whole: for depths and names inside. And the errors that tell of refusals.
use Rattle.std.proofs.Common.{◌≡◌, Bool, false, Option, Some, sym, ap, ◌∙◌}
use Rattle.ron_spec_words.specs.Characters.{Text}
use Rattle.ron_spec_words.specs.Name.{is_name}
use Rattle.ron_ser.specs.declared.refusal.Refusal.{Refusal}
use Rattle.ron_ser.specs.declared.refusal.Refusal.TheVariants.{Name, Depth}
use Rattle.ron_ser.specs.Refusal.{RefusesName, IsRefused, TellsName}

pub refuses_wider : {names wider : Bool} {Within Wider : Type 0} (r : Refusal) → (names ≡ false → wider ≡ false) → (Wider → Within) → IsRefused names Within r
    → IsRefused wider Wider r
refuses_wider (Name given) n w h = n h
refuses_wider Depth n w h = λ k. h (w k)

pub refuses_name : (name : Text) {wider : Bool} (Wider : Type 0) (r : Refusal) → (is_name name ≡ false → wider ≡ false) → RefusesName name r
    → IsRefused wider Wider r
refuses_name name Wider (Name given) n h = n h.1
refuses_name name Wider Depth n h = absurd h

-- ---- the name that a refusal tells

-- the name that was to be written is the one that is told
pub holds_refused : (name : Text) {first : Option Text} (r : Refusal) → (is_name name ≡ false → first ≡ Some name) → RefusesName name r → TellsName first r
holds_refused name (Name given) f h = f h.1 ∙ ap Some (sym h.0)
holds_refused name Depth f h = absurd h

-- the name that is told of a part is told of the whole
pub holds_same : {part whole : Option Text} (r : Refusal) → ((name : Text) → part ≡ Some name → whole ≡ Some name) → TellsName part r → TellsName whole r
holds_same (Name given) f h = f _ h
holds_same Depth f h = tt
