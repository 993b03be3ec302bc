-- A text in memory, as it is answered.
use Rattle.std.proofs.Common.{◌≡◌, ℕ, Option, List, ◌++◌, String, Global, string_bytes, inl, inr, subst, sym}
use Rattle.ron_base.specs.declared.error.Error.{Error}
use Rattle.ron_base.specs.declared.error.Error.TheVariants.{Message, OutOfMemory}
use Rattle.ron_spec_grammar.specs.Data.{Data}
use Rattle.ron_spec_layout.specs.Config.{Config}
use Rattle.ron_spec_layout.specs.Name.{first_refused}
use Rattle.ron_base_device.specs.Output.{StopsText}
use Rattle.ron_ser.specs.Refusals.{RefusesWriting, RefusesData, RefusesText, HoldsName}

writing_refuses_text : (c : Config) (limit : Option ℕ) (d : Data) (e : Error) → RefusesWriting c limit d e → RefusesText c limit d e
writing_refuses_text c limit d OutOfMemory h = tt
writing_refuses_text c limit d (Message given) h = absurd h
writing_refuses_text c limit d _ h = h

-- what a put into a text does, leaves and answers
abbrev pub Took : String Global → List ℕ → String Global → Type 0
Took s bytes t = string_bytes t ≡ string_bytes s ++ bytes

abbrev pub Left : String Global → List ℕ → String Global → Type 0
Left s bytes t = string_bytes t ≡ string_bytes s

abbrev pub Lacks : String Global → Error → Type 0
Lacks s e = e ≡ OutOfMemory

pub text_refused : (c : Config) (limit : Option ℕ) (d : Data) {s t : String Global} {bytes : List ℕ} {e : Error}
    → StopsText Took Left Lacks (RefusesData c limit d) s bytes t e → RefusesText c limit d e × HoldsName (first_refused d) e
text_refused c limit d {e = e} h = elim h [
  | inl k ↦ (writing_refuses_text c limit d e k.0.0, k.0.1)
  | inr k ↦ subst (λ e. RefusesText c limit d e × HoldsName (first_refused d) e) (sym k.0) (tt, tt)
]
