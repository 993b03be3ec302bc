-- What is told of data that is put into a writer.
use Rattle.std.proofs.Common.{◌≡◌, ℕ, Option, None, Result, Ok, Err, List, subst, sym}
use Rattle.std.specs.Result.{MatchResult, OnOk, OnErr, IfErr}
use Rattle.std.specs.Fmt.{WritesInCalls}
use Rattle.ron_base.specs.declared.error.Error.{Error}
use Rattle.ron_spec_grammar.specs.Data.{Data}
use Rattle.ron_spec_layout.specs.Config.{Config}
use Rattle.ron_spec_layout.specs.Name.{first_refused}
use Rattle.ron_base_device.specs.declared.output.TextOutput.{TextOutput}
use Rattle.ron_base_device.specs.Begun.{HasBegun}
use Rattle.ron_base_device.specs.Output.{IsAnswer, writer_of, fault_of}
use Rattle.ron_base_device.proofs.AnswerLemmas.{Written, answered}
use Rattle.ron_ser.specs.Refusals.{RefusesWriting, RefusesData, HoldsName}
use Rattle.ron_ser.specs.Put.{TriesToPut}

-- what holds of one value holds of the other
pub at_last : {A : Type 0} (T : A → Type 0) {x y : A} → x ≡ y → T y → T x
at_last T e h = subst T (sym e) h

module _ {O : Type 0} (puts : O → List ℕ → O → Type 0) (o p : O) (text : List ℕ) (c : Config) (limit : Option ℕ) (d : Data) where
  -- the clauses of a call that writes data, as one
  pub told_of_data : (r : Result (Unit {0}) Error) → OnOk r (WritesInCalls puts o text p) → IfErr r (RefusesWriting c limit d)
      → IfErr r (HoldsName (first_refused d)) → OnErr r (HasBegun puts o text p)
      → MatchResult r (λ _. WritesInCalls puts o text p) (λ e. RefusesData c limit d e × HasBegun puts o text p)
  told_of_data (Ok x) whole refused name front = whole
  told_of_data (Err e) whole refused name front = ((refused, name), front)

module _ {W P : Type 0} (took left : W → List ℕ → W → Type 0) (refuses : W → Error → Type 0) (Refused : Error → Type 0) (o p : TextOutput W P) (text : List ℕ)
    (fresh : fault_of o ≡ None) where
  -- what was written into an output that keeps its fault, by the writer and the fault as they are once it is dropped
  pub told_of_writer : {w v : W} {fault : Option Error} → writer_of o ≡ w → v ≡ writer_of p → (written r : Result (Unit {0}) Error)
      → Written took left refuses Refused o p text fresh written → IsAnswer fault written r → fault ≡ fault_of p
      → TriesToPut took left refuses Refused w text v r
  told_of_writer {w = w} first last written r h is kept =
      at_last (λ v. TriesToPut took left refuses Refused w text v r) last
      (subst (λ w. TriesToPut took left refuses Refused w text (writer_of p) r) first
      (answered took left refuses Refused o p text fresh written r h (subst (λ f. IsAnswer f written r) kept is)))
