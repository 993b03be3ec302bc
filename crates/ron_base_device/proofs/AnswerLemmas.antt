-- What is answered of text that was put into an output that keeps its fault.
use Rattle.std.proofs.Common.{◌≡◌, ℕ, Option, None, Some, Result, Ok, Err, List, refl, inl, inr, subst}
use Rattle.std.specs.Result.{MatchResult}
use Rattle.std.specs.Fmt.{WritesInCalls}
use Rattle.ron_base.specs.declared.error.Error.{Error}
use Rattle.ron_base_device.specs.declared.output.TextOutput.{TextOutput}
use Rattle.ron_base_device.specs.Begun.{HasBegun}
use Rattle.ron_base_device.specs.Output.{PutsText, IsAnswer, StopsText, writer_of, fault_of, name_of_writer, name_of_fault}
use Rattle.ron_base_device.proofs.OutputLemmas.{HasPut, HasPutFront, has_put, has_put_front, named_alike}

module _ {W P : Type 0} (took left : W → List ℕ → W → Type 0) (refuses : W → Error → Type 0) (Refused : Error → Type 0) (o p : TextOutput W P) (text : List ℕ)
    (fresh : fault_of o ≡ None) where
  -- the writing answers that the text was put into the output, or why it was not and that a front of it was
  abbrev pub Written : Result (Unit {0}) Error → Type 0
  Written r = MatchResult r (λ _. WritesInCalls (PutsText took left refuses) o text p) (λ e. Refused e × HasBegun (PutsText took left refuses) o text p)

  -- the same of the writer
  abbrev pub Answered : Result (Unit {0}) Error → Type 0
  Answered r = MatchResult r (λ _. WritesInCalls took (writer_of o) text (writer_of p)) (StopsText took left refuses Refused (writer_of o) text (writer_of p))

  by_fault : (fault : Option Error) (written r : Result (Unit {0}) Error) → IsAnswer fault written r → Written written → fault_of p ≡ fault → Answered r
  by_fault None (Ok x) (Ok y) is h kept =
      subst (λ f. HasPut took left refuses (writer_of o) text (writer_of p) f) kept (has_put took left refuses o p text fresh h)
  by_fault None (Err d) (Err e) is h kept =
      subst (StopsText took left refuses Refused (writer_of o) text (writer_of p)) (cc is)
      (inl (h.0, subst (λ f. HasPutFront took left refuses (writer_of o) text (writer_of p) f) kept (has_put_front took left refuses o p text fresh h.1)))
  by_fault None (Ok x) (Err e) is h kept = absurd (cc is)
  by_fault None (Err d) (Ok y) is h kept = absurd (cc is)
  by_fault (Some fault) written (Ok y) is h kept = absurd (cc is)
  by_fault (Some fault) written (Err e) is h kept =
      subst (StopsText took left refuses Refused (writer_of o) text (writer_of p)) (cc is) (broke written fault kept h)
    where
      broke : (written : Result (Unit {0}) Error) (fault : Error) → fault_of p ≡ Some fault → Written written
          → StopsText took left refuses Refused (writer_of o) text (writer_of p) fault
      broke (Ok x) fault kept h = let put =
          subst (λ f. HasPut took left refuses (writer_of o) text (writer_of p) f) kept (has_put took left refuses o p text fresh h) in
          inr (put.1, put.0)
      broke (Err e) fault kept h = let put =
          subst (λ f. HasPutFront took left refuses (writer_of o) text (writer_of p) f) kept (has_put_front took left refuses o p text fresh h.1) in
          inr (put.1, put.0)

  pub answered : (written r : Result (Unit {0}) Error) → Written written → IsAnswer (fault_of p) written r → Answered r
  answered written r h is = by_fault (fault_of p) written r is h refl

  pub names : (r : Result (Unit {0}) Error) → Written r → (name_of_writer p ≡ name_of_writer o) × (name_of_fault p ≡ name_of_fault o)
  names (Ok x) h = named_alike took left refuses o p text h
  names (Err e) h = named_alike took left refuses o p h.1.front h.1.written
