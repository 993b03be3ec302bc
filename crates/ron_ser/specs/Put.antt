-- What is put into a writer, in a way that tells what a put leaves.
use Rattle.std.specs.Prelude.{ℕ, Result, MatchResult, List}
use Rattle.std.specs.Fmt.{WritesInCalls}
use Rattle.ron_base.specs.declared.error.Error.{Error}
use Rattle.ron_base_device.specs.Output.{StopsText}

-- From w to v the text was put; or an error stopped it, one that refuses what was to be put, or that of a put.
abbrev pub TriesToPut : {W : Type 0} → (W → List ℕ → W → Type 0) → (W → List ℕ → W → Type 0) → (W → Error → Type 0) → (Error → Type 0) → W → List ℕ → W
    → Result (Unit {0}) Error → Type 0
TriesToPut took left refuses Refused w text v result = MatchResult result (λ _. WritesInCalls took w text v) (StopsText took left refuses Refused w text v)
