-- Why a serializer refuses, and what then stands.
use Rattle.std.specs.Prelude.{◌≡◌, ◌⊎◌, ℕ, Bool, true, false, Option, List}
use Rattle.ron_spec_grammar.specs.Data as plain
use Rattle.ron_spec_layout.specs.Config.{Config, blank}
use Rattle.ron_base.specs.declared.error.Error.{Error}
use Rattle.ron_base.specs.declared.error.Error.TheVariants.{Fmt, Failed}
use Rattle.ron_base_device.specs.Output.{StopsText}
use Rattle.ron_ser.specs.Refusals.{RefusesBlank, RefusesData}

-- A text of the configuration is not blank; or all are, and a put failed.
abbrev pub RefusesHead : {W : Type 0} → (W → Error → Type 0) → Config → Error → Type 0
RefusesHead refuses c e = RefusesBlank c e ⊎ ((blank c ≡ true) × ((w : _) × refuses w e))

-- A text of the configuration is not blank; or all are, and a write failed.
abbrev pub RefusesWriterHead : Config → Error → Type 0
RefusesWriterHead c e = RefusesBlank c e ⊎ ((blank c ≡ true) × (e ≡ Fmt))

-- One that has failed answers `Failed`, and its writer stays. Any other refuses the data, and a front of the layout was put; or a put failed, of the layout or
-- a front of it.
abbrev pub StopsNext : {W : Type 0} → (W → List ℕ → W → Type 0) → (W → List ℕ → W → Type 0) → (W → Error → Type 0) → Bool → Config → Option ℕ → plain.Data → W
    → List ℕ → W → Error → Type 0
StopsNext took left refuses true c limit d w bytes v e = (e ≡ Failed) × (v ≡ w)
StopsNext took left refuses false c limit d w bytes v e = StopsText took left refuses (RefusesData c limit d) w bytes v e
