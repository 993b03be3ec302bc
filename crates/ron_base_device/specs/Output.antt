-- An output that keeps its fault.
use Rattle.std.specs.Prelude.{◌≡◌, ◌⊎◌, ℕ, Option, None, Some, Result, Err, List}
use Rattle.std.specs.Borrow.{GName}
use Rattle.ron_base.specs.declared.error.Error.{Error}
use Rattle.ron_base_device.specs.declared.output.OutputFault.{OutputFault}
use Rattle.ron_base_device.specs.declared.output.TextOutput.{TextOutput}
use Rattle.ron_base_device.specs.Begun.{HasBegun, HasBroken}

-- why a put failed, if one did
abbrev pub error_of : OutputFault → Option Error
error_of f = f.error

-- the writer, and the fault that is kept
abbrev pub writer_of : {W P : Type 0} → TextOutput W P → W
writer_of o = o.writer.now

abbrev pub fault_of : {W P : Type 0} → TextOutput W P → Option Error
fault_of o = error_of o.fault.now

-- which writer it is, and where the fault is kept
abbrev pub name_of_writer : {W P : Type 0} → TextOutput W P → GName
name_of_writer o = o.writer.ghost_name

abbrev pub name_of_fault : {W P : Type 0} → TextOutput W P → GName
name_of_fault o = o.fault.ghost_name

-- A put by the faults before and after it. `Put` has three cases and no error of its own: taken, failed, or nothing
-- done. So what writes says of any output that all was put, or a beginning, and only what an output with a fault has
-- become tells of the fault.
--
-- Which holds of a put, by the faults before and after it: it was taken, it failed, or nothing was done.
abbrev pub Put : Option Error → Option Error → Type 0 → (Error → Type 0) → Type 0 → Type 0
Put None None Taken Failed Same = Taken
Put None (Some fault) Taken Failed Same = Failed fault
Put (Some fault) after Taken Failed Same = Same

-- A put is taken, or it fails and the fault is kept; where there is a fault already, nothing is done.
pub record PutsText {W P : Type 0} (took left : W → List ℕ → W → Type 0) (refuses : W → Error → Type 0) (o : TextOutput W P) (bytes : List ℕ)
    (p : TextOutput W P) : Type 0 where
  pub put : Put (fault_of o) (fault_of p) (took (writer_of o) bytes (writer_of p))
      (λ fault. left (writer_of o) bytes (writer_of p) × refuses (writer_of p) fault) ((writer_of p ≡ writer_of o) × (fault_of p ≡ fault_of o))
  pub same_writer : name_of_writer p ≡ name_of_writer o
  pub same_fault : name_of_fault p ≡ name_of_fault o

-- the fault, or else what was written
abbrev pub IsAnswer : Option Error → Result (Unit {0}) Error → Result (Unit {0}) Error → Type 0
IsAnswer None written result = result ≡ written
IsAnswer (Some fault) written result = result ≡ Err fault

-- Where writing stopped is two records. `HasBegun` is a beginning and nothing else, `HasBroken` one and then a put
-- that failed, of some text that comes next. One record with "perhaps a put that failed" would say less of data that
-- is refused; so each stands with its error (`StopsText`).
--
-- An error stopped the writing of a text: one of what was to be written, and a front of the text was put; or that of a put, which broke off.
abbrev pub StopsText : {W : Type 0} → (W → List ℕ → W → Type 0) → (W → List ℕ → W → Type 0) → (W → Error → Type 0) → (Error → Type 0) → W → List ℕ → W → Error
    → Type 0
StopsText took left refuses Refused w text v e = (Refused e × HasBegun took w text v) ⊎ (refuses v e × HasBroken took left w text v)
