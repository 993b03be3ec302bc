-- What a status says.
use Rattle.std.specs.Prelude.{◌≡◌, [], string_bytes}
use Rattle.rontool_command.specs.declared.report.Report.{Report}

-- With status 0 nothing is told on standard error.
abbrev pub TellsAll : Report → Type 0
TellsAll report = report.status ≡ 0 → string_bytes report.faults ≡ []
