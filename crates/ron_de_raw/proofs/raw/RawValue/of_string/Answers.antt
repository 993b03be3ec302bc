use Rattle.std.proofs.Common.{string_bytes}
use Rattle.std.proofs.lemmas.Str.{is_utf8-from_IsUtf8, IsUtf8-string_bytes}
use Rattle.ron_de_raw.proofs.raw.RawValue.of_string.Goals as goal

pub invariant_of-result : goal.invariant_of-result
invariant_of-result c = record { valid = c.requires; spelled = is_utf8-from_IsUtf8 (string_bytes c.args.text) (IsUtf8-string_bytes c.args.text) }
