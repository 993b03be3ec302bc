use Rattle.std.proofs.lemmas.Str.{is_utf8-from_IsUtf8}
use Rattle.ron_de_raw.proofs.raw.RawValue.of_slice.Goals as goal

pub invariant_of-result : goal.invariant_of-result
invariant_of-result c = record { valid = c.requires; spelled = is_utf8-from_IsUtf8 c.args.text.now c.utf8.text }
