use Rattle.std.proofs.Common.{refl}
use Rattle.ron_spec_layout.specs.Name.{is_plain_name}
use Rattle.ron_ser.proofs.names.is_plain_name.Goals as goal

pub returns-then-is_plain_identifier : goal.returns-then-is_plain_identifier
unfolding is_plain_name
returns-then-is_plain_identifier c = rw (← c.is_plain_identifier.ensures, c.if-is_plain_identifier.true, c.is_value_word.ensures) refl

pub returns-else-is_plain_identifier : goal.returns-else-is_plain_identifier
unfolding is_plain_name
returns-else-is_plain_identifier c = rw (← c.is_plain_identifier.ensures, c.if-is_plain_identifier.false) refl
