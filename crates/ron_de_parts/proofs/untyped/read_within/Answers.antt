use Rattle.std.proofs.Common.{subst}
use Rattle.ron_de_steps.specs.Conditions.{Conditions}
use Rattle.ron_de_untyped.specs.Values.{ReadsAny}
use Rattle.ron_de_parts.proofs.untyped.read_within.Goals as goal

pub returns-clause-value : goal.returns-clause-value
returns-clause-value c = subst (λ (x : Conditions). ReadsAny x c.args.is_bare c.args.cursor.now c.read_any.result c.read_any.new.cursor.rest) c.reading.ensures
    c.read_any.ensures.value

pub returns-clause-text : goal.returns-clause-text
returns-clause-text c = c.read_any.ensures.advance.text

pub returns-clause-no_longer : goal.returns-clause-no_longer
returns-clause-no_longer c = c.read_any.ensures.advance.no_longer

pub returns-clause-fault : goal.returns-clause-fault
returns-clause-fault c = c.read_any.ensures.advance.fault
