use Rattle.ron_lex_text.specs.Parsed.{parsed_text}
use Rattle.ron_de_steps.proofs.ErrorLemmas.{escaped_or_bad}
use Rattle.ron_de_steps.proofs.strings.read_string.Goals as goal

pub returns-in-Err-clause-refused : goal.returns-in-Err-clause-refused
returns-in-Err-clause-refused c = escaped_or_bad parsed_text c.in-Err.refusal _ c.string.new.self.rest c.in-Err.ensures.value c.in-Err.ensures.escaped
