use Rattle.std.proofs.Common.{arith}
use Rattle.ron_lex_text.proofs.SearchLemmas.{found, not_found, one_ascii}
use Rattle.ron_lex_text.proofs.search.skip_to_quote.Goals as goal

pub returns-in-Some-clause-value : goal.returns-in-Some-clause-value
returns-in-Some-clause-value c = found _ (one_ascii 34 (omega arith)) _ c.utf8.text c.range_from.utf8 c.as_bytes.ensures.value
    (rw c.in-Some.is at c.memchr.ensures) c.range_from.ensures.value

pub returns-in-None-clause-value : goal.returns-in-None-clause-value
returns-in-None-clause-value c = not_found _ (one_ascii 34 (omega arith)) _ c.utf8.text c.as_bytes.ensures.value (rw c.in-None.is at c.memchr.ensures)
