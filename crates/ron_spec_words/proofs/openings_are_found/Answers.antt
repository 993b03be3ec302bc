use Rattle.ron_spec_words.proofs.Openings.{kinds_of_insides, finds_content, are_ends, are_in_order}
use Rattle.ron_spec_words.proofs.openings_are_found.Goals as goal

pub returns-clause-kinds : goal.returns-clause-kinds
returns-clause-kinds c = kinds_of_insides

pub returns-clause-content : goal.returns-clause-content
returns-clause-content c = finds_content

pub returns-clause-ends : goal.returns-clause-ends
returns-clause-ends c = are_ends

pub returns-clause-order : goal.returns-clause-order
returns-clause-order c = are_in_order
