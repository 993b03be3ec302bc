use Rattle.ron_spec_grammar.proofs.Agreement.Laws.{body_agrees, document_agrees}
use Rattle.ron_spec_grammar.proofs.values_become_the_data_of_the_text.Goals as goal

pub returns : goal.returns
returns c = record { body = body_agrees; document = document_agrees }
