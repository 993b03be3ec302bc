use Rattle.ron_format_laws.proofs.Bodies.{keeps_values, keeps_bodies}
use Rattle.ron_format_laws.proofs.Documents.{keeps_documents, keeps_value_documents, keeps_whole_texts, reads_documents, reads_value_documents, reads_values}
use Rattle.ron_format_laws.proofs.layouts_keep_data.Goals as goal

pub returns : goal.returns
returns c = record {
  values = keeps_values;
  bodies = keeps_bodies;
  documents = keeps_documents;
  value_documents = keeps_value_documents;
  whole = keeps_whole_texts;
  read = reads_documents;
  read_value = reads_value_documents;
  read_body = reads_values;
}
