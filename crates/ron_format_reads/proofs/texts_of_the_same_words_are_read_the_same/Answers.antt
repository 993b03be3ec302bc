use Rattle.ron_format_reads.proofs.AnswerLemmas.{reads_the_same, reads_the_same_value}
use Rattle.ron_format_reads.proofs.texts_of_the_same_words_are_read_the_same.Goals as goal

pub returns : goal.returns
returns c = record { read = reads_the_same; values = reads_the_same_value }
