use Rattle.ron_format_words.proofs.Laid.{keeps_words, keeps_comments}
use Rattle.ron_format_words.proofs.layouts_keep_words_and_comments.Goals as goal

pub returns : goal.returns
returns c = record { words = keeps_words; comments = keeps_comments }
