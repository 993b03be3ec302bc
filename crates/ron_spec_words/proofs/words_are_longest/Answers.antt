use Rattle.ron_spec_words.proofs.Gaps.{skip-gap, cut, skip_to_end, gap_to_end}
use Rattle.ron_spec_words.proofs.Names.{word_name, word_untyped_name}
use Rattle.ron_spec_words.proofs.words_are_longest.Goals as goal

pub returns-clause-cut : goal.returns-clause-cut
returns-clause-cut c = cut

pub returns-clause-longest : goal.returns-clause-longest
returns-clause-longest c gap next h = skip-gap h

pub returns-clause-to_end : goal.returns-clause-to_end
returns-clause-to_end c s = (gap_to_end s, skip_to_end s)

pub returns-clause-names : goal.returns-clause-names
returns-clause-names c = word_name

pub returns-clause-untyped_names : goal.returns-clause-untyped_names
returns-clause-untyped_names c = word_untyped_name
