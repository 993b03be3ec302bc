use Rattle.ron_spec_words.proofs.Fronts.{token_front}
use Rattle.ron_spec_words.proofs.Tokens.{token_gap, token_string, token_byte_string, token_char, token_byte}
use Rattle.ron_spec_words.proofs.TokenRuns.{token_name, token_untyped_name}
use Rattle.ron_spec_words.proofs.WordsPass.{passes_any_integer}
use Rattle.ron_spec_words.proofs.Lookahead.{tells_several}
use Rattle.ron_spec_words.proofs.Ranges.{passes_number_or_range}
use Rattle.ron_spec_words.proofs.tokens_are_longest.Goals as goal

pub returns-clause-front : goal.returns-clause-front
returns-clause-front c = token_front

pub returns-clause-gaps : goal.returns-clause-gaps
returns-clause-gaps c = token_gap

pub returns-clause-names : goal.returns-clause-names
returns-clause-names c = (token_name, token_untyped_name)

pub returns-clause-literals : goal.returns-clause-literals
returns-clause-literals c = (token_string, token_byte_string, token_char, token_byte)

pub returns-clause-integers : goal.returns-clause-integers
returns-clause-integers c = passes_any_integer

pub returns-clause-several : goal.returns-clause-several
returns-clause-several c = tells_several

pub returns-clause-ranges : goal.returns-clause-ranges
returns-clause-ranges c = passes_number_or_range
