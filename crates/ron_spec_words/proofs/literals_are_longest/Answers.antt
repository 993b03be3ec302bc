use Rattle.ron_spec_words.specs.Lang.{done}
use Rattle.ron_spec_words.proofs.Direct.{word_fixed}
use Rattle.ron_spec_words.proofs.Numbers.{word_number}
use Rattle.ron_spec_words.proofs.AnyIntegers.{number_ends, word_any_integer, word_untyped_integer}
use Rattle.ron_spec_words.proofs.Quotes.{word_char, word_byte}
use Rattle.ron_spec_words.proofs.RawStrings.{word_string, word_byte_string}
use Rattle.ron_spec_words.proofs.Slices.{slices_strings, slices_byte_strings}
use Rattle.ron_spec_words.proofs.Ranges.{word_number_or_range}
use Rattle.ron_spec_words.proofs.literals_are_longest.Goals as goal

pub returns-clause-fixed_words : goal.returns-clause-fixed_words
returns-clause-fixed_words c w = word_fixed w done

pub returns-clause-numbers : goal.returns-clause-numbers
returns-clause-numbers c = word_number

pub returns-clause-number_ends : goal.returns-clause-number_ends
returns-clause-number_ends c = number_ends

pub returns-clause-any_integers : goal.returns-clause-any_integers
returns-clause-any_integers c = word_any_integer

pub returns-clause-untyped_integers : goal.returns-clause-untyped_integers
returns-clause-untyped_integers c = word_untyped_integer

pub returns-clause-chars : goal.returns-clause-chars
returns-clause-chars c = word_char

pub returns-clause-bytes : goal.returns-clause-bytes
returns-clause-bytes c = word_byte

pub returns-clause-strings : goal.returns-clause-strings
returns-clause-strings c = word_string

pub returns-clause-byte_strings : goal.returns-clause-byte_strings
returns-clause-byte_strings c = word_byte_string

pub returns-clause-slices : goal.returns-clause-slices
returns-clause-slices c = slices_strings

pub returns-clause-byte_slices : goal.returns-clause-byte_slices
returns-clause-byte_slices c = slices_byte_strings

pub returns-clause-ranges : goal.returns-clause-ranges
returns-clause-ranges c = word_number_or_range
