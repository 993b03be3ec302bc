use Rattle.std.proofs.Common.{sym, ap, ◌∙◌, rules, tests}
use Rattle.std.specs.List.{list_all}
use Rattle.std.proofs.lemmas.Iterator.{YieldsList-from_chars}
use Rattle.std.proofs.lemmas.Iterator.Search.{all_from_yields_List}
use Rattle.ron_spec_words.specs.Characters.{in_raw_name}
use Rattle.ron_base.proofs.AsciiLemmas.{word_chars, word_in_raw_name}
use Rattle.ron_base.proofs.name.are_in_raw_name.Goals as goal

pub returns-then-is_ascii_word : goal.returns-then-is_ascii_word
returns-then-is_ascii_word c =
    let word = sym c.is_ascii_word.ensures ∙ c.if-is_ascii_word.true in
    c.if-is_ascii_word.true ∙ sym (ap (list_all in_raw_name) (word_chars c.args.text.now word) ∙ word_in_raw_name c.args.text.now word)

pub returns-else-is_ascii_word : goal.returns-else-is_ascii_word
returns-else-is_ascii_word c =
    all_from_yields_List in_raw_name _ _ _ c.all.ensures.ran (YieldsList-from_chars c.args.text.now c.utf8.text cc) (λ x b q k. search (rules, tests))
