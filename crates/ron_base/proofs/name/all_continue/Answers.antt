use Rattle.std.proofs.Common.{sym, ap, ◌∙◌, rules, tests}
use Rattle.std.specs.List.{list_all}
use Rattle.std.proofs.lemmas.Iterator.{YieldsList-from_chars}
use Rattle.std.proofs.lemmas.Iterator.Search.{all_from_yields_List}
use Rattle.ron_spec_words.specs.Characters.{continues_name}
use Rattle.ron_base.proofs.AsciiLemmas.{word_chars, word_continues}
use Rattle.ron_base.proofs.name.all_continue.Goals as goal

pub returns-then-is_ascii_word : goal.returns-then-is_ascii_word
returns-then-is_ascii_word c =
    let word = sym c.is_ascii_word.ensures ∙ c.if-is_ascii_word.true in
    c.if-is_ascii_word.true ∙ sym (ap (list_all continues_name) (word_chars c.args.text.now word) ∙ word_continues c.args.text.now word)

pub returns-else-is_ascii_word : goal.returns-else-is_ascii_word
returns-else-is_ascii_word c =
    all_from_yields_List continues_name _ _ _ c.all.ensures.ran (YieldsList-from_chars c.args.text.now c.utf8.text cc) (λ x b q k. search (rules, tests))
