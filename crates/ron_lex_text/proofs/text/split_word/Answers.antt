use Rattle.std.proofs.Common.{sym, ◌∙◌}
use Rattle.ron_lex_text.proofs.StretchLemmas.{end_past_char, run_end, word_is}
use Rattle.ron_lex_text.proofs.text.split_word.Goals as goal

pub before-requires : goal.before-requires
before-requires c = end_past_char _ _ _ _ c.in-Some.ensures.chars (run_end _ _ _ c.skip_class-rest.ensures)

pub returns-clause-value : goal.returns-clause-value
returns-clause-value c =
    word_is _ _ _ _ _ _ _ c.in-Some.ensures.chars c.skip_class-rest.ensures c.before-2.ensures (sym c.contains.ensures ∙ c.if-not-contains.false)
