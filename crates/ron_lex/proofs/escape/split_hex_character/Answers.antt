use Rattle.std.proofs.Common.{refl, ◌∙◌, arith, rules, length-set}
use Rattle.ron_spec_words.specs.Escape.{hex_character}
use Rattle.ron_spec_words.proofs.Escapes.{word_hex_byte}
use Rattle.ron_lex_text.proofs.StretchLemmas.{end_of_end, end_whole}
use Rattle.ron_lex.proofs.SplitLemmas.{read_end, end_exit}
use Rattle.ron_lex.proofs.EscapeLemmas.{bytes_turn}
use Rattle.ron_lex.proofs.escape.split_hex_character.Goals as goal

pub loop-count-init : goal.loop-count-init
unfolding hex_character
loop-count-init c = (c.utf8.text, refl, end_whole _, refl)

pub returns-in_err-byte-clause-err_end : goal.returns-in_err-byte-clause-err_end
returns-in_err-byte-clause-err_end c = end_exit _ _ _ c.from_residual.ensures.1 (end_of_end _ _ _ c.in_err-byte.ensures.err_end c.loop-count.invariant.2)

pub loop-count-preserved : goal.loop-count-preserved
loop-count-preserved c = (
  search rules,
  length-set _ _ _ ∙ c.loop-count.invariant.1,
  end_of_end _ _ _ (read_end _ _ word_hex_byte _ _ _ c.in_ok-byte.ensures.value) c.loop-count.invariant.2,
  c.loop-count.invariant.3 ∙ bytes_turn _ _ _ _ _ (omega arith) (omega arith) c.in_ok-byte.ensures.value c.in_default.ensures,
)
