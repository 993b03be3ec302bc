use Rattle.std.proofs.Common.{rules, chars}
use Rattle.ron_lex_text.proofs.StretchLemmas.{end_whole, past_is_end}
use Rattle.ron_lex.proofs.GapLemmas.{gap_end}
use Rattle.rontool_paths.proofs.StretchLemmas.{end_on, past_on, end_past, behind_word, word_on, stretch_on, some_stretch_on, behind_value, put_joined}
use Rattle.rontool_paths.proofs.word.next_word.Goals as goal

pub before-requires : goal.before-requires
before-requires c = past_is_end (chars c.skip_gap-from.result.now) (chars c.in_ok-after.after.now) c.in_ok-after.ensures

pub returns : goal.returns
returns c = record {
  begins = gap_end (chars c.args.text.now) (chars c.skip_gap-from.result.now) c.skip_gap-from.ensures.value;
  split = c.before-2.ensures;
  ends = c.in_ok-after.ensures;
}
