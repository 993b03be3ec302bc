use Rattle.std.proofs.Common.{rules, chars}
use Rattle.ron_lex_text.proofs.StretchLemmas.{end_whole, past_is_end}
use Rattle.ron_lex.proofs.GapLemmas.{gap_end}
use Rattle.rontool_paths.proofs.StretchLemmas.{end_on, past_on, end_past, behind_word, word_on, stretch_on, some_stretch_on, behind_value, put_joined}
use Rattle.rontool_paths.proofs.value.next_item.Goals as goal

pub returns-in_ok-value-in-Some : goal.returns-in_ok-value-in-Some
returns-in_ok-value-in-Some c =
    let colon = end_on (chars c.args.text.now) (chars c.in_ok-first.first.behind.now) (chars c.in-Some.behind.now)
    (behind_value (chars c.args.text.now) c.in_ok-first.first c.in_ok-first.ensures) c.in-Some.ensures in
    let value = stretch_on (chars c.args.text.now) (chars c.in-Some.behind.now) c.in_ok-value-in-Some.value colon c.in_ok-value-in-Some.ensures in
    record {
      key = c.in_ok-first.ensures;
      value = value;
      ends = end_on (chars c.args.text.now) (chars c.in_ok-value-in-Some.value.behind.now) (chars c.past_comma-rest.result.now)
          (behind_value (chars c.args.text.now) c.in_ok-value-in-Some.value value) c.past_comma-rest.ensures;
    }

pub returns-in-None : goal.returns-in-None
returns-in-None c = record {
  key = tt;
  value = c.in_ok-first.ensures;
  ends = end_on (chars c.args.text.now) (chars c.in_ok-first.first.behind.now) (chars c.past_comma-end.result.now)
      (behind_value (chars c.args.text.now) c.in_ok-first.first c.in_ok-first.ensures) c.past_comma-end.ensures;
}
