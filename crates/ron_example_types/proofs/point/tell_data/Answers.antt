use Rattle.std.proofs.Common.{rules, ◌≡◌, string_bytes}
use Rattle.ron_example_types.proofs.CoordinateLemmas.{words_are}
use Rattle.ron_example_types.proofs.point.tell_data.Goals as goal

pub returns-in_ok-format-in-Some : goal.returns-in_ok-format-in-Some
returns-in_ok-format-in-Some c =
    let written = string_bytes c.in_ok-written.written in
    record {
      written = written;
      text = c.in_ok-written.ensures.text;
      told = words_are c.in-Some.x c.in-Some.y _ written _ (search rules) (search rules) c.in-Some.ensures c.in_ok-format-in-Some.ensures.ok;
    }
