use Rattle.ron.proofs.StartLemmas.{begins_nowhere}
use Rattle.std.proofs.Common.{arith, ap, ◌∙◌}
use Rattle.ron_spec_words.specs.Beyond.{bytes_in}
use Rattle.ron_spec_grammar.proofs.AttributeTurns.{start_sound}
use Rattle.ron.proofs.TurnLemmas.{gap_within, head_led}
use Rattle.ron.proofs.de.Deserializer.from_str_with_options.Goals as goal

pub returns-in-Ok-clause-ok : goal.returns-in-Ok-clause-ok
returns-in-Ok-clause-ok c = start_sound _ _ _ _ _ (rw c.new-cursor.ensures.rest at c.in-Ok.ensures.value)

pub returns-clause-ok : goal.returns-clause-ok
returns-clause-ok c = begins_nowhere _ _ _ (rw c.new-cursor.ensures.rest at c.in-Err.ensures.value)

pub returns-in-Ok-clause-turns : goal.returns-in-Ok-clause-turns
returns-in-Ok-clause-turns c =
    let cursor = c.new-cursor.ensures in
    record {
      leads = head_led _ _ _ _ (c.in-Ok.ensures.text ∙ cursor.text) cursor.rest c.in-Ok.ensures.leads;
      size = gap_within _ _ _ c.gap-gap.ensures.end;
      turns = omega (arith, c.turns-turns.ensures.value, c.turns-turns.ensures.most);
      expected = omega (arith, c.in-Ok.ensures.turns.moved, cursor.turns, ap bytes_in cursor.rest, ap bytes_in (c.in-Ok.ensures.text ∙ cursor.text));
    }
