use Rattle.std.proofs.Common.{◌≡◌, ◌≤◌, ◌+◌, ◌*◌, false, length}
use Rattle.ron_spec_words.specs.Beyond.{bytes_in}
use Rattle.ron_spec_words.specs.Gap.{skip}
use Rattle.ron_spec_words.specs.Openings.{Leads}
use Rattle.ron_spec_words.specs.Runs.{is_at}
use Rattle.ron_spec_grammar.specs.Attribute.{value_start}
use Rattle.ron_spec_grammar.proofs.AttributeTurns.{start_behind}
use Rattle.ron_de_steps.proofs.attributes.read_head.Given as goal

abbrev pub invariant-attributes : goal.invariant-attributes
invariant-attributes l =
    (l.cursor.text ≡ l.fn.cursor.text) × (value_start l.fn.default_extensions l.fn.cursor.rest ≡ start_behind l.extensions l.cursor.gap l.cursor.rest)
    × (l.cursor.token_start ≡ l.cursor.rest) × (is_at 35 (skip l.fn.cursor.rest) ≡ false → l.cursor.rest ≡ skip l.fn.cursor.rest)
    × (l.cursor.turns + bytes_in l.cursor.gap + 2 * bytes_in l.cursor.rest ≤ l.fn.cursor.turns + 2 * bytes_in l.fn.cursor.rest)
    × Leads l.fn.cursor.rest l.cursor.rest

abbrev pub decreases-attributes : goal.decreases-attributes
decreases-attributes l = length l.cursor.rest
