use Rattle.std.proofs.Common.{chars}
use Rattle.ron_lex_text.proofs.StretchLemmas.{past_is_end}
use Rattle.ron_lex.proofs.IdentifierLemmas.{run_past_word, run_past_none}
use Rattle.ron_lex.proofs.UntypedLemmas.{run_past}
use Rattle.ron_lex.proofs.TurnLemmas.{behind_word, look_here, look_words}
use Rattle.ron_lex.proofs.identifier.plain_identifier.Goals as goal

pub returns-in_default-clause-seen : goal.returns-in_default-clause-seen
returns-in_default-clause-seen c = look_here _

pub returns-then-is_at_class-clause-seen : goal.returns-then-is_at_class-clause-seen
returns-then-is_at_class-clause-seen c =
    look_words (behind_word _ _ _ c.requires c.in-Some.ensures.value
    (past_is_end _ _ (run_past (chars c.args.text.now) _ _ c.in-Some.ensures.value c.in-Some.ensures.joined)))

pub returns-clause-seen : goal.returns-clause-seen
returns-clause-seen c =
    behind_word _ _ _ c.requires c.in-Some.ensures.value
    (past_is_end _ _ (run_past (chars c.args.text.now) _ _ c.in-Some.ensures.value c.in-Some.ensures.joined))

pub returns-in_default-clause-run : goal.returns-in_default-clause-run
returns-in_default-clause-run c = run_past_none (chars c.args.text.now) c.in_default.ensures.value

pub returns-then-is_at_class-clause-run : goal.returns-then-is_at_class-clause-run
returns-then-is_at_class-clause-run c = run_past_word (chars c.args.text.now) (chars c.in-Some.name.now) (chars c.in-Some.rest.now) c.in-Some.ensures.value
