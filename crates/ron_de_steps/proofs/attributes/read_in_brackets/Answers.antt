use Rattle.ron_lex.proofs.TurnLemmas.{mark_over}
use Rattle.ron_de_steps.proofs.AttributeCounts.{gap_twice, then_moved}
use Rattle.ron_de_steps.proofs.attributes.read_in_brackets.Goals as goal

pub returns-then-take_word-clause-turns : goal.returns-then-take_word-clause-turns
returns-then-take_word-clause-turns c =
    then_moved c.args.cursor.now c.take_word.new.self c.read_names.result c.read_names.new.cursor
    (mark_over _ c.args.cursor.now c.take_word.new.self c.if-take_word.ensures.taken c.take_word.ensures.turns)
    (then_moved c.take_word.new.self c.pass_gap.new.cursor c.read_names.result c.read_names.new.cursor
    (gap_twice c.take_word.new.self c.pass_gap.new.cursor c.in_ok-pass_gap.ensures.turns.moved c.in_ok-pass_gap.ensures.rest) c.read_names.ensures.turns)
