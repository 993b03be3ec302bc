use Rattle.ron_data_schema.specs.Table.{table_of, shapes_of, root_of}
use Rattle.ron_de_parts.specs.Terms.{source_view}
use Rattle.ron.specs.Reading.{AnswersAsReader}
use Rattle.ron.proofs.ReadLemmas.{RefusesLeaves, RefusesStrings, takes_all, of_schema, answers_spelled, refuses_deep, tells, sliced_from, no_cycle_in}
use Rattle.std.proofs.Common.{◌+◌, refl, arith, ◌∙◌}
use Rattle.ron_spec_grammar.specs.Room.{rank, chain}
use Rattle.ron.proofs.TurnLemmas.{kept, root_looks}
use Rattle.ron.proofs.de.Deserializer.read_kept.Goals as goal

answers : (c : goal.After-self-1) → AnswersAsReader c.args.self.now (table_of c.args.schema.now) c.read_here-answer.result c.forget_gap.new.self.rest
answers c = rw c.forget_gap.ensures.rest (rw (← c.self.view_is) (rw (c.new-context.ensures, c.root.ensures.value) at c.read_here-answer.ensures.value))

pub returns-clause-answer : goal.returns-clause-answer
returns-clause-answer c fresh = answers c

refused : (c : goal.After-self-1) → RefusesLeaves c.args.self.now (table_of c.args.schema.now) c.read_here-answer.result
refused c = rw (← c.self.view_is) (rw (c.new-context.ensures, c.root.ensures.value) at c.read_here-answer.ensures.leaf)

string_refused : (c : goal.After-self-1) → RefusesStrings (source_view c.args.source) c.args.self.now (table_of c.args.schema.now) c.read_here-answer.result
string_refused c = rw (← c.self.view_is) (rw (c.new-context.ensures, c.root.ensures.value) at c.read_here-answer.ensures.string)

pub returns-clause-ok : goal.returns-clause-ok
returns-clause-ok c = takes_all c.args.self.now (table_of c.args.schema.now) _ _ (answers c) c.forget_gap.ensures.gap

pub returns-clause-of_schema : goal.returns-clause-of_schema
returns-clause-of_schema c = of_schema c.args.self.now (table_of c.args.schema.now) _ _ (rw c.root.ensures.value at c.root.ensures.well_formed) (answers c)

pub returns-clause-slices : goal.returns-clause-slices
returns-clause-slices c = rw c.forget_gap.ensures.rest (rw (← c.self.view_is) (sliced_from _ _ _ c.read_here-answer.result
    (rw c.new-context.ensures at c.read_here-answer.ensures.slice) (rw c.new-context.ensures at c.read_here-answer.ensures.advance.holds)))

pub returns-clause-spelled : goal.returns-clause-spelled
returns-clause-spelled c fresh =
    answers_spelled c.args.self.now (table_of c.args.schema.now) (no_cycle_in (table_of c.args.schema.now) c.args.schema.now.well_formed) _ _ (answers c)

pub returns-clause-deep : goal.returns-clause-deep
returns-clause-deep c fresh = refuses_deep c.args.self.now (table_of c.args.schema.now) _ _ (answers c)

pub returns-clause-errors : goal.returns-clause-errors
returns-clause-errors c fresh =
    tells (source_view c.args.source) c.args.self.now (table_of c.args.schema.now) (no_cycle_in (table_of c.args.schema.now) c.args.schema.now.well_formed) _ _
    (answers c) c.read_here-answer.ensures.advance.fault (refused c) (string_refused c)

pub returns-clause-bytes : goal.returns-clause-bytes
returns-clause-bytes c fresh = rw (← c.self.view_is) (rw (c.new-context.ensures, c.root.ensures.value) at c.read_here-answer.ensures.bytes)

pub returns-clause-turns : goal.returns-clause-turns
returns-clause-turns c made fresh =
    let schema = shapes_of c.args.schema.now in
    let root = root_of c.args.schema.now in
    let head = rw (← c.self.view_is) at made in
    let reads = (rw (c.new-context.ensures, c.root.ensures.value) at c.read_here-answer.ensures.turns) head.leads in
    kept (chain schema) (rank schema root + 3) (root_looks schema root (rw c.root.ensures.value at c.root.ensures.well_formed)) _ head c.self.inside.cursor
    (record { text = refl; rest = refl; gap = refl; turns = refl; expected = refl }) c.read_here-answer.result c.read_here-answer.new.cursor
    c.forget_gap.new.self _ reads c.forget_gap.ensures.rest (omega (arith, c.forget_gap.ensures.turns))
    (omega (arith, c.turns-turns.ensures.value, c.turns-turns.ensures.most)) (record { text = refl; rest = refl; gap = refl; turns = refl; expected = refl })
    (c.forget_gap.ensures.text ∙ c.read_here-answer.ensures.advance.text)
