use Rattle.std.proofs.Common.{arith, chars, sym, ap, ◌∙◌}
use Rattle.std.proofs.lemmas.Result.{err_from_is_err_and}
use Rattle.ron_spec_words.specs.Reader.{meant}
use Rattle.ron_spec_grammar.specs.Shapes.UnitStruct.{unit_struct_data}
use Rattle.ron_de_steps.proofs.ErrorLemmas.{is_fault, memory_or_more}
use Rattle.ron_de_parts.proofs.NameLemmas.{unnamed}
use Rattle.ron_de_parts.proofs.RangeLemmas.{full_is}
use Rattle.ron_lex_text.proofs.StretchLemmas.{literals}
use Rattle.ron_lex.proofs.TurnLemmas.{over_all}
use Rattle.ron_de_steps.proofs.NearLemmas.{unit_nears}
use Rattle.ron_de_parts.proofs.TurnLemmas.{leaf_read, leaf_refused}
use Rattle.ron_de_parts.proofs.leaves.read_unit_struct.Goals as goal

pub returns-in_err-take_unit_name-clause-value : goal.returns-in_err-take_unit_name-clause-value
returns-in_err-take_unit_name-clause-value c =
    let p = err_from_is_err_and c.from_residual.result c.from_residual.ensures.1 in
    rw (p.1, p.2, sym c.opens_interval.ensures ∙ c.if-opens_interval.false, sym c.is_at.ensures ∙ c.if-not-is_at.true) (is_fault _ _
    (memory_or_more _ (λ e. ap (λ o. meant o (unit_struct_data (chars c.args.name.now))) (unnamed (chars c.args.name.now) c.args.cursor.now.rest e))
    c.in_err-take_unit_name.ensures.value))

pub returns-then-opens_interval-clause-value : goal.returns-then-opens_interval-clause-value
returns-then-opens_interval-clause-value c = rw (full_is c.args.context.now.extensions.explicit_struct_names (chars c.args.name.now) c.args.cursor.now.rest
    (sym c.opens_interval.ensures ∙ c.if-opens_interval.true)) c.read_full_range.ensures.value

pub returns-in_err-take_unit_name-clause-turns : goal.returns-in_err-take_unit_name-clause-turns
returns-in_err-take_unit_name-clause-turns c =
    let p = err_from_is_err_and c.from_residual.result c.from_residual.ensures.1 in
    rw (p.1, p.2) (leaf_refused 1 (omega arith) c.args.cursor.now c.take_unit_name.new.cursor _ c.in_err-take_unit_name.ensures.turns.most)

pub returns-in_err-from_str-clause-turns : goal.returns-in_err-from_str-clause-turns
returns-in_err-from_str-clause-turns c =
    let p = err_from_is_err_and c.from_residual-in_err-from_str.result c.from_residual-in_err-from_str.ensures.1 in
    rw (p.1, p.2) (leaf_refused 1 (omega arith) c.args.cursor.now c.take_unit_name.new.cursor _ c.in_ok-take_unit_name.ensures.turns.most)

pub returns-then-not-is_at-clause-turns : goal.returns-then-not-is_at-clause-turns
returns-then-not-is_at-clause-turns c =
    leaf_read 1 (omega arith) c.args.cursor.now c.take_unit_name.new.cursor _ c.in_ok-take_unit_name.ensures.turns.moved c.in_ok-take_unit_name.ensures.near

pub returns-in_err-from_str-2-clause-turns : goal.returns-in_err-from_str-2-clause-turns
returns-in_err-from_str-2-clause-turns c =
    let p = err_from_is_err_and c.from_residual-in_err-from_str-2.result c.from_residual-in_err-from_str-2.ensures.1 in
    rw (p.1, p.2) (leaf_refused 1 (omega arith) c.args.cursor.now c.args.cursor.now _ (omega arith))

pub returns-then-requires_names-clause-turns : goal.returns-then-requires_names-clause-turns
returns-then-requires_names-clause-turns c = leaf_refused 1 (omega arith) c.args.cursor.now c.args.cursor.now _ (omega arith)

pub returns-then-not-take_text-clause-turns : goal.returns-then-not-take_text-clause-turns
returns-then-not-take_text-clause-turns c =
    leaf_refused 1 (omega arith) c.args.cursor.now c.take_text.new.self _ (over_all 1 c.args.cursor.now c.take_text.new.self c.take_text.ensures.turns)

pub returns-in_err-from_str-3-clause-turns : goal.returns-in_err-from_str-3-clause-turns
returns-in_err-from_str-3-clause-turns c =
    let p = err_from_is_err_and c.from_residual-in_err-from_str-3.result c.from_residual-in_err-from_str-3.ensures.1 in
    rw (p.1, p.2)
    (leaf_refused 1 (omega arith) c.args.cursor.now c.take_text.new.self _ (over_all 1 c.args.cursor.now c.take_text.new.self c.take_text.ensures.turns))

pub returns-clause-turns : goal.returns-clause-turns
unfolding literals
returns-clause-turns c = leaf_read 1 (omega arith) c.args.cursor.now c.take_text.new.self _ c.take_text.ensures.turns
    (unit_nears c.args.cursor.now c.take_text.new.self c.if-not-take_text.ensures.taken)
