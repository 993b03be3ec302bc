use Rattle.std.proofs.Common.{rules, Ok, ◌<◌, length, ap, arith}
use Rattle.std.proofs.lemmas.Result.{err_from_is_err_and}
use Rattle.ron_spec_grammar.proofs.ByteTurns.{bytes_quoted}
use Rattle.ron_base.specs.Class.{class_of}
use Rattle.ron_lex.proofs.TurnLemmas.{over_all}
use Rattle.ron_de_steps.specs.Reads.{IsFaultOf}
use Rattle.ron_de_steps.proofs.ErrorLemmas.{is_fault, text_and}
use Rattle.ron_de_parts.proofs.RoomLemmas.{room_ended, items_in_group}
use Rattle.ron_de_parts.proofs.GroupLemmas.{group_slash, group_deep, group_said}
use Rattle.ron_de_parts.specs.Bytes.{IsByteList}
use Rattle.ron_de_parts.proofs.ByteLemmas.{bytes_inside, list_begins, list_opened, list_value}
use Rattle.ron_de_parts.proofs.SliceLemmas.{sliced-list}
use Rattle.ron_de_steps.proofs.KeepLemmas.{over_on, goes_scan}
use Rattle.ron_de_steps.proofs.NearLemmas.{nears_on, gap_nears, mark_nears, mark_left_bracket, mark_right_bracket}
use Rattle.ron_de_parts.proofs.TurnLemmas.{leaf_read, leaf_refused}
use Rattle.ron_de_parts.proofs.bytes.read_bytes.Goals as goal

pub returns-then-not-take-clause-value : goal.returns-then-not-take-clause-value
returns-then-not-take-clause-value c =
    λ room r. rw (bytes_quoted room c.args.cursor.now.rest c.if-not-take.ensures.taken.0, ← c.if-not-take.ensures.taken.1) c.read_byte_string.ensures.value

pub returns-in_err-pass_gap-clause-value : goal.returns-in_err-pass_gap-clause-value
returns-in_err-pass_gap-clause-value c =
    let p = err_from_is_err_and c.from_residual.result c.from_residual.ensures.1 in
    rw (p.1, p.2) (λ room r. is_fault _ _ (text_and _ c.in_err-pass_gap.ensures.fault.0
    (group_slash bytes_inside _ _ room (list_opened room _ _ c.if-not-take.ensures.taken) c.in_err-pass_gap.ensures.slash)))

pub returns-in_err-inner-clause-value : goal.returns-in_err-inner-clause-value
returns-in_err-inner-clause-value c =
    let p = err_from_is_err_and c.from_residual-in_err-inner.result c.from_residual-in_err-inner.ensures.1 in
    rw (p.1, p.2, c.in_err-inner.ensures.0) (λ room r. group_deep bytes_inside _ _ room (list_opened room _ _ c.if-not-take.ensures.taken)
    c.in_ok-pass_gap.ensures.slash (room_ended _ _ room c.in_err-inner.ensures.1 r))

pub returns-in_err-bytes-clause-value : goal.returns-in_err-bytes-clause-value
returns-in_err-bytes-clause-value c =
    let p = err_from_is_err_and c.from_residual-in_err-bytes.result c.from_residual-in_err-bytes.ensures.1 in
    let shorter : length c.pass_gap.new.cursor.rest < length c.args.cursor.now.rest =
    omega (arith, ap length c.if-not-take.ensures.taken, c.in_ok-pass_gap.ensures.no_longer) in
    rw (p.1, p.2) (λ room r. group_said bytes_inside _ _ room (list_opened room _ _ c.if-not-take.ensures.taken) c.in_ok-pass_gap.ensures.slash
    c.args.context.now c.in_ok-inner.inner c.in_ok-inner.ensures c.pass_gap.new.cursor c.in_ok-pass_gap.ensures.gap c.in_ok-pass_gap.ensures.rest _
    (items_in_group c.args.context.now.schema (length c.pass_gap.new.cursor.rest) (length c.args.cursor.now.rest) shorter) r
    (λ o. IsFaultOf (class_of c.in_err-bytes.field-0.0) o) c.in_err-bytes.ensures.value)

pub returns-clause-value : goal.returns-clause-value
returns-clause-value c =
    let shorter : length c.pass_gap.new.cursor.rest < length c.args.cursor.now.rest =
    omega (arith, ap length c.if-not-take.ensures.taken, c.in_ok-pass_gap.ensures.no_longer) in
    λ room r. list_value c.in_ok-bytes.bytes c.read_byte_list.new.cursor.rest _ _ (group_said bytes_inside _ _ room
    (list_opened room _ _ c.if-not-take.ensures.taken) c.in_ok-pass_gap.ensures.slash
    c.args.context.now c.in_ok-inner.inner c.in_ok-inner.ensures c.pass_gap.new.cursor c.in_ok-pass_gap.ensures.gap c.in_ok-pass_gap.ensures.rest _
    (items_in_group c.args.context.now.schema (length c.pass_gap.new.cursor.rest) (length c.args.cursor.now.rest) shorter) r
    (λ o. IsByteList (Ok c.in_ok-bytes.bytes) o c.read_byte_list.new.cursor.rest) c.in_ok-bytes.ensures.value) c.pass.ensures.rest

pub returns-clause-advance : goal.returns-clause-advance
returns-clause-advance c = record {
  text = search rules;
  no_longer = search rules;
  holds = λ source.
      sliced-list _ c.args.context.now c.args.cursor.now _ _ c.in_ok-bytes.bytes c.if-not-take.ensures.taken c.if-not-take.ensures.end (returns-clause-value c);
  fault = search rules;
}

pub returns-in_err-pass_gap-clause-missing : goal.returns-in_err-pass_gap-clause-missing
returns-in_err-pass_gap-clause-missing c = list_begins _ _ _ c.if-not-take.ensures.taken

pub returns-in_err-inner-clause-missing : goal.returns-in_err-inner-clause-missing
returns-in_err-inner-clause-missing c = list_begins _ _ _ c.if-not-take.ensures.taken

pub returns-in_err-bytes-clause-missing : goal.returns-in_err-bytes-clause-missing
returns-in_err-bytes-clause-missing c = list_begins _ _ _ c.if-not-take.ensures.taken

pub returns-clause-missing : goal.returns-clause-missing
returns-clause-missing c = list_begins _ _ _ c.if-not-take.ensures.taken

pub returns-in_err-pass_gap-clause-turns : goal.returns-in_err-pass_gap-clause-turns
returns-in_err-pass_gap-clause-turns c =
    let p = err_from_is_err_and c.from_residual.result c.from_residual.ensures.1 in
    rw (p.1, p.2) (leaf_refused 1 (omega arith) c.args.cursor.now c.pass_gap.new.cursor _
    (goes_scan 1 c.args.cursor.now c.take.new.self c.pass_gap.new.cursor c.if-not-take.ensures.turns c.in_err-pass_gap.ensures.turns.most))

pub returns-in_err-inner-clause-turns : goal.returns-in_err-inner-clause-turns
returns-in_err-inner-clause-turns c =
    let p = err_from_is_err_and c.from_residual-in_err-inner.result c.from_residual-in_err-inner.ensures.1 in
    rw (p.1, p.2) (leaf_refused 1 (omega arith) c.args.cursor.now c.pass_gap.new.cursor _ (over_all 1 c.args.cursor.now c.pass_gap.new.cursor
    (over_on 1 c.args.cursor.now c.take.new.self c.pass_gap.new.cursor c.if-not-take.ensures.turns c.in_ok-pass_gap.ensures.turns.moved)))

pub returns-in_err-bytes-clause-turns : goal.returns-in_err-bytes-clause-turns
returns-in_err-bytes-clause-turns c =
    let p = err_from_is_err_and c.from_residual-in_err-bytes.result c.from_residual-in_err-bytes.ensures.1 in
    let opened = over_on 1 c.args.cursor.now c.take.new.self c.pass_gap.new.cursor c.if-not-take.ensures.turns c.in_ok-pass_gap.ensures.turns.moved in
    rw (p.1, p.2) (leaf_refused 1 (omega arith) c.args.cursor.now c.read_byte_list.new.cursor _
    (goes_scan 1 c.args.cursor.now c.pass_gap.new.cursor c.read_byte_list.new.cursor opened c.in_err-bytes.ensures.turns.most))

pub returns-clause-turns : goal.returns-clause-turns
returns-clause-turns c =
    let old = c.args.cursor.now in
    let opened = over_on 1 old c.take.new.self c.pass_gap.new.cursor c.if-not-take.ensures.turns c.in_ok-pass_gap.ensures.turns.moved in
    let there = nears_on old c.take.new.self c.pass_gap.new.cursor (mark_nears 91 old c.take.new.self mark_left_bracket c.if-not-take.ensures.taken)
    (gap_nears c.take.new.self c.pass_gap.new.cursor c.in_ok-pass_gap.ensures.rest) in
    let list = nears_on old c.pass_gap.new.cursor c.read_byte_list.new.cursor there c.in_ok-bytes.ensures.near in
    leaf_read 1 (omega arith) old c.pass.new.self _
    (over_on 1 old c.read_byte_list.new.cursor c.pass.new.self
    (over_on 1 old c.pass_gap.new.cursor c.read_byte_list.new.cursor opened c.in_ok-bytes.ensures.turns.moved) c.pass.ensures.turns)
    (nears_on old c.read_byte_list.new.cursor c.pass.new.self list
    (mark_nears 93 c.read_byte_list.new.cursor c.pass.new.self mark_right_bracket c.pass.ensures.rest))
