use Rattle.std.proofs.Common.{sym, ◌≤◌, length, ◌∙◌, arith}
use Rattle.std.proofs.lemmas.Result.{err_from_is_err_and}
use Rattle.ron_lex.proofs.TurnLemmas.{over_all}
use Rattle.ron_de_parts.proofs.ByteLemmas.{byte_refused, no_comma_behind, byte_more, bytes_all}
use Rattle.ron_de_steps.proofs.KeepLemmas.{over_on, goes_scan}
use Rattle.ron_de_steps.proofs.NearLemmas.{nears_on, enters_nears, past_item_enters, mark_right_bracket}
use Rattle.ron_de_parts.proofs.TurnLemmas.{moved_so, refused_so}
use Rattle.ron_de_parts.proofs.bytes.read_byte_list.Goals as goal

pub returns-in_err-byte-clause-value : goal.returns-in_err-byte-clause-value
returns-in_err-byte-clause-value c =
    let p = err_from_is_err_and c.from_residual.result c.from_residual.ensures.1 in
    rw (p.1, p.2) (byte_refused _ _ _ _ c.items.invariant.1 (sym c.items-test.ensures) _ c.in_err-byte.ensures.value)

pub returns-in_err-read_comma-clause-value : goal.returns-in_err-read_comma-clause-value
returns-in_err-read_comma-clause-value c =
    let p = err_from_is_err_and c.from_residual-in_err-read_comma.result c.from_residual-in_err-read_comma.ensures.1 in
    rw (p.1, p.2)
    (no_comma_behind _ _ _ _ c.items.invariant.1 (sym c.items-test.ensures) c.in_ok-byte.byte _ c.in_ok-byte.ensures.value _ c.in_err-read_comma.ensures.value)

pub items-preserved : goal.items-preserved
items-preserved c =
    let shorter : length c.read_comma.new.cursor.rest ≤ length c.items.cursor.rest =
    omega (arith, c.in_ok-read_comma.ensures.no_longer, c.in_ok-byte.ensures.shorter) in (
      c.in_ok-read_comma.ensures.text ∙ c.in_ok-byte.ensures.text ∙ c.items.invariant.0,
      byte_more _ _ _ _ c.items.invariant.1 (sym c.items-test.ensures) c.in_ok-byte.byte _ c.in_ok-byte.ensures.value _ _ c.in_ok-push.ensures.items
          c.in_ok-read_comma.ensures.value shorter,
      over_on 1 c.args.cursor.now c.items.cursor c.read_comma.new.cursor c.items.invariant.2
          (over_on 1 c.items.cursor c.read_byte.new.cursor c.read_comma.new.cursor c.in_ok-byte.ensures.turns.moved c.in_ok-read_comma.ensures.turns.moved),
      nears_on c.args.cursor.now c.items.cursor c.read_comma.new.cursor c.items.invariant.3
          (nears_on c.items.cursor c.read_byte.new.cursor c.read_comma.new.cursor c.in_ok-byte.ensures.near (enters_nears c.read_byte.new.cursor
          c.read_comma.new.cursor (past_item_enters 93 c.read_byte.new.cursor c.read_comma.new.cursor mark_right_bracket c.in_ok-read_comma.ensures.value))),
    )

pub returns-clause-value : goal.returns-clause-value
returns-clause-value c = bytes_all _ _ _ _ c.items.invariant.1 (sym c.items-test.ensures)

pub returns-in_err-byte-clause-turns : goal.returns-in_err-byte-clause-turns
returns-in_err-byte-clause-turns c =
    let p = err_from_is_err_and c.from_residual.result c.from_residual.ensures.1 in
    rw (p.1, p.2) (refused_so 1 c.args.cursor.now c.read_byte.new.cursor _
    (goes_scan 1 c.args.cursor.now c.items.cursor c.read_byte.new.cursor c.items.invariant.2 c.in_err-byte.ensures.turns.most))

pub returns-in_err-push-clause-turns : goal.returns-in_err-push-clause-turns
returns-in_err-push-clause-turns c =
    let p = err_from_is_err_and c.from_residual-in_err-push.result c.from_residual-in_err-push.ensures.1 in
    rw (p.1, p.2) (refused_so 1 c.args.cursor.now c.read_byte.new.cursor _ (over_all 1 c.args.cursor.now c.read_byte.new.cursor
    (over_on 1 c.args.cursor.now c.items.cursor c.read_byte.new.cursor c.items.invariant.2 c.in_ok-byte.ensures.turns.moved)))

pub returns-in_err-read_comma-clause-turns : goal.returns-in_err-read_comma-clause-turns
returns-in_err-read_comma-clause-turns c =
    let p = err_from_is_err_and c.from_residual-in_err-read_comma.result c.from_residual-in_err-read_comma.ensures.1 in
    let byte = over_on 1 c.args.cursor.now c.items.cursor c.read_byte.new.cursor c.items.invariant.2 c.in_ok-byte.ensures.turns.moved in
    rw (p.1, p.2) (refused_so 1 c.args.cursor.now c.read_comma.new.cursor _
    (goes_scan 1 c.args.cursor.now c.read_byte.new.cursor c.read_comma.new.cursor byte c.in_err-read_comma.ensures.turns.most))

pub returns-clause-turns : goal.returns-clause-turns
returns-clause-turns c = moved_so 1 c.args.cursor.now c.items.cursor _ c.items.invariant.2

pub returns-clause-near : goal.returns-clause-near
returns-clause-near c = c.items.invariant.3
