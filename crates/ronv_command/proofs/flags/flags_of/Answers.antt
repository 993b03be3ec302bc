use Rattle.std.proofs.Common.{sym, ap, ◌∙◌, map, string_bytes}
use Rattle.ronv_command.specs.Flags.{flags_behind}
use Rattle.ronv_command.proofs.FlagLemmas.{switch_next, number_next}
use Rattle.ronv_command.proofs.flags.flags_of.Goals as goal

pub returns-in_err-flags : goal.returns-in_err-flags
returns-in_err-flags c =
    let next = number_next c.words.flags c.words.rest.now c.in-Some.behind.now c.in-Some.word.now c.as_str-word.result.now c.in-Some.ensures.cases.0
    c.as_str-word.ensures.value c.in_ok-number.behind.now c.in_ok-number.number.now c.as_str.result.now c.in_ok-number.ensures.cases.0 c.as_str.ensures.value
    (sym c.takes_number.ensures ∙ c.if-takes_number.true) in
    c.from_residual-in_err-flags.ensures ∙ sym
    (sym c.words.invariant ∙ next ∙ ap (λ o. flags_behind o (map string_bytes c.in_ok-number.behind.now)) (sym c.with_number.ensures ∙ c.in_err-flags.was))

pub words-preserved-then-takes_number : goal.words-preserved-then-takes_number
words-preserved-then-takes_number c =
    let next = number_next c.words.flags c.words.rest.now c.in-Some.behind.now c.in-Some.word.now c.as_str-word.result.now c.in-Some.ensures.cases.0
    c.as_str-word.ensures.value c.in_ok-number.behind.now c.in_ok-number.number.now c.as_str.result.now c.in_ok-number.ensures.cases.0 c.as_str.ensures.value
    (sym c.takes_number.ensures ∙ c.if-takes_number.true) in
    sym (ap (λ o. flags_behind o (map string_bytes c.in_ok-number.behind.now)) (sym c.with_number.ensures ∙ c.in_ok-flags.was)) ∙ sym next ∙ c.words.invariant

pub returns-in_err-flags-2 : goal.returns-in_err-flags-2
returns-in_err-flags-2 c =
    let next = switch_next c.words.flags c.words.rest.now c.in-Some.behind.now c.in-Some.word.now c.as_str-word.result.now c.in-Some.ensures.cases.0
    c.as_str-word.ensures.value (sym c.takes_number.ensures ∙ c.if-takes_number.false) in
    c.from_residual-in_err-flags-2.ensures
    ∙ sym (sym c.words.invariant ∙ next ∙ ap (λ o. flags_behind o (map string_bytes c.in-Some.behind.now)) (sym c.with_switch.ensures ∙ c.in_err-flags-2.was))

pub words-preserved : goal.words-preserved
words-preserved c =
    let next = switch_next c.words.flags c.words.rest.now c.in-Some.behind.now c.in-Some.word.now c.as_str-word.result.now c.in-Some.ensures.cases.0
    c.as_str-word.ensures.value (sym c.takes_number.ensures ∙ c.if-takes_number.false) in
    sym (ap (λ o. flags_behind o (map string_bytes c.in-Some.behind.now)) (sym c.with_switch.ensures ∙ c.in_ok-flags-2.was)) ∙ sym next ∙ c.words.invariant
