use Rattle.std.proofs.Common.{sym, ◌∙◌}
use Rattle.ronv_command.proofs.FlagLemmas.{number_is}
use Rattle.ronv_command.proofs.flags.number_up_to.Goals as goal

pub returns-in-Err : goal.returns-in-Err
returns-in-Err c = sym (rw c.in-Err.is
    at (number_is c.args.most c.args.word.now c.parse.result c.ranges.most.fits (sym c.is_numeral.ensures ∙ c.if-not-is_numeral.false) c.parse.ensures.value.0))
