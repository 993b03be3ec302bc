use Rattle.std.proofs.Common.{Some, None, arith}
use Rattle.std.proofs.lemmas.Str.Pattern.{strip_suffix_char}
use Rattle.ron_ser.proofs.DocLemmas.{return_stripped, nothing_stripped}
use Rattle.ron_ser.proofs.docs.without_return.Goals as goal

pub returns-in-Some : goal.returns-in-Some
returns-in-Some c = return_stripped c.args.line.now c.in-Some.front.now c.utf8.line
    (strip_suffix_char 13 c.args.line.now (Some c.in-Some.front) c.in-Some.ensures.cases (omega arith))

pub returns-in-None : goal.returns-in-None
returns-in-None c = nothing_stripped c.args.line.now c.utf8.line (strip_suffix_char 13 c.args.line.now None c.in-None.ensures.cases (omega arith))
