use Rattle.std.proofs.Common.{chars, string_bytes}
use Rattle.std.proofs.lemmas.Str.{IsUtf8-string_bytes}
use Rattle.ron_format.proofs.LayLemmas.{puts_edge, puts_given}
use Rattle.ron_format.proofs.formatting.put_edge.Goals as goal

pub returns-then-eq-2 : goal.returns-then-eq-2
returns-then-eq-2 c = puts_edge (string_bytes c.args.out.now) (string_bytes c.push_str.new.self) c.args.edge.now c.args.around.now
    (IsUtf8-string_bytes c.args.out.now) c.in_ok-push_str.ensures.bytes

pub returns : goal.returns
returns c = puts_given (string_bytes c.args.out.now) (string_bytes c.push_str-2.new.self) c.granted-given.result.now c.args.around.now (chars c.args.edge.now)
    (chars c.as_str.result.now) (IsUtf8-string_bytes c.args.out.now) c.in_ok-push_str-2.ensures.bytes c.granted-given.ensures
