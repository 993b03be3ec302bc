use Rattle.std.proofs.Common.{◌≡◌, None, arith, rules}
use Rattle.std.proofs.Output.{has_written_of_eq}
use Rattle.ron_base.specs.Escape.{short_escape}
use Rattle.ron_base.proofs.EscapeLemmas.{shown_short, shown_hidden, shown_itself}
use Rattle.ron_base.proofs.escape.EscapedCharDisplay.fmt.Goals as goal

pub returns-in-Some-clause-writes : goal.returns-in-Some-clause-writes
returns-in-Some-clause-writes g c plain ok =
    let e = shown_short c.args.self.now.quotes c.args.self.now.c c.in-Some.letter (search rules) in
    has_written_of_eq _ _ _ _ _ e (search rules)

pub returns-then-is_hidden-clause-writes : goal.returns-then-is_hidden-clause-writes
returns-then-is_hidden-clause-writes g c plain ok =
    let none : short_escape c.args.self.now.quotes c.args.self.now.c ≡ None = search rules in
    let e = shown_hidden c.args.self.now.quotes c.args.self.now.c (omega arith) none (search rules) in
    has_written_of_eq _ _ _ _ _ e (search rules)

pub returns-else-is_hidden-clause-writes : goal.returns-else-is_hidden-clause-writes
returns-else-is_hidden-clause-writes g c plain ok =
    let none : short_escape c.args.self.now.quotes c.args.self.now.c ≡ None = search rules in
    let e = shown_itself c.args.self.now.quotes c.args.self.now.c none (search rules) in
    has_written_of_eq _ _ _ _ _ e (c.write_char.ensures.writes plain ok)
