use Rattle.std.proofs.Common.{ℕ, Option, chars, subst}
use Rattle.ron_spec_grammar.specs.Rule.{Extensions}
use Rattle.ron_base.specs.Extensions.{no_extensions}
use Rattle.ron.specs.Types.{ReadsTypeBack}
use Rattle.ron.proofs.de.from_str.Goals as goal

pub returns-clause-reads_back : goal.returns-clause-reads_back
returns-clause-reads_back g c =
    let T = g.T.Schematic in
    let usual = c.default.ensures in
    let back = c.from_str.ensures.reads_back in
    subst (λ (limit : Option ℕ). ReadsTypeBack T.data T.normal T.accepts no_extensions limit T.schema_is (chars c.args.s.now) c.from_str.result) usual.1
    (subst (λ (x : Extensions). ReadsTypeBack T.data T.normal T.accepts x c.default.result.recursion_limit T.schema_is (chars c.args.s.now) c.from_str.result)
    usual.0 back)
