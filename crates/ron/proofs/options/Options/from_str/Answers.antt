use Rattle.ron.proofs.TypeLemmas.{type_back}
use Rattle.ron.proofs.options.Options.from_str.Goals as goal

pub returns-clause-reads_back : goal.returns-clause-reads_back
returns-clause-reads_back g c =
    let T = g.T.Schematic in
    type_back T.data T.normal T.accepts g.T.Deserialize.refuses c.args.self.now.default_extensions c.args.self.now.recursion_limit T.schema_is _
    c.read_type.result c.read_type.ensures.reads
