use Rattle.std.proofs.Common.{subst}
use Rattle.ron_spec_grammar.specs.Data as plain
use Rattle.ron_spec_layout.specs.Config.{no_config}
use Rattle.ron.specs.Types.{WritesText}
use Rattle.ron.proofs.options.Options.to_string.Goals as goal

pub returns : goal.returns
returns g c =
    let options = c.args.self.now in
    let wrote = c.to_string_data.ensures in
    subst (λ (d : plain.Data). WritesText options.default_extensions options.recursion_limit no_config d c.to_string_data.result) c.in_ok-data.ensures.value
    (record {
      text = wrote.text;
      reads_back = wrote.reads_back;
      blank = wrote.blank;
      names = wrote.names;
      encodable = wrote.encodable;
      within = wrote.within;
      refused = wrote.refused;
      refused_name = wrote.refused_name;
    })
