use Rattle.std.proofs.Common.{ap, sym, ◌∙◌}
use Rattle.ron_lex_text.specs.declared.parsed.ParsedStr.TheVariants.{Slice}
use Rattle.ron_spec_grammar.specs.Data.{str_of}
use Rattle.ron_data.proofs.DatumLemmas.{view-str}
use Rattle.ron_types.specs.TextLaws.{spelled}
use Rattle.ron_types.proofs.types.texts.slice_of.Goals as goal

pub returns-clause-value : goal.returns-clause-value
returns-clause-value c = view-str (Slice c.args.text) ∙ ap str_of (sym (spelled c.args.text.now c.utf8.text))
