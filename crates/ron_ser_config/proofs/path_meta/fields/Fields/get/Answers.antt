use Rattle.std.proofs.Common.{sym, ap, ◌∙◌}
use Rattle.ron_ser_config.specs.View.{entries, doc_told, docs_below}
use Rattle.ron_ser_config.proofs.DocLemmas.{doc_at, docs_at}
use Rattle.ron_ser_config.proofs.path_meta.fields.Fields.get.Goals as goal

pub returns-clause-doc : goal.returns-clause-doc
returns-clause-doc c = doc_at c.args.name.now c.utf8.name (entries c.args.self.now) ∙ ap doc_told (sym c.get.ensures.value)

pub returns-clause-within : goal.returns-clause-within
returns-clause-within c = docs_at c.args.name.now c.utf8.name (entries c.args.self.now) ∙ ap docs_below (sym c.get.ensures.value)
