use Rattle.std.proofs.Common.{◌∙◌}
use Rattle.ron_types.proofs.SchemaLemmas.{made_on_top}
use Rattle.ron_types.proofs.tables.Parts.top.Goals as goal

pub returns : goal.returns
returns c = made_on_top c.new.result c.args.self.shapes.items _ c.args.shape c.len-root.result c.in_ok-push.ensures.items
    (c.len-root.ensures ∙ c.args.self.shapes.ok.0) c.args.self.closed c.requires c.new.ensures
