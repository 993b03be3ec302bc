use Rattle.std.proofs.Common.{sym, ◌∙◌}
use Rattle.ron_lex_text.proofs.text.strip_text.Goals as goal

pub behind-requires : goal.behind-requires
behind-requires c = sym c.begins_with.ensures ∙ c.if-begins_with.true
