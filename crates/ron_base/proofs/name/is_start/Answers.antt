use Rattle.std.proofs.Common.{sym, ◌∙◌}
use Rattle.std.proofs.lemmas.Bool.{ltb-true}
use Rattle.unicode_ident.proofs.IdentLemmas.{is_xid_start-ascii}
use Rattle.ron_base.proofs.name.is_start.Goals as goal

pub returns-then-is_ascii : goal.returns-then-is_ascii
returns-then-is_ascii c = c.is_ascii_alphabetic.ensures.value ∙ sym (is_xid_start-ascii c.args.c (ltb-true _ _ (sym c.if-is_ascii.ensures)))
