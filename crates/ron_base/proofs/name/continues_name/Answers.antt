use Rattle.std.proofs.Common.{◌||◌, nat_eq, ap, sym, ◌∙◌}
use Rattle.std.proofs.lemmas.Bool.{ltb-true}
use Rattle.unicode_ident.proofs.IdentLemmas.{is_xid_continue-ascii}
use Rattle.ron_base.proofs.name.continues_name.Goals as goal

pub returns-then-is_ascii : goal.returns-then-is_ascii
returns-then-is_ascii c =
    ap (λ b. b || nat_eq c.args.c 95) c.is_ascii_alphanumeric.ensures.value ∙ sym (is_xid_continue-ascii c.args.c (ltb-true _ _ (sym c.if-is_ascii.ensures)))
