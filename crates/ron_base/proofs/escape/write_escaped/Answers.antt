use Rattle.std.proofs.Common.{encode_utf8_all, sym, ap, ◌∙◌, map-id, rules}
use Rattle.std.proofs.Output.{has_written_append, has_written_of_eq}
use Rattle.std.proofs.lemmas.Iterator.{YieldsList-from_chars}
use Rattle.std.proofs.lemmas.Iterator.Consumers.{YieldsList-end}
use Rattle.ron_base.specs.Escape.{escaped}
use Rattle.ron_base.proofs.EscapeLemmas.{shown_more}
use Rattle.ron_base.proofs.escape.write_escaped.Goals as goal

pub loop-c-preserved : goal.loop-c-preserved
loop-c-preserved g c plain =
    let so_far = c.loop-c.invariant plain in
    has_written_of_eq _ _ _ _ _ (shown_more c.args.quotes c.loop-c.yielded c.in-Some.c) (has_written_append _ _ _ _ _ _ so_far (search rules))

pub returns : goal.returns
returns g c plain ok =
    let end =
    YieldsList-end (YieldsList-from_chars c.args.text.now c.utf8.text cc) c.loop-c.yielded _ c.loop-c.yielded_by _ _ c.in-None.is c.next.ensures.steps in
    has_written_of_eq _ _ _ _ _ (ap (λ t. encode_utf8_all (escaped c.args.quotes t)) (sym (map-id c.loop-c.yielded) ∙ end.0)) (c.loop-c.invariant plain)
