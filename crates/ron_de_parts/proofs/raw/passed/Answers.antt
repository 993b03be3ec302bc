use Rattle.std.proofs.Common.{sym, subst}
use Rattle.ron_lex_text.specs.Stretch.{IsSuffix}
use Rattle.ron_de_parts.proofs.AgainLemmas.{end_within}
use Rattle.ron_de_parts.proofs.raw.passed.Goals as goal

pub before-requires : goal.before-requires
before-requires c =
    let end = subst (λ s. IsSuffix s c.args.cursor.now.text) (sym c.rest-rest.ensures.rest) c.rest-rest.ensures.end in
    end_within c.rest-rest.result.now c.args.content.now c.args.cursor.now.text c.rest-rest.utf8 c.utf8.content end c.requires c.if-content-rest.false
