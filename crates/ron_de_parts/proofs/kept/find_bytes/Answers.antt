use Rattle.std.proofs.Common.{◌≡◌, true, chars, ap, ◌∙◌}
use Rattle.ron_de_parts.proofs.KeptLemmas.{content_bytes, bytes_start, bytes_found}
use Rattle.ron_de_parts.proofs.kept.find_bytes.Goals as goal

pub returns-in_err-content_in-clause-found : goal.returns-in_err-content_in-clause-found
returns-in_err-content_in-clause-found c = λ ends begins. absurd (c.in_err-content_in.ensures _ ends begins.1.1)

pub returns-then-starts_with-clause-same : goal.returns-then-starts_with-clause-same
returns-then-starts_with-clause-same c =
    bytes_start c.as_bytes-content.result.now c.args.piece.now c.starts_with.result c.starts_with.ensures.value c.if-starts_with.true

pub returns-else-starts_with-clause-found : goal.returns-else-starts_with-clause-found
returns-else-starts_with-clause-found c ends begins =
    let content = c.as_bytes-content in
    let bytes = content_bytes content.result.now c.args.piece.now begins.0 begins.1.0 content.ensures.utf8
    (ap chars content.ensures.value ∙ c.in_ok-content_in.ensures _ ends begins.1.1) begins.2 in
    absurd (let yes : c.starts_with.result ≡ true = bytes_found content.result.now c.args.piece.now c.starts_with.result c.starts_with.ensures.value _ bytes in
    let no = c.if-starts_with.false in cc)
