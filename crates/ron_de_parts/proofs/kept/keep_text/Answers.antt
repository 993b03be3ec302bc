use Rattle.std.proofs.Common.{◌≡◌, true, false, chars, ap, sym, subst}
use Rattle.ron_lex_text.specs.Parsed.{parsed_text, is_slice}
use Rattle.ron_de_parts.specs.Kept.{EndsSource, BeginsBehindQuote}
use Rattle.ron_de_parts.proofs.kept.keep_text.Goals as goal

pub returns-in-None-clause-slice : goal.returns-in-None-clause-slice
returns-in-None-clause-slice c = λ ends begins.
    let place = chars c.args.start.now in
    absurd (let no : false ≡ true = c.in-None.ensures.found (subst (λ s. EndsSource s place) (sym c.source.ensures) ends)
    (subst (λ t. BeginsBehindQuote place (parsed_text t)) c.in-Slice.is (begins (ap is_slice c.in-Slice.is))) in cc)
