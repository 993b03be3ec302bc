use Rattle.std.proofs.Common.{◌≡◌, true, false, chars, ap, sym, subst, ◌∙◌}
use Rattle.ron_spec_words.specs.Runs.{begins_with}
use Rattle.ron_de_parts.specs.Kept.{EndsSource}
use Rattle.ron_de_parts.proofs.kept.keep_raw.Goals as goal

pub borrowed_from-requires : goal.borrowed_from-requires
borrowed_from-requires c = c.in-Some.ensures.same ∙ ap chars c.get_ron.ensures.text

pub returns-clause-slice : goal.returns-clause-slice
returns-clause-slice c = λ ends begins.
    let place = chars c.args.start.now in
    absurd (let no : false ≡ true = c.in-None.ensures.found (subst (λ s. EndsSource s place) (sym c.source.ensures) ends)
    (subst (λ b. begins_with (chars b) place ≡ true) (sym c.get_ron.ensures.text) begins) in cc)
