use Rattle.std.proofs.Common.{chars, ◌∙◌, ap, sym, subst}
use Rattle.ron_spec_words.specs.Characters.{Text}
use Rattle.ron_spec_grammar.specs.Raw.{raw_valid, without_gaps}
use Rattle.ron_lex_text.specs.Parsed.{parsed_text}
use Rattle.ron_de_raw.specs.Raw.{raw_text_of, IsWithoutGaps}
use Rattle.ron_de_raw.proofs.AloneLemmas.{without_is, without_valid}
use Rattle.ron_de_raw.proofs.raw.RawValue.trim.Goals as goal

pub of_slice-requires : goal.of_slice-requires
of_slice-requires c = ap raw_valid c.in_ok-core.ensures ∙ without_valid _ c.get_ron.ensures.valid

pub returns-clause-value : goal.returns-clause-value
returns-clause-value c =
    let text = raw_text_of c.args.self.now in
    let is = ap parsed_text c.of_slice.ensures ∙ c.in_ok-core.ensures ∙ ap (λ b. without_gaps (chars b)) c.get_ron.ensures.text in
    subst (λ (t : Text). IsWithoutGaps text t) (sym is) (without_is text c.args.self.now.valid)
