use Rattle.std.proofs.Common.{chars, ◌∙◌, ap, sym, subst}
use Rattle.ron_spec_words.specs.Characters.{Text}
use Rattle.ron_spec_grammar.specs.Raw.{raw_valid, without_gaps}
use Rattle.ron_lex_text.specs.Parsed.{parsed_text}
use Rattle.ron_de_raw.specs.Raw.{raw_text_of, IsWithoutGaps}
use Rattle.ron_de_raw.proofs.AloneLemmas.{without_is, without_valid}
use Rattle.ron_de_raw.proofs.raw.RawValue.trim_boxed.Goals as goal

pub of_slice-requires : goal.of_slice-requires
of_slice-requires c = ap raw_valid c.in_ok-core-in-Slice.ensures ∙ without_valid _ (rw c.in-Slice.is at c.args.self.valid)

pub of_string-requires : goal.of_string-requires
of_string-requires c = ap (λ b. raw_valid (chars b)) c.in_ok-owned-in-Allocated.ensures.ok ∙ ap raw_valid c.in_ok-core-in-Allocated.ensures
    ∙ ap (λ b. raw_valid (without_gaps (chars b))) c.as_str.ensures.value ∙ without_valid _ (rw c.in-Allocated.is at c.args.self.valid)

pub returns-in_ok-core-in-Slice-clause-value : goal.returns-in_ok-core-in-Slice-clause-value
returns-in_ok-core-in-Slice-clause-value c =
    let text = raw_text_of c.args.self in
    let is = ap parsed_text c.of_slice.ensures ∙ c.in_ok-core-in-Slice.ensures ∙ ap (λ t. without_gaps (parsed_text t)) (sym c.in-Slice.is) in
    subst (λ (t : Text). IsWithoutGaps text t) (sym is) (without_is text c.args.self.valid)

pub returns-in_ok-owned-in-Allocated-clause-value : goal.returns-in_ok-owned-in-Allocated-clause-value
returns-in_ok-owned-in-Allocated-clause-value c =
    let text = raw_text_of c.args.self in
    let is = ap parsed_text c.of_string.ensures ∙ ap chars c.in_ok-owned-in-Allocated.ensures.ok ∙ c.in_ok-core-in-Allocated.ensures
    ∙ ap (λ b. without_gaps (chars b)) c.as_str.ensures.value ∙ ap (λ t. without_gaps (parsed_text t)) (sym c.in-Allocated.is) in
    subst (λ (t : Text). IsWithoutGaps text t) (sym is) (without_is text c.args.self.valid)
