-- Whole tokens lead over the attributes before a value, and over the gaps around them.
use Rattle.std.proofs.Common.{◌≡◌, true, ◌++◌, refl, sym, ap, subst, ◌∙◌}
use Rattle.ron_spec_words.specs.Characters.{Text}
use Rattle.ron_spec_words.specs.Gap.{skip}
use Rattle.ron_spec_words.specs.Reader.{got}
use Rattle.ron_spec_words.specs.Runs.{is_at}
use Rattle.ron_spec_words.specs.Openings.{Leads}
use Rattle.ron_spec_words.proofs.Gaps.{skip-other}
use Rattle.ron_spec_words.proofs.Leading.{leads_on, leads_gap, leads_walk}
use Rattle.ron_spec_grammar.specs.Rule.{Extensions}
use Rattle.ron_spec_grammar.specs.Attribute.{attribute}
use Rattle.ron_spec_grammar.proofs.Attribute.{part_attribute}
use Rattle.ron_de_steps.proofs.ItemLemmas.{at_mark}

no_gap : (s : Text) → is_at 35 s ≡ true → skip s ≡ s
no_gap s h = let k = at_mark 35 s h in ap skip k.1 ∙ skip-other 35 k.0 refl refl ∙ sym k.1

pub attribute_leads : (s rest : Text) (e : Extensions) → is_at 35 s ≡ true → attribute s ≡ got e rest → Leads s rest
attribute_leads s rest e h k =
    let y = part_attribute.exact.sound s e rest k in
    let solid : skip (y.stretch ++ rest) ≡ y.stretch ++ rest = subst (λ u. skip u ≡ u) y.split (no_gap s h) in
    subst (λ u. Leads u rest) (sym y.split) (leads_walk (part_attribute.passes.over 0 y.stretch rest e y.spelled tt solid))

pub gap_leads : (s rest : Text) → rest ≡ skip s → Leads s rest
gap_leads s rest e = subst (Leads s) (sym e) (leads_gap s)

-- one attribute more, and the gap behind it
pub head_leads : (start s mid rest : Text) (e : Extensions) → Leads start s → is_at 35 s ≡ true → attribute s ≡ got e mid → rest ≡ skip mid → Leads start rest
head_leads start s mid rest e l h k f = leads_on l (leads_on (attribute_leads s mid e h k) (gap_leads mid rest f))
