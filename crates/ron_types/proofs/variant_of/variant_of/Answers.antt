use Rattle.std.proofs.Common.{◌≡◌, true, chars, rules, sym, ap, subst, ◌∙◌}
use Rattle.ron_spec_words.specs.Runs.{same_text}
use Rattle.ron_spec_grammar.proofs.Finding.{same_is}
use Rattle.ron_types.specs.Kinds.{HeldBy, IsFirst, IsNone, IsVariantWith}
use Rattle.ron_types.proofs.KindLemmas.{with_held, none_held}
use Rattle.ron_types.proofs.variant_of.variant_of.Goals as goal

pub returns-in-Some-clause-found : goal.returns-in-Some-clause-found
returns-in-Some-clause-found g c =
    let test : same_text (chars c.as_str.result.now) (chars c.args.name.now) ≡ true = search rules in
    record {
      variant = chars c.as_str-in-Variant.result.now;
      is = record {
        enum = c.in-Variant.found;
        own = c.in-Variant.variant;
        is = c.in-Variant.is;
        enum_is = ap chars (sym c.as_str.ensures.value) ∙ same_is (chars c.as_str.result.now) (chars c.args.name.now) test;
        own_is = ap chars (sym c.as_str-in-Variant.ensures.value);
      };
      first = subst (λ names. IsFirst names c.in-Some.place (chars c.as_str-in-Variant.result.now)) c.requires c.in-Some.ensures.first;
    }

pub returns-in-Variant-clause-accepted : goal.returns-in-Variant-clause-accepted
returns-in-Variant-clause-accepted g c = λ h.
    let test : same_text (chars c.as_str.result.now) (chars c.args.name.now) ≡ true = search rules in
    let is : IsVariantWith (chars c.args.name.now) (chars c.as_str-in-Variant.result.now) c.in-Variant.content c.args.from = record {
      enum = c.in-Variant.found;
      own = c.in-Variant.variant;
      is = c.in-Variant.is;
      enum_is = ap chars (sym c.as_str.ensures.value) ∙ same_is (chars c.as_str.result.now) (chars c.args.name.now) test;
      own_is = ap chars (sym c.as_str-in-Variant.ensures.value);
    } in
    let none = subst (λ names. IsNone names (chars c.as_str-in-Variant.result.now)) c.requires c.in-None.ensures.first in
    absurd (none_held g.E.Enum.variants _ c.in-Variant.content none
    (with_held (chars c.args.name.now) _ c.in-Variant.content c.args.from is (HeldBy g.E.Enum.variants) h))
