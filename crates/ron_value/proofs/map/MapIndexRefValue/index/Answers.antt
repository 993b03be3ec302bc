use Rattle.std.proofs.Common.{Some, sym, ap, ◌∙◌}
use Rattle.ron_value.specs.declared.value.Value.{Value}
use Rattle.ron_value.specs.View.{entries}
use Rattle.ron_value.specs.Entries.{Entries}
use Rattle.ron_value.proofs.OrderedEntries.{IsOrdered-value}
use Rattle.ron_value.proofs.PlaceLemmas.{value_at-found}
use Rattle.ron_value.proofs.map.MapIndexRefValue.index.Goals as goal

pub returns : goal.returns
returns c =
    let es : Entries = entries c.args.self.now in (
      value_at-found c.args.key.now es c.place_of-place.result _ c.place_of-place.ensures.place ∙ ap (λ (p : Value × Value). Some p.1) (sym c.index.ensures),
      IsOrdered-value es c.place_of-place.result _ c.requires.0 c.place_of-place.ensures.in_range c.index.ensures,
    )
